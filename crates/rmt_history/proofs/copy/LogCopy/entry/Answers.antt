use Rattle.std.proofs.Common.{◌≡◌, subst, Some, arith}
use Rattle.std.proofs.lemmas.Grind.{common_steps}
use Rattle.std.proofs.lemmas.Option.{gets}
use Rattle.std.specs.Prelude.{slice_get}
use Rattle.rmt_history.specs.Copies.{History}
use Rattle.rmt_model.specs.Lawful.{entry_at}
use Rattle.rmt_history.proofs.Copied.{token_at, cell_at}
use Rattle.rmt_history.proofs.copy.LogCopy.entry.Goals as goal

pub returns-then-i-len-clause-entry : goal.returns-then-i-len-clause-entry
returns-then-i-len-clause-entry c =
    let there : slice_get c.self.inside.seen.items c.args.i ≡ Some c.index.result.now = grind (arith, common_steps, gets) in
    subst (λ (h : History). entry_at h.log c.args.i ≡ Some c.index.result.now.value) c.self.view_is
    (token_at c.self.inside.seen.items c.args.i c.index.result.now there)

pub returns-then-i-len-clause-place : goal.returns-then-i-len-clause-place
returns-then-i-len-clause-place c =
    let there : slice_get c.self.inside.seen.items c.args.i ≡ Some c.index.result.now = grind (arith, common_steps, gets) in
    c.self.invariant.numbered c.args.i c.index.result.now there

pub returns-then-i-len-clause-cell : goal.returns-then-i-len-clause-cell
returns-then-i-len-clause-cell c =
    let there : slice_get c.self.inside.seen.items c.args.i ≡ Some c.index.result.now = grind (arith, common_steps, gets) in
    subst (λ (h : History). slice_get h.cells c.args.i ≡ Some c.index.result.now.cell) c.self.view_is
    (cell_at c.self.inside.seen.items c.args.i c.index.result.now there)
