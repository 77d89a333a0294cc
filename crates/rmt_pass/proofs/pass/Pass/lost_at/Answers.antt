use Rattle.std.proofs.Common.{◌≡◌, ◌<◌, length, refl, sym, ap, subst, ◌∙◌}
use Rattle.rmt_history.specs.Copies.{History}
use Rattle.rmt_known.specs.KnownTables.{new_known}
use Rattle.rmt_pass.specs.Passes.{PassView, known_at, no_schema}
use Rattle.rmt_pass.proofs.TakingLemmas.{get-same}
use Rattle.rmt_pass.proofs.DrainLemmas.{known-elsewhere, lost-so}
use Rattle.rmt_pass.proofs.pass.Pass.lost_at.Goals as goal

pub returns-then-is_known_at_one : goal.returns-then-is_known_at_one
returns-then-is_known_at_one g c =
    let here : c.args.table < length c.self.inside.tables.items = subst (λ (p : PassView). c.args.table < length p.tables) (sym c.self.view_is) c.requires.table in
    let same : c.index-known.result.now ≡ known_at c.args.self.now c.args.table = c.index-known.ensures ∙ (get-same c.self.inside.tables.items c.args.table c.index-known.result.now (new_known no_schema 0) here ∙ ap (λ (p : PassView). known_at p c.args.table) c.self.view_is) in
    known-elsewhere c.args.self.now.up c.deref.result.now c.index-known.result.now (known_at c.args.self.now c.args.table) c.args.replica c.args.place same
    (c.deref.ensures.value ∙ ap (λ (p : PassView). p.up) c.self.view_is) (c.if-is_known_at_one.ensures.some refl)

pub returns : goal.returns
returns g c =
    let here : c.args.table < length c.self.inside.tables.items = subst (λ (p : PassView). c.args.table < length p.tables) (sym c.self.view_is) c.requires.table in
    let same : c.index-known.result.now ≡ known_at c.args.self.now c.args.table = c.index-known.ensures ∙ (get-same c.self.inside.tables.items c.args.table c.index-known.result.now (new_known no_schema 0) here ∙ ap (λ (p : PassView). known_at p c.args.table) c.self.view_is) in
    lost-so c.args.self.now.up (known_at c.args.self.now c.args.table) c.args.replica c.args.place c.in-Some.lost c.deref.result.now c.index-known.result.now c.copy.result.now.log same
    (c.deref.ensures.value ∙ ap (λ (p : PassView). p.up) c.self.view_is)
    (ap (λ (h : History). h.log) c.copy.ensures)
    c.in-Some.ensures
    (sym c.is_up.ensures ∙ c.if-is_up.false)
    (sym c.is_known.ensures ∙ c.if-is_known.false)
    (c.if-is_known_at_one.ensures.none refl)
