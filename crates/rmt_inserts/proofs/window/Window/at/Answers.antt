use Rattle.std.proofs.Common.{◌≡◌, ◌+◌, ◌-◌, ap, sym, length, drop, arith, ◌∙◌}
use Rattle.std.specs.Prelude.{slice_get}
use Rattle.rmt_inserts.specs.Windows.{WindowView}
use Rattle.rmt_inserts.proofs.WindowLemmas.{length-newest_first, length-dropped, get-newest_first, get-dropped}
use Rattle.rmt_inserts.proofs.window.Window.at.Goals as goal

pub overflow_sub-last-2 : goal.overflow_sub-last-2
overflow_sub-last-2 c =
    let left = length-dropped c.self.inside.gone c.self.inside.blocks.entries c.self.invariant.1 in
    let seen = length-newest_first (drop c.self.inside.gone c.self.inside.blocks.entries) in
    let all = c.len-last.ensures.len in
    let view = ap (λ (v : WindowView). length v.placed) c.self.view_is in
    let within = c.requires.within in
    omega (arith, left, seen, all, view, within)

pub returns : goal.returns
returns c =
    let left = length-dropped c.self.inside.gone c.self.inside.blocks.entries c.self.invariant.1 in
    let seen = length-newest_first (drop c.self.inside.gone c.self.inside.blocks.entries) in
    let all = c.len-last.ensures.len in
    let view = ap (λ (v : WindowView). length v.placed) c.self.view_is in
    let within = c.requires.within in
    let there : c.self.inside.gone + (c.len-last.result - 1 - c.args.i - c.self.inside.gone) ≡ c.len-last.result - 1 - c.args.i = omega (arith, left, seen, all, view, within) in
    sym (ap (λ (v : WindowView). slice_get v.placed c.args.i) c.self.view_is)
    ∙ get-newest_first (drop c.self.inside.gone c.self.inside.blocks.entries) (c.in-Some.entry.0.now, c.in-Some.entry.1.now) c.args.i (c.len-last.result - 1 - c.args.i - c.self.inside.gone)
    (get-dropped c.self.inside.gone c.self.inside.blocks.entries (c.len-last.result - 1 - c.args.i - c.self.inside.gone) ∙ ap (slice_get c.self.inside.blocks.entries) there ∙ sym c.in-Some.ensures.entry)
    (omega (arith, left, seen, all, view, within))
