use Rattle.std.proofs.Common.{ap, length, drop, arith}
use Rattle.rmt_inserts.specs.Windows.{WindowView}
use Rattle.rmt_inserts.proofs.WindowLemmas.{length-newest_first, length-dropped}
use Rattle.rmt_inserts.proofs.window.Window.len.Goals as goal

pub returns : goal.returns
returns c =
    let left = length-dropped c.self.inside.gone c.self.inside.blocks.entries c.self.invariant.1 in
    let seen = length-newest_first (drop c.self.inside.gone c.self.inside.blocks.entries) in
    let all = c.len.ensures.len in
    let view = ap (λ (v : WindowView). length v.placed) c.self.view_is in
    omega (arith, left, seen, all, view)
