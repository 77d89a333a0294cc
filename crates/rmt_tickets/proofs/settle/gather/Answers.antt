use Rattle.std.proofs.Common.{ap, sym, ◌∙◌, arith}
use Rattle.rmt_tickets.specs.declared.rule.PassMoves.{PassMoves}
use Rattle.rmt_tickets.proofs.Moves.{merges}
use Rattle.rmt_tickets.proofs.Gathering.{gathers-first, gathers-more, parts-below}
use Rattle.rmt_tickets.proofs.settle.gather.Goals as goal

pub loop-place-init : goal.loop-place-init
loop-place-init g c = let a = c.apart-pass.ensures in (
  (a.pass.0 ∙ sym c.args.queue.now.named, a.pass.1),
  ap (λ (v : PassMoves). v.parts) a.known ∙ sym a.parts.0,
  a.parts.1,
  gathers-first _ _ _ _ c.in_ok-pop.ensures.items a.known a.even,
)

pub absorb-requires-clause-rule : goal.absorb-requires-clause-rule
absorb-requires-clause-rule g c = let i = c.loop-place.invariant in merges _ _ _ _ (omega (arith, i.1, i.2))

pub returns-in_err-parts-clause-all : goal.returns-in_err-parts-clause-all
returns-in_err-parts-clause-all g c all =
    let i = c.loop-place.invariant in
    let few = parts-below _ _ _ c.in-Some.place _ c.in-Some.ensures.items i.3 all in
    let over = c.in_err-parts.ensures in
    absurd (omega (arith, i.1, c.apart-other.ensures.parts.0, few, over))

pub loop-place-preserved : goal.loop-place-preserved
loop-place-preserved g c =
    let i = c.loop-place.invariant in
    let a = c.apart-other.ensures in
    let q = c.absorb.ensures.queue in
    let r = c.absorb.ensures.rule in
    let sum = c.in_ok-parts.ensures.1 in
    let p = ap (λ (v : PassMoves). v.parts) r in
    let k = ap (λ (v : PassMoves). v.parts) a.known in (
      (q.0 ∙ i.0.0, q.2 ∙ i.0.1),
      omega (arith, i.1, a.parts.0, sum, p, k),
      omega (arith, i.2, sum),
      gathers-more _ _ _ c.in-Some.place _ _ _ c.in-Some.ensures.items a.known r a.even i.3,
    )
