use Rattle.std.proofs.Common.{rules, arith, ap, ◌+◌, ◌<◌, ◌^◌, map, take}
use Rattle.std.proofs.lemmas.List.{map-append, take_more}
use Rattle.rmt_reply.proofs.SumLemmas.{sum_of-more}
use Rattle.rmt_reply.proofs.counts.chosen_in.Goals as goal

pub parts-preserved : goal.parts-preserved
parts-preserved c =
    let (made, bound) = c.parts.invariant in
    let prefix = take c.parts.one-index c.args.parts.now in
    let more = take_more c.args.parts.now c.parts.one-index c.one-item.result c.parts-test.true in
    let fits : c.one-item.result.1 < 2 ^ 64 = search rules in (
      rw (more, ← c.one-item.is, map-append (λ g. g.1) prefix _, sum_of-more (map (λ g. g.1) prefix) c.one-item.result.1) (ap (λ n. n + c.one-item.result.1) made),
      omega (arith, bound, fits),
    )
