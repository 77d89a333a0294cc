use Rattle.std.proofs.Common.{rules, arith, ap, ap₂, ◌∙◌, ◌+◌, ◌<◌, ◌^◌, map, take}
use Rattle.std.proofs.lemmas.List.{map-append, take_more}
use Rattle.std.specs.Prelude.{not, count_by}
use Rattle.rmt_reply.specs.Summaries.{is_part, pieces_of}
use Rattle.rmt_reply.proofs.SumLemmas.{sum_of-more}
use Rattle.rmt_reply.proofs.summaries.duplicates.Goals as goal

pub lines-preserved : goal.lines-preserved
lines-preserved c =
    let (made, bound) = c.lines.invariant in
    let prefix = take c.lines.line-index c.args.lines.now in
    let more = take_more c.args.lines.now c.lines.line-index c.line-item.result c.lines-test.true in
    let here = c.repeated_in.ensures ∙ ap (count_by (λ piece. not (is_part piece))) c.pieces_of.ensures in
    let fits : c.repeated_in.result < 2 ^ 64 = search rules in (
      rw (more, ← c.line-item.is, map-append (λ line. count_by (λ piece. not (is_part piece)) (pieces_of line)) prefix _, sum_of-more (map (λ line. count_by (λ piece. not (is_part piece)) (pieces_of line)) prefix) _) (ap₂ (λ n m. n + m) made here),
      omega (arith, bound, fits),
    )
