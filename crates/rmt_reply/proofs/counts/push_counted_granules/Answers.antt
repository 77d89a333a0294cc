use Rattle.std.proofs.Common.{◌∙◌, codes, map}
use Rattle.std.specs.List.{flat_map}
use Rattle.rmt_reply.specs.Printed.{granules_line, ratio_text, sum_of}
use Rattle.rmt_reply.proofs.TextLemmas.{line_later}
use Rattle.rmt_reply.proofs.counts.push_counted_granules.Goals as goal

pub returns : goal.returns
returns c =
    let all = c.args.granules.now in
    let total = ratio_text (sum_of (map (λ g. g.1) all)) (sum_of (map (λ g. g.2) all)) in
    let each = rw (c.in_ok-push_text.ensures, c.in_ok-push_each_count.ensures, c.chosen_in.ensures, c.all_in.ensures, c.as_slice-parts.ensures) at c.in_ok-push_ratio.ensures in
    each ∙ line_later c.args.out.now.items (flat_map granules_line all) (codes "granules total ") total
