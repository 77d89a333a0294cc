use Rattle.std.proofs.Common.{rules, ◌≡◌, ◌∙◌, ◌<◌, List, [], ◌∷◌, length, sym, ap}
use Rattle.rmt_values.specs.declared.cell.Cell.{Cell}
use Rattle.rmt_partset.specs.Snapshots.{all_rows, data_in}
use Rattle.rmt_query.proofs.TotalLemmas.{one-group}
use Rattle.rmt_query.proofs.totals.total_tuples.Goals as goal

pub returns : goal.returns
returns c =
    let some : 0 < length (all_rows (data_in c.args.parts.now)) = search rules in
    let pushed : c.push.new.self.items ≡ c.in_ok-tuple.tuple ∷ [] = search rules in
    pushed ∙ (ap (λ (t : List Cell). t ∷ []) c.in_ok-tuple.ensures ∙ sym (one-group c.args.items.now (all_rows (data_in c.args.parts.now)) some))
