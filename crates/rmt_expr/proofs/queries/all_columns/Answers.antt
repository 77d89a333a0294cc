use Rattle.std.proofs.Common.{rules, arith, ◌≡◌, ◌++◌, [], ◌∷◌}
use Rattle.std.proofs.lemmas.List.{append_assoc}
use Rattle.rmt_values.specs.declared.checked_item.CheckedItem.TheVariants as placed
use Rattle.rmt_expr.proofs.QueryLemmas.{all_from_step}
use Rattle.rmt_expr.proofs.queries.all_columns.Goals as goal

pub columns-preserved : goal.columns-preserved
columns-preserved c =
    let e = all_from_step c.args.schema.now.columns c.columns.i c.columns.i (omega arith) in
    let pushed : c.push.new.self.items ≡ c.columns.all.items ++ (placed.Column c.columns.i ∷ []) = search rules in
    let first = c.columns.invariant.0 in
    (rw (pushed, append_assoc) (cc (first, e)), search rules, search rules)
