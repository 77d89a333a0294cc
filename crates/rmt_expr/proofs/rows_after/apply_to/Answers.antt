use Rattle.std.proofs.Common.{ap, sym, ◌∙◌}
use Rattle.std.specs.List.{filter_map}
use Rattle.rmt_values.specs.declared.checked_mutation.CheckedMutation.{CheckedMutation}
use Rattle.rmt_values.specs.Commands.{applied}
use Rattle.rmt_expr.proofs.PassLemmas.{none-deleted, none-updated}
use Rattle.rmt_expr.proofs.rows_after.apply_to.Goals as goal

pub returns-else-keeps_any-clause-rows : goal.returns-else-keeps_any-clause-rows
returns-else-keeps_any-clause-rows c =
    sym (ap (λ (m : CheckedMutation). filter_map (applied m) c.args.rows.rows) c.in-Delete.is ∙ none-deleted c.in-Delete.filter c.args.rows.rows (sym c.if-keeps_any.ensures))

pub returns-else-keeps_any-2-clause-rows : goal.returns-else-keeps_any-2-clause-rows
returns-else-keeps_any-2-clause-rows c =
    sym (ap (λ (m : CheckedMutation). filter_map (applied m) c.args.rows.rows) c.in-Update.is ∙ none-updated c.in-Update.sets c.in-Update.filter c.args.rows.rows (sym c.if-keeps_any-2.ensures))
