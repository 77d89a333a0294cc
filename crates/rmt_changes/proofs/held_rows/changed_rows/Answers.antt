use Rattle.std.proofs.Common.{ap, ◌∙◌}
use Rattle.std.specs.List.{filter_map}
use Rattle.rmt_entries.specs.declared.entry.Entry.{Entry}
use Rattle.rmt_changes.specs.Changes.{applied_by}
use Rattle.rmt_changes.proofs.PassLaws.{pass-next, pass-end}
use Rattle.rmt_changes.proofs.held_rows.changed_rows.Goals as goal

pub tokens-preserved : goal.tokens-preserved
tokens-preserved c = (
  pass-next c.args.due.now c.tokens.token-index c.token-item.result c.tokens.rows.rows c.in_ok-rows.rows.rows _ c.token-item.is c.tokens-test.true
      (c.in_ok-rows.ensures.rows ∙ ap (λ (e : Entry). filter_map (applied_by e) c.tokens.rows.rows) c.value.ensures) c.tokens.invariant.0,
  c.in_ok-rows.ensures.kinds ∙ c.tokens.invariant.1,
)

pub returns-clause-rows : goal.returns-clause-rows
returns-clause-rows c = pass-end c.args.due.now c.tokens.token-index c.tokens.rows.rows c.args.rows.rows c.tokens-test.false c.tokens.invariant.0
