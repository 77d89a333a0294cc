use Rattle.std.proofs.Common.{ap, ◌∙◌}
use Rattle.rmt_model.specs.EntryLimits.{client_count}
use Rattle.rmt_table_model.specs.Held.{Held}
use Rattle.rmt_table.proofs.table_tree.TableTree.client_entries.Goals as goal

pub returns : goal.returns
returns c = c.self.invariant.counted.clients ∙ ap (λ (h : Held). client_count h.log) c.self.view_is
