use Rattle.std.proofs.Common.{ap, ◌∙◌}
use Rattle.rmt_model.specs.Lawful.{mutation_count}
use Rattle.rmt_table_model.specs.Held.{Held}
use Rattle.rmt_table.proofs.table_tree.TableTree.mutations.Goals as goal

pub returns : goal.returns
returns c = c.self.invariant.counted.mutations ∙ ap (λ (h : Held). mutation_count h.log) c.self.view_is
