use Rattle.std.proofs.Common.{◌∙◌, sym, ap}
use Rattle.rmt_table_model.specs.Held.{Held}
use Rattle.rmt_table.proofs.ChangeLimits.{no-error}
use Rattle.rmt_table.proofs.table_tree.TableTree.mutation_numbers.Goals as goal

pub returns-clause-all : goal.returns-clause-all
returns-clause-all c = no-error _ (sym c.mutation_refusal.ensures ∙ c.in_default.is)

pub returns-clause-numbers : goal.returns-clause-numbers
returns-clause-numbers c = c.in_ok-numbers.ensures ∙ ap (λ (h : Held). h.next) c.self.view_is
