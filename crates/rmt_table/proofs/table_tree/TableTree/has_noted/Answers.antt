use Rattle.std.proofs.Common.{◌∙◌, sym, ap, refl}
use Rattle.rmt_table_model.specs.Held.{Held}
use Rattle.rmt_table.proofs.Noted.{noted-told, none-told}
use Rattle.rmt_table.proofs.table_tree.TableTree.has_noted.Goals as goal

pub returns-in-Some : goal.returns-in-Some
returns-in-Some c = noted-told c.args.self.now.quorum.pending c.in-Some.pending.now c.args.replica c.has_noted.result (ap (λ (h : Held). h.quorum.pending) (sym c.self.view_is) ∙ c.in-Some.ensures) c.has_noted.ensures.fact

pub returns-in-None : goal.returns-in-None
returns-in-None c = none-told c.args.self.now.quorum.pending c.args.replica _ (ap (λ (h : Held). h.quorum.pending) (sym c.self.view_is) ∙ c.in-None.ensures) refl
