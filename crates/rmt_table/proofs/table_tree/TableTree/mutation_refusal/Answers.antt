use Rattle.std.proofs.Common.{sym, ap, ◌∙◌}
use Rattle.rmt_values.specs.declared.limit.Limit.TheVariants.{Numbers, ClientEntries}
use Rattle.rmt_model.specs.EntryLimits.{mutation_limit}
use Rattle.rmt_table.specs.contracts.table_tree.TableTree.{the_view}
use Rattle.rmt_table.proofs.ChangeLimits.{limit-is, limit_error}
use Rattle.rmt_table.proofs.Mutations.{refused-number, refused-clients, refused-not}
use Rattle.rmt_table.proofs.table_tree.TableTree.mutation_refusal.Goals as goal

pub returns-in-Some : goal.returns-in-Some
returns-in-Some c =
    limit-is (mutation_limit c.args.self.now.next c.args.self.now.log) Numbers c.in-Some.number c.from-in-Some.result c.from-in-Some.ensures
    (refused-number (the_view c.self.inside) c.self.inside.log.tokens _ c.self.invariant c.args.self.now c.self.view_is c.if-self-ge1024.false c.in-Some.number (sym c.first_at.ensures ∙ c.in-Some.is))

pub returns-then-self-ge32768 : goal.returns-then-self-ge32768
returns-then-self-ge32768 c =
    limit-is (mutation_limit c.args.self.now.next c.args.self.now.log) ClientEntries c.self.inside.clients c.from-then-self-ge32768.result c.from-then-self-ge32768.ensures
    (refused-clients (the_view c.self.inside) c.self.inside.log.tokens _ c.self.invariant c.args.self.now c.self.view_is c.if-self-ge1024.false (sym c.first_at.ensures ∙ c.in_default.is) c.if-self-ge32768.true)

pub returns : goal.returns
returns c =
    sym (ap limit_error (refused-not (the_view c.self.inside) c.self.inside.log.tokens _ c.self.invariant c.args.self.now c.self.view_is c.if-self-ge1024.false (sym c.first_at.ensures ∙ c.in_default.is) c.if-self-ge32768.false))
