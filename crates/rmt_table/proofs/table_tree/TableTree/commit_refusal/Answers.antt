use Rattle.std.proofs.Common.{◌∙◌, ap}
use Rattle.rmt_table_model.specs.Inserts.{part_of}
use Rattle.rmt_table.proofs.Refused.{refused-quorum, quorum-takes, refused-kept, refused-entries, refused-values, acceptable}
use Rattle.rmt_table.specs.contracts.table_tree.TableTree.{the_view}
use Rattle.rmt_table.proofs.table_tree.TableTree.commit_refusal.Goals as goal

pub returns-in-Some-clause-some : goal.returns-in-Some-clause-some
returns-in-Some-clause-some c = refused-quorum c.args.self.now c.args.lock.now c.args.need c.args.values c.requires.locked c.in-Some.error c.in-Some.ensures c.of_quorum.result c.of_quorum.ensures

pub returns-in-Some-clause-takes : goal.returns-in-Some-clause-takes
returns-in-Some-clause-takes c = quorum-takes c.in-Some.error c.of_quorum.result c.of_quorum.ensures

pub returns-in-Some-kept-clause-some : goal.returns-in-Some-kept-clause-some
returns-in-Some-kept-clause-some c =
    refused-kept (the_view c.self.inside) c.args.self.now c.self.view_is c.args.lock.now c.args.need c.args.values c.in_default.ensures c.kept.result (c.kept.ensures ∙ ap (part_of _ _) c.self.invariant.counted.window) c.requires.locked c.in-Some-kept.part c.in-Some-kept.is

pub returns-then-self-ge32768-clause-some : goal.returns-then-self-ge32768-clause-some
returns-then-self-ge32768-clause-some c =
    refused-entries (the_view c.self.inside) c.args.self.now c.self.view_is c.args.lock.now c.args.need c.args.values c.in_default.ensures c.kept.result (c.kept.ensures ∙ ap (part_of _ _) c.self.invariant.counted.window) c.requires.locked c.in_default-kept.is
    c.self.inside.clients c.self.invariant.counted.clients c.if-self-ge32768.true c.from.result c.from.ensures

pub returns-then-values-self-clause-some : goal.returns-then-values-self-clause-some
returns-then-values-self-clause-some c =
    refused-values (the_view c.self.inside) c.args.self.now c.self.view_is c.args.lock.now c.args.need c.args.values c.in_default.ensures c.kept.result (c.kept.ensures ∙ ap (part_of _ _) c.self.invariant.counted.window) c.requires.locked c.in_default-kept.is
    c.self.inside.clients c.self.invariant.counted.clients c.if-self-ge32768.false c.if-values-self.true

pub returns-clause-none : goal.returns-clause-none
returns-clause-none c = λ none.
    acceptable (the_view c.self.inside) c.args.self.now c.self.view_is c.args.lock.now c.args.need c.args.values c.in_default.ensures c.kept.result (c.kept.ensures ∙ ap (part_of _ _) c.self.invariant.counted.window) c.in_default-kept.is
    c.self.inside.clients c.self.invariant.counted.clients c.if-self-ge32768.false c.self.invariant.held.sound.within.values c.if-values-self.false
