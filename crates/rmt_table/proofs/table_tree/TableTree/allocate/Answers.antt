use Rattle.std.proofs.Common.{◌∙◌, ◌+◌, ◌<◌, sym, ap, subst, ℕ, List, Option}
use Rattle.rmt_model.specs.BlockNumbers.{next_number, with_next}
use Rattle.rmt_tree.specs.Ops.{after_all}
use Rattle.rmt_table_model.specs.Nodes.{allocate_ops}
use Rattle.rmt_table_model.specs.Held.{Held, table_of, holders_in}
use Rattle.rmt_table_model.specs.Inserts.{part_of}
use Rattle.rmt_table.proofs.Allocated.{no-session, no-quorum, is-kept, is-full, no-number, allocated-tree, allocated-seen, may-take}
use Rattle.rmt_table.proofs.HeldNodes.{held-numbers}
use Rattle.rmt_table.specs.contracts.table_tree.TableTree.{the_view}
use Rattle.rmt_table.proofs.table_tree.TableTree.allocate.Goals as goal

pub returns-in_default-clause-refused : goal.returns-in_default-clause-refused
returns-in_default-clause-refused c =
    no-session (the_view c.self.inside) c.self.inside.log.tokens _ c.self.invariant c.args.self.now c.self.view_is c.args.replica c.args.need c.args.id.now c.requires.here c.session.result c.session.ensures c.in_default.is

pub returns-in-Some-quorum_refusal-clause-refused : goal.returns-in-Some-quorum_refusal-clause-refused
returns-in-Some-quorum_refusal-clause-refused c =
    no-quorum (the_view c.self.inside) c.self.inside.log.tokens _ c.self.invariant c.args.self.now c.self.view_is c.args.replica c.args.need c.args.id.now c.requires.here c.session.result c.session.ensures
    c.in-Some.number c.in-Some.is c.in-Some-quorum_refusal.error c.in-Some-quorum_refusal.ensures c.of_quorum.result c.of_quorum.ensures

pub returns-in-Some-kept-clause-refused : goal.returns-in-Some-kept-clause-refused
returns-in-Some-kept-clause-refused c =
    is-kept (the_view c.self.inside) c.self.inside.log.tokens _ c.self.invariant c.args.self.now c.self.view_is c.args.replica c.args.need c.args.id.now c.requires.here c.session.result c.session.ensures
    c.in-Some.number c.in-Some.is c.in_default-quorum_refusal.ensures c.kept.result (c.kept.ensures ∙ ap (part_of _ _) c.self.invariant.counted.window) c.in-Some-kept.part c.in-Some-kept.is

pub returns-then-self-ge32768-clause-refused : goal.returns-then-self-ge32768-clause-refused
returns-then-self-ge32768-clause-refused c =
    is-full (the_view c.self.inside) c.self.inside.log.tokens _ c.self.invariant c.args.self.now c.self.view_is c.args.replica c.args.need c.args.id.now c.requires.here c.session.result c.session.ensures
    c.in-Some.number c.in-Some.is c.in_default-quorum_refusal.ensures c.kept.result (c.kept.ensures ∙ ap (part_of _ _) c.self.invariant.counted.window) c.in_default-kept.is c.full.result c.full.ensures

pub returns-in-Err-clause-refused : goal.returns-in-Err-clause-refused
returns-in-Err-clause-refused c =
    no-number (the_view c.self.inside) c.self.inside.log.tokens _ c.self.invariant c.args.self.now c.self.view_is c.args.replica c.args.need c.args.id.now c.requires.here c.session.result c.session.ensures
    c.in-Some.number c.in-Some.is c.in_default-quorum_refusal.ensures c.kept.result (c.kept.ensures ∙ ap (part_of _ _) c.self.invariant.counted.window) c.in_default-kept.is c.in-Err.error (c.in-Err.ensures.refused _ _ (held-numbers (the_view c.self.inside) c.self.invariant.held)) c.of_number.result c.of_number.ensures

pub take-requires-clause-small : goal.take-requires-clause-small
take-requires-clause-small c = subst (λ (xs : List (Option ℕ × ℕ)). next_number xs c.args.id.now.partition + 1 < 4294967296) (sym c.in_ok-reserve.ensures.numbers)
    (may-take (the_view c.self.inside) c.args.id.now.partition (c.in-Ok.ensures.all _ _ (held-numbers (the_view c.self.inside) c.self.invariant.held)))

pub invariant_of-self-2 : goal.invariant_of-self-2
invariant_of-self-2 c =
    allocated-tree (the_view c.self.inside) c.self.inside.log.tokens _ c.self.invariant c.args.self.now c.self.view_is c.args.replica c.args.need c.args.id.now c.requires.here c.session.result c.session.ensures
    c.in-Some.number c.in-Some.is c.in_default-quorum_refusal.ensures c.kept.result (c.kept.ensures ∙ ap (part_of _ _) c.self.invariant.counted.window) c.in_default-kept.is
    c.is_partition.ensures (c.in-Ok.ensures.all _ _ (held-numbers (the_view c.self.inside) c.self.invariant.held)) (subst (λ (m : ℕ). m < 32768) c.self.invariant.counted.clients c.if-self-ge32768.false)
    c.take_number.new.tree (c.in-Ok.ensures.ok _ _ (held-numbers (the_view c.self.inside) c.self.invariant.held)) c.take.new.self.numbers
    (c.take.ensures ∙ ap (λ (xs : List (Option ℕ × ℕ)). with_next xs c.args.id.now.partition (next_number xs c.args.id.now.partition + 1)) c.in_ok-reserve.ensures.numbers)

pub returns-clause-lock : goal.returns-clause-lock
returns-clause-lock c =
    ap (λ (m : ℕ). record { replica = c.args.replica; session = c.in-Some.number; number = m; id = c.args.id.now })
    (c.in-Ok.ensures.number _ _ (held-numbers (the_view c.self.inside) c.self.invariant.held) ∙ ap (λ (h : Held). next_number h.next c.args.id.now.partition) c.self.view_is)

pub returns-clause-allocates : goal.returns-clause-allocates
returns-clause-allocates c =
    allocated-seen (the_view c.self.inside) c.self.inside.log.tokens _ c.self.invariant c.args.self.now c.self.view_is c.args.replica c.args.need c.args.id.now c.requires.here c.session.result c.session.ensures
    c.in-Some.number c.in-Some.is c.in_default-quorum_refusal.ensures c.kept.result (c.kept.ensures ∙ ap (part_of _ _) c.self.invariant.counted.window) c.in_default-kept.is
    c.is_partition.ensures (c.in-Ok.ensures.all _ _ (held-numbers (the_view c.self.inside) c.self.invariant.held)) (subst (λ (m : ℕ). m < 32768) c.self.invariant.counted.clients c.if-self-ge32768.false)
    c.take_number.new.tree (c.in-Ok.ensures.ok _ _ (held-numbers (the_view c.self.inside) c.self.invariant.held)) c.take.new.self.numbers
    (c.take.ensures ∙ ap (λ (xs : List (Option ℕ × ℕ)). with_next xs c.args.id.now.partition (next_number xs c.args.id.now.partition + 1)) c.in_ok-reserve.ensures.numbers) c.in-Ok.number (c.in-Ok.ensures.number _ _ (held-numbers (the_view c.self.inside) c.self.invariant.held))

pub returns-clause-ops : goal.returns-clause-ops
returns-clause-ops c =
    c.in-Ok.ensures.ok _ _ (held-numbers (the_view c.self.inside) c.self.invariant.held) ∙ ap (λ (h : Held). after_all h.tree (allocate_ops c.args.id.now.partition c.in-Some.number (table_of h))) c.self.view_is

pub take_number-requires-clause-numbers : goal.take_number-requires-clause-numbers
take_number-requires-clause-numbers c = (c.self.inside.partitions.numbers, holders_in c.self.inside.tree, held-numbers (the_view c.self.inside) c.self.invariant.held)
