use Rattle.std.proofs.Common.{◌≡◌, ◌+◌, inl, List, None, refl, sym, ap, subst, ◌∙◌}
use Rattle.rmt_tree.specs.declared.op.Op.{Op}
use Rattle.rmt_row.specs.Token.{Token}
use Rattle.rmt_entries.specs.declared.entry.Entry.{Entry}
use Rattle.rmt_entries.specs.declared.entry.Entry.TheVariants.{DropRange}
use Rattle.rmt_history.specs.Copies.{entries}
use Rattle.rmt_model.specs.BlockNumbers.{next_number, with_next}
use Rattle.rmt_tree.specs.Ops.{after_all, first_refusal}
use Rattle.rmt_table_model.specs.Numbers.{Nexts}
use Rattle.rmt_table_model.specs.Held.{Held}
use Rattle.rmt_table.specs.contracts.table_tree.TableTree.{the_view}
use Rattle.rmt_table.proofs.LengthLemmas.{room-left}
use Rattle.rmt_table.proofs.AppendLemmas.{placed-snoc, entries-more, token-next, tree-row, with-row}
use Rattle.rmt_table.proofs.Drops.{drop-few, drop-fine, number-nowhere, drop-refused, drop-small, drop-kept, drop-done}
use Rattle.rmt_table.specs.TableTrees.{Drops}
use Rattle.rmt_table.proofs.table_tree.TableTree.drop_partition.Goals as goal

pub returns-in_default-clause-done : goal.returns-in_default-clause-done
returns-in_default-clause-done c = (
  ap (λ (k : Held). next_number k.next c.args.partition) (sym c.self.view_is) ∙ number-nowhere c.self.inside.partitions.numbers c.args.partition (sym c.number.ensures ∙ c.in_default.is),
  refl,
)

pub returns-in-Some-drop_refusal-clause-refused : goal.returns-in-Some-drop_refusal-clause-refused
returns-in-Some-drop_refusal-clause-refused c =
    drop-refused (the_view c.self.inside) c.self.inside.log.tokens _ c.self.invariant c.args.self.now c.self.view_is c.args.partition c.number.result c.number.ensures c.in-Some.number c.in-Some.is c.drop_refusal.result c.drop_refusal.ensures
    c.in-Some-drop_refusal.error c.in-Some-drop_refusal.is

pub take-requires-clause-small : goal.take-requires-clause-small
take-requires-clause-small c =
    drop-small (the_view c.self.inside) c.self.inside.log.tokens _ c.self.invariant c.args.self.now c.self.view_is c.args.partition c.number.result c.number.ensures c.in-Some.number c.in-Some.is c.drop_refusal.result c.drop_refusal.ensures c.in_default-drop_refusal.is
    c.reserve.new.self.numbers c.in_ok-reserve.ensures.numbers

pub invariant_of-self-2 : goal.invariant_of-self-2
invariant_of-self-2 c =
    tree-row _ _ _ _ c.append.ensures.row (
    drop-kept (the_view c.self.inside) c.self.inside.log.tokens _ c.self.invariant c.args.self.now c.self.view_is c.args.partition c.number.result c.number.ensures c.in-Some.number c.in-Some.is c.drop_refusal.result c.drop_refusal.ensures c.in_default-drop_refusal.is
    c.in_ok-ops.ops.items c.in_ok-ops.ensures c.append.new.tree (c.in_ok-token.ensures.tree ∙ ap (after_all c.self.inside.tree) c.deref.ensures.value)
    (entries c.append.new.log.tokens)
    (entries-more c.self.inside.log.tokens c.append.new.log.tokens c.in_ok-token.token (DropRange c.args.partition c.in-Some.number) c.in_ok-token.ensures.log (ap (λ (t : Token Entry). t.value) c.in_ok-token.ensures.token))
    c.take.new.self.numbers
    (c.take.ensures ∙ ap (λ (ns : Nexts). with_next ns c.args.partition (next_number ns c.args.partition + 1)) c.in_ok-reserve.ensures.numbers)
    c.drop_below.new.self c.drop_below.ensures c.append.new.log.tokens
    (placed-snoc (the_view c.self.inside).row c.self.inside.log.tokens c.append.new.log.tokens c.in_ok-token.token _ c.in_ok-token.ensures.log c.in_ok-token.ensures.token
    (room-left (the_view c.self.inside) c.self.inside.log.tokens c.self.inside.log.tokens _ c.self.invariant refl (inl (drop-few (the_view c.self.inside) c.self.inside.log.tokens _ c.self.invariant c.args.self.now c.self.view_is c.args.partition c.number.result c.number.ensures c.in-Some.number c.in-Some.is c.drop_refusal.result c.drop_refusal.ensures c.in_default-drop_refusal.is)))
    c.self.invariant.places)
    _ c.forget.ensures.count _ c.forget.ensures.placed)

pub returns-clause-done : goal.returns-clause-done
returns-clause-done c =
    with-row (Drops c.args.self.now c.args.partition c.in_ok-token.token) _ c.append.new.log.row c.append.ensures.row (
    drop-done (the_view c.self.inside) c.self.inside.log.tokens _ c.self.invariant c.args.self.now c.self.view_is c.args.partition c.number.result c.number.ensures c.in-Some.number c.in-Some.is c.drop_refusal.result c.drop_refusal.ensures c.in_default-drop_refusal.is
    c.in_ok-ops.ops.items c.in_ok-ops.ensures c.append.new.tree (c.in_ok-token.ensures.tree ∙ ap (after_all c.self.inside.tree) c.deref.ensures.value)
    (entries c.append.new.log.tokens)
    (entries-more c.self.inside.log.tokens c.append.new.log.tokens c.in_ok-token.token (DropRange c.args.partition c.in-Some.number) c.in_ok-token.ensures.log (ap (λ (t : Token Entry). t.value) c.in_ok-token.ensures.token))
    c.take.new.self.numbers
    (c.take.ensures ∙ ap (λ (ns : Nexts). with_next ns c.args.partition (next_number ns c.args.partition + 1)) c.in_ok-reserve.ensures.numbers)
    c.drop_below.new.self c.drop_below.ensures c.in_ok-token.token
    (token-next (the_view c.self.inside) c.args.self.now c.self.view_is c.self.inside.log.tokens refl (DropRange c.args.partition c.in-Some.number) c.in_ok-token.token c.in_ok-token.ensures.token))

pub append-requires : goal.append-requires
append-requires c = record {
  fine = subst (λ (xs : List Op). first_refusal c.self.inside.tree xs 0 ≡ None) (sym c.deref.ensures.value) (drop-fine (the_view c.self.inside) c.self.inside.log.tokens _ c.self.invariant c.args.self.now c.self.view_is c.args.partition c.number.result c.number.ensures c.in-Some.number c.in-Some.is c.drop_refusal.result c.drop_refusal.ensures c.in_default-drop_refusal.is
      c.in_ok-ops.ops.items c.in_ok-ops.ensures);
  room = room-left (the_view c.self.inside) c.self.inside.log.tokens c.self.inside.log.tokens _ c.self.invariant refl (inl (drop-few (the_view c.self.inside) c.self.inside.log.tokens _ c.self.invariant c.args.self.now c.self.view_is c.args.partition c.number.result c.number.ensures c.in-Some.number c.in-Some.is c.drop_refusal.result c.drop_refusal.ensures c.in_default-drop_refusal.is));
}
