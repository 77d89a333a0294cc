use Rattle.std.proofs.Common.{inr, ◌∙◌, List, length, ap, refl, arith}
use Rattle.rmt_entries.specs.declared.entry.Entry.{Entry}
use Rattle.rmt_table_model.specs.Held.{Held}
use Rattle.rmt_table.proofs.LengthLemmas.{room-left}
use Rattle.rmt_table.proofs.Worked.{whole-copy, short-copy}
use Rattle.rmt_table.proofs.Mutated.{mutate-few, mutate-full, mutate-in-range, mutate-fine, mutate-tree, mutate-done}
use Rattle.rmt_table.specs.contracts.table_tree.TableTree.{the_view}
use Rattle.rmt_table.specs.TableTrees.{IsMutateOf}
use Rattle.rmt_table.proofs.AppendLemmas.{tree-row, with-row}
use Rattle.rmt_table.proofs.table_tree.TableTree.assign_mutate.Goals as goal

pub overflow_cast-result : goal.overflow_cast-result
overflow_cast-result c =
    let k = short-copy (the_view c.self.inside) c.self.inside.log.tokens _ refl c.self.invariant c.len-seen.result c.len.result (c.len.ensures) c.if-seen-len.true in omega (arith, k)

pub returns-then-self-ge32768-clause-refused : goal.returns-then-self-ge32768-clause-refused
returns-then-self-ge32768-clause-refused c =
    mutate-full (the_view c.self.inside) c.self.inside.log.tokens refl _ c.self.invariant c.args.self.now c.self.view_is c.args.copy.now (whole-copy (the_view c.self.inside) c.self.inside.log.tokens c.args.self.now c.self.view_is c.args.copy.now c.requires.of refl c.len-seen.result c.len-seen.ensures.len c.len.result (c.len.ensures) c.if-seen-len.false) c.args.old.now c.args.upto c.from.result c.from.ensures c.if-self-ge32768.true

pub mutate_entry-entry-requires-clause-few : goal.mutate_entry-entry-requires-clause-few
mutate_entry-entry-requires-clause-few c =
    mutate-few (the_view c.self.inside) c.self.inside.log.tokens refl _ c.self.invariant c.args.self.now c.self.view_is c.args.copy.now (whole-copy (the_view c.self.inside) c.self.inside.log.tokens c.args.self.now c.self.view_is c.args.copy.now c.requires.of refl c.len-seen.result c.len-seen.ensures.len c.len.result (c.len.ensures) c.if-seen-len.false) c.args.old.now c.args.upto

pub append_alone-requires-clause-in_range : goal.append_alone-requires-clause-in_range
append_alone-requires-clause-in_range c =
    mutate-in-range (the_view c.self.inside) c.self.inside.log.tokens refl _ c.self.invariant c.args.self.now c.self.view_is c.args.copy.now (whole-copy (the_view c.self.inside) c.self.inside.log.tokens c.args.self.now c.self.view_is c.args.copy.now c.requires.of refl c.len-seen.result c.len-seen.ensures.len c.len.result (c.len.ensures) c.if-seen-len.false) c.args.old.now c.args.upto c.if-self-ge32768.false c.mutate_entry-entry.result c.mutate_entry-entry.ensures

pub append_alone-requires-clause-fine : goal.append_alone-requires-clause-fine
append_alone-requires-clause-fine c =
    mutate-fine (the_view c.self.inside) c.self.inside.log.tokens refl _ c.self.invariant c.args.self.now c.self.view_is c.args.copy.now (whole-copy (the_view c.self.inside) c.self.inside.log.tokens c.args.self.now c.self.view_is c.args.copy.now c.requires.of refl c.len-seen.result c.len-seen.ensures.len c.len.result (c.len.ensures) c.if-seen-len.false) c.args.old.now c.args.upto c.if-self-ge32768.false c.mutate_entry-entry.result c.mutate_entry-entry.ensures _ refl

pub invariant_of-self-2 : goal.invariant_of-self-2
invariant_of-self-2 c =
    tree-row _ _ _ _ c.append_alone.ensures.row (
    mutate-tree (the_view c.self.inside) c.self.inside.log.tokens refl _ c.self.invariant c.args.self.now c.self.view_is c.args.copy.now (whole-copy (the_view c.self.inside) c.self.inside.log.tokens c.args.self.now c.self.view_is c.args.copy.now c.requires.of refl c.len-seen.result c.len-seen.ensures.len c.len.result (c.len.ensures) c.if-seen-len.false) c.args.old.now c.args.upto c.if-self-ge32768.false c.mutate_entry-entry.result c.mutate_entry-entry.ensures c.in_ok-token.token c.in_ok-token.ensures.token c.append_alone.new.log.tokens c.in_ok-token.ensures.log c.append_alone.new.tree _ refl c.in_ok-token.ensures.tree)

pub returns-clause-done : goal.returns-clause-done
returns-clause-done c =
    with-row (IsMutateOf c.args.self.now c.args.old.now c.args.upto c.in_ok-token.token) _ c.append_alone.new.log.row c.append_alone.ensures.row (
    mutate-done (the_view c.self.inside) c.self.inside.log.tokens refl _ c.self.invariant c.args.self.now c.self.view_is c.args.copy.now (whole-copy (the_view c.self.inside) c.self.inside.log.tokens c.args.self.now c.self.view_is c.args.copy.now c.requires.of refl c.len-seen.result c.len-seen.ensures.len c.len.result (c.len.ensures) c.if-seen-len.false) c.args.old.now c.args.upto c.if-self-ge32768.false c.mutate_entry-entry.result c.mutate_entry-entry.ensures c.in_ok-token.token c.in_ok-token.ensures.token c.append_alone.new.log.tokens c.in_ok-token.ensures.log c.append_alone.new.tree _ refl c.in_ok-token.ensures.tree)

pub returns-clause-current : goal.returns-clause-current
returns-clause-current c =
    ap (λ (log : List Entry). length log) (whole-copy (the_view c.self.inside) c.self.inside.log.tokens c.args.self.now c.self.view_is c.args.copy.now c.requires.of refl c.len-seen.result c.len-seen.ensures.len c.len.result (c.len.ensures) c.if-seen-len.false)
    ∙ ap (λ (h : Held). length h.log) c.self.view_is

pub append_alone-requires-clause-room : goal.append_alone-requires-clause-room
append_alone-requires-clause-room c =
    room-left (the_view c.self.inside) c.self.inside.log.tokens c.self.inside.log.tokens _ c.self.invariant refl (inr c.if-self-ge32768.false)
