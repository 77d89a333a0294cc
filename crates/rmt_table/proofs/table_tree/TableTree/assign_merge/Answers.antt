use Rattle.std.proofs.Common.{inr, ◌≡◌, ◌∙◌, List, Option, length, ap, refl, arith, sym}
use Rattle.std.specs.Option.{option_map}
use Rattle.rmt_model.specs.Quorum.{Pending}
use Rattle.rmt_table.specs.Neighbours.{IsPartOf}
use Rattle.rmt_names.specs.Names.{Name}
use Rattle.rmt_entries.specs.declared.entry.Entry.TheVariants.{Merge}
use Rattle.rmt_table_model.specs.Held.{Held, holders_in}
use Rattle.rmt_table.proofs.HeldNodes.{held-numbers}
use Rattle.rmt_entries.specs.declared.entry.Entry.{Entry}
use Rattle.rmt_table.proofs.LengthLemmas.{room-left}
use Rattle.rmt_table.proofs.Worked.{whole-copy, short-copy}
use Rattle.rmt_table.proofs.Merged.{least-of, merge-apart, merge-can, merge-living, merge-few, merge-flies, merge-full, merge-in-range, merge-fine, merge-tree, merge-done}
use Rattle.rmt_table.specs.contracts.table_tree.TableTree.{the_view}
use Rattle.rmt_table.specs.TableTrees.{IsMergeOf}
use Rattle.rmt_table.proofs.AppendLemmas.{tree-row, with-row}
use Rattle.rmt_table.proofs.table_tree.TableTree.assign_merge.Goals as goal

-- the part that waits is the one that was read
part-of : (h now : Held) (r : Option Name) → h ≡ now → r ≡ option_map (λ q. q.part) now.quorum.pending → IsPartOf h.quorum.pending r
part-of h now r e f = ap (λ (k : Held). option_map (λ (q : Pending). q.part) k.quorum.pending) e ∙ sym f

pub overflow_cast-result : goal.overflow_cast-result
overflow_cast-result c =
    let k = short-copy (the_view c.self.inside) c.self.inside.log.tokens _ refl c.self.invariant c.len-seen.result c.len.result (c.len.ensures) c.if-seen-len.true in omega (arith, k)

pub returns-in-Some-clause-refused : goal.returns-in-Some-clause-refused
returns-in-Some-clause-refused c =
    merge-apart (the_view c.self.inside) c.self.inside.log.tokens refl _ c.self.invariant c.args.self.now c.self.view_is c.args.copy.now (whole-copy (the_view c.self.inside) c.self.inside.log.tokens c.args.self.now c.self.view_is c.args.copy.now c.requires.of refl c.len-seen.result c.len-seen.ensures.len c.len.result (c.len.ensures) c.if-seen-len.false) c.args.sources.now c.requires.neighbours _ (part-of (the_view c.self.inside) c.args.self.now c.pending_part-pending.result c.self.view_is c.pending_part-pending.ensures) _ c.in-Some.ensures

pub unreachable-requires : goal.unreachable-requires
unreachable-requires c =
    c.in_default-merged.ensures (merge-can (the_view c.self.inside) c.self.inside.log.tokens refl _ c.self.invariant c.args.self.now c.self.view_is c.args.copy.now (whole-copy (the_view c.self.inside) c.self.inside.log.tokens c.args.self.now c.self.view_is c.args.copy.now c.requires.of refl c.len-seen.result c.len-seen.ensures.len c.len.result (c.len.ensures) c.if-seen-len.false) c.args.sources.now c.requires.neighbours (c.in_default.ensures c.self.inside.quorum.pending (part-of (the_view c.self.inside) c.args.self.now c.pending_part-pending.result c.self.view_is c.pending_part-pending.ensures)))

pub returns-in-Some-2-clause-refused : goal.returns-in-Some-2-clause-refused
returns-in-Some-2-clause-refused c =
    merge-flies (the_view c.self.inside) c.self.inside.log.tokens refl _ c.self.invariant c.args.self.now c.self.view_is c.args.copy.now (whole-copy (the_view c.self.inside) c.self.inside.log.tokens c.args.self.now c.self.view_is c.args.copy.now c.requires.of refl c.len-seen.result c.len-seen.ensures.len c.len.result (c.len.ensures) c.if-seen-len.false) c.args.sources.now c.requires.neighbours (c.in_default.ensures c.self.inside.quorum.pending (part-of (the_view c.self.inside) c.args.self.now c.pending_part-pending.result c.self.view_is c.pending_part-pending.ensures)) c.in-Some-merged.new c.in-Some-merged.ensures c.in-Some-2.number (least-of (holders_in c.self.inside.tree) _ _ _ _ _ _ _ _ c.partition.ensures c.min.ensures c.max.ensures.value c.in-Some-2.is (c.in_ok-number.ensures _ _ (held-numbers (the_view c.self.inside) c.self.invariant.held)))

pub returns-then-self-ge32768-clause-refused : goal.returns-then-self-ge32768-clause-refused
returns-then-self-ge32768-clause-refused c =
    merge-full (the_view c.self.inside) c.self.inside.log.tokens refl _ c.self.invariant c.args.self.now c.self.view_is c.args.copy.now (whole-copy (the_view c.self.inside) c.self.inside.log.tokens c.args.self.now c.self.view_is c.args.copy.now c.requires.of refl c.len-seen.result c.len-seen.ensures.len c.len.result (c.len.ensures) c.if-seen-len.false) c.args.sources.now c.requires.neighbours (c.in_default.ensures c.self.inside.quorum.pending (part-of (the_view c.self.inside) c.args.self.now c.pending_part-pending.result c.self.view_is c.pending_part-pending.ensures)) c.in-Some-merged.new c.in-Some-merged.ensures (least-of (holders_in c.self.inside.tree) _ _ _ _ _ _ _ _ c.partition.ensures c.min.ensures c.max.ensures.value c.in_default-2.is (c.in_ok-number.ensures _ _ (held-numbers (the_view c.self.inside) c.self.invariant.held))) c.from.result c.from.ensures c.if-self-ge32768.true

pub block_sum-requires-clause-living : goal.block_sum-requires-clause-living
block_sum-requires-clause-living c =
    merge-living (the_view c.self.inside) c.self.inside.log.tokens refl _ c.self.invariant c.args.self.now c.self.view_is c.args.copy.now (whole-copy (the_view c.self.inside) c.self.inside.log.tokens c.args.self.now c.self.view_is c.args.copy.now c.requires.of refl c.len-seen.result c.len-seen.ensures.len c.len.result (c.len.ensures) c.if-seen-len.false) c.args.sources.now c.requires.neighbours (c.in_default.ensures c.self.inside.quorum.pending (part-of (the_view c.self.inside) c.args.self.now c.pending_part-pending.result c.self.view_is c.pending_part-pending.ensures))

pub block_sum-requires-clause-few : goal.block_sum-requires-clause-few
block_sum-requires-clause-few c =
    merge-few (the_view c.self.inside) c.self.inside.log.tokens refl _ c.self.invariant c.args.self.now c.self.view_is c.args.copy.now (whole-copy (the_view c.self.inside) c.self.inside.log.tokens c.args.self.now c.self.view_is c.args.copy.now c.requires.of refl c.len-seen.result c.len-seen.ensures.len c.len.result (c.len.ensures) c.if-seen-len.false) c.args.sources.now c.requires.neighbours (c.in_default.ensures c.self.inside.quorum.pending (part-of (the_view c.self.inside) c.args.self.now c.pending_part-pending.result c.self.view_is c.pending_part-pending.ensures))

pub append_alone-requires-clause-in_range : goal.append_alone-requires-clause-in_range
append_alone-requires-clause-in_range c =
    merge-in-range (the_view c.self.inside) c.self.inside.log.tokens refl _ c.self.invariant c.args.self.now c.self.view_is c.args.copy.now (whole-copy (the_view c.self.inside) c.self.inside.log.tokens c.args.self.now c.self.view_is c.args.copy.now c.requires.of refl c.len-seen.result c.len-seen.ensures.len c.len.result (c.len.ensures) c.if-seen-len.false) c.args.sources.now c.requires.neighbours (c.in_default.ensures c.self.inside.quorum.pending (part-of (the_view c.self.inside) c.args.self.now c.pending_part-pending.result c.self.view_is c.pending_part-pending.ensures)) c.in-Some-merged.new c.in-Some-merged.ensures (least-of (holders_in c.self.inside.tree) _ _ _ _ _ _ _ _ c.partition.ensures c.min.ensures c.max.ensures.value c.in_default-2.is (c.in_ok-number.ensures _ _ (held-numbers (the_view c.self.inside) c.self.invariant.held)))
    c.if-self-ge32768.false c.block_sum.result c.block_sum.ensures _ (ap (λ (xs : List Name). Merge c.in-Some-merged.new xs c.block_sum.result) (c.new.ensures ∙ c.in_ok-from_slice.ensures.items))

pub append_alone-requires-clause-fine : goal.append_alone-requires-clause-fine
append_alone-requires-clause-fine c =
    merge-fine (the_view c.self.inside) c.self.inside.log.tokens refl _ c.self.invariant c.args.self.now c.self.view_is c.args.copy.now (whole-copy (the_view c.self.inside) c.self.inside.log.tokens c.args.self.now c.self.view_is c.args.copy.now c.requires.of refl c.len-seen.result c.len-seen.ensures.len c.len.result (c.len.ensures) c.if-seen-len.false) c.args.sources.now c.requires.neighbours (c.in_default.ensures c.self.inside.quorum.pending (part-of (the_view c.self.inside) c.args.self.now c.pending_part-pending.result c.self.view_is c.pending_part-pending.ensures)) c.in-Some-merged.new c.in-Some-merged.ensures (least-of (holders_in c.self.inside.tree) _ _ _ _ _ _ _ _ c.partition.ensures c.min.ensures c.max.ensures.value c.in_default-2.is (c.in_ok-number.ensures _ _ (held-numbers (the_view c.self.inside) c.self.invariant.held)))
    c.if-self-ge32768.false c.block_sum.result c.block_sum.ensures _ (ap (λ (xs : List Name). Merge c.in-Some-merged.new xs c.block_sum.result) (c.new.ensures ∙ c.in_ok-from_slice.ensures.items)) _ refl

pub invariant_of-self-2 : goal.invariant_of-self-2
invariant_of-self-2 c =
    tree-row _ _ _ _ c.append_alone.ensures.row (
    merge-tree (the_view c.self.inside) c.self.inside.log.tokens refl _ c.self.invariant c.args.self.now c.self.view_is c.args.copy.now (whole-copy (the_view c.self.inside) c.self.inside.log.tokens c.args.self.now c.self.view_is c.args.copy.now c.requires.of refl c.len-seen.result c.len-seen.ensures.len c.len.result (c.len.ensures) c.if-seen-len.false) c.args.sources.now c.requires.neighbours (c.in_default.ensures c.self.inside.quorum.pending (part-of (the_view c.self.inside) c.args.self.now c.pending_part-pending.result c.self.view_is c.pending_part-pending.ensures)) c.in-Some-merged.new c.in-Some-merged.ensures (least-of (holders_in c.self.inside.tree) _ _ _ _ _ _ _ _ c.partition.ensures c.min.ensures c.max.ensures.value c.in_default-2.is (c.in_ok-number.ensures _ _ (held-numbers (the_view c.self.inside) c.self.invariant.held)))
    c.if-self-ge32768.false c.block_sum.result c.block_sum.ensures _ (ap (λ (xs : List Name). Merge c.in-Some-merged.new xs c.block_sum.result) (c.new.ensures ∙ c.in_ok-from_slice.ensures.items)) c.in_ok-token.token c.in_ok-token.ensures.token c.append_alone.new.log.tokens c.in_ok-token.ensures.log c.append_alone.new.tree _ refl c.in_ok-token.ensures.tree)

pub returns-clause-done : goal.returns-clause-done
returns-clause-done c =
    with-row (IsMergeOf c.args.self.now c.args.sources.now c.in_ok-token.token) _ c.append_alone.new.log.row c.append_alone.ensures.row (
    merge-done (the_view c.self.inside) c.self.inside.log.tokens refl _ c.self.invariant c.args.self.now c.self.view_is c.args.copy.now (whole-copy (the_view c.self.inside) c.self.inside.log.tokens c.args.self.now c.self.view_is c.args.copy.now c.requires.of refl c.len-seen.result c.len-seen.ensures.len c.len.result (c.len.ensures) c.if-seen-len.false) c.args.sources.now c.requires.neighbours (c.in_default.ensures c.self.inside.quorum.pending (part-of (the_view c.self.inside) c.args.self.now c.pending_part-pending.result c.self.view_is c.pending_part-pending.ensures)) c.in-Some-merged.new c.in-Some-merged.ensures (least-of (holders_in c.self.inside.tree) _ _ _ _ _ _ _ _ c.partition.ensures c.min.ensures c.max.ensures.value c.in_default-2.is (c.in_ok-number.ensures _ _ (held-numbers (the_view c.self.inside) c.self.invariant.held)))
    c.if-self-ge32768.false c.block_sum.result c.block_sum.ensures _ (ap (λ (xs : List Name). Merge c.in-Some-merged.new xs c.block_sum.result) (c.new.ensures ∙ c.in_ok-from_slice.ensures.items)) c.in_ok-token.token c.in_ok-token.ensures.token c.append_alone.new.log.tokens c.in_ok-token.ensures.log c.append_alone.new.tree _ refl c.in_ok-token.ensures.tree)

pub returns-clause-current : goal.returns-clause-current
returns-clause-current c =
    ap (λ (log : List Entry). length log) (whole-copy (the_view c.self.inside) c.self.inside.log.tokens c.args.self.now c.self.view_is c.args.copy.now c.requires.of refl c.len-seen.result c.len-seen.ensures.len c.len.result (c.len.ensures) c.if-seen-len.false)
    ∙ ap (λ (h : Held). length h.log) c.self.view_is

pub append_alone-requires-clause-room : goal.append_alone-requires-clause-room
append_alone-requires-clause-room c =
    room-left (the_view c.self.inside) c.self.inside.log.tokens c.self.inside.log.tokens _ c.self.invariant refl (inr c.if-self-ge32768.false)
