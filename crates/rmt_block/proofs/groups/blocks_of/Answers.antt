use Rattle.std.proofs.Common.{◌≡◌, ℕ, ◌<◌, ◌^◌, ◌∷◌, ◌∙◌, List, length, ap, subst, sym}
use Rattle.std.proofs.lemmas.List.Elements.{All-head, All-rest}
use Rattle.std.proofs.lemmas.Map.Iter.{rest_more}
use Rattle.std.specs.List.{All}
use Rattle.rmt_values.specs.Rows.{AllBelow}
use Rattle.rmt_values.specs.declared.kind.Kind.{Kind}
use Rattle.rmt_values.specs.declared.value.Value.{Value}
use Rattle.rmt_columns.specs.Places.{at_places}
use Rattle.rmt_columns.specs.RowsByColumn.{RowsView, kinds_in}
use Rattle.rmt_block.specs.Blocks.{AreOfOne, RowsFit, block_of}
use Rattle.rmt_block.specs.Groups.{IsGroup}
use Rattle.rmt_block.proofs.SplitLemmas.{Group, blocks-more}
use Rattle.rmt_block.proofs.groups.blocks_of.Goals as goal

-- the group that comes next
next-group : (kinds : List Kind) (rows : List (List Value)) (groups rest : List Group) (g : Group) → groups ≡ g ∷ rest → All (IsGroup kinds rows) groups → IsGroup kinds rows g
next-group kinds rows groups rest g next are = All-head (IsGroup kinds rows) g rest (subst (All (IsGroup kinds rows)) next are)

-- the rows that are gathered for it
rows-gathered : (some view : RowsView) (given places : List ℕ) → some ≡ record view { rows = at_places view.rows given } → given ≡ places → some.rows ≡ at_places view.rows places
rows-gathered some view given places is same = ap (λ (v : RowsView). v.rows) is ∙ ap (at_places view.rows) same

pub gather-requires : goal.gather-requires
gather-requires c =
    let rest = rest_more (λ p. p) c.groups.partition-iterator c.next.new.self c.next.result (c.in-Some.partition, c.in-Some.places) c.in-Some.is c.next.ensures.steps in
    let group = next-group (kinds_in c.args.schema.now.columns) c.args.rows.now.rows _ c.next.new.self (c.in-Some.partition, c.in-Some.places) rest c.groups.invariant.1 in
    subst (AllBelow (length c.args.rows.now.rows)) (sym c.deref.ensures.value) group.there

pub of_kinds-requires-clause-partition : goal.of_kinds-requires-clause-partition
of_kinds-requires-clause-partition c =
    let rest = rest_more (λ p. p) c.groups.partition-iterator c.next.new.self c.next.result (c.in-Some.partition, c.in-Some.places) c.in-Some.is c.next.ensures.steps in
    let group = next-group (kinds_in c.args.schema.now.columns) c.args.rows.now.rows _ c.next.new.self (c.in-Some.partition, c.in-Some.places) rest c.groups.invariant.1 in
    let gathered = rows-gathered c.in_ok-some.some c.args.rows.now _ c.in-Some.places.items c.in_ok-some.ensures c.deref.ensures.value in
    subst (AreOfOne c.in-Some.partition) (sym gathered) group.partition

pub of_kinds-requires-clause-fit : goal.of_kinds-requires-clause-fit
of_kinds-requires-clause-fit c =
    let rest = rest_more (λ p. p) c.groups.partition-iterator c.next.new.self c.next.result (c.in-Some.partition, c.in-Some.places) c.in-Some.is c.next.ensures.steps in
    let group = next-group (kinds_in c.args.schema.now.columns) c.args.rows.now.rows _ c.next.new.self (c.in-Some.partition, c.in-Some.places) rest c.groups.invariant.1 in
    let gathered = rows-gathered c.in_ok-some.some c.args.rows.now _ c.in-Some.places.items c.in_ok-some.ensures c.deref.ensures.value in
    subst (λ (ks : List Kind). RowsFit ks c.in_ok-some.some.rows) (sym (c.in_ok-kinds.ensures ∙ ap kinds_in c.columns.ensures.value))
    (subst (RowsFit (kinds_in c.args.schema.now.columns)) (sym gathered) group.fit)

pub of_kinds-requires-clause-few_rows : goal.of_kinds-requires-clause-few_rows
of_kinds-requires-clause-few_rows c =
    let rest = rest_more (λ p. p) c.groups.partition-iterator c.next.new.self c.next.result (c.in-Some.partition, c.in-Some.places) c.in-Some.is c.next.ensures.steps in
    let group = next-group (kinds_in c.args.schema.now.columns) c.args.rows.now.rows _ c.next.new.self (c.in-Some.partition, c.in-Some.places) rest c.groups.invariant.1 in
    let gathered = rows-gathered c.in_ok-some.some c.args.rows.now _ c.in-Some.places.items c.in_ok-some.ensures c.deref.ensures.value in
    subst (λ (rows : List (List Value)). length rows < 2 ^ 32) (sym gathered) group.few_rows

pub of_kinds-requires-clause-kinds : goal.of_kinds-requires-clause-kinds
of_kinds-requires-clause-kinds c =
    ap (λ (v : RowsView). v.kinds) c.in_ok-some.ensures ∙ (c.requires.kinds ∙ sym (c.in_ok-kinds.ensures ∙ ap kinds_in c.columns.ensures.value))

pub groups-preserved : goal.groups-preserved
groups-preserved c =
    let kinds = kinds_in c.args.schema.now.columns in
    let rows = c.args.rows.now.rows in
    let rest = rest_more (λ p. p) c.groups.partition-iterator c.next.new.self c.next.result (c.in-Some.partition, c.in-Some.places) c.in-Some.is c.next.ensures.steps in (
      blocks-more kinds c.in_ok-kinds.kinds.items rows c.groups.blocks.items c.push.new.self.items _ c.groups.partition-iterator c.next.new.self
          (c.in-Some.partition, c.in-Some.places) c.in_ok-block.block c.groups.invariant.0 rest c.in_ok-push.ensures.items
          (c.in_ok-kinds.ensures ∙ ap kinds_in c.columns.ensures.value)
          (c.in_ok-block.ensures ∙ ap (λ (rs : List (List Value)). block_of c.in-Some.partition c.in_ok-kinds.kinds.items rs) (rows-gathered c.in_ok-some.some c.args.rows.now _ c.in-Some.places.items c.in_ok-some.ensures c.deref.ensures.value)),
      All-rest (IsGroup kinds rows) _ c.next.new.self _ rest c.groups.invariant.1,
    )
