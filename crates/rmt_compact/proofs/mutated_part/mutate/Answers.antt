use Rattle.std.proofs.Common.{◌≡◌, ◌∙◌, ◌++◌, [], List, true, All, IsSorted, sym, ap, subst}
use Rattle.std.specs.Arc.{arc_value}
use Rattle.rmt_values.specs.Rows.{Shape, fits, key_cmp}
use Rattle.rmt_names.specs.Names.{data_version}
use Rattle.rmt_entries.specs.Entries.{result_name}
use Rattle.rmt_entries.specs.declared.entry.Entry.{Entry}
use Rattle.rmt_row.specs.Token.{Token}
use Rattle.rmt_granules.specs.Granules.{PartView as Data}
use Rattle.rmt_granules.specs.MadePart.{data_of}
use Rattle.rmt_model.specs.Content.{Row}
use Rattle.rmt_part.specs.Lineages.{AcceptedView, PartValue, IsPart}
use Rattle.rmt_compact.proofs.MutatedPartLemmas.{AreMutated, are-mutated, rows-told, mutated-sorted, mutated-part, is-mutated}
use Rattle.rmt_compact.proofs.TokensFit.{pending-fit, pending-order}
use Rattle.rmt_compact.proofs.mutated_part.mutate.Goals as goal

pub changed_rows-requires-clause-fit : goal.changed_rows-requires-clause-fit
changed_rows-requires-clause-fit c =
    pending-fit c.requires.copy _ _ (arc_value c.args.mutations.now) _ c.requires.lawful
    (c.deref-6.ensures ∙ (c.schema.ensures ∙ (ap (λ (p : PartValue). p.schema) c.deref-5.ensures ∙ c.requires.schema)))
    c.requires.below.entries
    (c.as_slice-tokens.ensures ∙ c.deref.ensures)

pub changed_rows-requires-clause-order : goal.changed_rows-requires-clause-order
changed_rows-requires-clause-order c =
    pending-order c.requires.copy _ (arc_value c.args.mutations.now) _ c.requires.lawful c.requires.below.places (c.as_slice-tokens.ensures ∙ c.deref.ensures)

-- the rows are those of the new name
module _ (c : goal.After-deref-8) where
  are : AreMutated c.args.made (arc_value c.args.old.now) c.made_name-name.result (arc_value c.args.mutations.now) c.in_ok-rows.rows.rows
  are =
      are-mutated c.args.made (arc_value c.args.old.now) c.made_name-name.result (arc_value c.args.mutations.now) c.in_ok-rows.rows.rows c.requires (subst IsPart c.deref-2.ensures c.name.ensures.part)
      (sym (ap result_name c.value.ensures) ∙ c.made_name-name.ensures)
      (rows-told _ _ _ _ _ _ _ _ _ _ _ c.in_ok-rows.ensures.rows (c.as_slice-tokens.ensures ∙ c.deref.ensures)
      c.partition-partition.ensures (c.data_version-low.ensures ∙ ap data_version (c.name.ensures.name ∙ ap (λ (p : PartValue). p.name) c.deref-2.ensures)) c.mutation-high.ensures
      (ap (λ (d : Data). d.rows) (c.deref-4.ensures ∙ (c.body.ensures.value ∙ ap (λ (p : PartValue). p.body) c.deref-3.ensures))))

  shape : c.deref-8.result.now ≡ PartValue.schema (arc_value c.args.old.now)
  shape = c.deref-8.ensures ∙ (c.schema-2.ensures ∙ ap (λ (p : PartValue). p.schema) c.deref-7.ensures)

pub from_rows-requires-clause-fit : goal.from_rows-requires-clause-fit
from_rows-requires-clause-fit c =
    subst (λ (x : Shape). All (λ row. fits x.columns row ≡ true) c.in_ok-rows.rows.rows) (sym (shape c)) (AreMutated.fit (are c))

pub from_rows-requires-clause-sorted : goal.from_rows-requires-clause-sorted
from_rows-requires-clause-sorted c =
    subst (λ (x : Shape). IsSorted (key_cmp x.key) c.in_ok-rows.rows.rows) (sym (shape c)) (mutated-sorted c.args.made (arc_value c.args.old.now) c.made_name-name.result (arc_value c.args.mutations.now) c.in_ok-rows.rows.rows (are c))

module _ (c : goal.In_ok-mutations) where
  are-last : AreMutated c.args.made (arc_value c.args.old.now) c.made_name-name.result (arc_value c.args.mutations.now) c.in_ok-rows.rows.rows
  are-last =
      are-mutated c.args.made (arc_value c.args.old.now) c.made_name-name.result (arc_value c.args.mutations.now) c.in_ok-rows.rows.rows c.requires (subst IsPart c.deref-2.ensures c.name.ensures.part)
      (sym (ap result_name c.value.ensures) ∙ c.made_name-name.ensures)
      (rows-told _ _ _ _ _ _ _ _ _ _ _ c.in_ok-rows.ensures.rows (c.as_slice-tokens.ensures ∙ c.deref.ensures)
      c.partition-partition.ensures (c.data_version-low.ensures ∙ ap data_version (c.name.ensures.name ∙ ap (λ (p : PartValue). p.name) c.deref-2.ensures)) c.mutation-high.ensures
      (ap (λ (d : Data). d.rows) (c.deref-4.ensures ∙ (c.body.ensures.value ∙ ap (λ (p : PartValue). p.body) c.deref-3.ensures))))

one-end : (start all xs : List AcceptedView) → all ≡ start ++ xs → start ≡ [] → all ≡ xs
one-end start all xs e f = e ∙ ap (λ (l : List AcceptedView). l ++ xs) f

told-data : (a b : Shape) (rows : List Row) (d e : Data) → d ≡ data_of a rows → a ≡ b → e ≡ d → e ≡ data_of b rows
told-data a b rows d e f g h = h ∙ (f ∙ ap (λ (x : Shape). data_of x rows) g)

pub of-requires : goal.of-requires
of-requires c =
    let old = arc_value c.args.old.now in
    subst (λ (ts : List (Token Entry)). IsPart (record { schema = arc_value c.in_ok-schema.schema; name = c.made_name-name.result; body = arc_value c.in_ok-body.body; made = c.args.made; blocks = c.push_blocks.new.all.items; mutations = ts })) (sym c.in_ok-mutations.ensures)
    (mutated-part c.args.made old c.made_name-name.result (arc_value c.args.mutations.now) c.in_ok-rows.rows.rows (arc_value c.in_ok-schema.schema) (arc_value c.in_ok-body.body) c.push_blocks.new.all.items (are-last c)
    (subst IsPart c.deref-2.ensures c.name.ensures.part)
    c.requires
    (c.in_ok-schema.ensures ∙ (c.schema-3.ensures ∙ ap (λ (p : PartValue). p.schema) c.deref-10.ensures))
    (told-data c.deref-8.result.now (PartValue.schema old) c.in_ok-rows.rows.rows _ (arc_value c.in_ok-body.body) c.in_ok-data.ensures (c.deref-8.ensures ∙ (c.schema-2.ensures ∙ ap (λ (p : PartValue). p.schema) c.deref-7.ensures)) c.in_ok-body.ensures.ok)
    (one-end _ c.push_blocks.new.all.items (PartValue.blocks old) (c.in_ok-push_blocks.ensures ∙ ap (λ (l : List AcceptedView). c.new-blocks.result.items ++ l) (c.blocks-2.ensures ∙ ap (λ (p : PartValue). p.blocks) c.deref-9.ensures)) c.new-blocks.ensures.items))

pub returns : goal.returns
returns c =
    let old = arc_value c.args.old.now in
    is-mutated c.args.made old c.of.result (arc_value c.in_ok-schema.schema) c.made_name-name.result (arc_value c.in_ok-body.body) c.push_blocks.new.all.items (arc_value c.args.mutations.now) (arc_value c.in_ok-mutations.mutations) c.of.ensures
    (c.in_ok-schema.ensures ∙ (c.schema-3.ensures ∙ ap (λ (p : PartValue). p.schema) c.deref-10.ensures))
    (sym (ap result_name c.value.ensures) ∙ c.made_name-name.ensures)
    (one-end _ c.push_blocks.new.all.items (PartValue.blocks old) (c.in_ok-push_blocks.ensures ∙ ap (λ (l : List AcceptedView). c.new-blocks.result.items ++ l) (c.blocks-2.ensures ∙ ap (λ (p : PartValue). p.blocks) c.deref-9.ensures)) c.new-blocks.ensures.items)
    c.in_ok-mutations.ensures
