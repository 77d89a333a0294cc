use Rattle.std.proofs.Common.{◌≡◌, List, ℕ, ℤ, ◌∙◌, sym, ap, subst, map}
use Rattle.rmt_values.specs.declared.value.Value.{Value}
use Rattle.rmt_values.specs.declared.value.Value.TheVariants.{UInt, Int, Text}
use Rattle.rmt_values.specs.declared.kind.Kind.TheVariants as kinds
use Rattle.rmt_columns.specs.Columns.{ColumnView}
use Rattle.rmt_columns.specs.Places.{at_places}
use Rattle.rmt_columns.specs.Stored.{values_of, kind_of_stored}
use Rattle.rmt_columns.specs.declared.column_values.Stored.{Stored}
use Rattle.rmt_columns.specs.declared.column_values.Stored.TheVariants.{Unsigned, Signed, Texts}
use Rattle.rmt_columns.proofs.PlacesLemmas.{at_places-map}
use Rattle.rmt_columns.proofs.column_values.ColumnValues.gather.Goals as goal

abbrev seen_of : Stored → ColumnView
seen_of s = record { kind = kind_of_stored s; values = values_of s }

pub returns-in_ok-gathered-in-Unsigned : goal.returns-in_ok-gathered-in-Unsigned
returns-in_ok-gathered-in-Unsigned c =
    let seen = ap (λ (s : Stored). seen_of s) (sym c.in-Unsigned.is) ∙ c.self.view_is in
    subst (λ (v : ColumnView). seen_of (Unsigned c.in_ok-gathered-in-Unsigned.field-0) ≡ record v { values = at_places v.values c.args.places.now }) seen
    (ap (λ (l : List Value). record { kind = kinds.UInt64; values = l }) (ap (map (λ n. UInt n)) (c.in_ok-gathered-in-Unsigned.ensures ∙ ap (λ (l : List ℕ). at_places l c.args.places.now) c.deref.ensures.value) ∙ sym (at_places-map (λ n. UInt n) c.in-Unsigned.all.items c.args.places.now)))

pub returns-in_ok-gathered-in-Signed : goal.returns-in_ok-gathered-in-Signed
returns-in_ok-gathered-in-Signed c =
    let seen = ap (λ (s : Stored). seen_of s) (sym c.in-Signed.is) ∙ c.self.view_is in
    subst (λ (v : ColumnView). seen_of (Signed c.in_ok-gathered-in-Signed.field-0) ≡ record v { values = at_places v.values c.args.places.now }) seen
    (ap (λ (l : List Value). record { kind = kinds.Int64; values = l }) (ap (map (λ n. Int n)) (c.in_ok-gathered-in-Signed.ensures ∙ ap (λ (l : List ℤ). at_places l c.args.places.now) c.deref-in-Signed.ensures.value) ∙ sym (at_places-map (λ n. Int n) c.in-Signed.all.items c.args.places.now)))

pub returns-in_ok-gather-in-Texts : goal.returns-in_ok-gather-in-Texts
returns-in_ok-gather-in-Texts c =
    let seen = ap (λ (s : Stored). seen_of s) (sym c.in-Texts.is) ∙ c.self.view_is in
    subst (λ (v : ColumnView). seen_of (Texts c.in_ok-gather-in-Texts.field-0) ≡ record v { values = at_places v.values c.args.places.now }) seen
    (ap (λ (l : List Value). record { kind = kinds.Text; values = l }) (ap (map (λ n. Text n)) c.in_ok-gather-in-Texts.ensures ∙ sym (at_places-map (λ n. Text n) c.in-Texts.all c.args.places.now)))
