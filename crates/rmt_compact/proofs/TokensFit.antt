-- Tokens whose entries fit a schema, and rows of it.
use Rattle.std.proofs.Common.{◌≡◌, zero, ℕ, true, List, [], ◌∷◌, ◌++◌, All, map, reverse, length, refl, sym, subst, ◌∙◌, arith}
use Rattle.std.proofs.lemmas.List.{reverse-append}
use Rattle.std.proofs.lemmas.List.Elements.{All-cons}
use Rattle.rmt_values.specs.declared.column.Column.{Column}
use Rattle.rmt_values.specs.declared.kind.Kind.{Kind}
use Rattle.rmt_values.specs.Rows.{Shape, fits}
use Rattle.rmt_entries.specs.declared.entry.Entry.{Entry}
use Rattle.rmt_row.specs.Token.{Token}
use Rattle.rmt_columns.specs.RowsByColumn.{HaveKinds, kinds_in}
use Rattle.rmt_columns.proofs.RowsLemmas.{kinds-fit}
use Rattle.rmt_model.specs.Words.{Each}
use Rattle.rmt_model.specs.Lawful.{Lawful}
use Rattle.rmt_model.specs.Content.{Row}
use Rattle.rmt_changes.specs.Laws.{EntryFits}
use Rattle.rmt_history.specs.Copies.{History}
use Rattle.rmt_history.specs.Mutations.{mutations_below, HasOrder, IsTokenBelow}
use Rattle.rmt_history.proofs.NumberLemmas.{log-order}
use Rattle.rmt_part.specs.Lineages.{entries_of}
use Rattle.rmt_compact.proofs.MutateLaws.{entries-fit}
use Rattle.rmt_compact.proofs.MutatedPartLemmas.{below-has}

each-parts : {X : Type 0} (P : X → Type 0) (xs ys : List X) → Each P (xs ++ ys) → Each P xs × Each P ys
each-parts P [] ys h = (tt, h)
each-parts P (x ∷ xs) ys h = let r = each-parts P xs ys h.1 in ((h.0, r.0), r.1)

each-turned : {X : Type 0} (P : X → Type 0) (xs : List X) → Each P (reverse xs) → Each P xs
each-turned P [] h = tt
each-turned P (x ∷ xs) h =
    let w = each-parts P (reverse xs) (x ∷ []) (subst (Each P) (reverse-append (x ∷ []) xs) h) in
    (w.1.0, each-turned P xs w.0)

all-listed : (shape : Shape) (tokens : List (Token Entry)) → Each (EntryFits shape) (map (λ (t : Token Entry). t.value) tokens) → All (λ t. EntryFits shape t.value) tokens
all-listed shape [] h = λ k d l. absurd (omega (arith, l))
all-listed shape (t ∷ ts) h = All-cons (λ (s : Token Entry). EntryFits shape s.value) t ts h.0 (all-listed shape ts h.1)

-- the mutations of a lawful log fit its schema
pub pending-fit : (copy : History) (shape : Shape) (count : ℕ) (tokens some : List (Token Entry)) → Lawful copy.schema copy.log → shape ≡ copy.schema
    → entries_of tokens ≡ mutations_below copy.log count → some ≡ tokens → All (λ t. EntryFits shape t.value) some
pending-fit copy shape count tokens some l s e d =
    let fit = entries-fit copy.schema copy.log (entries_of tokens) l (subst (Each _) (sym e) (below-has copy.log count)) in
    subst (λ (x : Shape). All (λ t. EntryFits x t.value) some) (sym s)
    (subst (λ (ts : List (Token Entry)). All (λ t. EntryFits copy.schema t.value) ts) (sym d) (all-listed copy.schema tokens (each-turned (EntryFits copy.schema) _ fit)))

-- rows that fit, of which there is one, have the types of the columns
pub kinds-there : (columns : List Column) (kinds : List Kind) (rows : List Row) → HaveKinds kinds rows → All (λ row. fits columns row ≡ true) rows → (length rows ≡ 0 → ⊥) → kinds ≡ kinds_in columns
kinds-there columns kinds [] h f s = absurd (s refl)
kinds-there columns kinds (r ∷ rs) h f s = sym h.0 ∙ kinds-fit columns r (f zero r (omega arith))

-- so have their pairs in order
pub pending-order : (copy : History) (count : ℕ) (tokens some : List (Token Entry)) → Lawful copy.schema copy.log → Each (IsTokenBelow copy count) tokens → some ≡ tokens → All (λ t. HasOrder t.value) some
pending-order copy count tokens some l h d = subst (λ (ts : List (Token Entry)). All (λ t. HasOrder t.value) ts) (sym d) (go tokens h)
  where
    go : (ts : List (Token Entry)) → Each (IsTokenBelow copy count) ts → All (λ t. HasOrder t.value) ts
    go [] k = λ n d m. absurd (omega (arith, m))
    go (t ∷ ts) k = All-cons (λ (s : Token Entry). HasOrder s.value) t ts (log-order copy.schema copy.log t.place t.value l k.0.entry) (go ts k.1)
