-- A row after the entries of tokens, one token after the other.
use Rattle.std.proofs.Common.{◌≡◌, ℕ, zero, suc, ◌+◌, ◌<◌, ◌≤◌, List, [], ◌∷◌, ◌++◌, map, length, drop, drop-cons, get_or, refl, sym, ap, arith, ◌∙◌}
use Rattle.std.proofs.lemmas.List.{reverse-append}
use Rattle.std.specs.Option.{option_and_then}
use Rattle.std.specs.declared.option.Option.{Option}
use Rattle.std.specs.declared.option.Option.TheVariants.{Some, None}
use Rattle.rmt_entries.specs.declared.entry.Entry.{Entry}
use Rattle.rmt_row.specs.Token.{Token}
use Rattle.rmt_model.specs.Content.{Row}
use Rattle.rmt_changes.specs.Changes.{applied_all, applied_by, entries_of}

-- a row after the entries of tokens, the first one first
abbrev pub forward : List (Token Entry) → Row → Option Row
forward [] row = Some row
forward (x ∷ tokens) row = option_and_then (forward tokens) (applied_by x.value row)

entries-cons : (tokens : List (Token Entry)) (t : Token Entry) → entries_of (t ∷ tokens) ≡ entries_of tokens ++ t.value ∷ []
entries-cons tokens t = reverse-append (t.value ∷ []) (map (λ (x : Token Entry). x.value) tokens)

applied-append : (xs ys : List Entry) (row : Row) → applied_all (xs ++ ys) row ≡ option_and_then (applied_all xs) (applied_all ys row)
applied-append [] ys row = last (applied_all ys row)
  where
    last : (o : Option Row) → o ≡ option_and_then (λ r. Some r) o
    last None = refl
    last (Some r) = refl
applied-append (x ∷ xs) ys row = ap (option_and_then (applied_by x)) (applied-append xs ys row) ∙ twice (applied_all ys row)
  where
    twice : (o : Option Row) → option_and_then (applied_by x) (option_and_then (applied_all xs) o) ≡ option_and_then (applied_all (x ∷ xs)) o
    twice None = refl
    twice (Some r) = refl

pub forward-applied : (tokens : List (Token Entry)) (row : Row) → forward tokens row ≡ applied_all (entries_of tokens) row
forward-applied [] row = refl
forward-applied (x ∷ tokens) row =
    pointwise (forward-applied tokens) (applied_by x.value row)
    ∙ (sym (applied-append (entries_of tokens) (x.value ∷ []) row) ∙ ap (λ (es : List Entry). applied_all es row) (sym (entries-cons tokens x)))
  where
    pointwise : ((r : Row) → forward tokens r ≡ applied_all (entries_of tokens) r) → (o : Option Row) → option_and_then (forward tokens) o ≡ option_and_then (applied_all (entries_of tokens)) o
    pointwise f None = refl
    pointwise f (Some r) = f r

drop-past : {X : Type 0} (xs : List X) (i : ℕ) → length xs ≤ i → drop i xs ≡ []
drop-past [] zero h = refl
drop-past [] (suc i) h = refl
drop-past (x ∷ xs) zero h = absurd (omega (arith, h))
drop-past (x ∷ xs) (suc i) h = drop-past xs i (omega (arith, h))

-- the next token changes the row to another
pub forward-next : (tokens : List (Token Entry)) (i : ℕ) (x : Token Entry) (row new : Row) (all : Option Row) → x ≡ get_or tokens i x → i < length tokens → Some new ≡ applied_by x.value row → all ≡ forward (drop i tokens) row → all ≡ forward (drop (i + 1) tokens) new
forward-next tokens i x row new all e h g f =
    let n : i + 1 ≡ suc i = omega arith in
    f
    ∙ (ap (λ (l : List (Token Entry)). forward l row) (drop-cons tokens i x h ∙ ap (λ (y : Token Entry). y ∷ drop (suc i) tokens) (sym e))
    ∙ (ap (option_and_then (forward (drop (suc i) tokens))) (sym g) ∙ ap (λ k. forward (drop k tokens) new) (sym n)))

-- the next token deletes the row
pub forward-none : (tokens : List (Token Entry)) (i : ℕ) (x : Token Entry) (row start : Row) → x ≡ get_or tokens i x → i < length tokens → None ≡ applied_by x.value row → forward tokens start ≡ forward (drop i tokens) row → ◌≡◌ {A = Option Row} None (applied_all (entries_of tokens) start)
forward-none tokens i x row start e h g f =
    ap (option_and_then (forward (drop (suc i) tokens))) g
    ∙ (sym (ap (λ (l : List (Token Entry)). forward l row) (drop-cons tokens i x h ∙ ap (λ (y : Token Entry). y ∷ drop (suc i) tokens) (sym e)))
    ∙ (sym f ∙ forward-applied tokens start))

-- no token is left
pub forward-end : (tokens : List (Token Entry)) (i : ℕ) (row start : Row) → length tokens ≤ i → forward tokens start ≡ forward (drop i tokens) row → Some row ≡ applied_all (entries_of tokens) start
forward-end tokens i row start h f =
    sym (ap (λ (l : List (Token Entry)). forward l row) (drop-past tokens i h)) ∙ (sym f ∙ forward-applied tokens start)
