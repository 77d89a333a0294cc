-- Rows after the entries of tokens, one token after the other.
use Rattle.std.proofs.Common.{◌≡◌, ℕ, suc, ◌+◌, ◌<◌, ◌≤◌, List, [], ◌∷◌, length, drop, drop-cons, get_or, refl, sym, ap, arith, ◌∙◌}
use Rattle.std.proofs.lemmas.List.{drop_all}
use Rattle.std.specs.List.{filter_map, cons_option}
use Rattle.std.specs.Option.{option_and_then}
use Rattle.std.specs.declared.option.Option.{Option}
use Rattle.std.specs.declared.option.Option.TheVariants.{Some, None}
use Rattle.rmt_values.specs.declared.checked_mutation.CheckedMutation.{CheckedMutation}
use Rattle.rmt_entries.specs.declared.entry.Entry.{Entry}
use Rattle.rmt_entries.specs.declared.entry.Entry.TheVariants.{Get, Merge, Mutate, Mutation, DropRange}
use Rattle.rmt_row.specs.Token.{Token}
use Rattle.rmt_model.specs.Content.{Row}
use Rattle.rmt_changes.specs.Changes.{applied_all, applied_by, entries_of}
use Rattle.rmt_changes.proofs.TokenOrder.{forward, forward-applied}

-- what gives the same of each row
filter_map-alike : (f g : Row → Option Row) (rows : List Row) → ((r : Row) → f r ≡ g r) → filter_map f rows ≡ filter_map g rows
filter_map-alike f g [] h = refl
filter_map-alike f g (r ∷ rs) h = ap (λ (o : Option Row). cons_option o (filter_map f rs)) (h r) ∙ ap (cons_option (g r)) (filter_map-alike f g rs h)

-- rows that nothing changes
pub filter_map-some : (rows : List Row) → filter_map (λ r. Some r) rows ≡ rows
filter_map-some [] = refl
filter_map-some (r ∷ rs) = ap (λ (l : List Row). r ∷ l) (filter_map-some rs)

-- one change after another
filter_map-then : (f g : Row → Option Row) (rows : List Row) → filter_map (λ r. option_and_then g (f r)) rows ≡ filter_map g (filter_map f rows)
filter_map-then f g [] = refl
filter_map-then f g (r ∷ rs) = ap (cons_option (option_and_then g (f r))) (filter_map-then f g rs) ∙ one (f r)
  where
    one : (o : Option Row) → cons_option (option_and_then g o) (filter_map g (filter_map f rs)) ≡ filter_map g (cons_option o (filter_map f rs))
    one None = refl
    one (Some x) = refl

-- the next token changes the rows to others
pub pass-next : (tokens : List (Token Entry)) (i : ℕ) (x : Token Entry) (rows new all : List Row) → x ≡ get_or tokens i x → i < length tokens
    → new ≡ filter_map (applied_by x.value) rows → all ≡ filter_map (forward (drop i tokens)) rows → all ≡ filter_map (forward (drop (i + 1) tokens)) new
pass-next tokens i x rows new all e h g f =
    let n : i + 1 ≡ suc i = omega arith in
    f
    ∙ (ap (λ (l : List (Token Entry)). filter_map (forward l) rows) (drop-cons tokens i x h ∙ ap (λ (y : Token Entry). y ∷ drop (suc i) tokens) (sym e))
    ∙ (filter_map-then (applied_by x.value) (forward (drop (suc i) tokens)) rows
    ∙ (ap (filter_map (forward (drop (suc i) tokens))) (sym g) ∙ ap (λ k. filter_map (forward (drop k tokens)) new) (sym n))))

-- no token is left
pub pass-end : (tokens : List (Token Entry)) (i : ℕ) (rows start : List Row) → length tokens ≤ i
    → filter_map (forward tokens) start ≡ filter_map (forward (drop i tokens)) rows → rows ≡ filter_map (applied_all (entries_of tokens)) start
pass-end tokens i rows start h f =
    sym (filter_map-some rows)
    ∙ (sym (ap (λ (l : List (Token Entry)). filter_map (forward l) rows) (drop_all i tokens h))
    ∙ (sym f ∙ filter_map-alike (forward tokens) (applied_all (entries_of tokens)) start (forward-applied tokens)))

-- an entry that is no mutation
pub pass-other : (e : Entry) (rows : List Row) → ((id : ℕ) (numbers : List (Option ℕ × ℕ)) (command : CheckedMutation) → e ≡ Mutation id numbers command → ⊥)
    → rows ≡ filter_map (applied_by e) rows
pass-other (Mutation id numbers command) rows h = absurd (h id numbers command refl)
pass-other (Get q n digest source need) rows h = sym (filter_map-some rows)
pass-other (Merge new sources count) rows h = sym (filter_map-some rows)
pass-other (Mutate old new upto count mcount) rows h = sym (filter_map-some rows)
pass-other (DropRange q n) rows h = sym (filter_map-some rows)
