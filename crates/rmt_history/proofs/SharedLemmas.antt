-- The lists of the mutations up to each one.
use Rattle.std.proofs.Common.{◌≡◌, ℕ, zero, suc, ◌+◌, ◌-◌, ◌<◌, Bool, true, false, cond, List, [], ◌∷◌, ◌++◌, length, map, take, refl, sym, ap, subst, arith, ◌∙◌, nat_eq, length-append}
use Rattle.std.proofs.lemmas.Bool.Decides.{nat_tests}
use Rattle.std.proofs.lemmas.List.{take-append-le}
use Rattle.std.proofs.lemmas.List.Elements.{filter-append}
use Rattle.std.proofs.lemmas.Option.{slice_get_within}
use Rattle.std.specs.Prelude.{slice_get, option_to_list}
use Rattle.std.specs.Option.{option_map, unwrap_or}
use Rattle.std.specs.declared.option.Option.{Option}
use Rattle.std.specs.declared.option.Option.TheVariants.{Some, None}
use Rattle.rmt_row.specs.Token.{Token}
use Rattle.rmt_entries.specs.declared.entry.Entry.{Entry}
use Rattle.rmt_model.specs.Lawful.{is_mutation}
use Rattle.rmt_model.proofs.Drops.{some-same}
use Rattle.rmt_history.specs.Copies.{mutation_tokens, ArePrefixes}
use Rattle.rmt_history.specs.Mutations.{last_list}
use Rattle.rmt_history.proofs.ListLemmas.{get-snoc, take-whole}

pub get-mapped : {A B : Type 0} (f : A → B) (xs : List A) (i : ℕ) → slice_get (map f xs) i ≡ option_map f (slice_get xs i)
get-mapped f [] i = refl
get-mapped f (x ∷ xs) zero = refl
get-mapped f (x ∷ xs) (suc i) = get-mapped f xs i

-- the last list has all
pub last-all : {A : Type 0} (lists : List (List A)) (all : List A) → ArePrefixes lists all → last_list lists ≡ all
last-all {A} [] all s = empty all (s.counted)
  where
    empty : (all : List A) → 0 ≡ length all → [] ≡ all
    empty [] e = refl
    empty (x ∷ all) e = absurd (omega (arith, e))
last-all {A} (xs ∷ lists) all s = go (slice_get (xs ∷ lists) (length (xs ∷ lists) - 1)) refl
  where
    go : (o : Option (List A)) → slice_get (xs ∷ lists) (length (xs ∷ lists) - 1) ≡ o → unwrap_or o [] ≡ all
    go (Some ys) e = let c = s.counted in s.upto (length (xs ∷ lists) - 1) ys e ∙ take-whole all (length (xs ∷ lists) - 1 + 1) (omega (arith, c))
    go None e = absurd (missing (xs ∷ lists) (length (xs ∷ lists) - 1) (omega arith) e)
      where
        missing : (l : List (List A)) (i : ℕ) → i < length l → slice_get l i ≡ None → ⊥
        missing [] i h e = omega (arith, h)
        missing (y ∷ l) zero h e = absurd (cc)
        missing (y ∷ l) (suc i) h e = missing l i (omega (arith, h)) e

-- the elements of the last of the lists that a slice holds
pub last-shared : {A B : Type 0} (f : A → List B) (held lists : List A) (last all : List B) → last ≡ last_list (map f held) → held ≡ lists → ArePrefixes (map f lists) all → last ≡ all
last-shared {A} f held lists last all e q s = e ∙ (ap (λ (xs : List A). last_list (map f xs)) q ∙ last-all (map f lists) all s)

prefixes-more : {A : Type 0} (lists : List (List A)) (all : List A) (x : A) → ArePrefixes lists all → ArePrefixes (lists ++ (all ++ x ∷ []) ∷ []) (all ++ x ∷ [])
prefixes-more {A} lists all x s = record {
  counted = let c = s.counted in omega (arith, c, length-append lists ((all ++ x ∷ []) ∷ []), length-append all (x ∷ []));
  upto = λ k xs e. go k xs (nat_eq k (length lists)) refl (sym (get-snoc lists (all ++ x ∷ []) k) ∙ e);
}
  where
    go : (k : ℕ) (xs : List A) (b : Bool) → nat_eq k (length lists) ≡ b → cond b (Some (all ++ x ∷ [])) (slice_get lists k) ≡ Some xs → xs ≡ take (k + 1) (all ++ x ∷ [])
    go k xs true q e =
        let n : k ≡ length lists = grind (arith, nat_tests) in
        let c = s.counted in
        sym (some-same (all ++ x ∷ []) xs e) ∙ sym (take-whole (all ++ x ∷ []) (k + 1) (omega (arith, n, c, length-append all (x ∷ []))))
    go k xs false q e =
        let c = s.counted in
        let l = slice_get_within lists k xs e in
        s.upto k xs e ∙ sym (take-append-le (k + 1) all (x ∷ []) (omega (arith, c, l)))

-- the lists after the next token
pub shared-more : (lists : List (List (Token Entry))) (tokens : List (Token Entry)) (next : Token Entry) (list : Option (List (Token Entry))) → ArePrefixes lists (mutation_tokens tokens) → list ≡ cond (is_mutation next.value) (Some (last_list lists ++ next ∷ [])) None → ArePrefixes (lists ++ option_to_list list) (mutation_tokens (tokens ++ next ∷ []))
shared-more lists tokens next list s e = go (is_mutation next.value) refl
  where
    nothing : {A : Type 0} (l : List A) → l ++ [] ≡ l
    nothing [] = refl
    nothing {A} (y ∷ l) = ap (λ (m : List A). y ∷ m) (nothing l)

    all : mutation_tokens (tokens ++ next ∷ []) ≡ mutation_tokens tokens ++ cond (is_mutation next.value) (next ∷ []) []
    all = filter-append (λ t. is_mutation t.value) tokens (next ∷ [])

    go : (b : Bool) → is_mutation next.value ≡ b → ArePrefixes (lists ++ option_to_list list) (mutation_tokens (tokens ++ next ∷ []))
    go true q =
        let l : list ≡ Some (last_list lists ++ next ∷ []) = e ∙ ap (λ (b : Bool). cond b (Some (last_list lists ++ next ∷ [])) None) q in
        let m : lists ++ option_to_list list ≡ lists ++ (mutation_tokens tokens ++ next ∷ []) ∷ [] =
        ap (λ (o : Option (List (Token Entry))). lists ++ option_to_list o) l ∙ ap (λ (xs : List (Token Entry)). lists ++ (xs ++ next ∷ []) ∷ []) (last-all lists (mutation_tokens tokens) s) in
        let n : mutation_tokens (tokens ++ next ∷ []) ≡ mutation_tokens tokens ++ next ∷ [] = all ∙ ap (λ (b : Bool). mutation_tokens tokens ++ cond b (next ∷ []) []) q in
        subst (λ (xs : List (List (Token Entry))). ArePrefixes xs (mutation_tokens (tokens ++ next ∷ []))) (sym m)
        (subst (ArePrefixes (lists ++ (mutation_tokens tokens ++ next ∷ []) ∷ [])) (sym n) (prefixes-more lists (mutation_tokens tokens) next s))
    go false q =
        let l : list ≡ None = e ∙ ap (λ (b : Bool). cond b (Some (last_list lists ++ next ∷ [])) None) q in
        let m : lists ++ option_to_list list ≡ lists = ap (λ (o : Option (List (Token Entry))). lists ++ option_to_list o) l ∙ nothing lists in
        let n : mutation_tokens (tokens ++ next ∷ []) ≡ mutation_tokens tokens = all ∙ (ap (λ (b : Bool). mutation_tokens tokens ++ cond b (next ∷ []) []) q ∙ nothing (mutation_tokens tokens)) in
        subst (λ (xs : List (List (Token Entry))). ArePrefixes xs (mutation_tokens (tokens ++ next ∷ []))) (sym m) (subst (ArePrefixes lists) (sym n) s)

-- what is known of a list that was made, by the lists and the token that it was made of
pub made-of : {A : Type 0} (f : A → List (Token Entry)) (held lists : List A) (t next : Token Entry) (list : Option (List (Token Entry))) → list ≡ cond (is_mutation t.value) (Some (last_list (map f held) ++ t ∷ [])) None → held ≡ lists → t ≡ next → list ≡ cond (is_mutation next.value) (Some (last_list (map f lists) ++ next ∷ [])) None
made-of {A} f held lists t next list e q r =
    e ∙ (ap (λ (xs : List A). cond (is_mutation t.value) (Some (last_list (map f xs) ++ t ∷ [])) None) q
    ∙ ap (λ (u : Token Entry). cond (is_mutation u.value) (Some (last_list (map f lists) ++ u ∷ [])) None) r)

pub pushed-onto : {A B : Type 0} (f : A → B) (held lists : List A) (new more : List B) → new ≡ map f held ++ more → held ≡ lists → new ≡ map f lists ++ more
pushed-onto {A} f held lists new more e q = e ∙ ap (λ (xs : List A). map f xs ++ more) q
