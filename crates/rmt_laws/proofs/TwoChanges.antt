-- What mutations change of a row, in two steps: those up to a version, and then those past it.
use Rattle.std.proofs.Common.{◌≡◌, ℕ, ◌<◌, ◌≤◌, ◌⊎◌, inl, inr, ◌&&◌, ◌||◌, Bool, true, false, cond, List, [], ◌∷◌, ◌++◌, refl, sym, ap, arith, ◌∙◌, nat_eq, nat_le}
use Rattle.std.proofs.lemmas.Bool.Decides.{nat_tests}
use Rattle.std.specs.List.{filter_map, cons_option}
use Rattle.std.specs.Option.{option_and_then}
use Rattle.std.specs.declared.option.Option.{Option}
use Rattle.std.specs.declared.option.Option.TheVariants.{Some, None}
use Rattle.rmt_values.specs.declared.checked_mutation.CheckedMutation.{CheckedMutation}
use Rattle.rmt_values.specs.Commands.{applied}
use Rattle.rmt_values.specs.Rows.{Shape}
use Rattle.rmt_names.specs.Names.{rank}
use Rattle.rmt_entries.specs.declared.entry.Entry.{Entry}
use Rattle.rmt_entries.specs.declared.entry.Entry.TheVariants.{Get, Merge, Mutate, Mutation, DropRange}
use Rattle.rmt_model.specs.Words.{Has, Pairwise}
use Rattle.rmt_model.specs.Lawful.{Used, AboveUsed, IsMutation, Lawful}
use Rattle.rmt_model.specs.Laws.{MutatedAt}
use Rattle.rmt_model.specs.Content.{Row, chosen, changed}
use Rattle.rmt_model.proofs.Lists.{Each-at, rank-injective}
use Rattle.rmt_model.proofs.LiveLaws.{Pairwise-cases}

-- an entry's number in a partition, of which there is one at most
one-number : (numbers : List (Option ℕ × ℕ)) (p : Option ℕ) → Pairwise (λ x y. rank x.0 < rank y.0) numbers → ((t : ℕ → Bool) → chosen numbers p t ≡ false) ⊎ ((k : ℕ) × Has numbers (p, k) × ((t : ℕ → Bool) → chosen numbers p t ≡ t k))
one-number [] p r = inl (λ t. refl)
one-number (x ∷ xs) p r = go (nat_eq (rank x.0) (rank p)) refl (one-number xs p r.1)
  where
    none : (ys : List (Option ℕ × ℕ)) → ((y : Option ℕ × ℕ) → Has ys y → rank p < rank y.0) → (t : ℕ → Bool) → chosen ys p t ≡ false
    none [] h t = refl
    none (y ∷ ys) h t =
        let a : nat_eq (rank y.0) (rank p) ≡ false = let l = h y (inl refl) in apart (rank p) (rank y.0) l in
        rw a (none ys (λ z i. h z (inr i)) t)
      where
        apart : (i j : ℕ) → i < j → nat_eq j i ≡ false
        apart i j l = grind (arith, nat_tests)

    only : (b : Bool) → (b || false) ≡ b
    only true = refl
    only false = refl

    go : (b : Bool) → nat_eq (rank x.0) (rank p) ≡ b → ((t : ℕ → Bool) → chosen xs p t ≡ false) ⊎ ((k : ℕ) × Has xs (p, k) × ((t : ℕ → Bool) → chosen xs p t ≡ t k)) → ((t : ℕ → Bool) → ((b && t x.1) || chosen xs p t) ≡ false) ⊎ ((k : ℕ) × Has (x ∷ xs) (p, k) × ((t : ℕ → Bool) → ((b && t x.1) || chosen xs p t) ≡ t k))
    go true e f =
        let q : rank x.0 ≡ rank p = grind (arith, nat_tests) in
        inr (
          x.1,
          inl (ap (λ (o : Option ℕ). (o, x.1)) (rank-injective x.0 p q)),
          λ t. rw (none xs (λ y i. let l = Each-at (λ z. rank x.0 < rank z.0) xs y r.0 i in omega arith) t) (only (t x.1)),
        )
    go false e (inl f) = inl f
    go false e (inr f) = inr (f.0, inr f.1, f.2)

-- one that leaves each row leaves it
pub then-some : (o : Option Row) → option_and_then (λ row. Some row) o ≡ o
then-some None = refl
then-some (Some r) = refl

then-then : (f g : Row → Option Row) (o : Option Row) → option_and_then (λ row. option_and_then f (g row)) o ≡ option_and_then f (option_and_then g o)
then-then f g None = refl
then-then f g (Some r) = refl

then-same : (f g : Row → Option Row) (o : Option Row) → ((r : Row) → f r ≡ g r) → option_and_then f o ≡ option_and_then g o
then-same f g None h = refl
then-same f g (Some r) h = h r

-- tests that agree on the numbers of the log give one change
pub changed-same : (log : List Entry) (p : Option ℕ) (t u : ℕ → Bool) (r : Row) → ((k : ℕ) → MutatedAt log p k → t k ≡ u k) → changed log p t r ≡ changed log p u r
changed-same [] p t u r h = refl
changed-same (Get q n digest source need ∷ log) p t u r h = ap (option_and_then (λ row. Some row)) (changed-same log p t u r (λ k i. h k (inr i)))
changed-same (Merge new sources count ∷ log) p t u r h = ap (option_and_then (λ row. Some row)) (changed-same log p t u r (λ k i. h k (inr i)))
changed-same (Mutate old new upto count mcount ∷ log) p t u r h = ap (option_and_then (λ row. Some row)) (changed-same log p t u r (λ k i. h k (inr i)))
changed-same (DropRange q n ∷ log) p t u r h = ap (option_and_then (λ row. Some row)) (changed-same log p t u r (λ k i. h k (inr i)))
changed-same (Mutation id numbers command ∷ log) p t u r h =
    ap (λ b. option_and_then (λ row. cond b (applied command row) (Some row)) (changed log p t r)) (agree numbers (λ k i. h k (inl i)))
    ∙ ap (option_and_then (λ row. cond (chosen numbers p u) (applied command row) (Some row))) (changed-same log p t u r (λ k i. h k (inr i)))
  where
    agree : (xs : List (Option ℕ × ℕ)) → ((k : ℕ) → Has xs (p, k) → t k ≡ u k) → chosen xs p t ≡ chosen xs p u
    agree [] f = refl
    agree (x ∷ xs) f = go (nat_eq (rank x.0) (rank p)) refl (agree xs (λ k i. f k (inr i)))
      where
        go : (b : Bool) → nat_eq (rank x.0) (rank p) ≡ b → chosen xs p t ≡ chosen xs p u → ((b && t x.1) || chosen xs p t) ≡ ((b && u x.1) || chosen xs p u)
        go false e i = i
        go true e i =
            let q : rank x.0 ≡ rank p = grind (arith, nat_tests) in
            rw (f x.1 (inl (ap (λ (o : Option ℕ). (o, x.1)) (rank-injective x.0 p q))), i) refl

changed-none : (log : List Entry) (p : Option ℕ) (r : Row) → changed log p (λ k. false) r ≡ Some r
changed-none [] p r = refl
changed-none (Get q n digest source need ∷ log) p r = rw (changed-none log p r) refl
changed-none (Merge new sources count ∷ log) p r = rw (changed-none log p r) refl
changed-none (Mutate old new upto count mcount ∷ log) p r = rw (changed-none log p r) refl
changed-none (DropRange q n ∷ log) p r = rw (changed-none log p r) refl
changed-none (Mutation id numbers command ∷ log) p r = rw (changed-none log p r, never numbers) refl
  where
    never : (xs : List (Option ℕ × ℕ)) → chosen xs p (λ k. false) ≡ false
    never [] = refl
    never (x ∷ xs) = rw (never xs) (go (nat_eq (rank x.0) (rank p)))
      where
        go : (b : Bool) → ((b && false) || false) ≡ false
        go true = refl
        go false = refl

pub mutated-used : (log : List Entry) (p : Option ℕ) (k : ℕ) → MutatedAt log p k → Used log p k
mutated-used [] p k h = absurd h
mutated-used (Mutation id numbers command ∷ log) p k (inl h) = inl h
mutated-used (Get q n digest source need ∷ log) p k (inl h) = absurd h
mutated-used (Merge new sources count ∷ log) p k (inl h) = absurd h
mutated-used (Mutate old new upto count mcount ∷ log) p k (inl h) = absurd h
mutated-used (DropRange q n ∷ log) p k (inl h) = absurd h
mutated-used (e ∷ log) p k (inr h) = inr (mutated-used log p k h)

-- how three tests part the numbers at a version: up to it the first is the whole test, past it the second
pub record PartsAt (first second whole : ℕ → Bool) (version k : ℕ) : Type 0 where
  pub low : k ≤ version → (first k ≡ whole k) × (second k ≡ false)
  pub high : version < k → (first k ≡ false) × (second k ≡ whole k)

-- a mutation that has no number that passes is passed over
pub skips : (id : ℕ) (numbers : List (Option ℕ × ℕ)) (command : CheckedMutation) (log : List Entry) (p : Option ℕ) (t : ℕ → Bool) (r : Row) → chosen numbers p t ≡ false → changed (Mutation id numbers command ∷ log) p t r ≡ changed log p t r
skips id numbers command log p t r e =
    ap (λ (b : Bool). option_and_then (λ row. cond b (applied command row) (Some row)) (changed log p t r)) e ∙ then-some (changed log p t r)

-- the mutations up to a version, then those past it, over an entry that is passed over
passed : (f f' : Row → Option Row) (o o' w w' : Option Row) → ((r : Row) → f r ≡ f' r) → o ≡ o' → w ≡ w' → option_and_then f' o' ≡ w' → option_and_then f o ≡ w
passed f f' o o' w w' h e g i = then-same f f' o h ∙ (ap (option_and_then f') e ∙ (i ∙ sym g))

-- the numbers of an entry in p are one
pub alone : (numbers : List (Option ℕ × ℕ)) (p : Option ℕ) (j k : ℕ) → Pairwise (λ x y. rank x.0 < rank y.0) numbers → Has numbers (p, j) → Has numbers (p, k) → j ≡ k
alone numbers p j k r h i = go (Pairwise-cases (λ x y. rank x.0 < rank y.0) numbers (p, j) (p, k) r h i)
  where
    go : ◌≡◌ {A = Option ℕ × ℕ} (p, j) (p, k) ⊎ ((rank p < rank p) ⊎ (rank p < rank p)) → j ≡ k
    go (inl e) = ap (λ (x : Option ℕ × ℕ). x.1) e
    go (inr (inl l)) = absurd (omega arith)
    go (inr (inr l)) = absurd (omega arith)

module _ (schema : Shape) (p : Option ℕ) (first second whole : ℕ → Bool) (version : ℕ) where
  -- where no number is past the version, the first change is all
  all-low : (log : List Entry) → ((k : ℕ) → MutatedAt log p k → PartsAt first second whole version k) → ((k : ℕ) → MutatedAt log p k → k ≤ version) → (r : Row) → option_and_then (changed log p second) (changed log p first r) ≡ changed log p whole r
  all-low log h low r =
      passed (changed log p second) (λ row. Some row) (changed log p first r) (changed log p whole r) (changed log p whole r) (changed log p whole r)
      (λ row. changed-same log p second (λ k. false) row (λ k i. ((h k i).low (low k i)).1) ∙ changed-none log p row)
      (changed-same log p first whole r (λ k i. ((h k i).low (low k i)).0)) refl (then-some (changed log p whole r))

  -- the change by the mutations up to a version, and then by those past it, is the change by all
  pub in-two : (log : List Entry) → Lawful schema log → ((k : ℕ) → MutatedAt log p k → PartsAt first second whole version k) → (r : Row) → option_and_then (changed log p second) (changed log p first r) ≡ changed log p whole r
  in-two [] l h r = refl
  in-two (Get q n digest source need ∷ log) l h r =
      passed (changed (Get q n digest source need ∷ log) p second) (changed log p second) (changed (Get q n digest source need ∷ log) p first r) (changed log p first r) (changed (Get q n digest source need ∷ log) p whole r) (changed log p whole r)
      (λ row. then-some (changed log p second row)) (then-some (changed log p first r)) (then-some (changed log p whole r)) (in-two log l.0 (λ k i. h k (inr i)) r)
  in-two (Merge new sources count ∷ log) l h r =
      passed (changed (Merge new sources count ∷ log) p second) (changed log p second) (changed (Merge new sources count ∷ log) p first r) (changed log p first r) (changed (Merge new sources count ∷ log) p whole r) (changed log p whole r)
      (λ row. then-some (changed log p second row)) (then-some (changed log p first r)) (then-some (changed log p whole r)) (in-two log l.0 (λ k i. h k (inr i)) r)
  in-two (Mutate old new upto count mcount ∷ log) l h r =
      passed (changed (Mutate old new upto count mcount ∷ log) p second) (changed log p second) (changed (Mutate old new upto count mcount ∷ log) p first r) (changed log p first r) (changed (Mutate old new upto count mcount ∷ log) p whole r) (changed log p whole r)
      (λ row. then-some (changed log p second row)) (then-some (changed log p first r)) (then-some (changed log p whole r)) (in-two log l.0 (λ k i. h k (inr i)) r)
  in-two (DropRange q n ∷ log) l h r =
      passed (changed (DropRange q n ∷ log) p second) (changed log p second) (changed (DropRange q n ∷ log) p first r) (changed log p first r) (changed (DropRange q n ∷ log) p whole r) (changed log p whole r)
      (λ row. then-some (changed log p second row)) (then-some (changed log p first r)) (then-some (changed log p whole r)) (in-two log l.0 (λ k i. h k (inr i)) r)
  in-two (Mutation id numbers command ∷ log) l h r = numbered (one-number numbers p (IsMutation.rising l.1)) (in-two log l.0 (λ k i. h k (inr i)) r)
    where
      e : Entry
      e = Mutation id numbers command

      numbered : ((t : ℕ → Bool) → chosen numbers p t ≡ false) ⊎ ((k : ℕ) × Has numbers (p, k) × ((t : ℕ → Bool) → chosen numbers p t ≡ t k)) → option_and_then (changed log p second) (changed log p first r) ≡ changed log p whole r → option_and_then (changed (Mutation id numbers command ∷ log) p second) (changed (Mutation id numbers command ∷ log) p first r) ≡ changed (Mutation id numbers command ∷ log) p whole r
      numbered (inl none) ih =
          passed (changed (Mutation id numbers command ∷ log) p second) (changed log p second) (changed (Mutation id numbers command ∷ log) p first r) (changed log p first r) (changed (Mutation id numbers command ∷ log) p whole r) (changed log p whole r)
          (λ row. skips id numbers command log p second row (none second)) (skips id numbers command log p first r (none first)) (skips id numbers command log p whole r (none whole)) ih
      numbered (inr f) ih = placed (nat_le f.0 version) refl
        where
          older : (j : ℕ) → MutatedAt log p j → j < f.0
          older j i = (Each-at (λ x. (1 ≤ x.1) × AboveUsed log x.0 x.1) numbers (p, f.0) (IsMutation.above l.1) f.1).1 j (mutated-used log p j i)

          placed : (b : Bool) → nat_le f.0 version ≡ b → option_and_then (changed (Mutation id numbers command ∷ log) p second) (changed (Mutation id numbers command ∷ log) p first r) ≡ changed (Mutation id numbers command ∷ log) p whole r
          placed true q =
              let here : f.0 ≤ version = grind (arith, nat_tests) in
              all-low (Mutation id numbers command ∷ log) h (λ j i. elim i [ inl z ↦ (let s = alone numbers p j f.0 (IsMutation.rising l.1) z f.1 in omega (arith, s, here)) | inr z ↦ (let s = older j z in omega (arith, s, here)) ]) r
          placed false q =
              let here : version < f.0 = grind (arith, nat_tests) in
              let parts = (h f.0 (inl f.1)).high here in
              let step : Bool → Row → Option Row = λ b row. cond b (applied command row) (Some row) in
              ap (option_and_then (changed (Mutation id numbers command ∷ log) p second)) (skips id numbers command log p first r (f.2 first ∙ parts.0))
              ∙ (then-then (step (chosen numbers p second)) (changed log p second) (changed log p first r)
              ∙ (ap (option_and_then (step (chosen numbers p second))) ih
              ∙ ap (λ (b : Bool). option_and_then (step b) (changed log p whole r)) (f.2 second ∙ (parts.1 ∙ sym (f.2 whole)))))

pub filter_map-joins : (g : Row → Option Row) (xs ys : List Row) → filter_map g (xs ++ ys) ≡ filter_map g xs ++ filter_map g ys
filter_map-joins g [] ys = refl
filter_map-joins g (x ∷ xs) ys = go (g x) (filter_map-joins g xs ys)
  where
    go : (o : Option Row) → filter_map g (xs ++ ys) ≡ filter_map g xs ++ filter_map g ys → cons_option o (filter_map g (xs ++ ys)) ≡ cons_option o (filter_map g xs) ++ filter_map g ys
    go None e = e
    go (Some r) e = ap (λ zs. r ∷ zs) e

pub filter_map-twice : (g h w : Row → Option Row) → ((r : Row) → option_and_then g (h r) ≡ w r) → (xs : List Row) → filter_map g (filter_map h xs) ≡ filter_map w xs
filter_map-twice g h w e [] = refl
filter_map-twice g h w e (x ∷ xs) = go (h x) (e x) (filter_map-twice g h w e xs)
  where
    go : (o : Option Row) → option_and_then g o ≡ w x → filter_map g (filter_map h xs) ≡ filter_map w xs → filter_map g (cons_option o (filter_map h xs)) ≡ cons_option (w x) (filter_map w xs)
    go None i j = ap (λ (o : Option Row). cons_option o (filter_map g (filter_map h xs))) i ∙ ap (cons_option (w x)) j
    go (Some r) i j = ap (λ (o : Option Row). cons_option o (filter_map g (filter_map h xs))) i ∙ ap (cons_option (w x)) j
