-- The number of a mutation in a partition, and how numbers rise along a lawful log.
use Rattle.std.proofs.Common.{◌≡◌, ℕ, ◌<◌, ◌≤◌, inl, inr, ◌&&◌, ◌||◌, Bool, true, false, cond, not, max, List, [], ◌∷◌, refl, sym, ap, subst, arith, ◌∙◌, nat_eq, nat_lt, nat_le}
use Rattle.std.proofs.lemmas.Bool.Decides.{nat_tests}
use Rattle.std.proofs.lemmas.Option.{slice_get_cases, slice_get_within}
use Rattle.std.specs.Prelude.{slice_get}
use Rattle.std.specs.Option.{option_eq}
use Rattle.std.specs.List.{prefix_len}
use Rattle.std.specs.declared.option.Option.{Option}
use Rattle.std.specs.declared.option.Option.TheVariants.{Some, None}
use Rattle.rmt_values.specs.Rows.{Shape}
use Rattle.rmt_names.specs.Names.{Name, rank, data_version}
use Rattle.rmt_entries.specs.declared.entry.Entry.{Entry}
use Rattle.rmt_entries.specs.declared.entry.Entry.TheVariants.{Get, Merge, Mutate, Mutation, DropRange}
use Rattle.rmt_model.specs.Words.{Has, Each}
use Rattle.rmt_model.specs.Lawful.{Uses, Used, AboveUsed, version_among, version_at, entry_at, IsMutationWith, is_mutation, IsMutation, Meets, Lawful}
use Rattle.rmt_model.specs.Content.{chosen}
use Rattle.rmt_model.proofs.Lists.{Each-at, Each-all, rank-injective}
use Rattle.rmt_model.proofs.Drops.{some-same, entry-below, entry-cases}
use Rattle.rmt_nameset.proofs.Ranges.{Downward}
use Rattle.rmt_history.proofs.ListLemmas.{get-has, has-get, passes-below, fails-above, Pairwise-at}
use Rattle.rmt_history.specs.Mutations.{number_among, number_in, AreInOrder, HasOrder}
use Rattle.rmt_model.specs.Choices.{is_pending}

-- ---- pairs

pub number-has : (pairs : List (Option ℕ × ℕ)) (p : Option ℕ) (n : ℕ) → number_among pairs p ≡ Some n → Has pairs (p, n)
number-has [] p n e = absurd (cc)
number-has (x ∷ xs) p n e = go (nat_eq (rank x.0) (rank p)) refl e (number-has xs p n)
  where
    go : (b : Bool) → nat_eq (rank x.0) (rank p) ≡ b → cond b (Some x.1) (number_among xs p) ≡ Some n → (number_among xs p ≡ Some n → Has xs (p, n)) → Has (x ∷ xs) (p, n)
    go true q k f =
        let r : rank x.0 ≡ rank p = grind (arith, nat_tests) in
        inl (ap (λ (o : Option ℕ). (o, x.1)) (rank-injective x.0 p r) ∙ ap (λ (m : ℕ). (p, m)) (some-same x.1 n k))
    go false q k f = inr (f k)

pub number-only : (pairs : List (Option ℕ × ℕ)) (p : Option ℕ) (n : ℕ) → AreInOrder pairs → Has pairs (p, n) → number_among pairs p ≡ Some n
number-only [] p n r h = absurd h
number-only (x ∷ xs) p n r (inl e) =
    let q : rank x.0 ≡ rank p = ap (λ (v : Option ℕ × ℕ). rank v.0) e in
    let t : nat_eq (rank x.0) (rank p) ≡ true = grind (arith, nat_tests) in
    ap (λ (b : Bool). cond b (Some x.1) (number_among xs p)) t ∙ ap (λ (v : Option ℕ × ℕ). Some v.1) e
number-only (x ∷ xs) p n r (inr h) =
    let q : rank x.0 < rank p = Each-at (λ (y : Option ℕ × ℕ). rank x.0 < rank y.0) xs (p, n) r.0 h in
    let t : nat_eq (rank x.0) (rank p) ≡ false = grind (arith, nat_tests) in
    ap (λ (b : Bool). cond b (Some x.1) (number_among xs p)) t ∙ number-only xs p n r.1 h

-- a partition below all that follow isn't among them
number-past : (xs : List (Option ℕ × ℕ)) (p : Option ℕ) → Each (λ y. rank p < rank y.0) xs → number_among xs p ≡ None
number-past [] p e = refl
number-past (x ∷ xs) p e =
    let q = e.0 in
    let t : nat_eq (rank x.0) (rank p) ≡ false = grind (arith, nat_tests) in
    ap (λ (b : Bool). cond b (Some x.1) (number_among xs p)) t ∙ number-past xs p e.1

first-past : (x : Option ℕ × ℕ) (xs : List (Option ℕ × ℕ)) (p : Option ℕ) → AreInOrder (x ∷ xs) → nat_eq (rank x.0) (rank p) ≡ true → number_among xs p ≡ None
first-past x xs p r t =
    let q : rank x.0 ≡ rank p = grind (arith, nat_tests) in
    number-past xs p (subst (λ n. Each (λ (y : Option ℕ × ℕ). n < rank y.0) xs) q r.0)

-- whether there is a number that passes
abbrev pub passes : (ℕ → Bool) → Option ℕ → Bool
passes test None = false
passes test (Some n) = test n

-- the number where it is at most the limit, else 0
abbrev pub at_most : ℕ → Option ℕ → ℕ
at_most limit None = 0
at_most limit (Some n) = cond (nat_le n limit) n 0

pub chosen-number : (pairs : List (Option ℕ × ℕ)) (p : Option ℕ) (test : ℕ → Bool) → AreInOrder pairs → chosen pairs p test ≡ passes test (number_among pairs p)
chosen-number [] p test r = refl
chosen-number (x ∷ xs) p test r = go (nat_eq (rank x.0) (rank p)) refl (chosen-number xs p test r.1)
  where
    alone : (b c : Bool) → c ≡ false → b || c ≡ b
    alone true c e = refl
    alone false c e = e

    go : (b : Bool) → nat_eq (rank x.0) (rank p) ≡ b → chosen xs p test ≡ passes test (number_among xs p) → (b && test x.1) || chosen xs p test ≡ passes test (cond b (Some x.1) (number_among xs p))
    go true q k = alone (test x.1) (chosen xs p test) (k ∙ ap (passes test) (first-past x xs p r q))
    go false q k = k

among-number : (pairs : List (Option ℕ × ℕ)) (p : Option ℕ) (limit : ℕ) → AreInOrder pairs → version_among pairs p limit ≡ at_most limit (number_among pairs p)
among-number [] p limit r = refl
among-number (x ∷ xs) p limit r = go (nat_eq (rank x.0) (rank p)) refl (among-number xs p limit r.1)
  where
    go : (b : Bool) → nat_eq (rank x.0) (rank p) ≡ b → version_among xs p limit ≡ at_most limit (number_among xs p) → max (cond (b && nat_le x.1 limit) x.1 0) (version_among xs p limit) ≡ at_most limit (cond b (Some x.1) (number_among xs p))
    go true q k = let z = k ∙ ap (at_most limit) (first-past x xs p r q) in omega (arith, z)
    go false q k = omega (arith, k)

-- ---- the place of a partition

-- the test of equal partitions
pub option-same : (p q : Option ℕ) (b : Bool) → b ≡ not (option_eq nat_eq p q) → b ≡ false → p ≡ q
option-same None None b e f = refl
option-same None (Some n) b e f = absurd (cc)
option-same (Some m) None b e f = absurd (cc)
option-same (Some m) (Some n) b e f = ap Some (same (nat_eq m n) refl (sym e ∙ f))
  where
    same : (t : Bool) → nat_eq m n ≡ t → not t ≡ false → m ≡ n
    same true q k = grind (arith, nat_tests)
    same false q k = absurd (cc)

pub option-differs : (p q : Option ℕ) (b : Bool) → b ≡ not (option_eq nat_eq p q) → b ≡ true → p ≡ q → ⊥
option-differs None None b e f s = absurd (cc)
option-differs None (Some n) b e f s = absurd (cc)
option-differs (Some m) None b e f s = absurd (cc)
option-differs (Some m) (Some n) b e f s = differ (nat_eq m n) refl (sym e ∙ f) (some-same m n s)
  where
    differ : (t : Bool) → nat_eq m n ≡ t → not t ≡ true → m ≡ n → ⊥
    differ true q k s = absurd (cc)
    differ false q k s = absurd (grind (arith, nat_tests))

abbrev pub is_early : Option ℕ → Option ℕ × ℕ → Bool
is_early p x = nat_lt (rank x.0) (rank p)

pub early-down : (p : Option ℕ) (pairs : List (Option ℕ × ℕ)) → AreInOrder pairs → Downward (is_early p) pairs
early-down p [] r = tt
early-down p (x ∷ xs) r = (Each-all (λ y. is_early p y ≡ true → is_early p x ≡ true) xs (λ y h e. low (rank y.0) (Each-at (λ (z : Option ℕ × ℕ). rank x.0 < rank z.0) xs y r.0 h) e), early-down p xs r.1)
  where
    low : (n : ℕ) → rank x.0 < n → nat_lt n (rank p) ≡ true → nat_lt (rank x.0) (rank p) ≡ true
    low n l e = grind (arith, nat_tests)

-- a number that is at a place is the partition's
pub number-found : (pairs : List (Option ℕ × ℕ)) (p : Option ℕ) (i : ℕ) (x : Option ℕ × ℕ) → AreInOrder pairs → slice_get pairs i ≡ Some x → x.0 ≡ p → number_among pairs p ≡ Some x.1
number-found pairs p i x r e q = number-only pairs p x.1 r (subst (λ (o : Option ℕ). Has pairs (o, x.1)) q (get-has pairs i x e))

-- where the place doesn't have the partition, it isn't there
pub number-nowhere : (pairs : List (Option ℕ × ℕ)) (p : Option ℕ) (i : ℕ) → AreInOrder pairs → i ≡ prefix_len (is_early p) pairs → ((x : Option ℕ × ℕ) → slice_get pairs i ≡ Some x → x.0 ≡ p → ⊥) → number_among pairs p ≡ None
number-nowhere pairs p i r n f = go (number_among pairs p) refl
  where
    deny : (m j : ℕ) → slice_get pairs j ≡ Some (p, m) → (b : Bool) → nat_eq i j ≡ b → ⊥
    deny m j e true q = let s : i ≡ j = grind (arith, nat_tests) in f (p, m) (ap (slice_get pairs) s ∙ e) refl
    deny m j e false q =
        let t : is_early p (p, m) ≡ false = grind (arith, nat_tests) in
        let a = fails-above (is_early p) pairs j (p, m) e t in
        let l : i < j = grind (arith, nat_tests) in
        let w = slice_get_within pairs j (p, m) e in
        elim (slice_get_cases pairs i).1 [
          | inl s ↦ past s.0 s.2 l
          | inr s ↦ let u = s.0 in omega (arith, u, l, w)
        ]
      where
        past : (x : Option ℕ × ℕ) → slice_get pairs i ≡ Some x → i < j → ⊥
        past x s l =
            let u = Pairwise-at (λ y z. rank y.0 < rank z.0) pairs i j x (p, m) r s e l in
            let t : is_early p x ≡ true = grind (arith, nat_tests) in
            let v = passes-below (is_early p) pairs i x (early-down p pairs r) s t in
            omega (arith, v, n)

    go : (o : Option ℕ) → number_among pairs p ≡ o → o ≡ None
    go None e = refl
    go (Some m) e = let h = has-get pairs (p, m) (number-has pairs p m e) in absurd (deny m h.0 h.1 (nat_eq i h.0) refl)

-- ---- entries

pub pending-number : (a : Name) (e : Entry) → HasOrder e → is_pending a e ≡ passes (λ k. nat_lt (data_version a) k) (number_in e a.partition)
pending-number a (Mutation id numbers command) r = chosen-number numbers a.partition (λ k. nat_lt (data_version a) k) r
pending-number a (Get q n digest source need) r = refl
pending-number a (Merge new sources count) r = refl
pending-number a (Mutate old new upto count mcount) r = refl
pending-number a (DropRange q n) r = refl

pub version-number : (e : Entry) (p : Option ℕ) (limit : ℕ) → HasOrder e → version_at e p limit ≡ at_most limit (number_in e p)
version-number (Mutation id numbers command) p limit r = among-number numbers p limit r
version-number (Get q n digest source need) p limit r = refl
version-number (Merge new sources count) p limit r = refl
version-number (Mutate old new upto count mcount) p limit r = refl
version-number (DropRange q n) p limit r = refl

pub pending-mutation : (a : Name) (e : Entry) → is_pending a e ≡ true → is_mutation e ≡ true
pending-mutation a (Mutation id numbers command) t = refl
pending-mutation a (Get q n digest source need) t = t
pending-mutation a (Merge new sources count) t = t
pending-mutation a (Mutate old new upto count mcount) t = t
pending-mutation a (DropRange q n) t = t

pub in-with : (e : Entry) (p : Option ℕ) (n : ℕ) → number_in e p ≡ Some n → IsMutationWith (Some e) p n
in-with (Mutation id numbers command) p n k = number-has numbers p n k
in-with (Get q m digest source need) p n k = absurd (cc)
in-with (Merge new sources count) p n k = absurd (cc)
in-with (Mutate old new upto count mcount) p n k = absurd (cc)
in-with (DropRange q m) p n k = absurd (cc)

pub with-in : (e : Entry) (p : Option ℕ) (n : ℕ) → HasOrder e → IsMutationWith (Some e) p n → number_in e p ≡ Some n
with-in (Mutation id numbers command) p n r k = number-only numbers p n r k
with-in (Get q m digest source need) p n r k = absurd k
with-in (Merge new sources count) p n r k = absurd k
with-in (Mutate old new upto count mcount) p n r k = absurd k
with-in (DropRange q m) p n r k = absurd k

-- ---- along a log

with-uses : (e : Entry) (p : Option ℕ) (n : ℕ) → IsMutationWith (Some e) p n → Uses e p n
with-uses (Mutation id numbers command) p n k = k
with-uses (Get q m digest source need) p n k = absurd k
with-uses (Merge new sources count) p n k = absurd k
with-uses (Mutate old new upto count mcount) p n k = absurd k
with-uses (DropRange q m) p n k = absurd k

used-by : (log : List Entry) (i : ℕ) (x : Entry) (p : Option ℕ) (n : ℕ) → entry_at log i ≡ Some x → IsMutationWith (Some x) p n → Used log p n
used-by [] i x p n e k = absurd (cc)
used-by (y ∷ log) i x p n e k = elim (entry-cases y log i x e) [
  | inl s ↦ inl (subst (λ (z : Entry). Uses z p n) (sym s.1) (with-uses x p n k))
  | inr s ↦ inr (used-by log i x p n s k)
]

-- the entry takes a greater number of the partition
pub record TakesAbove (e : Entry) (p : Option ℕ) (n : ℕ) : Type 0 where
  pub number : ℕ
  pub taken : IsMutationWith (Some e) p number
  pub above : n < number

newest-above : (schema : Shape) (log : List Entry) (e : Entry) (p : Option ℕ) (n : ℕ) → Meets schema log e → is_mutation e ≡ true → Used log p n → TakesAbove e p n
newest-above schema log (Mutation id numbers command) p n m t u =
    let f = IsMutation.everywhere m p n u in
    let g = Each-at (λ (x : Option ℕ × ℕ). (1 ≤ x.1) × AboveUsed log x.0 x.1) numbers (p, f.0) (IsMutation.above m) f.1 in
    record { number = f.0; taken = f.1; above = g.1 n u }
newest-above schema log (Get q k digest source need) p n m t u = absurd (cc)
newest-above schema log (Merge new sources count) p n m t u = absurd (cc)
newest-above schema log (Mutate old new upto count mcount) p n m t u = absurd (cc)
newest-above schema log (DropRange q k) p n m t u = absurd (cc)

-- a later mutation takes a greater number of each partition
pub later-above : (schema : Shape) (log : List Entry) (i j : ℕ) (x y : Entry) (p : Option ℕ) (n : ℕ) → Lawful schema log → entry_at log i ≡ Some x → entry_at log j ≡ Some y → i < j → is_mutation y ≡ true → IsMutationWith (Some x) p n → TakesAbove y p n
later-above schema [] i j x y p n l e f h t k = absurd (cc)
later-above schema (z ∷ log) i j x y p n l e f h t k = elim (entry-cases z log j y f) [
  | inl s ↦ elim (entry-cases z log i x e) [
    | inl r ↦ let u = s.0 in let v = r.0 in absurd (omega (arith, u, v, h))
    | inr r ↦ newest-above schema log y p n (subst (Meets schema log) s.1 l.1) t (used-by log i x p n r k)
  ]
  | inr s ↦ elim (entry-cases z log i x e) [
    | inl r ↦ let u = entry-below log j y s in let v = r.0 in absurd (omega (arith, u, v, h))
    | inr r ↦ later-above schema log i j x y p n l.0 r s h t k
  ]
]

newest-order : (schema : Shape) (log : List Entry) (e : Entry) → Meets schema log e → HasOrder e
newest-order schema log (Mutation id numbers command) m = IsMutation.rising m
newest-order schema log (Get q k digest source need) m = tt
newest-order schema log (Merge new sources count) m = tt
newest-order schema log (Mutate old new upto count mcount) m = tt
newest-order schema log (DropRange q k) m = tt

-- each mutation of a lawful log has its pairs in order
pub log-order : (schema : Shape) (log : List Entry) (i : ℕ) (x : Entry) → Lawful schema log → entry_at log i ≡ Some x → HasOrder x
log-order schema [] i x l e = absurd (cc)
log-order schema (z ∷ log) i x l e = elim (entry-cases z log i x e) [
  | inl s ↦ newest-order schema log x (subst (Meets schema log) s.1 l.1)
  | inr s ↦ log-order schema log i x l.0 s
]

-- where a mutation is pending for a part, each later one is
pub pending-later : (schema : Shape) (log : List Entry) (i j : ℕ) (x y : Entry) (a : Name) → Lawful schema log → entry_at log i ≡ Some x → entry_at log j ≡ Some y → i < j → is_mutation y ≡ true → is_pending a x ≡ true → is_pending a y ≡ true
pending-later schema log i j x y a l e f h t k = go (number_in x a.partition) refl (sym (pending-number a x (log-order schema log i x l e)) ∙ k)
  where
    go : (o : Option ℕ) → number_in x a.partition ≡ o → passes (λ k. nat_lt (data_version a) k) o ≡ true → is_pending a y ≡ true
    go None q r = absurd (cc)
    go (Some n) q r =
        let v = later-above schema log i j x y a.partition n l e f h t (in-with x a.partition n q) in
        let d : data_version a < n = grind (arith, nat_tests) in
        let w = v.above in
        let u : nat_lt (data_version a) v.number ≡ true = grind (arith, nat_tests) in
        pending-number a y (log-order schema log j y l f)
        ∙ (ap (passes (λ k. nat_lt (data_version a) k)) (with-in y a.partition v.number (log-order schema log j y l f) v.taken) ∙ u)
