-- Live names by partition: those of one stand side by side; a merge of them all leaves its own name alone, and other partitions as they were.
use Rattle.std.proofs.Common.{◌≡◌, ℕ, ◌<◌, ◌≤◌, ◌⊎◌, inl, inr, Bool, true, false, cond, not, List, [], ◌∷◌, ◌++◌, refl, sym, ap, subst, arith, ◌∙◌, nat_eq, nat_lt, filter}
use Rattle.std.proofs.lemmas.Bool.Decides.{nat_tests}
use Rattle.std.specs.declared.option.Option.{Option}
use Rattle.std.specs.declared.option.Option.TheVariants.{Some, None}
use Rattle.rmt_values.specs.Rows.{Shape}
use Rattle.rmt_names.specs.Names.{Name, rank, Covers, covers, merged_name}
use Rattle.rmt_entries.specs.declared.entry.Entry.{Entry}
use Rattle.rmt_entries.specs.declared.entry.Entry.TheVariants.{Merge}
use Rattle.rmt_model.specs.Words.{Has, Each, Pairwise}
use Rattle.rmt_model.specs.Live.{Before, placed, live}
use Rattle.rmt_model.specs.Lawful.{AreNeighbours, Merges, Lawful}
use Rattle.rmt_model.proofs.Lists.{Each-at, Each-all, Has-filter, Has-kept, Pairwise-filter, rank-injective, Has-inserted}
use Rattle.rmt_model.proofs.LiveLaws.{Tight, tight, Has-placed, placed-new, placed-old, covers-holds, not-kept, merged-covers, source-fits, sources-lined}
use Rattle.rmt_model.proofs.Drained.{same-order}
use Rattle.rmt_statement_model.specs.Optimizes.{live_of, with_partition, partitions_of, partitions_asked}

-- ---- names in order

-- whether a name is of a partition
abbrev is_of : Option ℕ → Name → Bool
is_of p a = nat_eq (rank a.partition) (rank p)

-- a name of the partition is told as one
told : (p : Option ℕ) (a : Name) → a.partition ≡ p → is_of p a ≡ true
told p a e = let q : rank a.partition ≡ rank p = ap rank e in grind (arith, nat_tests)

-- and nothing else is
told-rightly : (p : Option ℕ) (a : Name) → is_of p a ≡ true → a.partition ≡ p
told-rightly p a e = rank-injective a.partition p (grind (arith, nat_tests))

-- a name's partition isn't behind that of a name that it lies before
not-behind : (a b : Name) → Before a b → rank a.partition ≤ rank b.partition
not-behind a b h = grind arith

-- nor behind those of the names after it
none-behind : (a : Name) (names : List Name) (x : Name) → Each (Before a) names → Has names x → rank a.partition ≤ rank x.partition
none-behind a names x s h = not-behind a x (Each-at (Before a) names x s h)

-- none is of a partition that comes before them all
of-none : (p : Option ℕ) (names : List Name) → Each (λ a. rank p < rank a.partition) names → filter (is_of p) names ≡ []
of-none p [] e = refl
of-none p (a ∷ names) e = let l = e.0 in let f : is_of p a ≡ false = grind (arith, nat_tests) in rw f (of-none p names e.1)

-- those of the first partition stand in front
of-front : (p : Option ℕ) (names : List Name) → Pairwise Before names → Each (λ a. rank p ≤ rank a.partition) names → (right : List Name) × (filter (is_of p) names ++ right ≡ names)
of-front p [] s e = ([], refl)
of-front p (a ∷ names) s e = go (is_of p a) refl (of-front p names s.1 e.1)
  where
    go : (b : Bool) → is_of p a ≡ b → (right : List Name) × (filter (is_of p) names ++ right ≡ names) → (right : List Name) × (cond b (a ∷ filter (is_of p) names) (filter (is_of p) names) ++ right ≡ a ∷ names)
    go true q r = (r.0, ap (λ (xs : List Name). a ∷ xs) r.1)
    go false q r =
        let l = e.0 in
        let m : rank p < rank a.partition = grind (arith, nat_tests) in
        let n = Each-all (λ (x : Name). rank p < rank x.partition) names (λ x h. let k = none-behind a names x s.0 h in omega (arith, k, m)) in
        (a ∷ names, ap (λ (xs : List Name). xs ++ a ∷ names) (of-none p names n))

-- those of any partition stand side by side
of-middle : (p : Option ℕ) (names : List Name) → Pairwise Before names → (left : List Name) × (right : List Name) × (left ++ (filter (is_of p) names ++ right) ≡ names)
of-middle p [] s = ([], [], refl)
of-middle p (a ∷ names) s = go (nat_lt (rank a.partition) (rank p)) refl (of-middle p names s.1)
  where
    go : (b : Bool) → nat_lt (rank a.partition) (rank p) ≡ b → (left : List Name) × (right : List Name) × (left ++ (filter (is_of p) names ++ right) ≡ names) → (left : List Name) × (right : List Name) × (left ++ (filter (is_of p) (a ∷ names) ++ right) ≡ a ∷ names)
    go true q r = let f : is_of p a ≡ false = grind (arith, nat_tests) in (a ∷ r.0, r.1, rw f (ap (λ (xs : List Name). a ∷ xs) r.2))
    go false q r =
        let m : rank p ≤ rank a.partition = grind (arith, nat_tests) in
        let f = of-front p (a ∷ names) s (m, Each-all (λ (x : Name). rank p ≤ rank x.partition) names (λ x h. let k = none-behind a names x s.0 h in omega (arith, k, m))) in
        ([], f.0, f.1)

-- ---- the live names of a partition

-- they are neighbours
pub live-neighbours : (schema : Shape) (log : List Entry) (p : Option ℕ) → Lawful schema log → AreNeighbours log (live_of log p)
live-neighbours schema log p l = let r = of-middle p (live log) (Tight.apart (tight schema log l)) in record { left = r.0; right = r.1; among = r.2 }

-- they are of the partition
pub live-alike : (log : List Entry) (p : Option ℕ) → Each (λ a. a.partition ≡ p) (live_of log p)
live-alike log p = Each-all (λ (a : Name). a.partition ≡ p) (live_of log p) (λ a h. told-rightly p a (Has-filter (is_of p) (live log) a h).1)

-- they are in order
live-lined : (schema : Shape) (log : List Entry) (p : Option ℕ) → Lawful schema log → Pairwise Before (live_of log p)
live-lined schema log p l = Pairwise-filter Before (is_of p) (live log) (Tight.apart (tight schema log l))

-- each has a number
live-sized : (schema : Shape) (log : List Entry) (p : Option ℕ) (a : Name) → Lawful schema log → Has (live_of log p) a → a.min ≤ a.max
live-sized schema log p a l h = Tight.sized (tight schema log l) a (Has-filter (is_of p) (live log) a h).0

-- ---- the partitions of names

-- one of them is the one that was put before the others, or one of these
has-partition : (p : Option ℕ) (qs : List (Option ℕ)) (x : Option ℕ) → Has (with_partition p qs) x → (p ≡ x) ⊎ Has qs x
has-partition p [] x h = h
has-partition p (q ∷ qs) x h = go (nat_eq (rank p) (rank q)) h
  where
    go : (b : Bool) → Has (cond b (q ∷ qs) (p ∷ q ∷ qs)) x → (p ≡ x) ⊎ Has (q ∷ qs) x
    go true k = inr k
    go false k = k

-- a partition of names is that of one of them
partition-of : (names : List Name) (p : Option ℕ) → Has (partitions_of names) p → (a : Name) × Has names a × (a.partition ≡ p)
partition-of [] p h = absurd h
partition-of (a ∷ names) p h = elim (has-partition a.partition (partitions_of names) p h) [ inl e ↦ (a, inl refl, e) | inr k ↦ (let r = partition-of names p k in (r.0, inr r.1, r.2)) ]

-- so that it has a live name
pub has-live : (log : List Entry) (p : Option ℕ) → Has (partitions_of (live log)) p → (a : Name) × Has (live_of log p) a
has-live log p h = let r = partition-of (live log) p h in (r.0, Has-kept (is_of p) (live log) r.0 r.1 (told p r.0 r.2))

-- a partition put before others that don't come before it
with-rising : (p : Option ℕ) (qs : List (Option ℕ)) → Pairwise (λ x y. rank x < rank y) qs → Each (λ q. rank p ≤ rank q) qs → Pairwise (λ x y. rank x < rank y) (with_partition p qs)
with-rising p [] s e = (tt, tt)
with-rising p (q ∷ qs) s e = go (nat_eq (rank p) (rank q)) refl
  where
    go : (b : Bool) → nat_eq (rank p) (rank q) ≡ b → Pairwise (λ x y. rank x < rank y) (cond b (q ∷ qs) (p ∷ q ∷ qs))
    go true f = s
    go false f =
        let k = e.0 in
        let l : rank p < rank q = grind (arith, nat_tests) in
        ((l, Each-all (λ (x : Option ℕ). rank p < rank x) qs (λ x h. let m = Each-at (λ (y : Option ℕ). rank q < rank y) qs x s.0 h in omega (arith, l, m))), s)

-- the partitions of names in order rise
partitions-rising : (names : List Name) → Pairwise Before names → Pairwise (λ p q. rank p < rank q) (partitions_of names)
partitions-rising [] s = tt
partitions-rising (a ∷ names) s =
    with-rising a.partition (partitions_of names) (partitions-rising names s.1)
    (Each-all (λ (q : Option ℕ). rank a.partition ≤ rank q) (partitions_of names) (λ q h. let r = partition-of names q h in subst (λ (x : Option ℕ). rank a.partition ≤ rank x) r.2 (none-behind a names r.0 s.0 r.1)))

-- those of the live names do, so that each is there once
pub partitions-once : (schema : Shape) (log : List Entry) → Lawful schema log → Pairwise (λ p q. rank p < rank q) (partitions_of (live log))
partitions-once schema log l = partitions-rising (live log) (Tight.apart (tight schema log l))

-- a partition that is asked for has live names
pub asked-live : (log : List Entry) (asked : Option (Option ℕ)) (p : Option ℕ) → Has (partitions_asked asked log) p → Has (partitions_of (live log)) p
asked-live log None p h = h
asked-live log (Some q) p h = (Has-filter (λ (x : Option ℕ). nat_eq (rank x) (rank q)) (partitions_of (live log)) p h).0

-- ---- a merge

-- the live names of another partition stay
pub others-live : (schema : Shape) (log : List Entry) (name : Name) (sources : List Name) (count : ℕ) (p : Option ℕ) → Lawful schema (Merge name sources count ∷ log) → (name.partition ≡ p → ⊥) → live_of (Merge name sources count ∷ log) p ≡ live_of log p
others-live schema log name sources count p l n =
    same-order (live_of (Merge name sources count ∷ log) p) (live_of log p) (live-lined schema (Merge name sources count ∷ log) p l) (live-lined schema log p l.0) (λ a h. live-sized schema (Merge name sources count ∷ log) p a l h) old new
  where
    old : (a : Name) → Has (live_of (Merge name sources count ∷ log) p) a → Has (live_of log p) a
    old a h =
        let f = Has-filter (is_of p) (placed name (live log)) a h in
        elim (Has-placed name (live log) a f.0) [
          | inl e ↦ absurd (n (ap (λ (x : Name). x.partition) e ∙ told-rightly p a f.1))
          | inr k ↦ Has-kept (is_of p) (live log) a k f.1
        ]

    new : (a : Name) → Has (live_of log p) a → Has (live_of (Merge name sources count ∷ log) p) a
    new a h =
        let f = Has-filter (is_of p) (live log) a h in
        elim (placed-old name (live log) a f.0) [
          | inl c ↦ absurd (n (Covers.partition c ∙ told-rightly p a f.1))
          | inr k ↦ Has-kept (is_of p) (placed name (live log)) a k f.1
        ]

-- a merge of all live names of a partition leaves its own
pub only-live : (schema : Shape) (log : List Entry) (p : Option ℕ) (name first second : Name) (rest : List Name) (count : ℕ) → live_of log p ≡ first ∷ second ∷ rest → Lawful schema (Merge name (first ∷ second ∷ rest) count ∷ log) → live_of (Merge name (first ∷ second ∷ rest) count ∷ log) p ≡ name ∷ []
only-live schema log p name first second rest count all l =
    same-order (live_of (Merge name (first ∷ second ∷ rest) count ∷ log) p) (name ∷ []) (live-lined schema (Merge name (first ∷ second ∷ rest) count ∷ log) p l) (tt, tt) (λ a h. live-sized schema (Merge name (first ∷ second ∷ rest) count ∷ log) p a l h) alone there
  where
    t : Tight log
    t = tight schema log l.0

    m : Merges log first second rest name count
    m = l.1

    taken : (a : Name) → Has (first ∷ second ∷ rest) a → covers name a ≡ true
    taken a h = subst (λ (x : Name). covers x a ≡ true) (sym m.name) (covers-holds (merged_name first (second ∷ rest)) a (merged-covers first (second ∷ rest) a (sources-lined log t first second rest name count m) (source-fits log t first second rest name count m) h))

    alone : (a : Name) → Has (live_of (Merge name (first ∷ second ∷ rest) count ∷ log) p) a → Has (name ∷ []) a
    alone a h =
        let f = Has-filter (is_of p) (placed name (live log)) a h in
        elim (Has-inserted name (filter (λ x. not (covers name x)) (live log)) a f.0) [
          | inl e ↦ inl e
          | inr k ↦ (let g = Has-filter (λ x. not (covers name x)) (live log) a k in absurd (not-kept (covers name a) (taken a (subst (λ (xs : List Name). Has xs a) all (Has-kept (is_of p) (live log) a g.0 f.1))) g.1))
        ]

    of-p : first.partition ≡ p
    of-p = Each-at (λ (a : Name). a.partition ≡ p) (live_of log p) first (live-alike log p) (subst (λ (xs : List Name). Has xs first) (sym all) (inl refl))

    there : (a : Name) → Has (name ∷ []) a → Has (live_of (Merge name (first ∷ second ∷ rest) count ∷ log) p) a
    there a (inl e) = subst (λ (x : Name). Has (live_of (Merge name (first ∷ second ∷ rest) count ∷ log) p) x) e (Has-kept (is_of p) (placed name (live log)) name (placed-new name (live log)) (told p name (ap (λ (x : Name). x.partition) m.name ∙ of-p)))
    there a (inr h) = absurd h
