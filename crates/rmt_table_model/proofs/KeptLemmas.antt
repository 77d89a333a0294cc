-- What is so of the kept blocks after each entry.
use Rattle.std.proofs.Common.{◌≡◌, ℕ, zero, suc, ◌+◌, ◌<◌, ◌≤◌, inl, inr, ◌&&◌, Bool, true, false, cond, not, List, [], ◌∷◌, ◌++◌, length, map, take, filter, refl, sym, ap, subst, arith, ◌∙◌, nat_eq, nat_lt}
use Rattle.std.proofs.lemmas.Bool.Decides.{nat_tests}
use Rattle.std.proofs.lemmas.List.Sums.{sum_by-cons}
use Rattle.std.proofs.lemmas.Slice.Eq.{bytes_eq-Decides}
use Rattle.std.specs.Str.{bytes_eq}
use Rattle.std.specs.declared.option.Option.{Option}
use Rattle.std.specs.declared.option.Option.TheVariants.{Some, None}
use Rattle.rmt_names.specs.Names.{Name, rank, block_name}
use Rattle.rmt_entries.specs.declared.entry.Entry.{Entry}
use Rattle.rmt_entries.specs.declared.entry.Entry.TheVariants.{Get, Merge, Mutate, Mutation, DropRange}
use Rattle.rmt_model.specs.Words.{Has, Each, Pairwise}
use Rattle.rmt_model.specs.Window.{Kept, kept}
use Rattle.rmt_model.proofs.Lists.{Each-at, Each-all, Has-filter, Pairwise-filter, rank-injective}
use Rattle.rmt_block.specs.Blocks.{IsId}
use Rattle.rmt_table_model.specs.Kept.{is_get, get_count, Placed, outlives, in_order, has_id, with_id, with_number, Differ, IsIdZnode, AreKept}

-- a block at its number in the order
abbrev pub placed : ℕ → List ℕ → Name → Placed
placed number digest part = record { number = number; kept = record { digest = digest; part = part } }

pub gets-next : (e : Entry) (log : List Entry) → get_count (e ∷ log) ≡ cond (is_get e) 1 0 + get_count log
gets-next e log = sum_by-cons (λ x. cond (is_get x) 1 0) e log

Each-take : {A : Type 0} (P : A → Type 0) (w : ℕ) (xs : List A) → Each P xs → Each P (take w xs)
Each-take P zero xs h = tt
Each-take P (suc w) [] h = tt
Each-take P (suc w) (x ∷ xs) h = (h.0, Each-take P w xs h.1)

Pairwise-take : {A : Type 0} (R : A → A → Type 0) (w : ℕ) (xs : List A) → Pairwise R xs → Pairwise R (take w xs)
Pairwise-take R zero xs h = tt
Pairwise-take R (suc w) [] h = tt
Pairwise-take R (suc w) (x ∷ xs) h = (Each-take (R x) w xs h.0, Pairwise-take R w xs h.1)

Each-filter : {A : Type 0} (P : A → Type 0) (test : A → Bool) (xs : List A) → Each P xs → Each P (filter test xs)
Each-filter P test xs h = Each-all P (filter test xs) (λ x m. Each-at P xs x h (Has-filter test xs x m).0)

map-take : (f : Placed → Kept) (w : ℕ) (xs : List Placed) → map f (take w xs) ≡ take w (map f xs)
map-take f zero xs = refl
map-take f (suc w) [] = refl
map-take f (suc w) (x ∷ xs) = ap (λ (ys : List Kept). f x ∷ ys) (map-take f w xs)

map-filter : (p : Option ℕ) (n : ℕ) (xs : List Placed) → map (λ k. k.kept) (filter (outlives p n) xs) ≡ filter (λ k. not (nat_eq (rank k.part.partition) (rank p) && nat_lt k.part.min n)) (map (λ k. k.kept) xs)
map-filter p n [] = refl
map-filter p n (x ∷ xs) = go (outlives p n x) (map-filter p n xs)
  where
    go : (b : Bool) → map (λ k. k.kept) (filter (outlives p n) xs) ≡ filter (λ k. not (nat_eq (rank k.part.partition) (rank p) && nat_lt k.part.min n)) (map (λ k. k.kept) xs)
        → map (λ k. k.kept) (cond b (x ∷ filter (outlives p n) xs) (filter (outlives p n) xs)) ≡ cond b (x.kept ∷ filter (λ k. not (nat_eq (rank k.part.partition) (rank p) && nat_lt k.part.min n)) (map (λ k. k.kept) xs)) (filter (λ k. not (nat_eq (rank k.part.partition) (rank p) && nat_lt k.part.min n)) (map (λ k. k.kept) xs))
    go true e = ap (λ (ys : List Kept). x.kept ∷ ys) e
    go false e = e

-- without their numbers they are the log's window
pub in_order-kept : (w : ℕ) (log : List Entry) → map (λ k. k.kept) (in_order w log) ≡ kept w log
in_order-kept w [] = refl
in_order-kept w (Get p n digest source need ∷ log) =
    map-take (λ k. k.kept) w (record { number = get_count log; kept = record { digest = digest; part = block_name p n } } ∷ in_order w log)
    ∙ ap (λ (ks : List Kept). take w (record { digest = digest; part = block_name p n } ∷ ks)) (in_order-kept w log)
in_order-kept w (Merge new sources count ∷ log) = in_order-kept w log
in_order-kept w (Mutate old new upto count mcount ∷ log) = in_order-kept w log
in_order-kept w (Mutation id numbers command ∷ log) = in_order-kept w log
in_order-kept w (DropRange p n ∷ log) =
    map-filter p n (in_order w log) ∙ ap (filter (λ k. not (nat_eq (rank k.part.partition) (rank p) && nat_lt k.part.min n))) (in_order-kept w log)

-- at most w
length-take : {A : Type 0} (w : ℕ) (xs : List A) → length (take w xs) ≤ w
length-take zero xs = omega arith
length-take (suc w) [] = omega arith
length-take (suc w) (x ∷ xs) = let r = length-take w xs in omega (arith, r)

length-filter : {A : Type 0} (test : A → Bool) (xs : List A) → length (filter test xs) ≤ length xs
length-filter test [] = omega arith
length-filter test (x ∷ xs) = go (test x) (length-filter test xs)
  where
    go : (b : Bool) → length (filter test xs) ≤ length xs → length (cond b (x ∷ filter test xs) (filter test xs)) ≤ length (x ∷ xs)
    go true h = omega (arith, h)
    go false h = omega (arith, h)

pub in_order-most : (w : ℕ) (log : List Entry) → length (in_order w log) ≤ w
in_order-most w [] = omega arith
in_order-most w (Get p n digest source need ∷ log) = length-take w (record { number = get_count log; kept = record { digest = digest; part = block_name p n } } ∷ in_order w log)
in_order-most w (Merge new sources count ∷ log) = in_order-most w log
in_order-most w (Mutate old new upto count mcount ∷ log) = in_order-most w log
in_order-most w (Mutation id numbers command ∷ log) = in_order-most w log
in_order-most w (DropRange p n ∷ log) = let r = in_order-most w log in let s = length-filter (outlives p n) (in_order w log) in omega (arith, r, s)

-- an id that isn't found is none of theirs
pub no-id : (p : Option ℕ) (digest : List ℕ) (ks : List Placed) → with_id p digest ks ≡ None → Each (λ k. has_id p digest k ≡ false) ks
no-id p digest [] e = tt
no-id p digest (k ∷ ks) e = go (has_id p digest k) refl e (no-id p digest ks)
  where
    go : (b : Bool) → has_id p digest k ≡ b → cond b (Some k) (with_id p digest ks) ≡ None → (with_id p digest ks ≡ None → Each (λ k. has_id p digest k ≡ false) ks) → (has_id p digest k ≡ false) × Each (λ k. has_id p digest k ≡ false) ks
    go true h e f = absurd (cc)
    go false h e f = (h, f e)

-- the ids of two blocks are told apart both ways
turned : (p q : Option ℕ) (d e : List ℕ) → (nat_eq (rank p) (rank q) && bytes_eq d e) ≡ false → (nat_eq (rank q) (rank p) && bytes_eq e d) ≡ false
turned p q d e h = go (nat_eq (rank q) (rank p)) refl (bytes_eq e d) refl
  where
    go : (b : Bool) → nat_eq (rank q) (rank p) ≡ b → (c : Bool) → bytes_eq e d ≡ c → (b && c) ≡ false
    go true i true j =
        let u : nat_eq (rank p) (rank q) ≡ true = grind (arith, nat_tests) in
        let v : bytes_eq d e ≡ true = (bytes_eq-Decides d e).1 (sym ((bytes_eq-Decides e d).0 j)) in
        let w : (nat_eq (rank p) (rank q) && bytes_eq d e) ≡ true = ap (λ (b : Bool). b && bytes_eq d e) u ∙ v in
        absurd (let z : true ≡ false = sym w ∙ h in cc)
    go true i false j = refl
    go false i c j = refl

-- a new block with an id that isn't kept differs from those that are
pub new-differs : (c : ℕ) (part : Name) (digest : List ℕ) (ks : List Placed) → Each (λ k. k.number < c) ks → with_id part.partition digest ks ≡ None → Each (Differ (placed c digest part)) ks
new-differs c part digest ks below none = Each-all (Differ (placed c digest part)) ks (λ k h. record {
  number = Each-at (λ j. j.number < c) ks k below h;
  id = turned part.partition k.kept.part.partition digest k.kept.digest (Each-at (λ j. has_id part.partition digest j ≡ false) ks k (no-id part.partition digest ks none) h);
})

-- one more block, with an id that isn't kept
pub kept-get : (w : ℕ) (log : List Entry) (p : Option ℕ) (n : ℕ) (digest : List ℕ) (source need : ℕ) → AreKept w log → IsId (record { partition = p; digest = digest }) → with_id p digest (in_order w log) ≡ None → AreKept w (Get p n digest source need ∷ log)
kept-get w log p n digest source need a id none = record {
  differ = Pairwise-take Differ w (new ∷ in_order w log) (
    Each-all (Differ new) (in_order w log) (λ k h. record {
      number = Each-at (λ j. j.number < get_count log) (in_order w log) k a.below h;
      id = turned p k.kept.part.partition digest k.kept.digest (Each-at (λ j. has_id p digest j ≡ false) (in_order w log) k (no-id p digest (in_order w log) none) h);
    }),
    a.differ,
  );
  below = Each-take (λ k. k.number < get_count (Get p n digest source need ∷ log)) w (new ∷ in_order w log) (
    (let c = gets-next (Get p n digest source need) log in omega (arith, c)),
    Each-all (λ k. k.number < get_count (Get p n digest source need ∷ log)) (in_order w log) (λ k h. let u = Each-at (λ j. j.number < get_count log) (in_order w log) k a.below h in let c = gets-next (Get p n digest source need) log in omega (arith, u, c)),
  );
  ids = Each-take IsIdZnode w (new ∷ in_order w log) (id, a.ids);
}
  where
    new : Placed
    new = record { number = get_count log; kept = record { digest = digest; part = block_name p n } }

-- an entry that is no block and no drop
pub kept-stays : (w : ℕ) (e : Entry) (log : List Entry) → is_get e ≡ false → in_order w (e ∷ log) ≡ in_order w log → AreKept w log → AreKept w (e ∷ log)
kept-stays w e log g s a = record {
  differ = subst (Pairwise Differ) (sym s) a.differ;
  below = subst (Each (λ k. k.number < get_count (e ∷ log))) (sym s) (Each-all (λ k. k.number < get_count (e ∷ log)) (in_order w log) (λ k h. let u = Each-at (λ j. j.number < get_count log) (in_order w log) k a.below h in let c = gets-next e log ∙ ap (λ (b : Bool). cond b 1 0 + get_count log) g in omega (arith, u, c)));
  ids = subst (Each IsIdZnode) (sym s) a.ids;
}

-- a drop
pub kept-drop : (w : ℕ) (p : Option ℕ) (n : ℕ) (log : List Entry) → AreKept w log → AreKept w (DropRange p n ∷ log)
kept-drop w p n log a = record {
  differ = Pairwise-filter Differ (outlives p n) (in_order w log) a.differ;
  below = Each-filter (λ k. k.number < get_count (DropRange p n ∷ log)) (outlives p n) (in_order w log)
      (Each-all (λ k. k.number < get_count (DropRange p n ∷ log)) (in_order w log) (λ k h. let u = Each-at (λ j. j.number < get_count log) (in_order w log) k a.below h in let c = gets-next (DropRange p n) log in omega (arith, u, c)));
  ids = Each-filter IsIdZnode (outlives p n) (in_order w log) a.ids;
}

-- ---- what is found among kept blocks

id-true : (p : Option ℕ) (digest : List ℕ) (k : Placed) → has_id p digest k ≡ true → (p ≡ k.kept.part.partition) × (digest ≡ k.kept.digest)
id-true p digest k h = go (nat_eq (rank p) (rank k.kept.part.partition)) refl (bytes_eq digest k.kept.digest) refl h
  where
    go : (b : Bool) → nat_eq (rank p) (rank k.kept.part.partition) ≡ b → (c : Bool) → bytes_eq digest k.kept.digest ≡ c → (b && c) ≡ true → (p ≡ k.kept.part.partition) × (digest ≡ k.kept.digest)
    go true i true j e = (rank-injective p k.kept.part.partition (grind (arith, nat_tests)), (bytes_eq-Decides digest k.kept.digest).0 j)
    go true i false j e = absurd (cc)
    go false i c j e = absurd (cc)

pub id-itself : (k : Placed) → has_id k.kept.part.partition k.kept.digest k ≡ true
id-itself k = let u : nat_eq (rank k.kept.part.partition) (rank k.kept.part.partition) ≡ true = grind (arith, nat_tests) in ap (λ (b : Bool). b && bytes_eq k.kept.digest k.kept.digest) u ∙ (bytes_eq-Decides k.kept.digest k.kept.digest).1 refl

-- two that differ have no id in common
one-id : (q : Option ℕ) (e : List ℕ) (newer older : Placed) → Differ newer older → has_id q e newer ≡ true → has_id q e older ≡ true → ⊥
one-id q e newer older d h k =
    let a = id-true q e newer h in
    let b = id-true q e older k in
    let w : has_id older.kept.part.partition older.kept.digest newer ≡ true = subst (λ (x : List ℕ). has_id older.kept.part.partition x newer ≡ true) b.1 (subst (λ (x : Option ℕ). has_id x e newer ≡ true) b.0 h) in
    let z : true ≡ false = sym w ∙ d.id in cc

id-behind : (q : Option ℕ) (e : List ℕ) (k : Placed) (back : List Placed) → Each (Differ k) back → has_id q e k ≡ true → with_id q e back ≡ None
id-behind q e k [] d h = refl
id-behind q e k (b ∷ back) d h = go (has_id q e b) refl (id-behind q e k back d.1 h)
  where
    go : (v : Bool) → has_id q e b ≡ v → with_id q e back ≡ None → cond v (Some b) (with_id q e back) ≡ None
    go true i f = absurd (one-id q e k b d.0 h i)
    go false i f = f

Pairwise-first : (x : Placed) (front : List Placed) (k : Placed) (back : List Placed) → Pairwise Differ (x ∷ front ++ k ∷ back) → Differ x k
Pairwise-first x front k back d = Each-at (Differ x) (front ++ k ∷ back) k d.0 (middle front)
  where
    middle : (front : List Placed) → Has (front ++ k ∷ back) k
    middle [] = inl refl
    middle (y ∷ ys) = inr (middle ys)

-- what is found once one is gone
pub id-without : (q : Option ℕ) (e : List ℕ) (front : List Placed) (k : Placed) (back : List Placed) → Pairwise Differ (front ++ k ∷ back) → with_id q e (front ++ back) ≡ cond (has_id q e k) None (with_id q e (front ++ k ∷ back))
id-without q e [] k back d = go (has_id q e k) refl
  where
    go : (v : Bool) → has_id q e k ≡ v → with_id q e back ≡ cond v None (cond v (Some k) (with_id q e back))
    go true i = id-behind q e k back d.0 i
    go false i = refl
id-without q e (x ∷ front) k back d = go (has_id q e x) refl (has_id q e k) refl (id-without q e front k back d.1)
  where
    go : (u : Bool) → has_id q e x ≡ u → (v : Bool) → has_id q e k ≡ v → with_id q e (front ++ back) ≡ cond (has_id q e k) None (with_id q e (front ++ k ∷ back)) → cond u (Some x) (with_id q e (front ++ back)) ≡ cond v None (cond u (Some x) (with_id q e (front ++ k ∷ back)))
    go true i true j f = absurd (one-id q e x k (Pairwise-first x front k back d) i j)
    go true i false j f = refl
    go false i true j f = f ∙ ap (λ (v : Bool). cond v None (with_id q e (front ++ k ∷ back))) j
    go false i false j f = f ∙ ap (λ (v : Bool). cond v None (with_id q e (front ++ k ∷ back))) j

number-behind : (i : ℕ) (k : Placed) (back : List Placed) → Each (Differ k) back → nat_eq i k.number ≡ true → with_number i back ≡ None
number-behind i k [] d h = refl
number-behind i k (b ∷ back) d h = go (nat_eq i b.number) refl (number-behind i k back d.1 h)
  where
    go : (v : Bool) → nat_eq i b.number ≡ v → with_number i back ≡ None → cond v (Some b) (with_number i back) ≡ None
    go true j f = let l = Differ.number d.0 in absurd (grind (arith, nat_tests))
    go false j f = f

pub number-without : (i : ℕ) (front : List Placed) (k : Placed) (back : List Placed) → Pairwise Differ (front ++ k ∷ back) → with_number i (front ++ back) ≡ cond (nat_eq i k.number) None (with_number i (front ++ k ∷ back))
number-without i [] k back d = go (nat_eq i k.number) refl
  where
    go : (v : Bool) → nat_eq i k.number ≡ v → with_number i back ≡ cond v None (cond v (Some k) (with_number i back))
    go true j = number-behind i k back d.0 j
    go false j = refl
number-without i (x ∷ front) k back d = go (nat_eq i x.number) refl (nat_eq i k.number) refl (number-without i front k back d.1)
  where
    go : (u : Bool) → nat_eq i x.number ≡ u → (v : Bool) → nat_eq i k.number ≡ v → with_number i (front ++ back) ≡ cond (nat_eq i k.number) None (with_number i (front ++ k ∷ back)) → cond u (Some x) (with_number i (front ++ back)) ≡ cond v None (cond u (Some x) (with_number i (front ++ k ∷ back)))
    go true a true b f = let l = Differ.number (Pairwise-first x front k back d) in absurd (grind (arith, nat_tests))
    go true a false b f = refl
    go false a true b f = f ∙ ap (λ (v : Bool). cond v None (with_number i (front ++ k ∷ back))) b
    go false a false b f = f ∙ ap (λ (v : Bool). cond v None (with_number i (front ++ k ∷ back))) b

-- one that is there is found
pub id-found : (ks : List Placed) (k : Placed) → Has ks k → (j : Placed) × (with_id k.kept.part.partition k.kept.digest ks ≡ Some j)
id-found [] k h = absurd h
id-found (x ∷ xs) k h = go (has_id k.kept.part.partition k.kept.digest x) refl h (id-found xs k)
  where
    go : (v : Bool) → has_id k.kept.part.partition k.kept.digest x ≡ v → Has (x ∷ xs) k → (Has xs k → (j : Placed) × (with_id k.kept.part.partition k.kept.digest xs ≡ Some j)) → (j : Placed) × (cond v (Some x) (with_id k.kept.part.partition k.kept.digest xs) ≡ Some j)
    go true i h f = (x, refl)
    go false i (inl e) f = let w : has_id k.kept.part.partition k.kept.digest x ≡ true = subst (λ (y : Placed). has_id k.kept.part.partition k.kept.digest y ≡ true) (sym e) (id-itself k) in absurd (let z : true ≡ false = sym w ∙ i in cc)
    go false i (inr m) f = f m

pub number-found : (ks : List Placed) (k : Placed) → Has ks k → (j : Placed) × (with_number k.number ks ≡ Some j)
number-found [] k h = absurd h
number-found (x ∷ xs) k h = go (nat_eq k.number x.number) refl h (number-found xs k)
  where
    go : (v : Bool) → nat_eq k.number x.number ≡ v → Has (x ∷ xs) k → (Has xs k → (j : Placed) × (with_number k.number xs ≡ Some j)) → (j : Placed) × (cond v (Some x) (with_number k.number xs) ≡ Some j)
    go true i h f = (x, refl)
    go false i (inl e) f = let w : x.number ≡ k.number = ap (λ (y : Placed). y.number) e in absurd (grind (arith, nat_tests))
    go false i (inr m) f = f m

-- no number at or above the count is found
pub number-none : (i : ℕ) (ks : List Placed) → Each (λ k. k.number < i) ks → with_number i ks ≡ None
number-none i [] h = refl
number-none i (k ∷ ks) h = go (nat_eq i k.number) refl (number-none i ks h.1)
  where
    go : (v : Bool) → nat_eq i k.number ≡ v → with_number i ks ≡ None → cond v (Some k) (with_number i ks) ≡ None
    go true j f = let l = h.0 in absurd (grind (arith, nat_tests))
    go false j f = f

-- the last one of a list that has one
pub split-last : (ks : List Placed) (w : ℕ) → length ks ≡ suc w → (k : Placed) × (ks ≡ take w ks ++ k ∷ [])
split-last [] w e = absurd (omega (arith, e))
split-last (x ∷ []) zero e = (x, refl)
split-last (x ∷ []) (suc w) e = absurd (omega (arith, e))
split-last (x ∷ y ∷ rest) zero e = absurd (omega (arith, e))
split-last (x ∷ y ∷ rest) (suc w) e = let r = split-last (y ∷ rest) w (omega (arith, e)) in (r.0, ap (λ (ks : List Placed). x ∷ ks) r.1)
