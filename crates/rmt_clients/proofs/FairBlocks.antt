-- Fair names, where each entry of a client is marked, have each block that outlasts the drops once: entries of background work may be
-- unmarked.
use Rattle.std.proofs.Common.{◌≡◌, ℕ, zero, suc, ◌+◌, ◌-◌, ◌<◌, ◌≤◌, ◌⊎◌, inl, inr, ◌&&◌, ◌||◌, Bool, true, false, cond, List, [], ◌∷◌, length, refl, sym, ap, subst, arith, ◌∙◌, nat_eq, nat_lt, nat_le}
use Rattle.std.proofs.lemmas.Bool.Decides.{nat_tests}
use Rattle.std.specs.List.{list_all}
use Rattle.std.specs.declared.option.Option.{Option}
use Rattle.rmt_values.specs.Rows.{Shape}
use Rattle.rmt_values.specs.Order.{tally}
use Rattle.rmt_names.specs.Names.{Name, rank, block_name}
use Rattle.rmt_entries.specs.declared.entry.Entry.{Entry}
use Rattle.rmt_entries.specs.declared.entry.Entry.TheVariants.{Get, Merge, Mutate, Mutation, DropRange}
use Rattle.rmt_model.specs.Words.{Has, Pairwise}
use Rattle.rmt_model.specs.Live.{Before, made, Dropped}
use Rattle.rmt_model.specs.Lawful.{Lawful, Used, DropIn, AboveDrops}
use Rattle.rmt_model.specs.Fair.{CoveredBy, MadeAtMark, DroppedAtMark, AreFair}
use Rattle.rmt_model.specs.Content.{has_block, outlasts}
use Rattle.rmt_model.proofs.Lists.{Each-at, rank-injective}
use Rattle.rmt_model.proofs.LiveLaws.{Tight, tight, accounted, drop-of}
use Rattle.rmt_model.proofs.VersionLaws.{made-sized}
use Rattle.rmt_laws.proofs.PlainRows.{Weight, total, total-same, present, of_name, gets_total, tally-same}
use Rattle.rmt_model.specs.EntryLimits.{is_client}
use Rattle.rmt_clients.specs.Clients.{ClientsMarked}

-- whether the number lies in the name's range
abbrev pub spans_it : Option ℕ → ℕ → Name → Bool
spans_it p n a = nat_eq (rank p) (rank a.partition) && (nat_le a.min n && nat_le n a.max)

-- ---- sums

total-zero : (g : ℕ → ℕ) (low k : ℕ) → ((n : ℕ) → g n ≡ 0) → total g low k ≡ 0
total-zero g low zero f = refl
total-zero g low (suc k) f = let a = f low in let b = total-zero g (low + 1) k f in omega (arith, a, b)

-- a sum that has one number more
total-one : (g h : ℕ → ℕ) (v n low k : ℕ) → ((m : ℕ) → (m ≡ n → ⊥) → g m ≡ h m) → g n ≡ v → h n ≡ 0 → total g low k ≡ cond (nat_le low n && nat_lt n (low + k)) v 0 + total h low k
total-one g h v n low zero f e z = go (nat_le low n && nat_lt n (low + 0)) refl
  where
    go : (b : Bool) → (nat_le low n && nat_lt n (low + 0)) ≡ b → ◌≡◌ {A = ℕ} 0 (cond b v 0 + 0)
    go false q = refl
    go true q = absurd (none low n q)
      where
        none : (low n : ℕ) → (nat_le low n && nat_lt n (low + 0)) ≡ true → ⊥
        none low n q = grind (arith, nat_tests)
total-one g h v n low (suc k) f e z = go (nat_eq low n) refl (total-one g h v n (low + 1) k f e z)
  where
    go : (b : Bool) → nat_eq low n ≡ b → total g (low + 1) k ≡ cond (nat_le (low + 1) n && nat_lt n (low + 1 + k)) v 0 + total h (low + 1) k → g low + total g (low + 1) k ≡ cond (nat_le low n && nat_lt n (low + suc k)) v 0 + (h low + total h (low + 1) k)
    go true q i =
        let s : low ≡ n = grind (arith, nat_tests) in
        let a : g low ≡ v = ap g s ∙ e in
        let b : h low ≡ 0 = ap h s ∙ z in
        let c : (nat_le (low + 1) n && nat_lt n (low + 1 + k)) ≡ false = past low n k s in
        let d : (nat_le low n && nat_lt n (low + suc k)) ≡ true = here low n k s in
        added (g low) v (h low) (total g (low + 1) k) (total h (low + 1) k) (nat_le low n && nat_lt n (low + suc k)) (nat_le (low + 1) n && nat_lt n (low + 1 + k)) a b c d i
      where
        past : (low n k : ℕ) → low ≡ n → (nat_le (low + 1) n && nat_lt n (low + 1 + k)) ≡ false
        past low n k s = grind (arith, nat_tests)

        here : (low n k : ℕ) → low ≡ n → (nat_le low n && nat_lt n (low + suc k)) ≡ true
        here low n k s = grind (arith, nat_tests)

        added : (gl v hl tg th : ℕ) (b c : Bool) → gl ≡ v → hl ≡ 0 → c ≡ false → b ≡ true → tg ≡ cond c v 0 + th → gl + tg ≡ cond b v 0 + (hl + th)
        added gl v hl tg th b c p q r s i = rw s (let j : tg ≡ 0 + th = subst (λ (x : Bool). tg ≡ cond x v 0 + th) r i in omega (arith, p, q, j))
    go false q i =
        let s : (low ≡ n → ⊥) = apart low n q in
        let a : g low ≡ h low = f low s in
        let c : (nat_le (low + 1) n && nat_lt n (low + 1 + k)) ≡ (nat_le low n && nat_lt n (low + suc k)) = alike low n k s in
        let j : total g (low + 1) k ≡ cond (nat_le low n && nat_lt n (low + suc k)) v 0 + total h (low + 1) k = subst (λ (x : Bool). total g (low + 1) k ≡ cond x v 0 + total h (low + 1) k) c i in
        omega (arith, a, j)
      where
        apart : (low n : ℕ) → nat_eq low n ≡ false → low ≡ n → ⊥
        apart low n q s = grind (arith, nat_tests)

        alike : (low n k : ℕ) → (low ≡ n → ⊥) → (nat_le (low + 1) n && nat_lt n (low + 1 + k)) ≡ (nat_le low n && nat_lt n (low + suc k))
        alike low n k s = grind (arith, nat_tests)

tally-plus : (f g : Name → ℕ) (xs : List Name) → tally (λ x. f x + g x) xs ≡ tally f xs + tally g xs
tally-plus f g [] = refl
tally-plus f g (x ∷ xs) = let h = tally-plus f g xs in omega (arith, h)

tally-none : (f : Name → ℕ) (xs : List Name) → ((x : Name) → Has xs x → f x ≡ 0) → tally f xs ≡ 0
tally-none f [] h = refl
tally-none f (x ∷ xs) h = let a = h x (inl refl) in let b = tally-none f xs (λ y i. h y (inr i)) in omega (arith, a, b)

-- ---- a block more

-- a block of a number that no other has is counted for the names in whose range it lies
name-more : (p : Option ℕ) (n : ℕ) (digest : List ℕ) (source need : ℕ) (rest : List Entry) (w : Weight) (a : Name) → has_block rest p n ≡ false → a.min ≤ a.max → of_name (Get p n digest source need ∷ rest) w a ≡ cond (spans_it p n a) (w p n) 0 + of_name rest w a
name-more p n digest source need rest w a fresh sized = go (nat_eq (rank p) (rank a.partition)) refl
  where
    with_one : ℕ → ℕ
    with_one m = cond ((nat_eq (rank p) (rank a.partition) && nat_eq n m) || has_block rest a.partition m) (w a.partition m) 0

    go : (b : Bool) → nat_eq (rank p) (rank a.partition) ≡ b → total with_one a.min (a.max + 1 - a.min) ≡ cond (nat_eq (rank p) (rank a.partition) && (nat_le a.min n && nat_le n a.max)) (w p n) 0 + total (present rest w a.partition) a.min (a.max + 1 - a.min)
    go true q =
        let s : p ≡ a.partition = rank-injective p a.partition (grind (arith, nat_tests)) in
        let i = total-one with_one (present rest w a.partition) (w p n) n a.min (a.max + 1 - a.min) (others q) (itself q s) (before s) in
        rw q (subst (λ (x : Bool). total with_one a.min (a.max + 1 - a.min) ≡ cond x (w p n) 0 + total (present rest w a.partition) a.min (a.max + 1 - a.min)) (range a.min a.max n sized) i)
      where
        others : nat_eq (rank p) (rank a.partition) ≡ true → (m : ℕ) → (m ≡ n → ⊥) → with_one m ≡ present rest w a.partition m
        others q m d = let e : nat_eq n m ≡ false = differ n m d in rw (q, e) refl
          where
            differ : (n m : ℕ) → (m ≡ n → ⊥) → nat_eq n m ≡ false
            differ n m d = grind (arith, nat_tests)

        itself : nat_eq (rank p) (rank a.partition) ≡ true → p ≡ a.partition → with_one n ≡ w p n
        itself q s = let e : nat_eq n n ≡ true = same n in rw (q, e) (ap (λ (o : Option ℕ). w o n) (sym s))
          where
            same : (n : ℕ) → nat_eq n n ≡ true
            same n = grind (arith, nat_tests)

        before : p ≡ a.partition → present rest w a.partition n ≡ 0
        before s = ap (λ (b : Bool). cond b (w a.partition n) 0) (subst (λ (o : Option ℕ). has_block rest o n ≡ false) s fresh)

        range : (low high n : ℕ) → low ≤ high → (nat_le low n && nat_lt n (low + (high + 1 - low))) ≡ (nat_le low n && nat_le n high)
        range low high n s = grind (arith, nat_tests)
    go false q = rw q (total-same with_one (present rest w a.partition) a.min (a.max + 1 - a.min) (λ m i j. rw q refl) ∙ zero-left (total (present rest w a.partition) a.min (a.max + 1 - a.min)))
      where
        zero-left : (k : ℕ) → k ≡ 0 + k
        zero-left k = omega arith

-- ---- which names have a block

-- a block that outlasts all drops lies above them
all-above : (log : List Entry) (p : Option ℕ) (n : ℕ) → list_all (λ e. outlasts e p n) log ≡ true → AboveDrops log p n
all-above [] p n h m d = absurd d
all-above (Get q k digest source need ∷ log) p n h m (inr d) = all-above log p n h m d
all-above (Get q k digest source need ∷ log) p n h m (inl e) = absurd (cc)
all-above (Merge new olds count ∷ log) p n h m (inr d) = all-above log p n h m d
all-above (Merge new olds count ∷ log) p n h m (inl e) = absurd (cc)
all-above (Mutate old new upto count mcount ∷ log) p n h m (inr d) = all-above log p n h m d
all-above (Mutate old new upto count mcount ∷ log) p n h m (inl e) = absurd (cc)
all-above (Mutation id numbers command ∷ log) p n h m (inr d) = all-above log p n h m d
all-above (Mutation id numbers command ∷ log) p n h m (inl e) = absurd (cc)
all-above (DropRange q k ∷ log) p n h m d = go (cond (nat_eq (rank q) (rank p)) (nat_lt k n) true) refl h d (λ i. all-above log p n i m)
  where
    go : (b : Bool) → cond (nat_eq (rank q) (rank p)) (nat_lt k n) true ≡ b → (b && list_all (λ e. outlasts e p n) log) ≡ true → (DropRange q k ≡ DropRange p m) ⊎ DropIn log p m → (list_all (λ e. outlasts e p n) log ≡ true → DropIn log p m → m < n) → m < n
    go false e h d f = absurd (cc)
    go true e h (inr d) f = f h d
    go true e h (inl s) f =
        let r : rank q ≡ rank p = ap rank (cc) in
        let t : k ≡ m = cc in
        above (rank q) (rank p) k m n r t e
      where
        above : (i j k m n : ℕ) → i ≡ j → k ≡ m → cond (nat_eq i j) (nat_lt k n) true ≡ true → m < n
        above i j k m n r t e = grind (arith, nat_tests)

-- one that doesn't lies below a drop
some-drop : (log : List Entry) (p : Option ℕ) (n : ℕ) → list_all (λ e. outlasts e p n) log ≡ false → (m : ℕ) × DropIn log p m × (n ≤ m)
some-drop [] p n h = absurd (cc)
some-drop (Get q k digest source need ∷ log) p n h = let r = some-drop log p n h in (r.0, inr r.1, r.2)
some-drop (Merge new olds count ∷ log) p n h = let r = some-drop log p n h in (r.0, inr r.1, r.2)
some-drop (Mutate old new upto count mcount ∷ log) p n h = let r = some-drop log p n h in (r.0, inr r.1, r.2)
some-drop (Mutation id numbers command ∷ log) p n h = let r = some-drop log p n h in (r.0, inr r.1, r.2)
some-drop (DropRange q k ∷ log) p n h = go (cond (nat_eq (rank q) (rank p)) (nat_lt k n) true) refl h (λ i. some-drop log p n i)
  where
    go : (b : Bool) → cond (nat_eq (rank q) (rank p)) (nat_lt k n) true ≡ b → (b && list_all (λ e. outlasts e p n) log) ≡ false → (list_all (λ e. outlasts e p n) log ≡ false → (m : ℕ) × DropIn log p m × (n ≤ m)) → (m : ℕ) × DropIn (DropRange q k ∷ log) p m × (n ≤ m)
    go true e h f = let r = f h in (r.0, inr r.1, r.2)
    go false e h f =
        let r : (rank q ≡ rank p) × (n ≤ k) = below (rank q) (rank p) k n e in
        (k, inl (ap (λ (o : Option ℕ). DropRange o k) (rank-injective q p r.0)), r.1)
      where
        below : (i j k n : ℕ) → cond (nat_eq i j) (nat_lt k n) true ≡ false → (i ≡ j) × (n ≤ k)
        below i j k n e = grind (arith, nat_tests)

-- where the clients' entries are marked each drop is, and each block was made at a mark
clients-dropped : (log : List Entry) (marked : ℕ → Bool) (a : Name) → ClientsMarked log marked → Dropped log a → DroppedAtMark log marked a
clients-dropped [] marked a c d = absurd d
clients-dropped (e ∷ log) marked a c (inl d) = inl (clients-dropped log marked a c.1 d)
clients-dropped (DropRange q k ∷ log) marked a c (inr d) = inr (c.0 refl, d.0, d.1)
clients-dropped (Get q k digest source need ∷ log) marked a c (inr d) = absurd d.1
clients-dropped (Merge new olds count ∷ log) marked a c (inr d) = absurd d.1
clients-dropped (Mutate old new upto count mcount ∷ log) marked a c (inr d) = absurd d.1
clients-dropped (Mutation id numbers command ∷ log) marked a c (inr d) = absurd d.1

get-marked : (log : List Entry) (marked : ℕ → Bool) (p : Option ℕ) (n : ℕ) (digest : List ℕ) (source need : ℕ) → ClientsMarked log marked → Has log (Get p n digest source need) → MadeAtMark log marked (block_name p n)
get-marked [] marked p n digest source need c h = absurd h
get-marked (e ∷ log) marked p n digest source need c (inr h) = inr (get-marked log marked p n digest source need c.1 h)
get-marked (e ∷ log) marked p n digest source need c (inl s) =
    subst (λ (x : Entry). (is_client x ≡ true → marked (length log) ≡ true) → MadeAtMark (x ∷ log) marked (block_name p n)) (sym s) (λ f. inl (f refl, refl)) c.0

used-get : (log : List Entry) (p : Option ℕ) (n : ℕ) → has_block log p n ≡ true → Used log p n
used-get [] p n h = absurd (cc)
used-get (Get q m digest source need ∷ log) p n h = go (nat_eq (rank q) (rank p) && nat_eq m n) refl h (λ i. used-get log p n i)
  where
    go : (b : Bool) → (nat_eq (rank q) (rank p) && nat_eq m n) ≡ b → (b || has_block log p n) ≡ true → (has_block log p n ≡ true → Used log p n) → ((q ≡ p) × (m ≡ n)) ⊎ Used log p n
    go true e h f = let r : (rank q ≡ rank p) × (m ≡ n) = both (rank q) (rank p) m n e in inl (rank-injective q p r.0, r.1)
      where
        both : (i j m n : ℕ) → (nat_eq i j && nat_eq m n) ≡ true → (i ≡ j) × (m ≡ n)
        both i j m n e = grind (arith, nat_tests)
    go false e h f = inr (f h)
used-get (Merge new olds count ∷ log) p n h = inr (used-get log p n h)
used-get (Mutate old new upto count mcount ∷ log) p n h = inr (used-get log p n h)
used-get (Mutation id numbers command ∷ log) p n h = inr (used-get log p n h)
used-get (DropRange q m ∷ log) p n h = inr (used-get log p n h)

unused-none : (log : List Entry) (p : Option ℕ) (n : ℕ) → (Used log p n → ⊥) → has_block log p n ≡ false
unused-none log p n f = go (has_block log p n) refl
  where
    go : (b : Bool) → has_block log p n ≡ b → b ≡ false
    go false e = refl
    go true e = absurd (f (used-get log p n e))

-- of names in order one has the number at most
one-spans : (p : Option ℕ) (n v : ℕ) (names : List Name) → Pairwise Before names → (c : Name) → Has names c → spans_it p n c ≡ true → tally (λ a. cond (spans_it p n a) v 0) names ≡ v
one-spans p n v [] o c h s = absurd h
one-spans p n v (x ∷ names) o c (inl e) s =
    let a : spans_it p n x ≡ true = subst (λ (y : Name). spans_it p n y ≡ true) (sym e) s in
    let b = tally-none (λ a. cond (spans_it p n a) v 0) names (λ y i. none y (Each-at (Before x) names y o.0 i) a) in
    rw (a, b) (zero-right v)
  where
    zero-right : (v : ℕ) → v + 0 ≡ v
    zero-right v = omega arith

    none : (y : Name) → Before x y → spans_it p n x ≡ true → cond (spans_it p n y) v 0 ≡ 0
    none y b a = go (spans_it p n y) refl
      where
        apart : (i j k a c d e n : ℕ) → (j < k) ⊎ ((j ≡ k) × (c < d)) → (nat_eq i j && (nat_le a n && nat_le n c)) ≡ true → (nat_eq i k && (nat_le d n && nat_le n e)) ≡ true → ⊥
        apart i j k a c d e n b p q = grind (arith, nat_tests)

        go : (t : Bool) → spans_it p n y ≡ t → cond t v 0 ≡ 0
        go false q = refl
        go true q = absurd (apart (rank p) (rank x.partition) (rank y.partition) x.min x.max y.min y.max n b a q)
one-spans p n v (x ∷ names) o c (inr h) s =
    let a : spans_it p n x ≡ false = none (spans_it p n x) refl in
    let b = one-spans p n v names o.1 c h s in
    rw a (ap (λ k. 0 + k) b ∙ zero-left v)
  where
    zero-left : (v : ℕ) → 0 + v ≡ v
    zero-left v = omega arith

    apart : (i j k a c d e n : ℕ) → (j < k) ⊎ ((j ≡ k) × (c < d)) → (nat_eq i j && (nat_le a n && nat_le n c)) ≡ true → (nat_eq i k && (nat_le d n && nat_le n e)) ≡ true → ⊥
    apart i j k a c d e n b p q = grind (arith, nat_tests)

    none : (t : Bool) → spans_it p n x ≡ t → t ≡ false
    none false q = refl
    none true q = absurd (apart (rank p) (rank x.partition) (rank c.partition) x.min x.max c.min c.max n (Each-at (Before x) names c o.0 h) q s)

-- ---- the sum over fair names

module _ (schema : Shape) (log : List Entry) (l : Lawful schema log) (marked : ℕ → Bool) (names : List Name) (fair : AreFair log marked names) (clients : ClientsMarked log marked) (w : Weight) where
  stays : (a : Name) → Has names a → Dropped log a → ⊥
  stays a h d = Each-at (λ x. DroppedAtMark log marked x → ⊥) names a fair.kept h (clients-dropped log marked a clients d)

  is-made : (a : Name) → Has names a → Has (made log) a
  is-made a h = Each-at (λ x. Has (made log) x) names a fair.made_here h

  -- each block that outlasts the drops lies in one of the names, and no other one lies in any
  counted : (p : Option ℕ) (n : ℕ) (digest : List ℕ) (source need v : ℕ) → Has log (Get p n digest source need) → tally (λ a. cond (spans_it p n a) v 0) names ≡ cond (list_all (λ e. outlasts e p n) log) v 0
  counted p n digest source need v g = go (list_all (λ e. outlasts e p n) log) refl
    where
      covering : CoveredBy names (block_name p n) → tally (λ a. cond (spans_it p n a) v 0) names ≡ v
      covering c = one-spans p n v names fair.apart c.name c.is_in (inside c.name c.covers.partition c.covers.min c.covers.max)
        where
          inside : (a : Name) → a.partition ≡ p → a.min ≤ n → n ≤ a.max → spans_it p n a ≡ true
          inside a e i j = let r : rank p ≡ rank a.partition = ap rank (sym e) in test (rank p) (rank a.partition) a.min n a.max r i j
            where
              test : (i j a n c : ℕ) → i ≡ j → a ≤ n → n ≤ c → (nat_eq i j && (nat_le a n && nat_le n c)) ≡ true
              test i j a n c r s t = grind (arith, nat_tests)

      below : Dropped log (block_name p n) → AboveDrops log p n → ⊥
      below d above = let r = drop-of log (block_name p n) d in let u = above r.0 r.1 in let q = r.2 in omega (arith, u, q)

      go : (b : Bool) → list_all (λ e. outlasts e p n) log ≡ b → tally (λ a. cond (spans_it p n a) v 0) names ≡ cond b v 0
      go true e =
          elim (fair.answered (block_name p n) (get-marked log marked p n digest source need clients g)) [
            | inl c ↦ covering c
            | inr d ↦ absurd (below d (all-above log p n e))
          ]
      go false e =
          let drop = some-drop log p n e in
          tally-none (λ a. cond (spans_it p n a) v 0) names (λ a h. none a h drop.0 drop.1 drop.2 (spans_it p n a) refl)
        where
          none : (a : Name) → Has names a → (m : ℕ) → DropIn log p m → n ≤ m → (t : Bool) → spans_it p n a ≡ t → cond t v 0 ≡ 0
          none a h m d low false q = refl
          none a h m d low true q =
              let i : (rank p ≡ rank a.partition) × (a.min ≤ n) = range (rank p) (rank a.partition) a.min a.max n q in
              elim (accounted log a (is-made a h)) [
                | inl k ↦ absurd (stays a h k)
                | inr k ↦
                    let f : p ≡ k.name.partition = rank-injective p a.partition i.0 ∙ sym k.covers.partition in
                    let u = Tight.above (tight schema log l) k.name k.is_in m (subst (λ (o : Option ℕ). DropIn log o m) f d) in
                    let x = k.covers.min in
                    let y = i.1 in
                    absurd (omega (arith, u, x, y, low))
              ]
            where
              range : (i j a c n : ℕ) → (nat_eq i j && (nat_le a n && nat_le n c)) ≡ true → (i ≡ j) × (a ≤ n)
              range i j a c n q = grind (arith, nat_tests)

  -- the blocks of the names, each once, are those above the drops
  fair-balance : (rest : List Entry) → Lawful schema rest → ((e : Entry) → Has rest e → Has log e) → tally (of_name rest w) names ≡ gets_total log w rest
  fair-balance [] k sub = tally-none (of_name [] w) names (λ a h. total-zero (present [] w a.partition) a.min (a.max + 1 - a.min) (λ n. refl))
  fair-balance (Get p n digest source need ∷ rest) k sub =
      let one = tally-same (of_name (Get p n digest source need ∷ rest) w) (λ a. cond (spans_it p n a) (w p n) 0 + of_name rest w a) names
      (λ a h. name-more p n digest source need rest w a (unused-none rest p n k.1.unused) (made-sized schema log a l (is-made a h))) in
      let two = tally-plus (λ a. cond (spans_it p n a) (w p n) 0) (of_name rest w) names in
      let three = counted p n digest source need (w p n) (sub (Get p n digest source need) (inl refl)) in
      let four = fair-balance rest k.0 (λ e i. sub e (inr i)) in
      omega (arith, one, two, three, four)
  fair-balance (Merge new olds count ∷ rest) k sub = fair-balance rest k.0 (λ e i. sub e (inr i))
  fair-balance (Mutate old new upto count mcount ∷ rest) k sub = fair-balance rest k.0 (λ e i. sub e (inr i))
  fair-balance (Mutation id numbers command ∷ rest) k sub = fair-balance rest k.0 (λ e i. sub e (inr i))
  fair-balance (DropRange p n ∷ rest) k sub = fair-balance rest k.0 (λ e i. sub e (inr i))

pub names-balance : (schema : Shape) (log : List Entry) → Lawful schema log → (marked : ℕ → Bool) (names : List Name) → AreFair log marked names → ClientsMarked log marked → (w : Weight) → tally (of_name log w) names ≡ gets_total log w log
names-balance schema log l marked names fair clients w = fair-balance schema log l marked names fair clients w log l (λ e h. h)
