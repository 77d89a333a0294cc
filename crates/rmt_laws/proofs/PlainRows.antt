-- The blocks of the live names are the blocks above the drops, each once.
use Rattle.std.proofs.Common.{◌≡◌, ℕ, zero, suc, ◌+◌, ◌-◌, ◌<◌, ◌≤◌, ◌⊎◌, inl, inr, ◌&&◌, ◌||◌, Bool, true, false, cond, not, List, [], ◌∷◌, refl, sym, ap, subst, arith, ◌∙◌, nat_eq, nat_lt, filter}
use Rattle.std.proofs.lemmas.Bool.Decides.{nat_tests}
use Rattle.std.specs.List.{list_all}
use Rattle.std.specs.declared.option.Option.{Option}
use Rattle.rmt_values.specs.Rows.{Shape}
use Rattle.rmt_names.specs.Names.{Name, rank, covers, Overlap, last, merged_name, block_name}
use Rattle.rmt_entries.specs.declared.entry.Entry.{Entry}
use Rattle.rmt_entries.specs.declared.entry.Entry.TheVariants.{Get, Merge, Mutate, Mutation, DropRange}
use Rattle.rmt_values.specs.Order.{tally}
use Rattle.rmt_model.specs.Words.{Has, Pairwise}
use Rattle.rmt_model.specs.Live.{Before, before, inserted, placed, in_drop, live}
use Rattle.rmt_model.specs.Lawful.{Used, AboveDrops, AboveUsed, IsFresh, Merges, IsMutate, Lawful}
use Rattle.rmt_model.specs.Laws.{Committed, LiesInOne}
use Rattle.rmt_model.specs.Content.{has_block, outlasts}
use Rattle.rmt_model.proofs.Lists.{Each-at, Has-filter, Has-kept, Pairwise-filter, rank-injective, covers-true}
use Rattle.rmt_model.proofs.LiveLaws.{Tight, tight, Supplants, supplants-mutate, covers-holds, to-last, Has-last, one-live, is-source, sources-lined, source-live, source-fits, merged-covers, blocks-live-once}
use Rattle.rmt_model.proofs.Drained.{same-order, cover-overlap}

-- a weight for each block
abbrev pub Weight : Type 0
Weight = Option ℕ → ℕ → ℕ

-- g at k numbers from low on, added up
abbrev pub total : (ℕ → ℕ) → ℕ → ℕ → ℕ
total g low zero = 0
total g low (suc k) = g low + total g (low + 1) k

abbrev pub present : List Entry → Weight → Option ℕ → ℕ → ℕ
present log w p n = cond (has_block log p n) (w p n) 0

abbrev pub of_name : List Entry → Weight → Name → ℕ
of_name log w a = total (present log w a.partition) a.min (a.max + 1 - a.min)

abbrev pub gets_total : List Entry → Weight → List Entry → ℕ
gets_total log w [] = 0
gets_total log w (Get p n digest source need ∷ rest) = cond (list_all (λ e. outlasts e p n) log) (w p n) 0 + gets_total log w rest
gets_total log w (Merge new sources count ∷ rest) = gets_total log w rest
gets_total log w (Mutate old new upto count mcount ∷ rest) = gets_total log w rest
gets_total log w (Mutation id numbers command ∷ rest) = gets_total log w rest
gets_total log w (DropRange p n ∷ rest) = gets_total log w rest

pub total-same : (g h : ℕ → ℕ) (low k : ℕ) → ((n : ℕ) → low ≤ n → n < low + k → g n ≡ h n) → total g low k ≡ total h low k
total-same g h low zero f = refl
total-same g h low (suc k) f =
    let a = f low (omega arith) (omega arith) in
    let b = total-same g h (low + 1) k (λ n i j. f n (omega arith) (omega arith)) in
    omega (arith, a, b)

total-zero : (g : ℕ → ℕ) (low k : ℕ) → ((n : ℕ) → low ≤ n → n < low + k → g n ≡ 0) → total g low k ≡ 0
total-zero g low zero f = refl
total-zero g low (suc k) f =
    let a = f low (omega arith) (omega arith) in
    let b = total-zero g (low + 1) k (λ n i j. f n (omega arith) (omega arith)) in
    omega (arith, a, b)

total-split : (g : ℕ → ℕ) (low j k : ℕ) → total g low (j + k) ≡ total g low j + total g (low + j) k
total-split g low zero k = let e : 0 + k ≡ k = omega arith in let f : low + 0 ≡ low = omega arith in rw (e, f) (sym (zero-add' (total g low k)))
  where
    zero-add' : (n : ℕ) → 0 + n ≡ n
    zero-add' n = omega arith
total-split g low (suc j) k =
    let e : suc j + k ≡ suc (j + k) = omega arith in
    let f : low + suc j ≡ low + 1 + j = omega arith in
    let h = total-split g (low + 1) j k in
    rw (e, f) (joined (g low) (total g (low + 1) (j + k)) (total g (low + 1) j) (total g (low + 1 + j) k) h)
  where
    joined : (a b c d : ℕ) → b ≡ c + d → a + b ≡ (a + c) + d
    joined a b c d h = omega arith

tally-inserted : (f : Name → ℕ) (new : Name) (xs : List Name) → tally f (inserted new xs) ≡ f new + tally f xs
tally-inserted f new [] = omega arith
tally-inserted f new (z ∷ xs) = go (before z new) (tally-inserted f new xs)
  where
    go : (b : Bool) → tally f (inserted new xs) ≡ f new + tally f xs → tally f (cond b (z ∷ inserted new xs) (new ∷ z ∷ xs)) ≡ f new + (f z + tally f xs)
    go true e = omega (arith, e)
    go false e = omega arith

tally-split : {A : Type 0} (f : A → ℕ) (t : A → Bool) (xs : List A) → tally f xs ≡ tally f (filter t xs) + tally f (filter (λ x. not (t x)) xs)
tally-split f t [] = refl
tally-split f t (z ∷ xs) = go (t z) (tally-split f t xs)
  where
    go : (b : Bool) → tally f xs ≡ tally f (filter t xs) + tally f (filter (λ x. not (t x)) xs) → f z + tally f xs ≡ tally f (cond b (z ∷ filter t xs) (filter t xs)) + tally f (cond (not b) (z ∷ filter (λ x. not (t x)) xs) (filter (λ x. not (t x)) xs))
    go true e = omega (arith, e)
    go false e = omega (arith, e)

pub tally-same : {A : Type 0} (f g : A → ℕ) (xs : List A) → ((x : A) → Has xs x → f x ≡ g x) → tally f xs ≡ tally g xs
tally-same f g [] h = refl
tally-same f g (z ∷ xs) h = let a = h z (inl refl) in let b = tally-same f g xs (λ x i. h x (inr i)) in omega (arith, a, b)

tally-zero : {A : Type 0} (f : A → ℕ) (xs : List A) → ((x : A) → Has xs x → f x ≡ 0) → tally f xs ≡ 0
tally-zero f [] h = refl
tally-zero f (z ∷ xs) h = let a = h z (inl refl) in let b = tally-zero f xs (λ x i. h x (inr i)) in omega (arith, a, b)

total-name : (log : List Entry) (w : Weight) (a : Name) → (n : ℕ) → a.min ≤ n → n < a.min + (a.max + 1 - a.min) → a.min ≤ a.max → n ≤ a.max
total-name log w a n i j s = omega arith

-- what placing a name makes of the total, where its own is that of the names that it covers, and more
placed-total : (f : Name → ℕ) (new : Name) (xs : List Name) (more : ℕ) → f new ≡ tally f (filter (covers new) xs) + more → tally f (placed new xs) ≡ tally f xs + more
placed-total f new xs more e =
    let a = tally-inserted f new (filter (λ x. not (covers new x)) xs) in
    let b = tally-split f (covers new) xs in
    omega (arith, a, b, e)

-- names in order, all of one partition, whose gaps have no weight: the total over the whole range
span-total : (g : ℕ → ℕ) (a : Name) (rest : List Name) → Pairwise Before (a ∷ rest) → ((c : Name) → Has (a ∷ rest) c → (c.partition ≡ a.partition) × (c.min ≤ c.max)) → ((n : ℕ) → ((c : Name) → Has (a ∷ rest) c → c.min ≤ n → n ≤ c.max → ⊥) → a.min ≤ n → n ≤ (last a rest).max → g n ≡ 0) → total g a.min ((last a rest).max + 1 - a.min) ≡ tally (λ c. total g c.min (c.max + 1 - c.min)) (a ∷ rest)
span-total g a [] p w gap = omega arith
span-total g a (b ∷ rest) p w gap = parts (span-total g b rest p.1 inner inner-gap)
  where
    z : Name
    z = last b rest

    next : a.max < b.min
    next =
        let h : Before a b = p.0.0 in
        let q : rank a.partition ≡ rank b.partition = ap rank (sym (w b (inr (inl refl))).0) in
        grind arith

    b-sized : b.min ≤ b.max
    b-sized = (w b (inr (inl refl))).1

    behind : (c : Name) → Has (b ∷ rest) c → b.min ≤ c.min
    behind c (inl e) = let q : b.min ≡ c.min = ap (λ x. x.min) e in omega arith
    behind c (inr h) =
        let k : Before b c = Each-at (Before b) rest c p.1.0 h in
        let q : rank b.partition ≡ rank c.partition = ap rank ((w b (inr (inl refl))).0 ∙ sym (w c (inr (inr h))).0) in
        let t = b-sized in grind arith

    far : b.max ≤ z.max
    far = go (to-last b rest b p.1 (inl refl))
      where
        go : (b ≡ z) ⊎ Before b z → b.max ≤ z.max
        go (inl e) = let q : b.max ≡ z.max = ap (λ x. x.max) e in omega arith
        go (inr k) =
            let q : rank b.partition ≡ rank z.partition = ap rank ((w b (inr (inl refl))).0 ∙ sym (w z (inr (Has-last b rest))).0) in
            let t = (w z (inr (Has-last b rest))).1 in grind arith

    inner : (c : Name) → Has (b ∷ rest) c → (c.partition ≡ b.partition) × (c.min ≤ c.max)
    inner c h = ((w c (inr h)).0 ∙ sym (w b (inr (inl refl))).0, (w c (inr h)).1)

    inner-gap : (n : ℕ) → ((c : Name) → Has (b ∷ rest) c → c.min ≤ n → n ≤ c.max → ⊥) → b.min ≤ n → n ≤ z.max → g n ≡ 0
    inner-gap n none i j = gap n each (let u = next in let v = (w a (inl refl)).1 in omega arith) j
      where
        each : (c : Name) → Has (a ∷ b ∷ rest) c → c.min ≤ n → n ≤ c.max → ⊥
        each c (inl e) k l = let q : a.max ≡ c.max = ap (λ x. x.max) e in let u = next in omega arith
        each c (inr h) k l = none c h k l

    empty : total g (a.max + 1) (b.min - (a.max + 1)) ≡ 0
    empty = total-zero g (a.max + 1) (b.min - (a.max + 1)) (λ n i j. gap n (λ c h k l. each n i (let u = next in omega arith) c h k l) (let v = (w a (inl refl)).1 in omega arith) (let u = far in let v = b-sized in let t = next in omega arith))
      where
        each : (n : ℕ) → a.max + 1 ≤ n → n < b.min → (c : Name) → Has (a ∷ b ∷ rest) c → c.min ≤ n → n ≤ c.max → ⊥
        each n i j c (inl e) k l = let q : a.max ≡ c.max = ap (λ x. x.max) e in omega arith
        each n i j c (inr h) k l = let u = behind c h in omega arith

    parts : total g b.min (z.max + 1 - b.min) ≡ tally (λ c. total g c.min (c.max + 1 - c.min)) (b ∷ rest) → total g a.min (z.max + 1 - a.min) ≡ total g a.min (a.max + 1 - a.min) + tally (λ c. total g c.min (c.max + 1 - c.min)) (b ∷ rest)
    parts ih =
        let sa = (w a (inl refl)).1 in let u = next in let v = far in let t = b-sized in
        let e1 : z.max + 1 - a.min ≡ (a.max + 1 - a.min) + ((b.min - (a.max + 1)) + (z.max + 1 - b.min)) = omega arith in
        let e2 : a.min + (a.max + 1 - a.min) ≡ a.max + 1 = omega arith in
        let e3 : a.max + 1 + (b.min - (a.max + 1)) ≡ b.min = omega arith in
        let s1 = total-split g a.min (a.max + 1 - a.min) ((b.min - (a.max + 1)) + (z.max + 1 - b.min)) in
        let s2 = total-split g (a.max + 1) (b.min - (a.max + 1)) (z.max + 1 - b.min) in
        let s3 : total g (a.max + 1) ((b.min - (a.max + 1)) + (z.max + 1 - b.min)) ≡ total g (a.max + 1) (b.min - (a.max + 1)) + total g b.min (z.max + 1 - b.min) = s2 ∙ ap (λ n. total g (a.max + 1) (b.min - (a.max + 1)) + total g n (z.max + 1 - b.min)) e3 in
        let s4 : total g a.min (z.max + 1 - a.min) ≡ total g a.min (a.max + 1 - a.min) + total g (a.max + 1) ((b.min - (a.max + 1)) + (z.max + 1 - b.min)) = ap (total g a.min) e1 ∙ (s1 ∙ ap (λ n. total g a.min (a.max + 1 - a.min) + total g n ((b.min - (a.max + 1)) + (z.max + 1 - b.min))) e2) in
        let o = empty in
        omega (arith, s4, s3, o, ih)

-- what the entries of each kind do to the blocks that a log has
block-here : (p : Option ℕ) (n : ℕ) → (nat_eq (rank p) (rank p) && nat_eq n n) ≡ true
block-here p n = grind (arith, nat_tests)

has-committed : (log : List Entry) (p : Option ℕ) (n : ℕ) → has_block log p n ≡ true → Committed log p n
has-committed [] p n h = cc
has-committed (Get q m digest source need ∷ log) p n h = go (nat_eq (rank q) (rank p) && nat_eq m n) refl h (has-committed log p n)
  where
    go : (b : Bool) → (nat_eq (rank q) (rank p) && nat_eq m n) ≡ b → (b || has_block log p n) ≡ true → (has_block log p n ≡ true → Committed log p n) → Committed (Get q m digest source need ∷ log) p n
    go true e i f =
        let r : rank q ≡ rank p = grind (arith, nat_tests) in
        let s : m ≡ n = grind (arith, nat_tests) in
        record { digest = digest; source = source; need = need; entry = inl (same (rank-injective q p r) s) }
      where
        same : q ≡ p → m ≡ n → Get q m digest source need ≡ Get p n digest source need
        same x y = cc
    go false e i f = let c = f i in record { digest = c.digest; source = c.source; need = c.need; entry = inr c.entry }
has-committed (Merge new olds count ∷ log) p n h = let c = has-committed log p n h in record { digest = c.digest; source = c.source; need = c.need; entry = inr c.entry }
has-committed (Mutate old new upto count mcount ∷ log) p n h = let c = has-committed log p n h in record { digest = c.digest; source = c.source; need = c.need; entry = inr c.entry }
has-committed (Mutation id numbers command ∷ log) p n h = let c = has-committed log p n h in record { digest = c.digest; source = c.source; need = c.need; entry = inr c.entry }
has-committed (DropRange q m ∷ log) p n h = let c = has-committed log p n h in record { digest = c.digest; source = c.source; need = c.need; entry = inr c.entry }

-- whether a number outlasts the drops
above-all : (log : List Entry) (p : Option ℕ) (n : ℕ) → AboveDrops log p n → list_all (λ e. outlasts e p n) log ≡ true
above-all [] p n f = refl
above-all (Get q m digest source need ∷ log) p n f = above-all log p n (λ k d. f k (inr d))
above-all (Merge new olds count ∷ log) p n f = above-all log p n (λ k d. f k (inr d))
above-all (Mutate old new upto count mcount ∷ log) p n f = above-all log p n (λ k d. f k (inr d))
above-all (Mutation id numbers command ∷ log) p n f = above-all log p n (λ k d. f k (inr d))
above-all (DropRange q m ∷ log) p n f = go (nat_eq (rank q) (rank p)) refl (above-all log p n (λ k d. f k (inr d)))
  where
    go : (b : Bool) → nat_eq (rank q) (rank p) ≡ b → list_all (λ e. outlasts e p n) log ≡ true → (cond b (nat_lt m n) true && list_all (λ e. outlasts e p n) log) ≡ true
    go true e i =
        let r : rank q ≡ rank p = grind (arith, nat_tests) in
        let s : m < n = f m (inl (ap (λ (x : Option ℕ). DropRange x m) (rank-injective q p r))) in
        rw i (passes m n s)
      where
        passes : (m n : ℕ) → m < n → (nat_lt m n && true) ≡ true
        passes m n s = grind (arith, nat_tests)
    go false e i = i

-- an entry that is no drop leaves the sum over the blocks
gets-same : (e : Entry) (log : List Entry) (w : Weight) (rest : List Entry) → ((p : Option ℕ) (n : ℕ) → outlasts e p n ≡ true) → gets_total (e ∷ log) w rest ≡ gets_total log w rest
gets-same e log w [] f = refl
gets-same e log w (Get q m digest source need ∷ rest) f = rw (f q m) (ap (λ n. cond (list_all (λ x. outlasts x q m) log) (w q m) 0 + n) (gets-same e log w rest f))
gets-same e log w (Merge new olds count ∷ rest) f = gets-same e log w rest f
gets-same e log w (Mutate old new upto count mcount ∷ rest) f = gets-same e log w rest f
gets-same e log w (Mutation id numbers command ∷ rest) f = gets-same e log w rest f
gets-same e log w (DropRange q m ∷ rest) f = gets-same e log w rest f

-- the weights outside a partition
abbrev without : Option ℕ → Weight → Weight
without p w q m = cond (nat_eq (rank q) (rank p)) 0 (w q m)

-- a drop takes the blocks of its partition away
gets-drop : (p : Option ℕ) (n : ℕ) (log : List Entry) (w : Weight) (rest : List Entry) → ((m : ℕ) → Used rest p m → m < n) → gets_total (DropRange p n ∷ log) w rest ≡ gets_total log (without p w) rest
gets-drop p n log w [] f = refl
gets-drop p n log w (Get q m digest source need ∷ rest) f = go (nat_eq (rank p) (rank q)) refl (gets-drop p n log w rest (λ k u. f k (inr u)))
  where
    others : Bool
    others = list_all (λ x. outlasts x q m) log

    zeros : (b : Bool) → ◌≡◌ {A = ℕ} (cond b 0 0) 0
    zeros true = refl
    zeros false = refl

    turned : (b : Bool) → nat_eq (rank p) (rank q) ≡ b → nat_eq (rank q) (rank p) ≡ b
    turned b e = grind (arith, nat_tests)

    go : (b : Bool) → nat_eq (rank p) (rank q) ≡ b → gets_total (DropRange p n ∷ log) w rest ≡ gets_total log (without p w) rest → cond (cond b (nat_lt n m) true && list_all (λ x. outlasts x q m) log) (w q m) 0 + gets_total (DropRange p n ∷ log) w rest ≡ cond (list_all (λ x. outlasts x q m) log) (cond (nat_eq (rank q) (rank p)) 0 (w q m)) 0 + gets_total log (without p w) rest
    go true e i =
        let r : rank p ≡ rank q = grind (arith, nat_tests) in
        let u : m < n = f m (inl (sym (rank-injective p q r), refl)) in
        let v : nat_lt n m ≡ false = grind (arith, nat_tests) in
        rw (v, turned true e, zeros (list_all (λ x. outlasts x q m) log)) (ap (λ k. 0 + k) i)
    go false e i = rw (turned false e) (ap (λ k. cond (list_all (λ x. outlasts x q m) log) (w q m) 0 + k) i)
gets-drop p n log w (Merge new olds count ∷ rest) f = gets-drop p n log w rest (λ k u. f k (inr u))
gets-drop p n log w (Mutate old new upto count mcount ∷ rest) f = gets-drop p n log w rest (λ k u. f k (inr u))
gets-drop p n log w (Mutation id numbers command ∷ rest) f = gets-drop p n log w rest (λ k u. f k (inr u))
gets-drop p n log w (DropRange q m ∷ rest) f = gets-drop p n log w rest (λ k u. f k (inr u))

-- the step of a block
get-case : (p : Option ℕ) (n : ℕ) (digest : List ℕ) (source need : ℕ) (log : List Entry) (w : Weight) → Tight log → IsFresh log p n → tally (of_name log w) (live log) ≡ gets_total log w log → tally (of_name (Get p n digest source need ∷ log) w) (placed (block_name p n) (live log)) ≡ gets_total (Get p n digest source need ∷ log) w (Get p n digest source need ∷ log)
get-case p n digest source need log w t f ih =
    let a = placed-total F new (live log) (w p n) own in
    let b = tally-same F (of_name log w) (live log) same in
    let c = gets-same e log w log (λ q m. refl) in
    rw (above-all log p n f.above) (omega (arith, a, b, c, ih))
  where
    e : Entry
    e = Get p n digest source need

    new : Name
    new = block_name p n

    F : Name → ℕ
    F = of_name (Get p n digest source need ∷ log) w

    -- no live name has the number
    none : (x : Name) → Has (live log) x → (m : ℕ) → x.min ≤ m → m ≤ x.max → (b : Bool) → (nat_eq (rank p) (rank x.partition) && nat_eq n m) ≡ b → b ≡ false
    none x h m i j false q = refl
    none x h m i j true q =
        let r : rank p ≡ rank x.partition = grind (arith, nat_tests) in
        let s : n ≡ m = grind (arith, nat_tests) in
        absurd (f.outside x h (record { partition = sym (rank-injective p x.partition r); low = omega arith; high = omega arith }))

    same : (x : Name) → Has (live log) x → F x ≡ of_name log w x
    same x h =
        total-same (present (Get p n digest source need ∷ log) w x.partition) (present log w x.partition) x.min (x.max + 1 - x.min)
        (λ m i j. ap (λ b. cond (b || has_block log x.partition m) (w x.partition m) 0) (none x h m i (let s = t.sized x h in omega arith) (nat_eq (rank p) (rank x.partition) && nat_eq n m) refl))

    covered : (x : Name) → Has (live log) x × (covers new x ≡ true) → F x ≡ 0
    covered x h =
        let c = covers-true new x h.1 in
        let i = c.min in let j = c.max in let s = t.sized x h.0 in
        absurd (f.outside x h.0 (record { partition = sym c.partition; low = omega arith; high = omega arith }))

    own : F new ≡ tally F (filter (covers new) (live log)) + w p n
    own =
        let z = tally-zero F (filter (covers new) (live log)) (λ x h. covered x (Has-filter (covers new) (live log) x h)) in
        let one : n + 1 - n ≡ 1 = omega arith in
        let here : F new ≡ total (present (Get p n digest source need ∷ log) w p) n 1 = ap (total (present (Get p n digest source need ∷ log) w p) n) one in
        let at : present (Get p n digest source need ∷ log) w p n ≡ w p n = ap (λ b. cond (b || has_block log p n) (w p n) 0) (block-here p n) in
        omega (arith, z, here, at)

-- a merged name has the blocks of its sources
pub merged-total : (schema : Shape) (new : Name) (a b : Name) (rest : List Name) (count : ℕ) (log : List Entry) (w : Weight) → Lawful schema log → (m : Merges log a b rest new count) → of_name log w (merged_name a (b ∷ rest)) ≡ tally (of_name log w) (a ∷ b ∷ rest)
merged-total schema new a b rest count log w l m =
    let s = span-total (present log w a.partition) a (b ∷ rest) lined fits gap in
    let u = tally-same (λ c. total (present log w a.partition) c.min (c.max + 1 - c.min)) F (a ∷ b ∷ rest) at-partition in
    omega (arith, s, u)
  where
    t : Tight log
    t = tight schema log l

    F : Name → ℕ
    F = of_name log w

    lined : Pairwise Before (a ∷ b ∷ rest)
    lined = sources-lined log t a b rest new count m

    fits : (c : Name) → Has (a ∷ b ∷ rest) c → (c.partition ≡ a.partition) × (c.min ≤ c.max)
    fits = source-fits log t a b rest new count m

    each-live : (c : Name) → Has (a ∷ b ∷ rest) c → Has (live log) c
    each-live = source-live log t a b rest new count m

    -- between them the log has no block
    gap : (n : ℕ) → ((c : Name) → Has (a ∷ b ∷ rest) c → c.min ≤ n → n ≤ c.max → ⊥) → a.min ≤ n → n ≤ (last a (b ∷ rest)).max → present log w a.partition n ≡ 0
    gap n none i j = go (has_block log a.partition n) refl
      where
        found : LiesInOne log a.partition n → ⊥
        found o =
            let u = o.spans.low in let v = o.spans.high in
            none o.name (is-source log t a b rest new count m o.name o.is_live (record { partition = sym o.spans.partition; low = omega arith; high = omega arith })) u v

        above : AboveDrops log a.partition n
        above k d = let u = t.above a (each-live a (inl refl)) k d in omega (arith, u)

        go : (v : Bool) → has_block log a.partition n ≡ v → cond (has_block log a.partition n) (w a.partition n) 0 ≡ 0
        go true e = absurd (found (blocks-live-once schema log l a.partition n (has-committed log a.partition n e) above))
        go false e = rw e refl

    at-partition : (c : Name) → Has (a ∷ b ∷ rest) c → total (present log w a.partition) c.min (c.max + 1 - c.min) ≡ F c
    at-partition c h = ap (λ (p : Option ℕ). total (present log w p) c.min (c.max + 1 - c.min)) (sym (fits c h).0)

-- the step of a merge
merge-case : (schema : Shape) (new : Name) (a b : Name) (rest : List Name) (count : ℕ) (log : List Entry) (w : Weight) → Lawful schema log → (m : Merges log a b rest new count) → tally (of_name log w) (placed new (live log)) ≡ tally (of_name log w) (live log)
merge-case schema new a b rest count log w l m =
    subst (λ (x : Name). tally F (placed x (live log)) ≡ tally F (live log)) (sym m.name)
    (let h = placed-total F merged (live log) 0 own in omega (arith, h))
  where
    t : Tight log
    t = tight schema log l

    merged : Name
    merged = merged_name a (b ∷ rest)

    F : Name → ℕ
    F = of_name log w

    lined : Pairwise Before (a ∷ b ∷ rest)
    lined = sources-lined log t a b rest new count m

    fits : (c : Name) → Has (a ∷ b ∷ rest) c → (c.partition ≡ a.partition) × (c.min ≤ c.max)
    fits = source-fits log t a b rest new count m

    each-live : (c : Name) → Has (a ∷ b ∷ rest) c → Has (live log) c
    each-live = source-live log t a b rest new count m

    -- the names that it covers are its sources
    covered : filter (covers merged) (live log) ≡ a ∷ b ∷ rest
    covered = same-order (filter (covers merged) (live log)) (a ∷ b ∷ rest) (Pairwise-filter Before (covers merged) (live log) t.apart) lined
        (λ x h. t.sized x (Has-filter (covers merged) (live log) x h).0)
        (λ x h. inside x (Has-filter (covers merged) (live log) x h))
        (λ x h. Has-kept (covers merged) (live log) x (each-live x h) (covers-holds merged x (merged-covers a (b ∷ rest) x lined fits h)))
      where
        inside : (x : Name) → Has (live log) x × (covers merged x ≡ true) → Has (a ∷ b ∷ rest) x
        inside x h = is-source log t a b rest new count m x h.0 (cover-overlap merged x (covers-true merged x h.1) (t.sized x h.0))

    own : F merged ≡ tally F (filter (covers merged) (live log)) + 0
    own =
        let s = merged-total schema new a b rest count log w l m in
        let v = ap (tally F) covered in
        omega (arith, s, v)

-- the step of a mutation of a part
mutate-case : (schema : Shape) (old new : Name) (upto count mcount : ℕ) (log : List Entry) (w : Weight) → Lawful schema log → (m : IsMutate log old new upto count mcount) → tally (of_name log w) (placed new (live log)) ≡ tally (of_name log w) (live log)
mutate-case schema old new upto count mcount log w l m = let h = placed-total F new (live log) 0 own in omega (arith, h)
  where
    t : Tight log
    t = tight schema log l

    F : Name → ℕ
    F = of_name log w

    supplants : Supplants (Mutate old new upto count mcount) log new
    supplants = supplants-mutate log t old new upto count mcount m

    overlaps : Overlap new old
    overlaps =
        let s = t.sized old m.is_live in
        subst (λ (x : Name). Overlap x old) (sym m.name) (record { partition = refl; low = s; high = s })

    covered : filter (covers new) (live log) ≡ old ∷ []
    covered = same-order (filter (covers new) (live log)) (old ∷ []) (Pairwise-filter Before (covers new) (live log) t.apart) (tt, tt)
        (λ x h. t.sized x (Has-filter (covers new) (live log) x h).0)
        (λ x h. inl (inside x (Has-filter (covers new) (live log) x h)))
        (λ x h. elim h [ inl e ↦ subst (Has (filter (covers new) (live log))) e (Has-kept (covers new) (live log) old m.is_live (covers-holds new old (supplants.over old m.is_live overlaps))) | inr k ↦ absurd k ])
      where
        inside : (x : Name) → Has (live log) x × (covers new x ≡ true) → old ≡ x
        inside x h =
            let o = cover-overlap new x (covers-true new x h.1) (t.sized x h.0) in
            one-live log old x t m.is_live h.0 (subst (λ (y : Name). Overlap y x → Overlap old x) (sym m.name) (λ v. record { partition = v.partition; low = v.low; high = v.high }) o)

    own : F new ≡ tally F (filter (covers new) (live log)) + 0
    own =
        let v = ap (tally F) covered in
        let u : F new ≡ F old = ap F m.name in
        omega (arith, u, v)

-- the step of a drop
drop-case : (p : Option ℕ) (n : ℕ) (log : List Entry) (w : Weight) → Tight log → AboveUsed log p n → tally (of_name log (without p w)) (live log) ≡ gets_total log (without p w) log → tally (of_name log w) (filter (λ a. not (in_drop p n a)) (live log)) ≡ gets_total (DropRange p n ∷ log) w log
drop-case p n log w t u ih =
    let a = tally-split (of_name log (without p w)) (in_drop p n) (live log) in
    let b = tally-zero (of_name log (without p w)) (filter (in_drop p n) (live log)) (λ x h. gone x (Has-filter (in_drop p n) (live log) x h)) in
    let c = tally-same (of_name log (without p w)) (of_name log w) (filter (λ x. not (in_drop p n x)) (live log)) (λ x h. left x (Has-filter (λ x. not (in_drop p n x)) (live log) x h)) in
    let d = gets-drop p n log w log u in
    omega (arith, a, b, c, d, ih)
  where
    zeros : (b : Bool) → ◌≡◌ {A = ℕ} (cond b 0 0) 0
    zeros true = refl
    zeros false = refl

    gone : (x : Name) → Has (live log) x × (in_drop p n x ≡ true) → of_name log (without p w) x ≡ 0
    gone x h =
        let r : rank p ≡ rank x.partition = dropped x h.1 in
        total-zero (present log (without p w) x.partition) x.min (x.max + 1 - x.min)
        (λ m i j. ap (λ b. cond (has_block log x.partition m) (cond b 0 (w x.partition m)) 0) (equal (rank x.partition) (rank p) (sym r)) ∙ zeros (has_block log x.partition m))
      where
        dropped : (x : Name) → in_drop p n x ≡ true → rank p ≡ rank x.partition
        dropped x e = grind (arith, nat_tests)

        equal : (i j : ℕ) → i ≡ j → nat_eq i j ≡ true
        equal i j e = grind (arith, nat_tests)

    left : (x : Name) → Has (live log) x × (not (in_drop p n x) ≡ true) → of_name log (without p w) x ≡ of_name log w x
    left x h =
        total-same (present log (without p w) x.partition) (present log w x.partition) x.min (x.max + 1 - x.min)
        (λ m i j. ap (λ b. cond (has_block log x.partition m) (cond b 0 (w x.partition m)) 0) (elsewhere (nat_eq (rank x.partition) (rank p)) refl))
      where
        stays : (x : Name) → rank x.partition ≡ rank p → x.max < n → not (in_drop p n x) ≡ true → ⊥
        stays x r v e = grind (arith, nat_tests)

        elsewhere : (b : Bool) → nat_eq (rank x.partition) (rank p) ≡ b → b ≡ false
        elsewhere false e = refl
        elsewhere true e =
            let r : rank x.partition ≡ rank p = grind (arith, nat_tests) in
            let v = u x.max (subst (λ (q : Option ℕ). Used log q x.max) (rank-injective x.partition p r) (t.used x h.0)) in
            absurd (stays x r v h.1)

-- the blocks of the live names, each once, are those above the drops
pub balance : (schema : Shape) (log : List Entry) → Lawful schema log → (w : Weight) → tally (of_name log w) (live log) ≡ gets_total log w log
balance schema [] l w = refl
balance schema (Get p n digest source need ∷ log) l w = get-case p n digest source need log w (tight schema log l.0) l.1 (balance schema log l.0 w)
balance schema (Merge new [] count ∷ log) l w = absurd l.1
balance schema (Merge new (a ∷ []) count ∷ log) l w = absurd l.1
balance schema (Merge new (a ∷ b ∷ rest) count ∷ log) l w = merge-case schema new a b rest count log w l.0 l.1 ∙ (balance schema log l.0 w ∙ sym (gets-same (Merge new (a ∷ b ∷ rest) count) log w log (λ p n. refl)))
balance schema (Mutate old new upto count mcount ∷ log) l w = mutate-case schema old new upto count mcount log w l.0 l.1 ∙ (balance schema log l.0 w ∙ sym (gets-same (Mutate old new upto count mcount) log w log (λ p n. refl)))
balance schema (Mutation id numbers command ∷ log) l w = balance schema log l.0 w ∙ sym (gets-same (Mutation id numbers command) log w log (λ p n. refl))
balance schema (DropRange p n ∷ log) l w = drop-case p n log w (tight schema log l.0) l.1 (balance schema log l.0 (without p w))
