-- The laws of live and made names.
use Rattle.std.proofs.Common.{◌≡◌, ℕ, ◌<◌, ◌≤◌, ◌⊎◌, inl, inr, ◌&&◌, Bool, true, false, cond, not, max, List, [], ◌∷◌, ◌++◌, length, refl, sym, ap, subst, arith, ◌∙◌, nat_eq, nat_le, filter}
use Rattle.std.proofs.lemmas.Bool.Decides.{nat_tests}
use Rattle.std.specs.declared.option.Option.{Option}
use Rattle.std.specs.declared.option.Option.TheVariants.{Some}
use Rattle.rmt_values.specs.declared.checked_mutation.CheckedMutation.{CheckedMutation}
use Rattle.rmt_values.specs.Rows.{Shape}
use Rattle.rmt_names.specs.Names.{Name, rank, data_version, Covers, covers, Overlap, last, highest, merged_name, block_name}
use Rattle.rmt_entries.specs.declared.entry.Entry.{Entry}
use Rattle.rmt_entries.specs.declared.entry.Entry.TheVariants.{Get, Merge, Mutate, Mutation, DropRange}
use Rattle.rmt_model.specs.Words.{Has, Pairwise}
use Rattle.rmt_model.specs.Live.{Before, placed, in_drop, live, made, Dropped}
use Rattle.rmt_model.specs.Lawful.{Used, version_among, version_at, version_below, entry_at, IsMutationWith, DropIn, AboveDrops, AboveUsed, IsFresh, Merges, IsMutate, Lawful}
use Rattle.rmt_model.specs.Fair.{CoveredBy}
use Rattle.rmt_model.specs.Laws.{LiesInOne, BlocksLiveOnce, Supersedes, LaterCovers, CoversNoneButItself}
use Rattle.rmt_model.proofs.Lists.{Has-append, Has-left, Has-right, Each-at, Each-all, Has-filter, Has-kept, Pairwise-filter, rank-injective, covers-true, covers-false, Has-inserted, Has-new, Has-old, Pairwise-inserted}

pub Covers-refl : (a : Name) → Covers a a
Covers-refl a = record { partition = refl; min = omega arith; max = omega arith; level = omega arith; mutation = omega arith }

pub Covers-trans : (a b c : Name) → Covers a b → Covers b c → Covers a c
Covers-trans a b c h k = record { partition = h.partition ∙ k.partition; min = omega arith; max = omega arith; level = omega arith; mutation = omega arith }

name-of : Option ℕ → ℕ → ℕ → ℕ → ℕ → Name
name-of p i j k m = record { partition = p; min = i; max = j; level = k; mutation = m }

same-parts : (p q : Option ℕ) (i j k m i' j' k' m' : ℕ) → p ≡ q → i ≡ i' → j ≡ j' → k ≡ k' → m ≡ m' → name-of p i j k m ≡ name-of q i' j' k' m'
same-parts p q i j k m i' j' k' m' e f g h l = cc

pub Covers-antisym : (a b : Name) → Covers a b → Covers b a → a ≡ b
unfolding name-of
Covers-antisym a b h k =
    let i : a.min ≡ b.min = omega arith in
    let j : a.max ≡ b.max = omega arith in
    let l : a.level ≡ b.level = omega arith in
    let m : a.mutation ≡ b.mutation = omega arith in
    same-parts a.partition b.partition a.min a.max a.level a.mutation b.min b.max b.level b.mutation h.partition i j l m

-- a name in the list of names into which a new one was placed
pub Has-placed : (new : Name) (xs : List Name) (x : Name) → Has (placed new xs) x → (new ≡ x) ⊎ Has xs x
Has-placed new xs x h =
    elim (Has-inserted new (filter (λ a. not (covers new a)) xs) x h) [ inl e ↦ inl e | inr k ↦ inr (Has-filter (λ a. not (covers new a)) xs x k).0 ]

pub placed-new : (new : Name) (xs : List Name) → Has (placed new xs) new
placed-new new xs = Has-new new (filter (λ a. not (covers new a)) xs)

-- each name is kept or covered by the new one
pub placed-old : (new : Name) (xs : List Name) (x : Name) → Has xs x → Covers new x ⊎ Has (placed new xs) x
placed-old new xs x h = go (covers new x) refl
  where
    go : (b : Bool) → covers new x ≡ b → Covers new x ⊎ Has (placed new xs) x
    go true e = inl (covers-true new x e)
    go false e = inr (Has-old new (filter (λ a. not (covers new a)) xs) x (Has-kept (λ a. not (covers new a)) xs x h (ap not e)))

pub covered-placed : (new : Name) (xs : List Name) (a : Name) → CoveredBy xs a → CoveredBy (placed new xs) a
covered-placed new xs a c =
    elim (placed-old new xs c.name c.is_in) [
      | inl h ↦ record { name = new; is_in = placed-new new xs; covers = Covers-trans new c.name a h c.covers }
      | inr h ↦ record { name = c.name; is_in = h; covers = c.covers }
    ]

-- each made name is dropped, or covered by a live one
abbrev pub Accounted : List Entry → Name → Type 0
Accounted log a = Dropped log a ⊎ CoveredBy (live log) a

accounted-new : (new : Name) (e : Entry) (log : List Entry) (xs : List Name) (a : Name) → (new ≡ a) ⊎ Has (made log) a → (Has (made log) a → Accounted log a) → Dropped (e ∷ log) a ⊎ CoveredBy (placed new (live log)) a
accounted-new new e log xs a (inl s) f =
    inr (subst (CoveredBy (placed new (live log))) s (record { name = new; is_in = placed-new new (live log); covers = Covers-refl new }))
accounted-new new e log xs a (inr h) f =
    elim (f h) [ inl d ↦ inl (inl d) | inr c ↦ inr (covered-placed new (live log) a c) ]

accounted-drop : (p : Option ℕ) (n : ℕ) (log : List Entry) (a : Name) → Has (made log) a → Accounted log a → Accounted (DropRange p n ∷ log) a
accounted-drop p n log a h (inl d) = inl (inl d)
accounted-drop p n log a h (inr c) = go (in_drop p n c.name) refl
  where
    go : (b : Bool) → in_drop p n c.name ≡ b → Accounted (DropRange p n ∷ log) a
    go true e =
        let r : rank p ≡ rank c.name.partition = grind (arith, nat_tests) in
        let m : c.name.max ≤ n = grind (arith, nat_tests) in
        let k = c.covers.max in
        inl (inr (h, (rank-injective p c.name.partition r ∙ c.covers.partition, omega arith)))
    go false e = inr (record { name = c.name; is_in = Has-kept (λ x. not (in_drop p n x)) (live log) c.name c.is_in (ap not e); covers = c.covers })

pub accounted : (log : List Entry) (a : Name) → Has (made log) a → Accounted log a
accounted [] a h = absurd h
accounted (Get p n digest source need ∷ log) a h = accounted-new (block_name p n) (Get p n digest source need) log [] a h (accounted log a)
accounted (Merge new sources count ∷ log) a h = accounted-new new (Merge new sources count) log [] a h (accounted log a)
accounted (Mutate old new upto count mcount ∷ log) a h = accounted-new new (Mutate old new upto count mcount) log [] a h (accounted log a)
accounted (Mutation id numbers command ∷ log) a h = elim (accounted log a h) [ inl d ↦ inl (inl d) | inr c ↦ inr c ]
accounted (DropRange p n ∷ log) a h = accounted-drop p n log a h (accounted log a h)

pub covers-holds : (a b : Name) → Covers a b → covers a b ≡ true
covers-holds a b c = go (covers a b) refl
  where
    go : (v : Bool) → covers a b ≡ v → v ≡ true
    go true e = refl
    go false e = absurd (covers-false a b e c)

pub not-kept : (b : Bool) → b ≡ true → not b ≡ true → ⊥
not-kept true e f = cc
not-kept false e f = cc

-- what holds of the live names of a lawful log
pub record Tight (log : List Entry) : Type 0 where
  pub apart : Pairwise Before (live log)
  pub sized : (a : Name) → Has (live log) a → a.min ≤ a.max
  pub above : (a : Name) → Has (live log) a → AboveDrops log a.partition a.min
  pub used : (a : Name) → Has (live log) a → Used log a.partition a.max

-- what a new name does to the live ones
pub record Supplants (e : Entry) (log : List Entry) (new : Name) : Type 0 where
  pub sized : new.min ≤ new.max
  pub above : AboveDrops log new.partition new.min
  pub used : Used (e ∷ log) new.partition new.max
  pub over : (b : Name) → Has (live log) b → Overlap new b → Covers new b
  pub strict : (b : Name) → Has (live log) b → Covers b new → ⊥

-- names that share no number lie one before the other
pub apart-or-overlap : (a b : Name) → a.min ≤ a.max → b.min ≤ b.max → (Before a b ⊎ Before b a) ⊎ Overlap a b
apart-or-overlap a b s t = go (grind arith)
  where
    go : (Before a b ⊎ Before b a) ⊎ ((rank a.partition ≡ rank b.partition) × (a.min ≤ b.max) × (b.min ≤ a.max)) → (Before a b ⊎ Before b a) ⊎ Overlap a b
    go (inl h) = inl h
    go (inr h) = inr (record { partition = rank-injective a.partition b.partition h.0; low = h.1; high = h.2 })

pub not-both : (a b : Name) → Before a b → Overlap a b → ⊥
not-both a b h o = let r : rank a.partition ≡ rank b.partition = ap rank o.partition in let l = o.high in let m = o.low in grind arith

pub Overlap-sym : (a b : Name) → Overlap a b → Overlap b a
Overlap-sym a b o = record { partition = sym o.partition; low = o.high; high = o.low }

-- a step that places a new name keeps all this
tight-placed : (e : Entry) (log : List Entry) (new : Name) → ((p : Option ℕ) (m : ℕ) → DropIn (e ∷ log) p m → DropIn log p m) → Tight log → Supplants e log new → Pairwise Before (placed new (live log)) × ((a : Name) → Has (placed new (live log)) a → (a.min ≤ a.max) × AboveDrops (e ∷ log) a.partition a.min × Used (e ∷ log) a.partition a.max)
tight-placed e log new drops t s = (
  Pairwise-inserted new kept (Pairwise-filter Before keeps (live log) t.apart)
      (λ x h. t.sized x (Has-filter keeps (live log) x h).0)
      (λ x h. apart x (Has-filter keeps (live log) x h)),
  λ a h. each a (Has-placed new (live log) a h),
)
  where
    keeps : Name → Bool
    keeps a = not (covers new a)

    kept : List Name
    kept = filter keeps (live log)

    apart : (x : Name) → Has (live log) x × (keeps x ≡ true) → Before x new ⊎ Before new x
    apart x h =
        elim (apart-or-overlap x new (t.sized x h.0) s.sized) [
          | inl k ↦ k
          | inr o ↦ absurd (not-kept (covers new x) (covers-holds new x (s.over x h.0 (Overlap-sym x new o))) h.1)
        ]

    each : (a : Name) → (new ≡ a) ⊎ Has (live log) a → (a.min ≤ a.max) × AboveDrops (e ∷ log) a.partition a.min × Used (e ∷ log) a.partition a.max
    each a (inl q) = subst (λ (x : Name). (x.min ≤ x.max) × AboveDrops (e ∷ log) x.partition x.min × Used (e ∷ log) x.partition x.max) q (s.sized, λ m d. s.above m (drops new.partition m d), s.used)
    each a (inr h) = (t.sized a h, λ m d. t.above a h m (drops a.partition m d), inr (t.used a h))

-- the step of each kind of entry
tight-get : (p : Option ℕ) (n : ℕ) (digest : List ℕ) (source need : ℕ) (log : List Entry) → Tight log → Supplants (Get p n digest source need) log (block_name p n) → Tight (Get p n digest source need ∷ log)
tight-get p n digest source need log t s =
    let r = tight-placed (Get p n digest source need) log (block_name p n) (λ q m d. elim d [ inl k ↦ absurd (cc) | inr k ↦ k ]) t s in
    record { apart = r.0; sized = λ a h. (r.1 a h).0; above = λ a h. (r.1 a h).1; used = λ a h. (r.1 a h).2 }

tight-merge : (new : Name) (sources : List Name) (count : ℕ) (log : List Entry) → Tight log → Supplants (Merge new sources count) log new → Tight (Merge new sources count ∷ log)
tight-merge new sources count log t s =
    let r = tight-placed (Merge new sources count) log new (λ q m d. elim d [ inl k ↦ absurd (cc) | inr k ↦ k ]) t s in
    record { apart = r.0; sized = λ a h. (r.1 a h).0; above = λ a h. (r.1 a h).1; used = λ a h. (r.1 a h).2 }

tight-mutate : (old new : Name) (upto count mcount : ℕ) (log : List Entry) → Tight log → Supplants (Mutate old new upto count mcount) log new → Tight (Mutate old new upto count mcount ∷ log)
tight-mutate old new upto count mcount log t s =
    let r = tight-placed (Mutate old new upto count mcount) log new (λ q m d. elim d [ inl k ↦ absurd (cc) | inr k ↦ k ]) t s in
    record { apart = r.0; sized = λ a h. (r.1 a h).0; above = λ a h. (r.1 a h).1; used = λ a h. (r.1 a h).2 }

tight-mutation : (id : ℕ) (numbers : List (Option ℕ × ℕ)) (command : CheckedMutation) (log : List Entry) → Tight log → Tight (Mutation id numbers command ∷ log)
tight-mutation id numbers command log t =
    record { apart = t.apart; sized = t.sized; above = λ a h m d. elim d [ inl k ↦ absurd (cc) | inr k ↦ t.above a h m k ]; used = λ a h. inr (t.used a h) }

-- a name of the partition that a drop leaves has its max above the number
left-alone : (p : Option ℕ) (n : ℕ) (a : Name) → p ≡ a.partition → not (in_drop p n a) ≡ true → a.max < n → ⊥
left-alone p n a q e h = let r : rank p ≡ rank a.partition = ap rank q in grind (arith, nat_tests)

tight-drop : (p : Option ℕ) (n : ℕ) (log : List Entry) → Tight log → AboveUsed log p n → Tight (DropRange p n ∷ log)
tight-drop p n log t u =
    record {
      apart = Pairwise-filter Before keeps (live log) t.apart;
      sized = λ a h. t.sized a (Has-filter keeps (live log) a h).0;
      above = λ a h m d. above a (Has-filter keeps (live log) a h) m d;
      used = λ a h. inr (t.used a (Has-filter keeps (live log) a h).0);
    }
  where
    keeps : Name → Bool
    keeps a = not (in_drop p n a)

    above : (a : Name) → Has (live log) a × (keeps a ≡ true) → (m : ℕ) → DropIn (DropRange p n ∷ log) a.partition m → m < a.min
    above a h m (inl k) =
        let q : p ≡ a.partition = cc in
        absurd (left-alone p n a q h.1 (u a.max (subst (λ (x : Option ℕ). Used log x a.max) (sym q) (t.used a h.0))))
    above a h m (inr k) = t.above a h.0 m k

-- the names of a merge
Each-pair : {A : Type 0} (R : A → A → Type 0) (xs ys : List A) (x y : A) → Pairwise R (xs ++ ys) → Has xs x → Has ys y → R x y
Each-pair R (z ∷ xs) ys x y p (inl e) k = subst (λ v. R v y) e (Each-at (R z) (xs ++ ys) y p.0 (Has-right xs ys y k))
Each-pair R (z ∷ xs) ys x y p (inr h) k = Each-pair R xs ys x y p.1 h k
Each-pair R [] ys x y p h k = absurd h

Pairwise-right : {A : Type 0} (R : A → A → Type 0) (xs ys : List A) → Pairwise R (xs ++ ys) → Pairwise R ys
Pairwise-right R [] ys p = p
Pairwise-right R (z ∷ xs) ys p = Pairwise-right R xs ys p.1

Pairwise-left : {A : Type 0} (R : A → A → Type 0) (xs ys : List A) → Pairwise R (xs ++ ys) → Pairwise R xs
Pairwise-left R [] ys p = tt
Pairwise-left R (z ∷ xs) ys p = (Each-all (R z) xs (λ x h. Each-at (R z) (xs ++ ys) x p.0 (Has-left xs ys x h)), Pairwise-left R xs ys p.1)

pub Has-last : (a : Name) (rest : List Name) → Has (a ∷ rest) (last a rest)
Has-last a [] = inl refl
Has-last a (b ∷ rest) = inr (Has-last b rest)

-- each is the last or lies before it
pub to-last : (a : Name) (rest : List Name) (c : Name) → Pairwise Before (a ∷ rest) → Has (a ∷ rest) c → (c ≡ last a rest) ⊎ Before c (last a rest)
to-last a [] c p (inl e) = inl (sym e)
to-last a [] c p (inr h) = absurd h
to-last a (b ∷ rest) c p (inl e) = inr (subst (λ (x : Name). Before x (last b rest)) e (Each-at (Before a) (b ∷ rest) (last b rest) p.0 (Has-last b rest)))
to-last a (b ∷ rest) c p (inr h) = to-last b rest c p.1 h

pub highest-above : (of : Name → ℕ) (a : Name) (rest : List Name) (c : Name) → Has (a ∷ rest) c → of c ≤ highest of a rest
highest-above of a [] c (inl e) = let q : of a ≡ of c = ap of e in omega arith
highest-above of a [] c (inr h) = absurd h
highest-above of a (b ∷ rest) c (inl e) = let q : of a ≡ of c = ap of e in omega arith
highest-above of a (b ∷ rest) c (inr h) = let q = highest-above of b rest c h in omega (arith, q)

-- the merged name covers each source
pub merged-covers : (a : Name) (rest : List Name) (c : Name) → Pairwise Before (a ∷ rest) → ((x : Name) → Has (a ∷ rest) x → (x.partition ≡ a.partition) × (x.min ≤ x.max)) → Has (a ∷ rest) c → Covers (merged_name a rest) c
merged-covers a rest c p w h =
    record {
      partition = sym (w c h).0;
      min = low h;
      max = high (to-last a rest c p h);
      level = let q = highest-above (λ x. x.level) a rest c h in omega (arith, q);
      mutation = highest-above (λ x. x.mutation) a rest c h;
    }
  where
    low : Has (a ∷ rest) c → a.min ≤ c.min
    low (inl e) = let q : a.min ≡ c.min = ap (λ x. x.min) e in omega arith
    low (inr k) =
        let b : Before a c = Each-at (Before a) rest c p.0 k in
        let q : rank c.partition ≡ rank a.partition = ap rank (w c h).0 in
        let s = (w a (inl refl)).1 in grind arith

    high : (c ≡ last a rest) ⊎ Before c (last a rest) → c.max ≤ (last a rest).max
    high (inl e) = let q : c.max ≡ (last a rest).max = ap (λ x. x.max) e in omega arith
    high (inr b) =
        let q : rank c.partition ≡ rank (last a rest).partition = ap rank ((w c h).0 ∙ sym (w (last a rest) (Has-last a rest)).0) in
        let s = (w (last a rest) (Has-last a rest)).1 in grind arith

-- what a fresh block does
pub supplants-get : (p : Option ℕ) (n : ℕ) (digest : List ℕ) (source need : ℕ) (log : List Entry) → IsFresh log p n → Supplants (Get p n digest source need) log (block_name p n)
supplants-get p n digest source need log f =
    record {
      sized = omega arith;
      above = f.above;
      used = inl (refl, refl);
      over = λ b h o. absurd (f.outside b h (record { partition = sym o.partition; low = o.high; high = o.low }));
      strict = λ b h c. f.outside b h (record { partition = c.partition; low = c.min; high = c.max });
    }

module _ (log : List Entry) (t : Tight log) (a b : Name) (rest : List Name) (new : Name) (count : ℕ) (m : Merges log a b rest new count) where
  abbrev pub sources : List Name
  sources = a ∷ b ∷ rest

  pub lined : Pairwise Before (m.neighbours.left ++ (sources ++ m.neighbours.right))
  lined = subst (Pairwise Before) (sym m.neighbours.among) t.apart

  pub source-live : (c : Name) → Has sources c → Has (live log) c
  source-live c h =
      subst (λ (xs : List Name). Has xs c) m.neighbours.among (Has-right m.neighbours.left (sources ++ m.neighbours.right) c (Has-left sources m.neighbours.right c h))

  pub source-fits : (c : Name) → Has sources c → (c.partition ≡ a.partition) × (c.min ≤ c.max)
  source-fits c (inl e) = (ap (λ x. x.partition) (sym e), t.sized c (source-live c (inl e)))
  source-fits c (inr h) = (Each-at (λ x. x.partition ≡ a.partition) (b ∷ rest) c m.partition h, t.sized c (source-live c (inr h)))

  pub sources-lined : Pairwise Before sources
  sources-lined = Pairwise-left Before sources m.neighbours.right (Pairwise-right Before m.neighbours.left (sources ++ m.neighbours.right) lined)

  pub the-last : Has sources (last a (b ∷ rest))
  the-last = Has-last a (b ∷ rest)

  pub merged-sized : (merged_name a (b ∷ rest)).min ≤ (merged_name a (b ∷ rest)).max
  merged-sized =
      let c = merged-covers a (b ∷ rest) a sources-lined source-fits (inl refl) in
      let s = (source-fits a (inl refl)).1 in
      let h = c.max in
      omega arith

  -- a live name that shares a number with the merged one is a source
  pub is-source : (c : Name) → Has (live log) c → Overlap (merged_name a (b ∷ rest)) c → Has sources c
  is-source c h o = where-it-stands (Has-append m.neighbours.left (sources ++ m.neighbours.right) c (subst (λ (xs : List Name). Has xs c) (sym m.neighbours.among) h))
    where
      behind : Has sources c ⊎ Has m.neighbours.right c → Has sources c
      behind (inl k) = k
      behind (inr k) =
          let f : Before (last a (b ∷ rest)) c = Each-pair Before sources m.neighbours.right (last a (b ∷ rest)) c (Pairwise-right Before m.neighbours.left (sources ++ m.neighbours.right) lined) the-last k in
          let q : rank (last a (b ∷ rest)).partition ≡ rank c.partition = ap rank ((source-fits (last a (b ∷ rest)) the-last).0 ∙ o.partition) in
          let g = o.high in
          absurd (grind arith)

      where-it-stands : Has m.neighbours.left c ⊎ Has (sources ++ m.neighbours.right) c → Has sources c
      where-it-stands (inl k) =
          let f : Before c a = Each-pair Before m.neighbours.left (sources ++ m.neighbours.right) c a lined k (inl refl) in
          let q : rank a.partition ≡ rank c.partition = ap rank o.partition in
          let g = o.low in
          absurd (grind arith)
      where-it-stands (inr k) = behind (Has-append sources m.neighbours.right c k)

  merged-supplants : Supplants (Merge new sources count) log (merged_name a (b ∷ rest))
  merged-supplants =
      record {
        sized = merged-sized;
        above = t.above a (source-live a (inl refl));
        used = inr (subst (λ (p : Option ℕ). Used log p (last a (b ∷ rest)).max) (source-fits (last a (b ∷ rest)) the-last).0 (t.used (last a (b ∷ rest)) (source-live (last a (b ∷ rest)) the-last)));
        over = λ c h o. merged-covers a (b ∷ rest) c sources-lined source-fits (is-source c h o);
        strict = λ c h k. strict c h k;
      }
    where
      strict : (c : Name) → Has (live log) c → Covers c (merged_name a (b ∷ rest)) → ⊥
      strict c h k =
          let z = merged-sized in
          let s = t.sized c h in
          let i = is-source c h (record { partition = sym k.partition; low = let u = k.min in let v = k.max in omega arith; high = let u = k.min in let v = k.max in omega arith }) in
          let q = highest-above (λ x. x.level) a (b ∷ rest) c i in
          let l = k.level in
          omega (arith, q)

  pub supplants-merge : Supplants (Merge new (a ∷ b ∷ rest) count) log new
  supplants-merge = subst (Supplants (Merge new (a ∷ b ∷ rest) count) log) (sym m.name) merged-supplants

-- two members of a list in order are one, or one lies before the other
pub Pairwise-cases : {A : Type 0} (R : A → A → Type 0) (xs : List A) (x y : A) → Pairwise R xs → Has xs x → Has xs y → (x ≡ y) ⊎ (R x y ⊎ R y x)
Pairwise-cases R (z ∷ xs) x y p (inl e) (inl f) = inl (sym e ∙ f)
Pairwise-cases R (z ∷ xs) x y p (inl e) (inr k) = inr (inl (subst (λ v. R v y) e (Each-at (R z) xs y p.0 k)))
Pairwise-cases R (z ∷ xs) x y p (inr h) (inl f) = inr (inr (subst (λ v. R v x) f (Each-at (R z) xs x p.0 h)))
Pairwise-cases R (z ∷ xs) x y p (inr h) (inr k) = Pairwise-cases R xs x y p.1 h k
Pairwise-cases R [] x y p h k = absurd h

-- live names that share a number are one
pub one-live : (log : List Entry) (x y : Name) → Tight log → Has (live log) x → Has (live log) y → Overlap x y → x ≡ y
one-live log x y t h k o =
    elim (Pairwise-cases Before (live log) x y t.apart h k) [
      | inl e ↦ e
      | inr c ↦ elim c [ inl b ↦ absurd (not-both x y b o) | inr b ↦ absurd (not-both y x b (Overlap-sym x y o)) ]
    ]

-- a mutation's number that isn't above the limit isn't above the version
among-below : (numbers : List (Option ℕ × ℕ)) (p : Option ℕ) (n limit : ℕ) → Has numbers (p, n) → n ≤ limit → n ≤ version_among numbers p limit
among-below (x ∷ xs) p n limit (inl e) h =
    let q : rank x.0 ≡ rank p = ap (λ (v : Option ℕ × ℕ). rank v.0) e in
    let r : x.1 ≡ n = ap (λ (v : Option ℕ × ℕ). v.1) e in
    first (rank x.0) (rank p) x.1 n limit (version_among xs p limit) q r h
  where
    first : (a b m k l rest : ℕ) → a ≡ b → m ≡ k → k ≤ l → k ≤ max (cond (nat_eq a b && nat_le m l) m 0) rest
    first a b m k l rest q r h = grind (arith, nat_tests)
among-below (x ∷ xs) p n limit (inr k) h = let q = among-below xs p n limit k h in omega (arith, q)
among-below [] p n limit k h = absurd k

pub at-below : (e : Entry) (p : Option ℕ) (n limit : ℕ) → IsMutationWith (Some e) p n → n ≤ limit → n ≤ version_at e p limit
at-below (Mutation id numbers command) p n limit k h = among-below numbers p n limit k h
at-below (Get q m digest source need) p n limit k h = absurd k
at-below (Merge new olds count) p n limit k h = absurd k
at-below (Mutate old new upto count mcount) p n limit k h = absurd k
at-below (DropRange q m) p n limit k h = absurd k

log-below : (log : List Entry) (i : ℕ) (p : Option ℕ) (n limit : ℕ) → IsMutationWith (entry_at log i) p n → n ≤ limit → n ≤ version_below log p limit
log-below [] i p n limit k h = absurd k
log-below (e ∷ log) i p n limit k h = go (nat_eq i (length log)) k (log-below log i p n limit)
  where
    go : (b : Bool) → IsMutationWith (cond b (Some e) (entry_at log i)) p n → (IsMutationWith (entry_at log i) p n → n ≤ limit → n ≤ version_below log p limit) → n ≤ version_below (e ∷ log) p limit
    go true k f = let q = at-below e p n limit k h in omega (arith, q)
    go false k f = let q = f k h in omega (arith, q)

-- a pending mutation's number is above the part's own
pub pending-above : (log : List Entry) (old new : Name) (upto count mcount : ℕ) (m : IsMutate log old new upto count mcount) → data_version old < m.number
pending-above log old new upto count mcount m = go (nat_le m.number (data_version old)) refl
  where
    go : (b : Bool) → nat_le m.number (data_version old) ≡ b → data_version old < m.number
    go true e =
        let h : m.number ≤ data_version old = grind (arith, nat_tests) in
        let q = log-below log upto old.partition m.number (data_version old) m.at h in
        let p = m.pending in
        absurd (omega (arith, q))
    go false e = grind (arith, nat_tests)

version-above : (a : Name) → a.mutation ≤ data_version a
version-above a = grind (arith, nat_tests)

pub supplants-mutate : (log : List Entry) → Tight log → (old new : Name) (upto count mcount : ℕ) → IsMutate log old new upto count mcount → Supplants (Mutate old new upto count mcount) log new
supplants-mutate log t old new upto count mcount m =
    subst (Supplants (Mutate old new upto count mcount) log) (sym m.name) (record {
      sized = t.sized old m.is_live;
      above = t.above old m.is_live;
      used = inr (t.used old m.is_live);
      over = λ b h o. over b (one-live log old b t m.is_live h (record { partition = o.partition; low = o.low; high = o.high }));
      strict = λ b h c. strict b h c (one-live log old b t m.is_live h (record { partition = sym c.partition; low = low b h c; high = high b h c }));
    })
  where
    above : data_version old < m.number
    above = pending-above log old new upto count mcount m

    changed : Name
    changed = record old { mutation = m.number }

    over : (b : Name) → old ≡ b → Covers (record old { mutation = m.number }) b
    over b e =
        subst (Covers (record old { mutation = m.number })) e (record { partition = refl; min = omega arith; max = omega arith; level = omega arith; mutation = let u = above in let v = version-above old in omega (arith, u, v) })

    low : (b : Name) → Has (live log) b → Covers b (record old { mutation = m.number }) → old.min ≤ b.max
    low b h c = let s = t.sized old m.is_live in let u = c.max in omega (arith, s, u)

    high : (b : Name) → Has (live log) b → Covers b (record old { mutation = m.number }) → b.min ≤ old.max
    high b h c = let s = t.sized old m.is_live in let u = c.min in omega (arith, s, u)

    strict : (b : Name) → Has (live log) b → Covers b (record old { mutation = m.number }) → old ≡ b → ⊥
    strict b h c e =
        let q : old.mutation ≡ b.mutation = ap (λ x. x.mutation) e in
        let u = above in let v = version-above old in let w = c.mutation in omega (arith, q, u, v, w)

-- each lawful log is tight
pub tight : (schema : Shape) (log : List Entry) → Lawful schema log → Tight log
tight schema [] l = record { apart = tt; sized = λ a h. absurd h; above = λ a h. absurd h; used = λ a h. absurd h }
tight schema (Get p n digest source need ∷ log) l = tight-get p n digest source need log (tight schema log l.0) (supplants-get p n digest source need log l.1)
tight schema (Merge new [] count ∷ log) l = absurd l.1
tight schema (Merge new (a ∷ []) count ∷ log) l = absurd l.1
tight schema (Merge new (a ∷ b ∷ rest) count ∷ log) l = let t = tight schema log l.0 in tight-merge new (a ∷ b ∷ rest) count log t (supplants-merge log t a b rest new count l.1)
tight schema (Mutate old new upto count mcount ∷ log) l = let t = tight schema log l.0 in tight-mutate old new upto count mcount log t (supplants-mutate log t old new upto count mcount l.1)
tight schema (Mutation id numbers command ∷ log) l = tight-mutation id numbers command log (tight schema log l.0)
tight schema (DropRange p n ∷ log) l = tight-drop p n log (tight schema log l.0) l.1

-- a name that was dropped lies at or below a drop
pub drop-of : (log : List Entry) (a : Name) → Dropped log a → (n : ℕ) × DropIn log a.partition n × (a.max ≤ n)
drop-of [] a d = absurd d
drop-of (e ∷ log) a (inl d) = let r = drop-of log a d in (r.0, inr r.1, r.2)
drop-of (DropRange p n ∷ log) a (inr h) = (n, inl (ap (λ (q : Option ℕ). DropRange q n) h.1.0), h.1.1)
drop-of (Get p n digest source need ∷ log) a (inr h) = absurd h.1
drop-of (Merge new olds count ∷ log) a (inr h) = absurd h.1
drop-of (Mutate old new upto count mcount ∷ log) a (inr h) = absurd h.1
drop-of (Mutation id numbers command ∷ log) a (inr h) = absurd h.1

-- the entries of a log have made their names
pub Get-made : (log : List Entry) (p : Option ℕ) (n : ℕ) (digest : List ℕ) (source need : ℕ) → Has log (Get p n digest source need) → Has (made log) (block_name p n)
Get-made (e ∷ log) p n digest source need (inl s) = subst (λ (x : Entry). Has (made (x ∷ log)) (block_name p n)) (sym s) (inl refl)
Get-made (Get q m d s r ∷ log) p n digest source need (inr h) = inr (Get-made log p n digest source need h)
Get-made (Merge new olds count ∷ log) p n digest source need (inr h) = inr (Get-made log p n digest source need h)
Get-made (Mutate old new upto count mcount ∷ log) p n digest source need (inr h) = inr (Get-made log p n digest source need h)
Get-made (Mutation id numbers command ∷ log) p n digest source need (inr h) = Get-made log p n digest source need h
Get-made (DropRange q m ∷ log) p n digest source need (inr h) = Get-made log p n digest source need h
Get-made [] p n digest source need h = absurd h

-- each block above the drops of its partition lies in exactly one live name
pub blocks-live-once : (schema : Shape) (log : List Entry) → Lawful schema log → BlocksLiveOnce log
blocks-live-once schema log l p n c above =
    elim (accounted log (block_name p n) (Get-made log p n c.digest c.source c.need c.entry)) [
      | inl d ↦ let r = drop-of log (block_name p n) d in let u = above r.0 r.1 in let v : n ≤ r.0 = r.2 in absurd (omega (arith, u, v))
      | inr k ↦ found k
    ]
  where
    found : CoveredBy (live log) (block_name p n) → LiesInOne log p n
    found k = record {
      name = k.name;
      is_live = k.is_in;
      spans = record { partition = k.covers.partition; low = k.covers.min; high = k.covers.max };
      only = λ a h s. one-live log a k.name (tight schema log l) h k.is_in (record { partition = s.partition ∙ sym k.covers.partition; low = both s.low k.covers.max; high = both k.covers.min s.high });
    }
      where
        both : {i j k : ℕ} → i ≤ j → j ≤ k → i ≤ k
        both g h = omega arith

-- a made name that covers a live one is that one
pub covers-none-but-itself : (schema : Shape) (log : List Entry) → Lawful schema log → CoversNoneButItself log
covers-none-but-itself schema log l a b h k c =
    elim (accounted log a h) [ inl d ↦ absurd (dropped (drop-of log a d)) | inr v ↦ same v ]
  where
    t : Tight log
    t = tight schema log l

    dropped : (n : ℕ) × DropIn log a.partition n × (a.max ≤ n) → ⊥
    dropped r =
        let u = t.above b k r.0 (subst (λ (p : Option ℕ). DropIn log p r.0) c.partition r.1) in
        let v = r.2 in let w = c.max in let s = t.sized b k in omega (arith, u, v, w, s)

    same : CoveredBy (live log) a → a ≡ b
    same v = alike (Covers-trans v.name a b v.covers c)
      where
        alike : Covers v.name b → a ≡ b
        alike w = equal (one-live log v.name b t v.is_in k (record { partition = w.partition; low = low w; high = high w }))
          where
            low : Covers v.name b → v.name.min ≤ b.max
            low w = let i = w.min in let s = t.sized b k in omega (arith, i, s)

            high : Covers v.name b → b.min ≤ v.name.max
            high w = let i = w.max in let s = t.sized b k in omega (arith, i, s)

            equal : v.name ≡ b → a ≡ b
            equal e = Covers-antisym a b c (subst (λ (x : Name). Covers x a) e v.covers)

-- a new name covers each made one that it overlaps, and is none of them
supersedes : (e : Entry) (log : List Entry) (new a : Name) → Tight log → Supplants e log new → Has (made log) a → Supersedes new a
supersedes e log new a t s h = record { covers = covers; differ = differ }
  where
    covers : Overlap new a → Covers new a
    covers o = elim (accounted log a h) [ inl d ↦ absurd (dropped (drop-of log a d)) | inr c ↦ Covers-trans new c.name a (s.over c.name c.is_in (widened c)) c.covers ]
      where
        dropped : (n : ℕ) × DropIn log a.partition n × (a.max ≤ n) → ⊥
        dropped r = let u = s.above r.0 (subst (λ (p : Option ℕ). DropIn log p r.0) (sym o.partition) r.1) in let v = r.2 in let w = o.low in omega (arith, u, v, w)

        widened : (c : CoveredBy (live log) a) → Overlap new c.name
        widened c =
            let i = c.covers.min in let j = c.covers.max in let u = o.low in let v = o.high in
            record { partition = o.partition ∙ sym c.covers.partition; low = both u j; high = both i v }
          where
            both : {i j k : ℕ} → i ≤ j → j ≤ k → i ≤ k
            both g h = omega arith

    differ : new ≡ a → ⊥
    differ q = elim (accounted log a h) [ inl d ↦ dropped (drop-of log a d) | inr c ↦ s.strict c.name c.is_in (subst (Covers c.name) (sym q) c.covers) ]
      where
        dropped : (n : ℕ) × DropIn log a.partition n × (a.max ≤ n) → ⊥
        dropped r =
            let u = s.above r.0 (subst (λ (x : Name). DropIn log x.partition r.0) (sym q) r.1) in
            let v = r.2 in let w : new.max ≡ a.max = ap (λ x. x.max) q in let z = s.sized in omega (arith, u, v, w, z)

-- of two made names that overlap the later covers the earlier, and no name is made twice
pub later-covers : (schema : Shape) (log : List Entry) → Lawful schema log → LaterCovers log
later-covers schema [] l = tt
later-covers schema (Get p n digest source need ∷ log) l =
    let t = tight schema log l.0 in
    let s = supplants-get p n digest source need log l.1 in
    (Each-all (Supersedes (block_name p n)) (made log) (λ a h. supersedes (Get p n digest source need) log (block_name p n) a t s h), later-covers schema log l.0)
later-covers schema (Merge new [] count ∷ log) l = absurd l.1
later-covers schema (Merge new (a ∷ []) count ∷ log) l = absurd l.1
later-covers schema (Merge new (a ∷ b ∷ rest) count ∷ log) l =
    let t = tight schema log l.0 in
    let s = supplants-merge log t a b rest new count l.1 in
    (Each-all (Supersedes new) (made log) (λ c h. supersedes (Merge new (a ∷ b ∷ rest) count) log new c t s h), later-covers schema log l.0)
later-covers schema (Mutate old new upto count mcount ∷ log) l =
    let t = tight schema log l.0 in
    let s = supplants-mutate log t old new upto count mcount l.1 in
    (Each-all (Supersedes new) (made log) (λ c h. supersedes (Mutate old new upto count mcount) log new c t s h), later-covers schema log l.0)
later-covers schema (Mutation id numbers command ∷ log) l = later-covers schema log l.0
later-covers schema (DropRange p n ∷ log) l = later-covers schema log l.0
