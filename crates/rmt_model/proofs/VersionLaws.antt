-- The law of pending mutations.
use Rattle.std.proofs.Common.{◌≡◌, ℕ, ◌<◌, ◌≤◌, inl, inr, ◌&&◌, Bool, true, false, cond, not, max, List, [], ◌∷◌, refl, sym, ap, subst, arith, ◌∙◌, nat_eq, nat_le}
use Rattle.std.proofs.lemmas.Bool.Decides.{nat_tests}
use Rattle.std.specs.declared.option.Option.{Option}
use Rattle.std.specs.declared.option.Option.TheVariants.{Some}
use Rattle.rmt_values.specs.Rows.{Shape}
use Rattle.rmt_names.specs.Names.{Name, rank, data_version, last, highest, merged_name, block_name}
use Rattle.rmt_entries.specs.declared.entry.Entry.{Entry}
use Rattle.rmt_entries.specs.declared.entry.Entry.TheVariants.{Get, Merge, Mutate, Mutation, DropRange}
use Rattle.rmt_model.specs.Words.{Has}
use Rattle.rmt_model.specs.Live.{live, made, in_drop}
use Rattle.rmt_model.specs.Lawful.{Used, AboveUsed, version_among, version_below, ver, IsMutationWith, Merges, IsMutation, Lawful}
use Rattle.rmt_model.specs.Laws.{MutatedAt, PendingAbove}
use Rattle.rmt_model.proofs.Lists.{Each-at, Has-filter}
use Rattle.rmt_model.proofs.LiveLaws.{Tight, tight, Supplants, supplants-merge, supplants-mutate, Has-placed, Has-last, source-live, source-fits, at-below, pending-above}

-- each live name was made
pub live-made : (log : List Entry) (a : Name) → Has (live log) a → Has (made log) a
live-made [] a h = absurd h
live-made (Get p n digest source need ∷ log) a h = elim (Has-placed (block_name p n) (live log) a h) [ inl e ↦ inl e | inr k ↦ inr (live-made log a k) ]
live-made (Merge new sources count ∷ log) a h = elim (Has-placed new (live log) a h) [ inl e ↦ inl e | inr k ↦ inr (live-made log a k) ]
live-made (Mutate old new upto count mcount ∷ log) a h = elim (Has-placed new (live log) a h) [ inl e ↦ inl e | inr k ↦ inr (live-made log a k) ]
live-made (Mutation id numbers command ∷ log) a h = live-made log a h
live-made (DropRange p n ∷ log) a h = live-made log a (Has-filter (λ x. not (in_drop p n x)) (live log) a h).0

-- the version isn't above the limit
among-limit : (numbers : List (Option ℕ × ℕ)) (p : Option ℕ) (limit : ℕ) → version_among numbers p limit ≤ limit
among-limit [] p limit = omega arith
among-limit (x ∷ xs) p limit = let q = among-limit xs p limit in first (nat_eq (rank x.0) (rank p)) x.1 limit (version_among xs p limit) q
  where
    first : (b : Bool) (m l rest : ℕ) → rest ≤ l → max (cond (b && nat_le m l) m 0) rest ≤ l
    first true m l rest h = grind (arith, nat_tests)
    first false m l rest h = omega arith

pub below-limit : (log : List Entry) (p : Option ℕ) (limit : ℕ) → version_below log p limit ≤ limit
below-limit [] p limit = omega arith
below-limit (Mutation id numbers command ∷ log) p limit = omega (arith, among-limit numbers p limit, below-limit log p limit)
below-limit (Get q n digest source need ∷ log) p limit = omega (arith, below-limit log p limit)
below-limit (Merge new sources count ∷ log) p limit = omega (arith, below-limit log p limit)
below-limit (Mutate old new upto count mcount ∷ log) p limit = omega (arith, below-limit log p limit)
below-limit (DropRange q n ∷ log) p limit = omega (arith, below-limit log p limit)

-- a mutation's number that isn't above the limit isn't above the version
pub mutated-below : (log : List Entry) (p : Option ℕ) (m limit : ℕ) → MutatedAt log p m → m ≤ limit → m ≤ version_below log p limit
mutated-below [] p m limit k h = absurd k
mutated-below (e ∷ log) p m limit (inl k) h = omega (arith, at-below e p m limit k h)
mutated-below (e ∷ log) p m limit (inr k) h = omega (arith, mutated-below log p m limit k h)

pub highest-reached : (of : Name → ℕ) (a : Name) (rest : List Name) → (c : Name) × Has (a ∷ rest) c × (of c ≡ highest of a rest)
highest-reached of a [] = (a, inl refl, refl)
highest-reached of a (b ∷ rest) = go (highest-reached of b rest) (nat_le (of a) (highest of b rest)) refl
  where
    go : (c : Name) × Has (b ∷ rest) c × (of c ≡ highest of b rest) → (t : Bool) → nat_le (of a) (highest of b rest) ≡ t → (c : Name) × Has (a ∷ b ∷ rest) c × (of c ≡ highest of a (b ∷ rest))
    go r true e = (r.0, inr r.1, let q = r.2 in let l : of a ≤ highest of b rest = grind (arith, nat_tests) in omega (arith, q, l))
    go r false e = (a, inl refl, let l : highest of b rest < of a = grind (arith, nat_tests) in omega (arith, l))

-- the max of each made name is used
pub made-used : (schema : Shape) (log : List Entry) (a : Name) → Lawful schema log → Has (made log) a → Used log a.partition a.max
made-used schema [] a l h = absurd h
made-used schema (Get p n digest source need ∷ log) a l (inl e) = subst (λ (x : Name). Used (Get p n digest source need ∷ log) x.partition x.max) e (inl (refl, refl))
made-used schema (Get p n digest source need ∷ log) a l (inr h) = inr (made-used schema log a l.0 h)
made-used schema (Merge new [] count ∷ log) a l h = absurd l.1
made-used schema (Merge new (b ∷ []) count ∷ log) a l h = absurd l.1
made-used schema (Merge new (b ∷ c ∷ rest) count ∷ log) a l (inl e) = subst (λ (x : Name). Used (Merge new (b ∷ c ∷ rest) count ∷ log) x.partition x.max) e (Supplants.used (supplants-merge log (tight schema log l.0) b c rest new count l.1))
made-used schema (Merge new (b ∷ c ∷ rest) count ∷ log) a l (inr h) = inr (made-used schema log a l.0 h)
made-used schema (Mutate old new upto count mcount ∷ log) a l (inl e) = subst (λ (x : Name). Used (Mutate old new upto count mcount ∷ log) x.partition x.max) e (Supplants.used (supplants-mutate log (tight schema log l.0) old new upto count mcount l.1))
made-used schema (Mutate old new upto count mcount ∷ log) a l (inr h) = inr (made-used schema log a l.0 h)
made-used schema (Mutation id numbers command ∷ log) a l h = inr (made-used schema log a l.0 h)
made-used schema (DropRange p n ∷ log) a l h = inr (made-used schema log a l.0 h)

-- each made name has numbers
pub made-sized : (schema : Shape) (log : List Entry) (a : Name) → Lawful schema log → Has (made log) a → a.min ≤ a.max
made-sized schema [] a l h = absurd h
made-sized schema (Get p n digest source need ∷ log) a l (inl e) = subst (λ (x : Name). x.min ≤ x.max) e (omega arith)
made-sized schema (Get p n digest source need ∷ log) a l (inr h) = made-sized schema log a l.0 h
made-sized schema (Merge new [] count ∷ log) a l h = absurd l.1
made-sized schema (Merge new (b ∷ []) count ∷ log) a l h = absurd l.1
made-sized schema (Merge new (b ∷ c ∷ rest) count ∷ log) a l (inl e) = subst (λ (x : Name). x.min ≤ x.max) e (Supplants.sized (supplants-merge log (tight schema log l.0) b c rest new count l.1))
made-sized schema (Merge new (b ∷ c ∷ rest) count ∷ log) a l (inr h) = made-sized schema log a l.0 h
made-sized schema (Mutate old new upto count mcount ∷ log) a l (inl e) = subst (λ (x : Name). x.min ≤ x.max) e (Supplants.sized (supplants-mutate log (tight schema log l.0) old new upto count mcount l.1))
made-sized schema (Mutate old new upto count mcount ∷ log) a l (inr h) = made-sized schema log a l.0 h
made-sized schema (Mutation id numbers command ∷ log) a l h = made-sized schema log a l.0 h
made-sized schema (DropRange p n ∷ log) a l h = made-sized schema log a l.0 h

-- the number of a mutation comes from a log of mutations
same-mutations : (e : Entry) (log : List Entry) (p : Option ℕ) (m : ℕ) → (IsMutationWith (Some e) p m → ⊥) → MutatedAt (e ∷ log) p m → MutatedAt log p m
same-mutations e log p m n (inl k) = absurd (n k)
same-mutations e log p m n (inr k) = k

-- a mutation pending for the merged name is pending for the last source, by their one version
merge-pending : (log : List Entry) (t : Tight log) (a b : Name) (rest : List Name) (new : Name) (count : ℕ) → Merges log a b rest new count → PendingAbove log → (m : ℕ) → MutatedAt log (merged_name a (b ∷ rest)).partition m → data_version (merged_name a (b ∷ rest)) < m → (merged_name a (b ∷ rest)).max < m
merge-pending log t a b rest new count s ih m k h = go (nat_le m (data_version c)) refl
  where
    c : Name
    c = last a (b ∷ rest)

    here : Has (a ∷ b ∷ rest) c
    here = Has-last a (b ∷ rest)

    mutated : (x : Name) → Has (a ∷ b ∷ rest) x → MutatedAt log x.partition m
    mutated x i = subst (λ (p : Option ℕ). MutatedAt log p m) (sym (source-fits log t a b rest new count s x i).0) k

    version : (x : Name) → Has (a ∷ b ∷ rest) x → ver log x ≡ ver log a
    version x (inl e) = ap (ver log) (sym e)
    version x (inr i) = Each-at (λ y. ver log y ≡ ver log a) (b ∷ rest) x s.version i

    go : (v : Bool) → nat_le m (data_version c) ≡ v → c.max < m
    go false e = ih c (live-made log c (source-live log t a b rest new count s c here)) m (mutated c here) (grind (arith, nat_tests))
    go true e =
        let i : m ≤ data_version c = grind (arith, nat_tests) in
        let u : m ≤ ver log a = let q = mutated-below log c.partition m (data_version c) (mutated c here) i in let w = version c here in omega (arith, q, w) in
        let top = highest-reached (λ x. x.mutation) a (b ∷ rest) in
        absurd (stuck top.0 (below a (inl refl) u) (below top.0 top.1 u) top.2)
      where
        below : (x : Name) → Has (a ∷ b ∷ rest) x → m ≤ ver log a → m ≤ data_version x
        below x i u = let q = below-limit log x.partition (data_version x) in let w = version x i in omega (arith, q, w, u)

        stuck : (x : Name) → m ≤ data_version a → m ≤ data_version x → x.mutation ≡ highest (λ y. y.mutation) a (b ∷ rest) → ⊥
        stuck x u v q = grind (arith, nat_tests)

-- each mutation that is pending for a made name has a number above the name's max
pub pending-above-max : (schema : Shape) (log : List Entry) → Lawful schema log → PendingAbove log
pending-above-max schema [] l a h m k v = absurd h
pending-above-max schema (Get p n digest source need ∷ log) l a (inl e) m k v = subst (λ (x : Name). data_version x < m → x.max < m) e (λ w. w) v
pending-above-max schema (Get p n digest source need ∷ log) l a (inr h) m (inl k) v = absurd k
pending-above-max schema (Get p n digest source need ∷ log) l a (inr h) m (inr k) v = pending-above-max schema log l.0 a h m k v
pending-above-max schema (Merge new [] count ∷ log) l a h m k v = absurd l.1
pending-above-max schema (Merge new (b ∷ []) count ∷ log) l a h m k v = absurd l.1
pending-above-max schema (Merge new (b ∷ c ∷ rest) count ∷ log) l a (inl e) m (inl k) v = absurd k
pending-above-max schema (Merge new (b ∷ c ∷ rest) count ∷ log) l a (inl e) m (inr k) v =
    let s = l.1 in
    let q : merged_name b (c ∷ rest) ≡ a = sym s.name ∙ e in
    subst (λ (x : Name). MutatedAt log x.partition m → data_version x < m → x.max < m) q (merge-pending log (tight schema log l.0) b c rest new count s (pending-above-max schema log l.0) m) k v
pending-above-max schema (Merge new (b ∷ c ∷ rest) count ∷ log) l a (inr h) m (inl k) v = absurd k
pending-above-max schema (Merge new (b ∷ c ∷ rest) count ∷ log) l a (inr h) m (inr k) v = pending-above-max schema log l.0 a h m k v
pending-above-max schema (Mutate old new upto count mcount ∷ log) l a h m (inl k) v = absurd k
pending-above-max schema (Mutate old new upto count mcount ∷ log) l a (inl e) m (inr k) v =
    let s = l.1 in
    let ih = pending-above-max schema log l.0 old (live-made log old s.is_live) m in
    let above = pending-above log old new upto count mcount s in
    subst (λ (x : Name). MutatedAt log x.partition m → data_version x < m → x.max < m) (sym s.name ∙ e) (λ i j. ih i (later above j)) k v
  where
    later : {d : ℕ} {n : ℕ} → d < n → cond (nat_eq n 0) old.min n < m → d < m
    later g j = grind (arith, nat_tests)
pending-above-max schema (Mutate old new upto count mcount ∷ log) l a (inr h) m (inr k) v = pending-above-max schema log l.0 a h m k v
pending-above-max schema (Mutation id numbers command ∷ log) l a h m (inl k) v =
    let above = Each-at (λ x. (1 ≤ x.1) × AboveUsed log x.0 x.1) numbers (a.partition, m) (IsMutation.above l.1) k in
    above.1 a.max (made-used schema log a l.0 h)
pending-above-max schema (Mutation id numbers command ∷ log) l a h m (inr k) v = pending-above-max schema log l.0 a h m k v
pending-above-max schema (DropRange p n ∷ log) l a h m (inl k) v = absurd k
pending-above-max schema (DropRange p n ∷ log) l a h m (inr k) v = pending-above-max schema log l.0 a h m k v
