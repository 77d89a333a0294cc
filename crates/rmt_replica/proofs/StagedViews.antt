-- The staged blocks of a replica are in the order in which a cluster sees them.
use Rattle.std.proofs.Common.{◌≡◌, ℕ, ◌+◌, ◌<◌, ◌⊎◌, inl, inr, Bool, true, false, cond, List, [], ◌∷◌, map, refl, sym, ap, subst, arith, ◌∙◌, nat_eq, nat_lt}
use Rattle.std.proofs.lemmas.Bool.Decides.{nat_tests}
use Rattle.std.specs.declared.option.Option.{Option}
use Rattle.std.specs.declared.option.Option.TheVariants.{Some, None}
use Rattle.std.specs.declared.cmp.Ordering.{Ordering}
use Rattle.std.specs.declared.cmp.Ordering.TheVariants.{Less, Equal, Greater}
use Rattle.std.specs.Ordering.{nat_cmp, ordering_then, match_ordering, is_eq}
use Rattle.std.specs.Option.{option_cmp}
use Rattle.std.specs.Map.{keys_of, lookup, remove_entry}
use Rattle.std.specs.BTreeMap.{insert_entry, is_at}
use Rattle.std.specs.List.Sorted.{IsStrictlySortedBy}
use Rattle.std.specs.List.{AllByRecursion}
use Rattle.rmt_names.specs.Names.{rank}
use Rattle.rmt_block.specs.Blocks.{BlockView}
use Rattle.rmt_model.specs.Words.{Has, Each}
use Rattle.rmt_model.proofs.Lists.{rank-injective}
use Rattle.rmt_replica.specs.declared.block_number.BlockNumber.{BlockNumber}
use Rattle.rmt_replica.specs.StagedBlocks.{number_cmp}
use Rattle.rmt_events.specs.Views.{Staged}
use Rattle.rmt_events.specs.Clusters.{without_kinds}
use Rattle.rmt_events.specs.ReplicaCalls.{comes_before, with_block, waits_at, staged_without}
use Rattle.rmt_replica.specs.SeenReplica.{shown_block}

-- ---- numbers in order

-- one number of a partition comes before another
abbrev pub Earlier : ℕ → ℕ → ℕ → ℕ → Type 0
Earlier r n s m = (r < s) ⊎ ((r ≡ s) × (n < m))

-- what a comparison says
abbrev pub Says : Ordering → ℕ → ℕ → ℕ → ℕ → Type 0
Says Less r n s m = Earlier r n s m
Says Equal r n s m = (r ≡ s) × (n ≡ m)
Says Greater r n s m = Earlier s m r n

says : (r n s m : ℕ) → Says (ordering_then (nat_cmp r s) (nat_cmp n m)) r n s m
says r n s m = first (nat_lt r s) refl (nat_eq r s) refl (nat_lt n m) refl (nat_eq n m) refl
  where
    first : (a : Bool) → nat_lt r s ≡ a → (b : Bool) → nat_eq r s ≡ b → (c : Bool) → nat_lt n m ≡ c → (d : Bool) → nat_eq n m ≡ d → Says (ordering_then (cond a Less (cond b Equal Greater)) (cond c Less (cond d Equal Greater))) r n s m
    first true e b f c g d h = inl (grind (arith, nat_tests))
    first false e true f true g d h = inr (grind (arith, nat_tests), grind (arith, nat_tests))
    first false e true f false g true h = (grind (arith, nat_tests), grind (arith, nat_tests))
    first false e true f false g false h = inr (let q : s ≡ r = grind (arith, nat_tests) in q, grind (arith, nat_tests))
    first false e false f c g d h = inl (grind (arith, nat_tests))

partitions : (p q : Option ℕ) → option_cmp nat_cmp p q ≡ nat_cmp (rank p) (rank q)
partitions None None = refl
partitions None (Some q) = let e : nat_lt 0 (q + 1) ≡ true = grind (arith, nat_tests) in rw e refl
partitions (Some p) None = let e : nat_lt (p + 1) 0 ≡ false = grind (arith, nat_tests) in let f : nat_eq (p + 1) 0 ≡ false = grind (arith, nat_tests) in rw (e, f) refl
partitions (Some p) (Some q) =
    let e : nat_lt (p + 1) (q + 1) ≡ nat_lt p q = grind (arith, nat_tests) in
    let f : nat_eq (p + 1) (q + 1) ≡ nat_eq p q = grind (arith, nat_tests) in
    rw (e, f) refl

-- a comparison of two numbers says which comes first
pub compared : (a b : BlockNumber) → Says (number_cmp a b) (rank a.partition) a.number (rank b.partition) b.number
compared a b = subst (λ (o : Ordering). Says (ordering_then o (nat_cmp a.number b.number)) (rank a.partition) a.number (rank b.partition) b.number) (sym (partitions a.partition b.partition)) (says (rank a.partition) a.number (rank b.partition) b.number)

earlier-trans : (r n s m t k : ℕ) → Earlier r n s m → Earlier s m t k → Earlier r n t k
earlier-trans r n s m t k (inl a) (inl b) = inl (omega (arith, a, b))
earlier-trans r n s m t k (inl a) (inr b) = let e = b.0 in inl (omega (arith, a, e))
earlier-trans r n s m t k (inr a) (inl b) = let e = a.0 in inl (omega (arith, e, b))
earlier-trans r n s m t k (inr a) (inr b) = let e = a.0 in let f = b.0 in let g = a.1 in let h = b.1 in inr (omega (arith, e, f), omega (arith, g, h))

-- ---- the tests of a cluster

-- a staged block and a number, by their ranks
abbrev pub IsBefore : Staged → Option ℕ → ℕ → Type 0
IsBefore z p n = Earlier (rank z.block.partition) z.number (rank p) n

abbrev pub IsBehind : Staged → Option ℕ → ℕ → Type 0
IsBehind z p n = Earlier (rank p) n (rank z.block.partition) z.number

abbrev pub IsAt : Staged → Option ℕ → ℕ → Type 0
IsAt z p n = (rank p ≡ rank z.block.partition) × (n ≡ z.number)

before-waits : (z : Staged) (p : Option ℕ) (n : ℕ) → IsBefore z p n → waits_at p n z ≡ false
before-waits z p n (inl a) = grind (arith, nat_tests)
before-waits z p n (inr a) = let e = a.0 in let l = a.1 in grind (arith, nat_tests)

behind-waits : (z : Staged) (p : Option ℕ) (n : ℕ) → IsBehind z p n → waits_at p n z ≡ false
behind-waits z p n (inl a) = grind (arith, nat_tests)
behind-waits z p n (inr a) = let e = a.0 in let l = a.1 in grind (arith, nat_tests)

at-waits : (z : Staged) (p : Option ℕ) (n : ℕ) → IsAt z p n → waits_at p n z ≡ true
at-waits z p n a = let e = a.0 in let l = a.1 in grind (arith, nat_tests)

before-comes : (y z : Staged) → IsBefore y z.block.partition z.number → comes_before y z ≡ true
before-comes y z (inl a) = grind (arith, nat_tests)
before-comes y z (inr a) = let e = a.0 in let l = a.1 in grind (arith, nat_tests)

behind-comes : (y z : Staged) → IsBehind y z.block.partition z.number → comes_before y z ≡ false
behind-comes y z (inl a) = grind (arith, nat_tests)
behind-comes y z (inr a) = let e = a.0 in let l = a.1 in grind (arith, nat_tests)

-- ---- lists of staged blocks

-- without a number, where all are behind it
none-gone : (zs : List Staged) (p : Option ℕ) (n : ℕ) → Each (λ z. IsBehind z p n) zs → staged_without zs p n ≡ zs
none-gone [] p n b = refl
none-gone (z ∷ zs) p n b = rw (behind-waits z p n b.0) (ap (λ (l : List Staged). z ∷ l) (none-gone zs p n b.1))

-- one more in front, where all are behind it
in-front : (z : Staged) (zs : List Staged) → Each (λ y. IsBehind y z.block.partition z.number) zs → with_block z zs ≡ z ∷ zs
in-front z [] b = refl
in-front z (y ∷ ys) b = rw (behind-comes y z b.0) refl

-- ---- a map of staged blocks

-- each is under its own partition
abbrev pub AreOwn : List (BlockNumber × BlockView) → Type 0
AreOwn es = Each (λ e. e.0.partition ≡ e.1.partition) es

-- all come behind a number
abbrev pub AllBehind : Option ℕ → ℕ → List (BlockNumber × BlockView) → Type 0
AllBehind p n es = Each (λ e. Earlier (rank p) n (rank e.0.partition) e.0.number) es

-- each comes before those behind it
abbrev pub AreRising : List (BlockNumber × BlockView) → Type 0
AreRising [] = Unit {0}
AreRising (e ∷ es) = AllBehind e.0.partition e.0.number es × AreRising es

all-behind : (k : BlockNumber) (es : List (BlockNumber × BlockView)) → AllByRecursion (λ y. number_cmp k y ≡ Less) (keys_of es) → AllBehind k.partition k.number es
all-behind k [] h = tt
all-behind k (e ∷ es) h = (subst (λ (o : Ordering). Says o (rank k.partition) k.number (rank e.0.partition) e.0.number) h.0 (compared k e.0), all-behind k es h.1)

pub rising : (es : List (BlockNumber × BlockView)) → IsStrictlySortedBy number_cmp (keys_of es) → AreRising es
unfolding IsStrictlySortedBy
rising [] h = tt
rising (e ∷ es) h = (all-behind e.0 es h.0, rising es h.1)

further : (p q : Option ℕ) (n m : ℕ) (es : List (BlockNumber × BlockView)) → Earlier (rank p) n (rank q) m → AllBehind q m es → AllBehind p n es
further p q n m [] b h = tt
further p q n m (e ∷ es) b h = (earlier-trans (rank p) n (rank q) m (rank e.0.partition) e.0.number b h.0, further p q n m es b h.1)

-- seen by the blocks' own partitions
behind-seen : (p : Option ℕ) (n : ℕ) (es : List (BlockNumber × BlockView)) → AreOwn es → AllBehind p n es → Each (λ z. IsBehind z p n) (map shown_block es)
behind-seen p n [] o h = tt
behind-seen p n (e ∷ es) o h = (subst (λ (q : Option ℕ). Earlier (rank p) n (rank q) e.0.number) o.0 h.0, behind-seen p n es o.1 h.1)

-- the same number: what is behind it stays so
behind-same : (p q : Option ℕ) (n m : ℕ) (es : List (BlockNumber × BlockView)) → rank p ≡ rank q → n ≡ m → AllBehind q m es → AllBehind p n es
behind-same p q n m es e f h = subst (λ r. Each (λ (x : BlockNumber × BlockView). Earlier r n (rank x.0.partition) x.0.number) es) (sym e) (subst (λ k. Each (λ (x : BlockNumber × BlockView). Earlier (rank q) k (rank x.0.partition) x.0.number) es) (sym f) h)

-- ---- a block is staged

module _ (k : BlockNumber) (b : BlockView) (owned : k.partition ≡ b.partition) where
  abbrev new : Staged
  new = shown_block (k, b)

  abbrev Inserted : List (BlockNumber × BlockView) → Type 0
  Inserted es = map shown_block (insert_entry number_cmp es k b) ≡ with_block new (staged_without (map shown_block es) b.partition k.number)

  pub inserted : (es : List (BlockNumber × BlockView)) → AreOwn es → AreRising es → Inserted es
  inserted [] o r = refl
  inserted (e ∷ es) o r = go (number_cmp k e.0) (compared k e.0) (inserted es o.1 r.1)
    where
      own : rank e.0.partition ≡ rank e.1.partition
      own = ap rank o.0

      go : (c : Ordering) → Says c (rank k.partition) k.number (rank e.0.partition) e.0.number → Inserted es
          → map shown_block (match_ordering c ((k, b) ∷ e ∷ es) ((e.0, b) ∷ es) (e ∷ insert_entry number_cmp es k b)) ≡ with_block new (staged_without (shown_block e ∷ map shown_block es) b.partition k.number)
      go Less s h =
          let f : AllBehind k.partition k.number (e ∷ es) = (s, further k.partition e.0.partition k.number e.0.number es s r.0) in
          let g : Each (λ z. IsBehind z b.partition k.number) (map shown_block (e ∷ es)) = subst (λ (q : Option ℕ). Each (λ z. IsBehind z q k.number) (map shown_block (e ∷ es))) owned (behind-seen k.partition k.number (e ∷ es) o f) in
          sym (ap (with_block new) (none-gone (map shown_block (e ∷ es)) b.partition k.number g) ∙ in-front new (map shown_block (e ∷ es)) g)
      go Equal s h =
          let f : AllBehind k.partition k.number es = behind-same k.partition e.0.partition k.number e.0.number es s.0 s.1 r.0 in
          let g : Each (λ z. IsBehind z b.partition k.number) (map shown_block es) = subst (λ (q : Option ℕ). Each (λ z. IsBehind z q k.number) (map shown_block es)) owned (behind-seen k.partition k.number es o.1 f) in
          let a : waits_at b.partition k.number (shown_block e) ≡ true = at-waits (shown_block e) b.partition k.number (ap rank (sym owned) ∙ s.0 ∙ own, s.1) in
          ap (λ n. record { number = n; block = without_kinds b } ∷ map shown_block es) (sym s.1) ∙ sym (rw a (ap (with_block new) (none-gone (map shown_block es) b.partition k.number g) ∙ in-front new (map shown_block es) g))
      go Greater s h =
          let i : IsBefore (shown_block e) b.partition k.number = subst (λ r. Earlier r e.0.number (rank b.partition) k.number) own (subst (λ (q : Option ℕ). Earlier (rank e.0.partition) e.0.number (rank q) k.number) owned s) in
          let a : waits_at b.partition k.number (shown_block e) ≡ false = before-waits (shown_block e) b.partition k.number i in
          let c : comes_before (shown_block e) new ≡ true = before-comes (shown_block e) new i in
          ap (λ (l : List Staged). shown_block e ∷ l) h ∙ sym (rw (a, c) refl)

-- ---- a block is let go

pub removed : (k : BlockNumber) (es : List (BlockNumber × BlockView)) → AreOwn es → AreRising es → map shown_block (remove_entry (is_at (number_cmp k)) es) ≡ staged_without (map shown_block es) k.partition k.number
removed k [] o r = refl
removed k (e ∷ es) o r = go (number_cmp k e.0) (compared k e.0) (removed k es o.1 r.1)
  where
    own : rank e.0.partition ≡ rank e.1.partition
    own = ap rank o.0

    go : (c : Ordering) → Says c (rank k.partition) k.number (rank e.0.partition) e.0.number → map shown_block (remove_entry (is_at (number_cmp k)) es) ≡ staged_without (map shown_block es) k.partition k.number
        → map shown_block (cond (is_eq c) es (e ∷ remove_entry (is_at (number_cmp k)) es)) ≡ staged_without (shown_block e ∷ map shown_block es) k.partition k.number
    go Less s h =
        let i : IsBehind (shown_block e) k.partition k.number = subst (λ r. Earlier (rank k.partition) k.number r e.0.number) own s in
        let a = behind-waits (shown_block e) k.partition k.number i in
        ap (λ (l : List Staged). shown_block e ∷ l) h ∙ sym (rw a refl)
    go Equal s h =
        let a : waits_at k.partition k.number (shown_block e) ≡ true = at-waits (shown_block e) k.partition k.number (s.0 ∙ own, s.1) in
        sym (rw a (none-gone (map shown_block es) k.partition k.number (behind-seen k.partition k.number es o.1 (behind-same k.partition e.0.partition k.number e.0.number es s.0 s.1 r.0))))
    go Greater s h =
        let i : IsBefore (shown_block e) k.partition k.number = subst (λ r. Earlier r e.0.number (rank k.partition) k.number) own s in
        let a = before-waits (shown_block e) k.partition k.number i in
        ap (λ (l : List Staged). shown_block e ∷ l) h ∙ sym (rw a refl)

-- ---- what is staged under a number

some-same : (x y : BlockView) → ◌≡◌ {A = Option BlockView} (Some x) (Some y) → x ≡ y
some-same x y e = cc

none-some : (x : BlockView) → ◌≡◌ {A = Option BlockView} None (Some x) → ⊥
none-some x e = absurd (cc)

-- what is earlier is another
apart : (r n s m : ℕ) → Earlier r n s m → s ≡ r → m ≡ n → ⊥
apart r n s m (inl a) u v = omega (arith, a, u)
apart r n s m (inr a) u v = let l = a.1 in omega (arith, l, v)

pub found : (k : BlockNumber) (es : List (BlockNumber × BlockView)) (b : BlockView) → AreOwn es → lookup (is_at (number_cmp k)) es ≡ Some b → Has (map shown_block es) (shown_block (k, b)) × (b.partition ≡ k.partition)
found k [] b o e = absurd (none-some b e)
found k (e ∷ es) b o q = go (number_cmp k e.0) (compared k e.0) q (found k es b o.1)
  where
    go : (c : Ordering) → Says c (rank k.partition) k.number (rank e.0.partition) e.0.number → cond (is_eq c) (Some e.1) (lookup (is_at (number_cmp k)) es) ≡ Some b
        → (lookup (is_at (number_cmp k)) es ≡ Some b → Has (map shown_block es) (shown_block (k, b)) × (b.partition ≡ k.partition))
        → Has (shown_block e ∷ map shown_block es) (shown_block (k, b)) × (b.partition ≡ k.partition)
    go Less s t f = let g = f t in (inr g.0, g.1)
    go Equal s t f =
        let v : e.1 ≡ b = some-same e.1 b t in
        (inl (ap (λ n. record { number = n; block = without_kinds e.1 }) (sym s.1) ∙ ap (λ (x : BlockView). record { number = k.number; block = without_kinds x }) v), ap (λ (x : BlockView). x.partition) (sym v) ∙ (sym o.0 ∙ sym (rank-injective k.partition e.0.partition s.0)))
    go Greater s t f = let g = f t in (inr g.0, g.1)

pub missing : (k : BlockNumber) (es : List (BlockNumber × BlockView)) → AreOwn es → lookup (is_at (number_cmp k)) es ≡ None → (z : Staged) → Has (map shown_block es) z → z.block.partition ≡ k.partition → z.number ≡ k.number → ⊥
missing k [] o q z h p n = absurd h
missing k (e ∷ es) o q z h p n = go (number_cmp k e.0) (compared k e.0) q h (λ t i. missing k es o.1 t z i p n)
  where
    -- the first one has another number
    first : shown_block e ≡ z → (rank e.0.partition ≡ rank k.partition) × (e.0.number ≡ k.number)
    first i = (ap rank (o.0 ∙ (ap (λ (y : Staged). y.block.partition) i ∙ p)), ap (λ (y : Staged). y.number) i ∙ n)

    go : (c : Ordering) → Says c (rank k.partition) k.number (rank e.0.partition) e.0.number → cond (is_eq c) (Some e.1) (lookup (is_at (number_cmp k)) es) ≡ None → Has (shown_block e ∷ map shown_block es) z
        → (lookup (is_at (number_cmp k)) es ≡ None → Has (map shown_block es) z → ⊥) → ⊥
    go Less s t (inr i) f = f t i
    go Less s t (inl i) f = let g = first i in apart (rank k.partition) k.number (rank e.0.partition) e.0.number s g.0 g.1
    go Greater s t (inr i) f = f t i
    go Greater s t (inl i) f = let g = first i in apart (rank e.0.partition) e.0.number (rank k.partition) k.number s (sym g.0) (sym g.1)
    go Equal s t i f = none-some e.1 (sym t)
