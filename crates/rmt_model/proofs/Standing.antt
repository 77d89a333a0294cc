-- Steps that keep a replica's names fair: one more entry, a mark, a part installed.
use Rattle.std.proofs.Common.{◌≡◌, ℕ, ◌≤◌, ◌<◌, ◌⊎◌, inl, inr, ◌||◌, Bool, true, false, cond, not, List, [], ◌∷◌, length, refl, sym, ap, subst, arith, ◌∙◌, nat_eq, filter}
use Rattle.std.proofs.lemmas.Bool.Decides.{nat_tests}
use Rattle.std.specs.declared.option.Option.{Option}
use Rattle.std.specs.declared.option.Option.TheVariants.{Some, None}
use Rattle.rmt_values.specs.Rows.{Shape}
use Rattle.rmt_names.specs.Names.{Name, rank, Covers, covers, Overlap}
use Rattle.rmt_entries.specs.Entries.{result_name}
use Rattle.rmt_entries.specs.declared.entry.Entry.{Entry}
use Rattle.rmt_entries.specs.declared.entry.Entry.TheVariants.{DropRange}
use Rattle.rmt_model.specs.Words.{Has}
use Rattle.rmt_model.specs.Live.{Before, placed, in_drop, made, TakesAway, Dropped}
use Rattle.rmt_model.specs.Lawful.{Lawful, entry_at}
use Rattle.rmt_model.specs.Laws.{Supersedes}
use Rattle.rmt_model.specs.Fair.{CoveredBy, MadeAtMark, DroppedAtMark, AreFair}
use Rattle.rmt_model.proofs.Lists.{Each-at, Each-all, Has-filter, Has-kept, Pairwise-filter, Pairwise-inserted, rank-injective}
use Rattle.rmt_model.proofs.LiveLaws.{Covers-refl, Has-placed, placed-new, covered-placed, covers-holds, apart-or-overlap, Overlap-sym, not-kept, Pairwise-cases, later-covers}
use Rattle.rmt_model.proofs.VersionLaws.{made-sized}
use Rattle.rmt_model.proofs.Drops.{some-same, made-more, makes-no-drop, entry-has, drop-takes, marked-made}

-- no names are fair for no marks
pub fair-none : (log : List Entry) (marked : ℕ → Bool) → ((i : ℕ) → marked i ≡ false) → AreFair log marked []
fair-none log marked f = record { apart = tt; made_here = tt; kept = tt; answered = λ a h. absurd (none log a h) }
  where
    none : (log : List Entry) (a : Name) → MadeAtMark log marked a → ⊥
    none [] a h = h
    none (e ∷ log) a (inl h) = let q = h.0 in let r = f (length log) in absurd (cc)
    none (e ∷ log) a (inr h) = none log a h

-- one more entry, which isn't marked, leaves names fair
pub fair-more : (e : Entry) (log : List Entry) (marked : ℕ → Bool) (names : List Name) → marked (length log) ≡ false → AreFair log marked names → AreFair (e ∷ log) marked names
fair-more e log marked names f s =
    record {
      apart = s.apart;
      made_here = Each-all (λ a. Has (made (e ∷ log)) a) names (λ a h. made-more e log a (Each-at (λ a. Has (made log) a) names a s.made_here h));
      kept = Each-all (λ a. DroppedAtMark (e ∷ log) marked a → ⊥) names (λ a h d. kept a h d);
      answered = λ a h. answered a h;
    }
  where
    kept : (a : Name) → Has names a → DroppedAtMark (e ∷ log) marked a → ⊥
    kept a h (inl d) = Each-at (λ a. DroppedAtMark log marked a → ⊥) names a s.kept h d
    kept a h (inr d) = let q = d.0 in absurd (cc)

    answered : (a : Name) → MadeAtMark (e ∷ log) marked a → CoveredBy names a ⊎ Dropped (e ∷ log) a
    answered a (inl h) = let q = h.0 in absurd (cc)
    answered a (inr h) = elim (s.answered a h) [ inl c ↦ inl c | inr d ↦ inr (inl d) ]

-- the marks with one more
abbrev pub with_mark : ℕ → (ℕ → Bool) → ℕ → Bool
with_mark i marked j = nat_eq j i || marked j

-- marks that hold wherever others do make what those make
made-same : (log : List Entry) (m m' : ℕ → Bool) (a : Name) → ((j : ℕ) → j < length log → m j ≡ true → m' j ≡ true) → MadeAtMark log m a → MadeAtMark log m' a
made-same [] m m' a f h = h
made-same (e ∷ log) m m' a f (inl h) = inl (f (length log) (omega arith) h.0, h.1)
made-same (e ∷ log) m m' a f (inr h) = inr (made-same log m m' a (λ j l q. f j (omega arith) q) h)

dropped-same : (log : List Entry) (m m' : ℕ → Bool) (a : Name) → ((j : ℕ) → j < length log → m j ≡ true → m' j ≡ true) → DroppedAtMark log m a → DroppedAtMark log m' a
dropped-same [] m m' a f h = h
dropped-same (e ∷ log) m m' a f (inl h) = inl (dropped-same log m m' a (λ j l q. f j (omega arith) q) h)
dropped-same (e ∷ log) m m' a f (inr h) = inr (f (length log) (omega arith) h.0, h.1, h.2)

-- a mark at another place was there before
other-mark : (i j : ℕ) (marked : ℕ → Bool) → nat_eq j i ≡ false → with_mark i marked j ≡ true → marked j ≡ true
other-mark i j marked f q = go (nat_eq j i) f q
  where
    go : (b : Bool) → b ≡ false → (b || marked j) ≡ true → marked j ≡ true
    go true f q = absurd (cc)
    go false f q = q

earlier-mark : (i j n : ℕ) (marked : ℕ → Bool) → i ≡ n → j < n → with_mark i marked j ≡ true → marked j ≡ true
earlier-mark i j n marked e l q = other-mark i j marked (grind (arith, nat_tests)) q

-- what is made at one more mark was made at the marks, or is made there
made-marked : (log : List Entry) (i : ℕ) (marked : ℕ → Bool) (a : Name) (e : Entry) → entry_at log i ≡ Some e → MadeAtMark log (with_mark i marked) a → (result_name e ≡ Some a) ⊎ MadeAtMark log marked a
made-marked [] i marked a e q h = absurd h
made-marked (x ∷ log) i marked a e q h = go (nat_eq i (length log)) refl q h (made-marked log i marked a e)
  where
    go : (b : Bool) → nat_eq i (length log) ≡ b → cond b (Some x) (entry_at log i) ≡ Some e → MadeAtMark (x ∷ log) (with_mark i marked) a
        → (entry_at log i ≡ Some e → MadeAtMark log (with_mark i marked) a → (result_name e ≡ Some a) ⊎ MadeAtMark log marked a)
        → (result_name e ≡ Some a) ⊎ MadeAtMark (x ∷ log) marked a
    go true t q (inl h) f = inl (subst (λ (y : Entry). result_name y ≡ Some a) (some-same x e q) h.1)
    go true t q (inr h) f =
        let n : i ≡ length log = grind (arith, nat_tests) in
        inr (inr (made-same log (with_mark i marked) marked a (λ j l m. earlier-mark i j (length log) marked n l m) h))
    go false t q (inl h) f =
        let n : nat_eq (length log) i ≡ false = grind (arith, nat_tests) in
        inr (inl (other-mark i (length log) marked n h.0, h.1))
    go false t q (inr h) f = elim (f q h) [ inl k ↦ inl k | inr k ↦ inr (inr k) ]

-- what is dropped at one more mark was dropped at the marks, or is taken away there
pub dropped-marked : (log : List Entry) (i : ℕ) (marked : ℕ → Bool) (x : Name) (e : Entry) → entry_at log i ≡ Some e → DroppedAtMark log (with_mark i marked) x → DroppedAtMark log marked x ⊎ TakesAway e x
dropped-marked [] i marked x e q h = absurd h
dropped-marked (y ∷ log) i marked x e q h = go (nat_eq i (length log)) refl q h (dropped-marked log i marked x e)
  where
    go : (b : Bool) → nat_eq i (length log) ≡ b → cond b (Some y) (entry_at log i) ≡ Some e → DroppedAtMark (y ∷ log) (with_mark i marked) x
        → (entry_at log i ≡ Some e → DroppedAtMark log (with_mark i marked) x → DroppedAtMark log marked x ⊎ TakesAway e x)
        → DroppedAtMark (y ∷ log) marked x ⊎ TakesAway e x
    go true t q (inl h) f =
        let n : i ≡ length log = grind (arith, nat_tests) in
        inl (inl (dropped-same log (with_mark i marked) marked x (λ j l m. earlier-mark i j (length log) marked n l m) h))
    go true t q (inr h) f = inr (subst (λ (z : Entry). TakesAway z x) (some-same y e q) h.2)
    go false t q (inl h) f = elim (f q h) [ inl k ↦ inl (inl k) | inr k ↦ inr k ]
    go false t q (inr h) f =
        let n : nat_eq (length log) i ≡ false = grind (arith, nat_tests) in
        inl (inr (other-mark i (length log) marked n h.0, h.1, h.2))

-- an entry that takes nothing away drops nothing
pub dropped-before : (log : List Entry) (i : ℕ) (marked : ℕ → Bool) (x : Name) (e : Entry) → entry_at log i ≡ Some e → (TakesAway e x → ⊥) → DroppedAtMark log (with_mark i marked) x → DroppedAtMark log marked x
dropped-before log i marked x e q t h = elim (dropped-marked log i marked x e q h) [ inl k ↦ k | inr k ↦ absurd (t k) ]

-- to mark an entry that makes nothing and takes nothing away leaves names fair
pub fair-looked : (log : List Entry) (i : ℕ) (marked : ℕ → Bool) (names : List Name) (e : Entry) → entry_at log i ≡ Some e → result_name e ≡ None → ((x : Name) → TakesAway e x → ⊥) → AreFair log marked names → AreFair log (with_mark i marked) names
fair-looked log i marked names e q r t s =
    record {
      apart = s.apart;
      made_here = s.made_here;
      kept = Each-all (λ a. DroppedAtMark log (with_mark i marked) a → ⊥) names (λ a h d. Each-at (λ a. DroppedAtMark log marked a → ⊥) names a s.kept h (dropped-before log i marked a e q (t a) d));
      answered = λ a h. elim (made-marked log i marked a e q h) [ inl m ↦ absurd (cc) | inr m ↦ s.answered a m ];
    }

-- to mark a drop, and to take away the names in its range, leaves names fair
pub fair-dropped : (schema : Shape) (log : List Entry) (i : ℕ) (marked : ℕ → Bool) (names : List Name) (p : Option ℕ) (n : ℕ) → Lawful schema log → entry_at log i ≡ Some (DropRange p n) → AreFair log marked names → AreFair log (with_mark i marked) (filter (λ a. not (in_drop p n a)) names)
fair-dropped schema log i marked names p n l q s =
    record {
      apart = Pairwise-filter Before stays names s.apart;
      made_here = Each-all (λ a. Has (made log) a) (filter stays names) (λ a h. Each-at (λ a. Has (made log) a) names a s.made_here (Has-filter stays names a h).0);
      kept = Each-all (λ a. DroppedAtMark log (with_mark i marked) a → ⊥) (filter stays names) (λ a h d. kept a (Has-filter stays names a h) (dropped-marked log i marked a (DropRange p n) q d));
      answered = λ a h. elim (made-marked log i marked a (DropRange p n) q h) [ inl m ↦ absurd (cc) | inr m ↦ answered a m (s.answered a m) ];
    }
  where
    stays : Name → Bool
    stays a = not (in_drop p n a)

    kept : (a : Name) → Has names a × (stays a ≡ true) → DroppedAtMark log marked a ⊎ ((p ≡ a.partition) × (a.max ≤ n)) → ⊥
    kept a h (inl d) = Each-at (λ a. DroppedAtMark log marked a → ⊥) names a s.kept h.0 d
    kept a h (inr t) = let e : rank p ≡ rank a.partition = ap rank t.0 in let m = t.1 in let k = h.1 in absurd (grind (arith, nat_tests))

    answered : (a : Name) → MadeAtMark log marked a → CoveredBy names a ⊎ Dropped log a → CoveredBy (filter stays names) a ⊎ Dropped log a
    answered a m (inr d) = inr d
    answered a m (inl c) = go (in_drop p n c.name) refl
      where
        go : (b : Bool) → in_drop p n c.name ≡ b → CoveredBy (filter stays names) a ⊎ Dropped log a
        go false e = inl (record { name = c.name; is_in = Has-kept stays names c.name c.is_in (ap not e); covers = c.covers })
        go true e =
            let k = c.covers.max in
            let r : rank p ≡ rank c.name.partition = grind (arith, nat_tests) in
            let u : c.name.max ≤ n = grind (arith, nat_tests) in
            inr (drop-takes schema log p n a l (entry-has log i (DropRange p n) q) (marked-made log marked a m) (rank-injective p c.name.partition r ∙ c.covers.partition) (omega (arith, k, u)))

-- to mark the maker of a name that is covered or dropped leaves names fair
pub fair-marked : (log : List Entry) (i : ℕ) (marked : ℕ → Bool) (names : List Name) (e : Entry) (new : Name) → entry_at log i ≡ Some e → result_name e ≡ Some new → AreFair log marked names → CoveredBy names new ⊎ Dropped log new → AreFair log (with_mark i marked) names
fair-marked log i marked names e new q r s k =
    record {
      apart = s.apart;
      made_here = s.made_here;
      kept = Each-all (λ a. DroppedAtMark log (with_mark i marked) a → ⊥) names (λ a h d. Each-at (λ a. DroppedAtMark log marked a → ⊥) names a s.kept h (dropped-before log i marked a e q (makes-no-drop e new a r) d));
      answered = λ a h. elim (made-marked log i marked a e q h) [
        | inl m ↦ subst (λ (x : Name). CoveredBy names x ⊎ Dropped log x) (some-same new a (sym r ∙ m)) k
        | inr m ↦ s.answered a m
      ];
    }

-- to install a made name that covers the entry's, that no active one covers and no marked drop takes away, keeps names fair
pub fair-installed : (schema : Shape) (log : List Entry) (i : ℕ) (marked : ℕ → Bool) (names : List Name) (e : Entry) (wanted new : Name) → Lawful schema log → entry_at log i ≡ Some e → result_name e ≡ Some wanted → AreFair log marked names
    → Has (made log) new → Covers new wanted → (DroppedAtMark log marked new → ⊥) → ((x : Name) → Has names x → Covers x new → ⊥) → AreFair log (with_mark i marked) (placed new names)
fair-installed schema log i marked names e wanted new l q r s new-made over d n =
    record {
      apart = Pairwise-inserted new (filter keeps names) (Pairwise-filter Before keeps names s.apart)
          (λ x h. sized x (Has-filter keeps names x h).0)
          (λ x h. apart x (Has-filter keeps names x h));
      made_here = Each-all (λ a. Has (made log) a) (placed new names) (λ a h. elim (Has-placed new names a h) [ inl p ↦ subst (Has (made log)) p new-made | inr k ↦ was-made a k ]);
      kept = Each-all (λ a. DroppedAtMark log (with_mark i marked) a → ⊥) (placed new names) (λ a h t. kept a (Has-placed new names a h) (dropped-before log i marked a e q (makes-no-drop e wanted a r) t));
      answered = λ a h. elim (made-marked log i marked a e q h) [
        | inl m ↦ inl (record { name = new; is_in = placed-new new names; covers = subst (Covers new) (some-same wanted a (sym r ∙ m)) over })
        | inr m ↦ elim (s.answered a m) [ inl c ↦ inl (covered-placed new names a c) | inr t ↦ inr t ]
      ];
    }
  where
    keeps : Name → Bool
    keeps a = not (covers new a)

    was-made : (a : Name) → Has names a → Has (made log) a
    was-made a h = Each-at (λ a. Has (made log) a) names a s.made_here h

    sized : (a : Name) → Has names a → a.min ≤ a.max
    sized a h = made-sized schema log a l (was-made a h)

    kept : (a : Name) → (new ≡ a) ⊎ Has names a → DroppedAtMark log marked a → ⊥
    kept a (inl p) t = d (subst (DroppedAtMark log marked) (sym p) t)
    kept a (inr h) t = Each-at (λ a. DroppedAtMark log marked a → ⊥) names a s.kept h t

    apart : (x : Name) → Has names x × (keeps x ≡ true) → Before x new ⊎ Before new x
    apart x h = elim (apart-or-overlap x new (sized x h.0) (made-sized schema log new l new-made)) [ inl k ↦ k | inr o ↦ absurd (against o) ]
      where
        against : Overlap x new → ⊥
        against o = elim (Pairwise-cases Supersedes (made log) x new (later-covers schema log l) (was-made x h.0) new-made) [
          | inl p ↦ n x h.0 (subst (Covers x) p (Covers-refl x))
          | inr c ↦ elim c [
            | inl u ↦ n x h.0 (u.covers o)
            | inr u ↦ not-kept (covers new x) (covers-holds new x (u.covers (Overlap-sym x new o))) h.1
          ]
        ]

-- names that are fair for some marks are fair for fewer
pub fair-fewer : (log : List Entry) (m m' : ℕ → Bool) (names : List Name) → ((j : ℕ) → j < length log → m j ≡ true → m' j ≡ true) → AreFair log m' names → AreFair log m names
fair-fewer log m m' names f s =
    record {
      apart = s.apart;
      made_here = s.made_here;
      kept = Each-all (λ a. DroppedAtMark log m a → ⊥) names (λ a h d. Each-at (λ a. DroppedAtMark log m' a → ⊥) names a s.kept h (dropped-same log m m' a f d));
      answered = λ a h. s.answered a (made-same log m m' a f h);
    }
