-- Which names drops take away, and which entries stand where.
use Rattle.std.proofs.Common.{◌≡◌, ℕ, ◌≤◌, ◌<◌, ◌⊎◌, inl, inr, Bool, true, false, cond, List, [], ◌∷◌, length, refl, sym, ap, subst, arith, ◌∙◌, nat_eq}
use Rattle.std.proofs.lemmas.Bool.Decides.{nat_tests}
use Rattle.std.specs.declared.option.Option.{Option}
use Rattle.std.specs.declared.option.Option.TheVariants.{Some}
use Rattle.rmt_values.specs.Rows.{Shape}
use Rattle.rmt_names.specs.Names.{Name, Covers, block_name}
use Rattle.rmt_entries.specs.Entries.{result_name}
use Rattle.rmt_entries.specs.declared.entry.Entry.{Entry}
use Rattle.rmt_entries.specs.declared.entry.Entry.TheVariants.{Get, Merge, Mutate, Mutation, DropRange}
use Rattle.rmt_model.specs.Words.{Has, Pairwise}
use Rattle.rmt_model.specs.Live.{made, made_with, TakesAway, Dropped, DroppedAfter}
use Rattle.rmt_model.specs.Lawful.{Lawful, IsFresh, AboveUsed, Used, DropIn, entry_at}
use Rattle.rmt_model.specs.Laws.{Supersedes}
use Rattle.rmt_model.specs.Fair.{MadeAtMark, DroppedAtMark}
use Rattle.rmt_model.proofs.Lists.{Each-at}
use Rattle.rmt_model.proofs.LiveLaws.{Supplants, tight, supplants-get, supplants-merge, supplants-mutate, drop-of, later-covers}

pub some-same : {A : Type 0} (a b : A) → ◌≡◌ {A = Option A} (Some a) (Some b) → a ≡ b
some-same a b e = cc

-- what a new name does to the live ones, whatever entry makes it
pub supplants : (schema : Shape) (e : Entry) (log : List Entry) (new : Name) → Lawful schema (e ∷ log) → result_name e ≡ Some new → Supplants e log new
supplants schema (Get p n digest source need) log new l q =
    subst (Supplants (Get p n digest source need) log) (some-same (block_name p n) new q) (supplants-get p n digest source need log l.1)
supplants schema (Merge made [] count) log new l q = absurd l.1
supplants schema (Merge made (a ∷ []) count) log new l q = absurd l.1
supplants schema (Merge made (a ∷ b ∷ rest) count) log new l q =
    subst (Supplants (Merge made (a ∷ b ∷ rest) count) log) (some-same made new q) (supplants-merge log (tight schema log l.0) a b rest made count l.1)
supplants schema (Mutate old made upto count mcount) log new l q =
    subst (Supplants (Mutate old made upto count mcount) log) (some-same made new q) (supplants-mutate log (tight schema log l.0) old made upto count mcount l.1)
supplants schema (Mutation id numbers command) log new l q = absurd (cc)
supplants schema (DropRange p n) log new l q = absurd (cc)

-- ---- what was made

-- what was made stays made
pub made-more : (e : Entry) (log : List Entry) (a : Name) → Has (made log) a → Has (made (e ∷ log)) a
made-more (Get p n digest source need) log a h = inr h
made-more (Merge new sources count) log a h = inr h
made-more (Mutate old new upto count mcount) log a h = inr h
made-more (Mutation id numbers command) log a h = h
made-more (DropRange p n) log a h = h

-- a made name is the newest entry's or was made before
pub made-cases : (e : Entry) (log : List Entry) (a : Name) → Has (made (e ∷ log)) a → (result_name e ≡ Some a) ⊎ Has (made log) a
made-cases (Get p n digest source need) log a (inl q) = inl (ap Some q)
made-cases (Get p n digest source need) log a (inr h) = inr h
made-cases (Merge new sources count) log a (inl q) = inl (ap Some q)
made-cases (Merge new sources count) log a (inr h) = inr h
made-cases (Mutate old new upto count mcount) log a (inl q) = inl (ap Some q)
made-cases (Mutate old new upto count mcount) log a (inr h) = inr h
made-cases (Mutation id numbers command) log a h = inr h
made-cases (DropRange p n) log a h = inr h

pub newest-made : (e : Entry) (log : List Entry) (a : Name) → result_name e ≡ Some a → Has (made (e ∷ log)) a
newest-made e log a q = subst (λ (m : Option Name). Has (made_with m (made log)) a) (sym q) (inl refl)

-- an entry's place is below the length
pub entry-below : (log : List Entry) (i : ℕ) (e : Entry) → entry_at log i ≡ Some e → i < length log
entry-below [] i e h = absurd (cc)
entry-below (x ∷ log) i e h = go (nat_eq i (length log)) refl h (entry-below log i e)
  where
    go : (b : Bool) → nat_eq i (length log) ≡ b → cond b (Some x) (entry_at log i) ≡ Some e → (entry_at log i ≡ Some e → i < length log) → i < length (x ∷ log)
    go true q k f = let r : i ≡ length log = grind (arith, nat_tests) in omega (arith, r)
    go false q k f = let r = f k in omega (arith, r)

-- an entry is the newest, or is in the log before it
pub entry-cases : (x : Entry) (log : List Entry) (i : ℕ) (e : Entry) → entry_at (x ∷ log) i ≡ Some e → ((i ≡ length log) × (x ≡ e)) ⊎ (entry_at log i ≡ Some e)
entry-cases x log i e q = go (nat_eq i (length log)) refl q
  where
    go : (b : Bool) → nat_eq i (length log) ≡ b → cond b (Some x) (entry_at log i) ≡ Some e → ((i ≡ length log) × (x ≡ e)) ⊎ (entry_at log i ≡ Some e)
    go true t k = inl (grind (arith, nat_tests), some-same x e k)
    go false t k = inr k

-- what is at a place of a log is there in a longer one
pub entry-older : (x : Entry) (log : List Entry) (i : ℕ) (e : Entry) → entry_at log i ≡ Some e → entry_at (x ∷ log) i ≡ Some e
entry-older x log i e q =
    let k = entry-below log i e q in
    let n : nat_eq i (length log) ≡ false = grind (arith, nat_tests) in
    ap (λ (b : Bool). cond b (Some x) (entry_at log i)) n ∙ q

pub entry-has : (log : List Entry) (i : ℕ) (e : Entry) → entry_at log i ≡ Some e → Has log e
entry-has [] i e q = absurd (cc)
entry-has (x ∷ log) i e q = elim (entry-cases x log i e q) [ inl k ↦ inl k.1 | inr k ↦ inr (entry-has log i e k) ]

-- what the entry at a place makes was made
pub entry-made : (log : List Entry) (i : ℕ) (e : Entry) (a : Name) → entry_at log i ≡ Some e → result_name e ≡ Some a → Has (made log) a
entry-made [] i e a q r = absurd (cc)
entry-made (x ∷ log) i e a q r = elim (entry-cases x log i e q) [
  | inl k ↦ newest-made x log a (ap result_name k.1 ∙ r)
  | inr k ↦ made-more x log a (entry-made log i e a k r)
]

-- an entry that makes a name takes none away
pub makes-no-drop : (e : Entry) (new x : Name) → result_name e ≡ Some new → TakesAway e x → ⊥
makes-no-drop (Get p n digest source need) new x q t = t
makes-no-drop (Merge new' sources count) new x q t = t
makes-no-drop (Mutate old new' upto count mcount) new x q t = t
makes-no-drop (Mutation id numbers command) new x q t = t
makes-no-drop (DropRange p n) new x q t = absurd (cc)

-- ---- what is dropped

pub drop-used : (log : List Entry) (p : Option ℕ) (n : ℕ) → DropIn log p n → Used log p n
drop-used [] p n d = absurd d
drop-used (e ∷ log) p n (inl q) = subst (λ (x : Entry). Used (x ∷ log) p n) (sym q) (inl (refl, refl))
drop-used (e ∷ log) p n (inr d) = inr (drop-used log p n d)

pub dropped-made : (log : List Entry) (a : Name) → Dropped log a → Has (made log) a
dropped-made [] a d = absurd d
dropped-made (e ∷ log) a (inl d) = made-more e log a (dropped-made log a d)
dropped-made (e ∷ log) a (inr d) = made-more e log a d.0

-- a made name that a drop's range has was made before the drop
pub drop-takes : (schema : Shape) (log : List Entry) (p : Option ℕ) (n : ℕ) (a : Name) → Lawful schema log → DropIn log p n → Has (made log) a → p ≡ a.partition → a.max ≤ n → Dropped log a
drop-takes schema [] p n a l d m r s = absurd d
drop-takes schema (e ∷ log) p n a l (inl q) m r s =
    let h = subst (λ (x : Entry). Has (made (x ∷ log)) a) q m in
    inr (h, subst (λ (x : Entry). TakesAway x a) (sym q) (r, s))
drop-takes schema (e ∷ log) p n a l (inr d) m r s = elim (made-cases e log a m) [
  | inl q ↦
      let u = supplants schema e log a l q in
      let below = u.above n (subst (λ (o : Option ℕ). DropIn log o n) r d) in
      let sized = u.sized in
      absurd (omega (arith, below, sized, s))
  | inr k ↦ inl (drop-takes schema log p n a l.0 d k r s)
]

-- what a dropped name covers is dropped too
pub dropped-with : (schema : Shape) (log : List Entry) (new a : Name) → Lawful schema log → Has (made log) a → Covers new a → Dropped log new → Dropped log a
dropped-with schema log new a l m c d =
    let f = drop-of log new d in
    let k = c.max in
    drop-takes schema log new.partition f.0 a l f.1 m c.partition (omega (arith, k, f.2))

pub marked-dropped : (log : List Entry) (marked : ℕ → Bool) (a : Name) → DroppedAtMark log marked a → Dropped log a
marked-dropped [] marked a d = absurd d
marked-dropped (e ∷ log) marked a (inl d) = inl (marked-dropped log marked a d)
marked-dropped (e ∷ log) marked a (inr d) = inr (d.1, d.2)

pub marked-made : (log : List Entry) (marked : ℕ → Bool) (a : Name) → MadeAtMark log marked a → Has (made log) a
marked-made [] marked a h = absurd h
marked-made (e ∷ log) marked a (inl h) = newest-made e log a h.1
marked-made (e ∷ log) marked a (inr h) = made-more e log a (marked-made log marked a h)

-- ---- drops after a place

pub dropped-place : (log : List Entry) (i : ℕ) (a : Name) → DroppedAfter log i a → i < length log
dropped-place [] i a d = absurd d
dropped-place (e ∷ log) i a (inl d) = let k = dropped-place log i a d in omega (arith, k)
dropped-place (e ∷ log) i a (inr d) = let k = d.0 in omega (arith, k)

-- the number of a drop that takes a name away is used
pub dropped-number : (log : List Entry) (i : ℕ) (a : Name) → DroppedAfter log i a → (n : ℕ) × Used log a.partition n × (a.max ≤ n)
dropped-number [] i a d = absurd d
dropped-number (e ∷ log) i a (inl d) = let k = dropped-number log i a d in (k.0, inr k.1, k.2)
dropped-number (DropRange p n ∷ log) i a (inr d) = (n, inl (d.1.0, refl), d.1.1)
dropped-number (Get p n digest source need ∷ log) i a (inr d) = absurd d.1
dropped-number (Merge new sources count ∷ log) i a (inr d) = absurd d.1
dropped-number (Mutate old new upto count mcount ∷ log) i a (inr d) = absurd d.1
dropped-number (Mutation id numbers command ∷ log) i a (inr d) = absurd d.1

-- a name is dropped where a drop after its maker takes it away
pub after-dropped : (log : List Entry) (i : ℕ) (e : Entry) (a : Name) → entry_at log i ≡ Some e → result_name e ≡ Some a → DroppedAfter log i a → Dropped log a
after-dropped [] i e a q r d = absurd d
after-dropped (x ∷ log) i e a q r d = elim (entry-cases x log i e q) [
  | inl k ↦ absurd (not-newest k.0 d)
  | inr k ↦ older k (after-dropped log i e a k r) d
]
  where
    not-newest : i ≡ length log → DroppedAfter (x ∷ log) i a → ⊥
    not-newest e (inl d) = let k = dropped-place log i a d in absurd (omega (arith, k, e))
    not-newest e (inr d) = let k = d.0 in absurd (omega (arith, k, e))

    older : entry_at log i ≡ Some e → (DroppedAfter log i a → Dropped log a) → DroppedAfter (x ∷ log) i a → Dropped (x ∷ log) a
    older k f (inl d) = inl (f d)
    older k f (inr d) = inr (entry-made log i e a k r, d.1)

pub dropped-after : (schema : Shape) (log : List Entry) (i : ℕ) (e : Entry) (a : Name) → Lawful schema log → entry_at log i ≡ Some e → result_name e ≡ Some a → Dropped log a → DroppedAfter log i a
dropped-after schema [] i e a l q r d = absurd d
dropped-after schema (x ∷ log) i e a l q r d = elim (entry-cases x log i e q) [
  | inl k ↦ absurd (not-newest (ap result_name k.1 ∙ r) d)
  | inr k ↦ older k (dropped-after schema log i e a l.0 k r) d
]
  where
    -- no name is made twice
    twice : result_name x ≡ Some a → Has (made log) a → ⊥
    twice m h =
        let p = subst (λ (o : Option Name). Pairwise Supersedes (made_with o (made log))) m (later-covers schema (x ∷ log) l) in
        (Each-at (Supersedes a) (made log) a p.0 h).differ refl

    not-newest : result_name x ≡ Some a → Dropped (x ∷ log) a → ⊥
    not-newest m (inl d) = twice m (dropped-made log a d)
    not-newest m (inr d) = makes-no-drop x a a m d.1

    older : entry_at log i ≡ Some e → (Dropped log a → DroppedAfter log i a) → Dropped (x ∷ log) a → DroppedAfter (x ∷ log) i a
    older k f (inl d) = inl (f d)
    older k f (inr d) = inr (entry-below log i e k, d.1)

-- a number above all that are used is fresh
pub fresh : (schema : Shape) (log : List Entry) (p : Option ℕ) (n : ℕ) → Lawful schema log → AboveUsed log p n → IsFresh log p n
fresh schema log p n l u =
    record {
      unused = λ k. let q = u n k in absurd (omega (arith, q));
      outside = λ a h s.
          let t = (tight schema log l).used a h in
          let q = u a.max (subst (λ (x : Option ℕ). Used log x a.max) s.partition t) in
          let r = s.high in
          absurd (omega (arith, q, r));
      above = λ m d. u m (drop-used log p m d);
    }
