-- What a change does to the parts of a replica, and to their names.
use Rattle.std.proofs.Common.{◌≡◌, ℕ, zero, suc, ◌<◌, ◌≤◌, ◌⊎◌, inl, inr, ◌&&◌, Bool, true, false, not, cond, List, [], ◌∷◌, length, filter, take, refl, sym, ap, subst, arith, ◌∙◌, nat_lt}
use Rattle.std.proofs.lemmas.Bool.Decides.{nat_tests}
use Rattle.std.specs.Prelude.{slice_get}
use Rattle.std.specs.declared.option.Option.{Option}
use Rattle.std.specs.declared.option.Option.TheVariants.{Some}
use Rattle.rmt_values.specs.Rows.{Shape}
use Rattle.rmt_names.specs.Names.{Name, covers}
use Rattle.rmt_entries.specs.Entries.{result_name}
use Rattle.rmt_entries.specs.declared.entry.Entry.{Entry}
use Rattle.rmt_entries.specs.declared.entry.Entry.TheVariants.{DropRange}
use Rattle.rmt_model.specs.Words.{Has, Each}
use Rattle.rmt_model.specs.Live.{made, placed, before, in_drop, Dropped, DroppedAfter}
use Rattle.rmt_model.specs.Lawful.{Lawful, entry_at}
use Rattle.rmt_model.proofs.Lists.{Has-filter, rank-injective}
use Rattle.rmt_model.proofs.Drops.{some-same, entry-below, entry-cases, entry-has, newest-made, drop-takes, dropped-after, dropped-place}
use Rattle.rmt_part.specs.Lineages.{PartValue}
use Rattle.rmt_partset.specs.ActiveParts.{Replace, Drop, after, put_in, part_names}
use Rattle.rmt_partset.proofs.Replacing.{names-replaced}
use Rattle.rmt_replica.specs.Parts.{IsMadeIn}
use Rattle.rmt_events.specs.ApplyEvents.{IsFirstInactive}

-- the part is in place of those that it covers, and all others stay
pub record Installs (old : List PartValue) (part : PartValue) (new : List PartValue) : Type 0 where
  pub names : part_names new ≡ placed part.name (part_names old)
  pub others : (p : PartValue) → Has new p → (p ≡ part) ⊎ Has old p
  pub there : Has new part

-- the parts of a drop's range are gone, and all others stay
pub record TakesParts (old : List PartValue) (p : Option ℕ) (n : ℕ) (new : List PartValue) : Type 0 where
  pub names : part_names new ≡ filter (λ a. not (in_drop p n a)) (part_names old)
  pub others : (part : PartValue) → Has new part → Has old part

put-others : (new : PartValue) (parts : List PartValue) (p : PartValue) → Has (put_in new parts) p → (p ≡ new) ⊎ Has parts p
put-others new [] p (inl q) = inl (sym q)
put-others new [] p (inr h) = absurd h
put-others new (z ∷ parts) p h = go (before z.name new.name) h (put-others new parts p)
  where
    go : (b : Bool) → Has (cond b (z ∷ put_in new parts) (new ∷ z ∷ parts)) p → (Has (put_in new parts) p → (p ≡ new) ⊎ Has parts p) → (p ≡ new) ⊎ Has (z ∷ parts) p
    go true (inl q) f = inr (inl q)
    go true (inr k) f = elim (f k) [ inl q ↦ inl q | inr m ↦ inr (inr m) ]
    go false (inl q) f = inl (sym q)
    go false (inr k) f = inr k

put-there : (new : PartValue) (parts : List PartValue) → Has (put_in new parts) new
put-there new [] = inl refl
put-there new (z ∷ parts) = go (before z.name new.name) (put-there new parts)
  where
    go : (b : Bool) → Has (put_in new parts) new → Has (cond b (z ∷ put_in new parts) (new ∷ z ∷ parts)) new
    go true h = inr h
    go false h = inl refl

pub installs : (part : PartValue) (old : List PartValue) → Installs old part (after (Replace part) old)
installs part old = record {
  names = names-replaced part old;
  others = λ p h. elim (put-others part (filter (λ q. not (covers part.name q.name)) old) p h) [
    | inl q ↦ inl q
    | inr k ↦ inr (Has-filter (λ (q : PartValue). not (covers part.name q.name)) old p k).0
  ];
  there = put-there part (filter (λ q. not (covers part.name q.name)) old);
}

-- what a name that a drop takes away was made by stands before the drop
pub made-before : (schema : Shape) (log : List Entry) (i j : ℕ) (e : Entry) (p : Option ℕ) (n : ℕ) (a : Name) → Lawful schema log → entry_at log i ≡ Some (DropRange p n) → entry_at log j ≡ Some e → result_name e ≡ Some a → in_drop p n a ≡ true → j < i
made-before schema [] i j e p n a l q m r t = absurd (cc)
made-before schema (x ∷ log) i j e p n a l q m r t = go (entry-cases x log i (DropRange p n) q) (entry-cases x log j e m) (λ u v. made-before schema log i j e p n a l.0 u v r t)
  where
    same : p ≡ a.partition
    same = rank-injective p a.partition (grind (arith, nat_tests))

    low : a.max ≤ n
    low = grind (arith, nat_tests)

    -- a drop that is older than the newest maker would have to stand after it
    never : j ≡ length log → x ≡ e → entry_at log i ≡ Some (DropRange p n) → ⊥
    never u v w =
        let new : Has (made (x ∷ log)) a = newest-made x log a (ap result_name v ∙ r) in
        let gone : Dropped (x ∷ log) a = drop-takes schema (x ∷ log) p n a l (inr (entry-has log i (DropRange p n) w)) new same low in
        later (dropped-after schema (x ∷ log) j e a l m r gone)
      where
        later : DroppedAfter (x ∷ log) j a → ⊥
        later (inl d) = let k = dropped-place log j a d in absurd (omega (arith, k, u))
        later (inr d) = let k = d.0 in absurd (omega (arith, k, u))

    go : ((i ≡ length log) × (x ≡ DropRange p n)) ⊎ (entry_at log i ≡ Some (DropRange p n)) → ((j ≡ length log) × (x ≡ e)) ⊎ (entry_at log j ≡ Some e) → (entry_at log i ≡ Some (DropRange p n) → entry_at log j ≡ Some e → j < i) → j < i
    go (inl u) (inl v) f = let s = ap result_name (sym v.1 ∙ u.1) in absurd (cc)
    go (inl u) (inr v) f = let b = entry-below log j e v in let k = u.0 in omega (arith, b, k)
    go (inr u) (inl v) f = absurd (never v.0 v.1 u)
    go (inr u) (inr v) f = f u v

-- a drop takes the parts of its range away, since all of them were made before it
pub takes : (schema : Shape) (log : List Entry) (i : ℕ) (p : Option ℕ) (n : ℕ) (parts : List PartValue) → Lawful schema log → entry_at log i ≡ Some (DropRange p n) → Each (IsMadeIn schema log) parts → TakesParts parts p n (after (Drop p n i) parts)
takes schema log i p n parts l q each = record {
  names = names parts each;
  others = λ part h. (Has-filter (λ (x : PartValue). not (in_drop p n x.name && nat_lt x.made.place i)) parts part h).0;
}
  where
    left : PartValue → Bool
    left x = not (in_drop p n x.name && nat_lt x.made.place i)

    same-test : (x : PartValue) → IsMadeIn schema log x → left x ≡ not (in_drop p n x.name)
    same-test x m = go (in_drop p n x.name) refl
      where
        go : (b : Bool) → in_drop p n x.name ≡ b → not (b && nat_lt x.made.place i) ≡ not b
        go true e =
            let k = made-before schema log i x.made.place x.made.value p n x.name l q m.of_log.made m.is_part.keeps.made e in
            let t : nat_lt x.made.place i ≡ true = grind (arith, nat_tests) in
            ap not t
        go false e = refl

    names : (ps : List PartValue) → Each (IsMadeIn schema log) ps → part_names (filter left ps) ≡ filter (λ a. not (in_drop p n a)) (part_names ps)
    names [] k = refl
    names (x ∷ ps) k = go (left x) (not (in_drop p n x.name)) (same-test x k.0) (names ps k.1)
      where
        go : (b c : Bool) → b ≡ c → part_names (filter left ps) ≡ filter (λ a. not (in_drop p n a)) (part_names ps) → part_names (cond b (x ∷ filter left ps) (filter left ps)) ≡ cond c (x.name ∷ filter (λ a. not (in_drop p n a)) (part_names ps)) (filter (λ a. not (in_drop p n a)) (part_names ps))
        go true true f h = ap (λ (names : List Name). x.name ∷ names) h
        go false false f h = h
        go true false f h = absurd (cc)
        go false true f h = absurd (cc)

pub first-inactive : (active names : List Name) (i : ℕ) (a : Name) → slice_get names i ≡ Some a → Each (Has active) (take i names) → (Has active a → ⊥) → IsFirstInactive names active a
first-inactive active [] i a e k n = absurd (cc)
first-inactive active (y ∷ names) zero a e k n = let q = some-same y a e in inl (subst (λ z. Has active z → ⊥) (sym q) n, sym q)
first-inactive active (y ∷ names) (suc i) a e k n = inr (k.0, first-inactive active names i a e k.1 n)
