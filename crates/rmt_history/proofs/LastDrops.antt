-- The last drop of a partition, which takes a name away where any later drop does.
use Rattle.std.proofs.Common.{◌≡◌, ◌<◌, ◌≤◌, ℕ, inl, inr, Bool, true, false, cond, List, [], ◌∷◌, length, refl, sym, ap, subst, arith, nat_eq}
use Rattle.std.proofs.lemmas.Bool.Decides.{nat_tests}
use Rattle.std.specs.declared.option.Option.{Option}
use Rattle.std.specs.declared.option.Option.TheVariants.{Some, None}
use Rattle.std.specs.Ordering.{is_eq}
use Rattle.std.specs.Prelude.{IsTrue}
use Rattle.rmt_values.specs.Rows.{Shape}
use Rattle.rmt_names.specs.Names.{Name, rank}
use Rattle.rmt_entries.specs.declared.entry.Entry.{Entry}
use Rattle.rmt_entries.specs.declared.entry.Entry.TheVariants.{Get, Merge, Mutate, Mutation, DropRange}
use Rattle.rmt_model.specs.Live.{DroppedAfter}
use Rattle.rmt_model.specs.Lawful.{Lawful, Used}
use Rattle.rmt_model.proofs.Lists.{rank-injective}
use Rattle.rmt_model.proofs.Drops.{dropped-place, dropped-number}
use Rattle.rmt_history.specs.declared.last_drop.LastDrop.{LastDrop}
use Rattle.rmt_history.specs.Copies.{last_drop, drop_after, partition_cmp, takes_after}
use Rattle.rmt_history.proofs.Makers.{exact-option, option-itself, alike}

-- the drop comes after the place and takes the name away
abbrev pub TakesAfter : Option LastDrop → ℕ → Name → Type 0
TakesAfter None i a = ⊥
TakesAfter (Some d) i a = (i < d.place) × (a.max ≤ d.number)

same-partition : (q p : Option ℕ) → is_eq (partition_cmp q p) ≡ nat_eq (rank q) (rank p)
same-partition q p = go (is_eq (partition_cmp q p)) (nat_eq (rank q) (rank p)) refl refl
  where
    go : (b t : Bool) → is_eq (partition_cmp q p) ≡ b → nat_eq (rank q) (rank p) ≡ t → b ≡ t
    go true true e f = refl
    go false false e f = refl
    go true false e f =
        let r : rank q ≡ rank p = ap rank (exact-option q p (alike (partition_cmp q p) e)) in
        absurd (grind (arith, nat_tests))
    go false true e f =
        let r : rank q ≡ rank p = grind (arith, nat_tests) in
        let s : is_eq (partition_cmp q p) ≡ true = subst (λ (x : Option ℕ). is_eq (partition_cmp q x) ≡ true) (rank-injective q p r) (ap is_eq (option-itself q)) in
        absurd (cc)

-- what is noted for a partition once one more entry is there
pub drop-more : (e : Entry) (log : List Entry) (p : Option ℕ) (place : ℕ) (before : Option LastDrop) → place ≡ length log → before ≡ last_drop log p → drop_after e place before p ≡ last_drop (e ∷ log) p
drop-more (Get q n digest source need) log p place before e f = f
drop-more (Merge new sources count) log p place before e f = f
drop-more (Mutate old new upto count mcount) log p place before e f = f
drop-more (Mutation id numbers command) log p place before e f = f
drop-more (DropRange q n) log p place before e f =
    rw (same-partition q p, e, f) refl

-- the last drop takes away what a later drop takes away
pub last-takes : (schema : Shape) (log : List Entry) (i : ℕ) (a : Name) → Lawful schema log → DroppedAfter log i a → TakesAfter (last_drop log a.partition) i a
last-takes schema [] i a l d = absurd d
last-takes schema (Get q n digest source need ∷ log) i a l (inl d) = last-takes schema log i a l.0 d
last-takes schema (Get q n digest source need ∷ log) i a l (inr d) = absurd d.1
last-takes schema (Merge new sources count ∷ log) i a l (inl d) = last-takes schema log i a l.0 d
last-takes schema (Merge new sources count ∷ log) i a l (inr d) = absurd d.1
last-takes schema (Mutate old new upto count mcount ∷ log) i a l (inl d) = last-takes schema log i a l.0 d
last-takes schema (Mutate old new upto count mcount ∷ log) i a l (inr d) = absurd d.1
last-takes schema (Mutation id numbers command ∷ log) i a l (inl d) = last-takes schema log i a l.0 d
last-takes schema (Mutation id numbers command ∷ log) i a l (inr d) = absurd d.1
last-takes schema (DropRange q n ∷ log) i a l d = go (nat_eq (rank q) (rank a.partition)) refl d (last-takes schema log i a l.0)
  where
    go : (b : Bool) → nat_eq (rank q) (rank a.partition) ≡ b → DroppedAfter (DropRange q n ∷ log) i a → (DroppedAfter log i a → TakesAfter (last_drop log a.partition) i a) → TakesAfter (cond b (Some (record { place = length log; number = n })) (last_drop log a.partition)) i a
    go true e (inl d) f =
        let r : rank q ≡ rank a.partition = grind (arith, nat_tests) in
        let m = dropped-number log i a d in
        let above = l.1 m.0 (subst (λ (o : Option ℕ). Used log o m.0) (sym (rank-injective q a.partition r)) m.1) in
        let low = m.2 in
        (dropped-place log i a d, omega (arith, above, low))
    go true e (inr d) f = (d.0, d.1.1)
    go false e (inl d) f = f d
    go false e (inr d) f = let r : rank q ≡ rank a.partition = ap rank d.1.0 in absurd (grind (arith, nat_tests))

-- and it is a later drop
pub last-is-later : (log : List Entry) (i : ℕ) (a : Name) → TakesAfter (last_drop log a.partition) i a → DroppedAfter log i a
last-is-later [] i a t = absurd t
last-is-later (Get q n digest source need ∷ log) i a t = inl (last-is-later log i a t)
last-is-later (Merge new sources count ∷ log) i a t = inl (last-is-later log i a t)
last-is-later (Mutate old new upto count mcount ∷ log) i a t = inl (last-is-later log i a t)
last-is-later (Mutation id numbers command ∷ log) i a t = inl (last-is-later log i a t)
last-is-later (DropRange q n ∷ log) i a t = go (nat_eq (rank q) (rank a.partition)) refl t (last-is-later log i a)
  where
    go : (b : Bool) → nat_eq (rank q) (rank a.partition) ≡ b → TakesAfter (cond b (Some (record { place = length log; number = n })) (last_drop log a.partition)) i a → (TakesAfter (last_drop log a.partition) i a → DroppedAfter log i a) → DroppedAfter (DropRange q n ∷ log) i a
    go true e t f =
        let r : rank q ≡ rank a.partition = grind (arith, nat_tests) in
        inr (t.0, (rank-injective q a.partition r, t.1))
    go false e t f = inl (f t)

pub takes-test : (o : Option LastDrop) (i : ℕ) (a : Name) → (IsTrue (takes_after o i a) → TakesAfter o i a) × (TakesAfter o i a → IsTrue (takes_after o i a))
takes-test None i a = (λ h. absurd (cc), λ h. absurd h)
takes-test (Some d) i a = (λ h. (grind (arith, nat_tests), grind (arith, nat_tests)), λ h. let l = h.0 in let m = h.1 in grind (arith, nat_tests))

-- what the copy notes tells
pub takes-away-is : (schema : Shape) (log : List Entry) (i : ℕ) (a : Name) (o : Option LastDrop) (b : Bool) → Lawful schema log → o ≡ last_drop log a.partition → b ≡ takes_after o i a → (IsTrue b → DroppedAfter log i a) × (DroppedAfter log i a → IsTrue b)
takes-away-is schema log i a o b l e f = (
  λ h. last-is-later log i a (subst (λ (x : Option LastDrop). TakesAfter x i a) e ((takes-test o i a).0 (subst IsTrue f h))),
  λ d. subst IsTrue (sym f) ((takes-test o i a).1 (subst (λ (x : Option LastDrop). TakesAfter x i a) (sym e) (last-takes schema log i a l d))),
)
