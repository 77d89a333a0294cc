-- A drained replica's active names are the live ones.
use Rattle.std.proofs.Common.{◌≡◌, ℕ, ◌≤◌, ◌⊎◌, inl, inr, Bool, List, [], ◌∷◌, length, refl, sym, ap, subst, arith, ◌∙◌}
use Rattle.rmt_model.specs.Lawful.{Lawful}
use Rattle.std.specs.declared.option.Option.TheVariants.{Some}
use Rattle.rmt_values.specs.Rows.{Shape}
use Rattle.rmt_names.specs.Names.{Name, Covers, Overlap}
use Rattle.rmt_entries.specs.declared.entry.Entry.{Entry}
use Rattle.rmt_entries.specs.declared.entry.Entry.TheVariants.{Get, Merge, Mutate, Mutation, DropRange}
use Rattle.rmt_model.specs.Words.{Has, Pairwise}
use Rattle.rmt_model.specs.Live.{Before, live, made, Dropped}
use Rattle.rmt_model.specs.Fair.{CoveredBy, MadeAtMark, DroppedAtMark, AreFair, AllMarked}
use Rattle.rmt_model.proofs.Lists.{Each-at}
use Rattle.rmt_model.proofs.LiveLaws.{Tight, tight, accounted, drop-of, not-both, Pairwise-cases, covers-none-but-itself}
use Rattle.rmt_model.proofs.VersionLaws.{live-made, made-sized}

-- where all is marked, each made name was made at a mark, and each drop is at one
all-made : (log : List Entry) (marked : ℕ → Bool) (a : Name) → AllMarked log marked → Has (made log) a → MadeAtMark log marked a
all-made [] marked a d h = absurd h
all-made (Get p n digest source need ∷ log) marked a d (inl q) = inl (d (length log) (omega arith), ap Some q)
all-made (Get p n digest source need ∷ log) marked a d (inr h) = inr (all-made log marked a (λ i l. d i (omega arith)) h)
all-made (Merge new sources count ∷ log) marked a d (inl q) = inl (d (length log) (omega arith), ap Some q)
all-made (Merge new sources count ∷ log) marked a d (inr h) = inr (all-made log marked a (λ i l. d i (omega arith)) h)
all-made (Mutate old new upto count mcount ∷ log) marked a d (inl q) = inl (d (length log) (omega arith), ap Some q)
all-made (Mutate old new upto count mcount ∷ log) marked a d (inr h) = inr (all-made log marked a (λ i l. d i (omega arith)) h)
all-made (Mutation id numbers command ∷ log) marked a d h = inr (all-made log marked a (λ i l. d i (omega arith)) h)
all-made (DropRange p n ∷ log) marked a d h = inr (all-made log marked a (λ i l. d i (omega arith)) h)

all-dropped : (log : List Entry) (marked : ℕ → Bool) (a : Name) → AllMarked log marked → Dropped log a → DroppedAtMark log marked a
all-dropped [] marked a d h = absurd h
all-dropped (e ∷ log) marked a d (inl h) = inl (all-dropped log marked a (λ i l. d i (omega arith)) h)
all-dropped (e ∷ log) marked a d (inr h) = inr (d (length log) (omega arith), h.0, h.1)

-- a live name isn't dropped
pub live-not-dropped : (log : List Entry) (a : Name) → Tight log → Has (live log) a → Dropped log a → ⊥
live-not-dropped log a t h d =
    let r = drop-of log a d in let u = t.above a h r.0 r.1 in let v = r.2 in let s = t.sized a h in omega (arith, u, v, s)

-- names that contain one another's ranges overlap
pub cover-overlap : (a b : Name) → Covers a b → b.min ≤ b.max → Overlap a b
cover-overlap a b c s = let i = c.min in let j = c.max in record { partition = c.partition; low = omega arith; high = omega arith }

-- lists in order with the same members are equal
Before-irrefl : (a : Name) → a.min ≤ a.max → Before a a → ⊥
Before-irrefl a s h = grind arith

Before-asym : (a b : Name) → a.min ≤ a.max → b.min ≤ b.max → Before a b → Before b a → ⊥
Before-asym a b s t h k = grind arith

pub same-order : (xs ys : List Name) → Pairwise Before xs → Pairwise Before ys → ((a : Name) → Has xs a → a.min ≤ a.max) → ((a : Name) → Has xs a → Has ys a) → ((a : Name) → Has ys a → Has xs a) → xs ≡ ys
same-order [] [] p q s f g = refl
same-order [] (y ∷ ys) p q s f g = absurd (g y (inl refl))
same-order (x ∷ xs) [] p q s f g = absurd (f x (inl refl))
same-order (x ∷ xs) (y ∷ ys) p q s f g = joined x y xs ys first (same-order xs ys p.1 q.1 (λ a h. s a (inr h)) forth back)
  where
    joined : (x y : Name) (xs ys : List Name) → x ≡ y → xs ≡ ys → x ∷ xs ≡ y ∷ ys
    joined x y xs ys e h = cc

    first : x ≡ y
    first = go (f x (inl refl)) (g y (inl refl))
      where
        go : (y ≡ x) ⊎ Has ys x → (x ≡ y) ⊎ Has xs y → x ≡ y
        go (inl e) k = sym e
        go (inr h) (inl e) = e
        go (inr h) (inr k) = absurd (Before-asym x y (s x (inl refl)) (s y (g y (inl refl))) (Each-at (Before x) xs y p.0 k) (Each-at (Before y) ys x q.0 h))

    forth : (a : Name) → Has xs a → Has ys a
    forth a h = go (f a (inr h))
      where
        go : (y ≡ a) ⊎ Has ys a → Has ys a
        go (inl e) = absurd (Before-irrefl a (s a (inr h)) (subst (λ (z : Name). Before z a) (first ∙ e) (Each-at (Before x) xs a p.0 h)))
        go (inr k) = k

    back : (a : Name) → Has ys a → Has xs a
    back a h = go (g a (inr h))
      where
        go : (x ≡ a) ⊎ Has xs a → Has xs a
        go (inl e) = absurd (Before-irrefl a (s a (g a (inr h))) (subst (λ (z : Name). Before z a) (sym first ∙ e) (Each-at (Before y) ys a q.0 h)))
        go (inr k) = k

-- names that are fair for every place of a lawful log are exactly the live names
pub fair-live : (schema : Shape) (log : List Entry) (marked : ℕ → Bool) (active : List Name) → Lawful schema log → AreFair log marked active → AllMarked log marked → active ≡ live log
fair-live schema log marked active l s d = sym (same-order (live log) active t.apart s.apart t.sized live-active active-live)
  where
    t : Tight log
    t = tight schema log l

    made-of : (a : Name) → Has active a → Has (made log) a
    made-of a h = Each-at (λ x. Has (made log) x) active a s.made_here h

    live-active : (b : Name) → Has (live log) b → Has active b
    live-active b h =
        elim (s.answered b (all-made log marked b d (live-made log b h))) [
          | inl c ↦ subst (Has active) (covers-none-but-itself schema log l c.name b (made-of c.name c.is_in) h c.covers) c.is_in
          | inr q ↦ absurd (live-not-dropped log b t h q)
        ]

    -- a live name that covers an active one is that one
    alone : (a : Name) → Has active a → CoveredBy (live log) a → Has (live log) a
    alone a h c = go (Pairwise-cases Before active c.name a s.apart (live-active c.name c.is_in) h)
      where
        o : Overlap c.name a
        o = cover-overlap c.name a c.covers (made-sized schema log a l (made-of a h))

        go : (c.name ≡ a) ⊎ (Before c.name a ⊎ Before a c.name) → Has (live log) a
        go (inl e) = subst (Has (live log)) e c.is_in
        go (inr (inl b)) = absurd (not-both c.name a b o)
        go (inr (inr b)) = absurd (not-both a c.name b (record { partition = sym o.partition; low = o.high; high = o.low }))

    active-live : (a : Name) → Has active a → Has (live log) a
    active-live a h =
        let itself = alone a h in
        elim (accounted log a (made-of a h)) [
          | inl q ↦ absurd (Each-at (λ x. DroppedAtMark log marked x → ⊥) active a s.kept h (all-dropped log marked a d q))
          | inr c ↦ itself c
        ]
