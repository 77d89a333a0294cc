-- A part at its place among parts in order.
use Rattle.std.proofs.Common.{◌≡◌, ℕ, ◌+◌, ◌≤◌, ◌||◌, Bool, true, false, cond, not, List, [], ◌∷◌, map, filter, refl, sym, ap, subst, ◌∙◌, one-add}
use Rattle.std.specs.List.{prefix_len, insert, remove_range}
use Rattle.rmt_names.specs.Names.{Name, Overlap, Covers, covers}
use Rattle.rmt_model.specs.Words.{Has, Each}
use Rattle.rmt_model.specs.Live.{before, inserted, placed}
use Rattle.rmt_model.proofs.Lists.{Each-at, Each-all}
use Rattle.rmt_nameset.specs.declared.range.Range.{Range}
use Rattle.rmt_nameset.specs.NameSets.{AreApart, put}
use Rattle.rmt_nameset.proofs.Ranges.{Downward, Between, middle, prefix-kept}
use Rattle.rmt_nameset.proofs.Placing.{is_before, is_not_behind, before-parts, behind-parts, placed-between, placed-apart}
use Rattle.rmt_part.specs.Lineages.{PartValue}
use Rattle.rmt_partset.specs.ActiveParts.{Replace, after, put_in, part_names}
use Rattle.rmt_partset.proofs.PartLists.{Each-along, Pairwise-along, prefix-along}

put_in_is : (new : PartValue) (parts : List PartValue) → insert parts (prefix_len (λ p. before p.name new.name) parts) new ≡ put_in new parts
put_in_is new [] = refl
put_in_is new (z ∷ parts) = go (before z.name new.name) (put_in_is new parts)
  where
    n : ℕ
    n = prefix_len (λ p. before p.name new.name) parts

    go : (b : Bool) → insert parts n new ≡ put_in new parts → insert (z ∷ parts) (cond b (1 + n) 0) new ≡ cond b (z ∷ put_in new parts) (new ∷ z ∷ parts)
    go true e = rw one-add (ap (λ ps. z ∷ ps) e)
    go false e = refl

-- the part in place of the range that it covers
pub replaced : (new : PartValue) (parts : List PartValue) (r : Range) → new.name.min ≤ new.name.max → AreApart (part_names parts) → Each (λ a. Overlap new.name a → Covers new.name a) (part_names parts)
    → r.from ≡ prefix_len (is_before new.name) (part_names parts) → r.to ≡ prefix_len (is_not_behind new.name) (part_names parts) → put parts r new ≡ after (Replace new) parts
replaced new parts r s p over u v =
    rw (u, v, sym (prefix-along name (is_before new.name) parts), sym (prefix-along name (is_not_behind new.name) parts))
    (ap (λ ps. insert ps (prefix_len below parts) new) (sym (middle keep below upto parts down (Pairwise-along name (λ a b. is_not_behind new.name b ≡ true → is_not_behind new.name a ≡ true) parts (behind-parts new.name (part_names parts) p)) between))
    ∙ (ap (λ n. insert (filter keep parts) n new) (sym (prefix-kept keep below parts down (Each-all (λ q. below q ≡ true → keep q ≡ true) parts (λ q h e. passes q (Each-at (Between keep below upto) parts q between h) e))))
    ∙ put_in_is new (filter keep parts)))
  where
    name : PartValue → Name
    name p = p.name

    keep : PartValue → Bool
    keep p = not (covers new.name p.name)

    below : PartValue → Bool
    below p = is_before new.name p.name

    upto : PartValue → Bool
    upto p = is_not_behind new.name p.name

    down : Downward below parts
    down = Pairwise-along name (λ a b. is_before new.name b ≡ true → is_before new.name a ≡ true) parts (before-parts new.name (part_names parts) p)

    between : Each (Between keep below upto) parts
    between = Each-along name (Between (λ a. not (covers new.name a)) (is_before new.name) (is_not_behind new.name)) parts (placed-between new.name (part_names parts) s p over)

    passes : (q : PartValue) → Between keep below upto q → below q ≡ true → keep q ≡ true
    passes q b e = b.0 ∙ ap (λ v. v || not (not (before new.name q.name))) e

-- the names after a replacement are those with the new name in place of those that it covers
names-put_in : (new : PartValue) (parts : List PartValue) → part_names (put_in new parts) ≡ inserted new.name (part_names parts)
names-put_in new [] = refl
names-put_in new (z ∷ parts) = go (before z.name new.name) (names-put_in new parts)
  where
    go : (b : Bool) → part_names (put_in new parts) ≡ inserted new.name (part_names parts) → part_names (cond b (z ∷ put_in new parts) (new ∷ z ∷ parts)) ≡ cond b (z.name ∷ inserted new.name (part_names parts)) (new.name ∷ z.name ∷ part_names parts)
    go true e = ap (λ (names : List Name). z.name ∷ names) e
    go false e = refl

names-kept : (keep : Name → Bool) (parts : List PartValue) → part_names (filter (λ p. keep p.name) parts) ≡ filter keep (part_names parts)
names-kept keep [] = refl
names-kept keep (z ∷ parts) = go (keep z.name) (names-kept keep parts)
  where
    go : (b : Bool) → part_names (filter (λ p. keep p.name) parts) ≡ filter keep (part_names parts) → part_names (cond b (z ∷ filter (λ p. keep p.name) parts) (filter (λ p. keep p.name) parts)) ≡ cond b (z.name ∷ filter keep (part_names parts)) (filter keep (part_names parts))
    go true e = ap (λ (names : List Name). z.name ∷ names) e
    go false e = e

pub names-replaced : (new : PartValue) (parts : List PartValue) → part_names (after (Replace new) parts) ≡ placed new.name (part_names parts)
names-replaced new parts = names-put_in new (filter (λ p. not (covers new.name p.name)) parts) ∙ ap (inserted new.name) (names-kept (λ a. not (covers new.name a)) parts)

-- parts that are apart stay so
pub replaced-apart : (new : PartValue) (parts : List PartValue) → new.name.min ≤ new.name.max → AreApart (part_names parts) → Each (λ a. Overlap new.name a → Covers new.name a) (part_names parts) → AreApart (part_names (after (Replace new) parts))
replaced-apart new parts s p over = subst AreApart (sym (names-replaced new parts)) (placed-apart new.name (part_names parts) s p over)
