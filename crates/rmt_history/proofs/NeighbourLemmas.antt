-- Names side by side among the live ones.
use Rattle.std.proofs.Common.{◌≡◌, ℕ, ◌<◌, ◌≤◌, Bool, true, false, List, [], ◌∷◌, ◌++◌, length, take, drop, refl, sym, ap, subst, arith, ◌∙◌, nat_lt}
use Rattle.std.proofs.lemmas.Bool.Decides.{nat_tests}
use Rattle.std.proofs.lemmas.List.{take-append-drop}
use Rattle.std.proofs.Math.Seq.{take-append_seam, drop-append_seam}
use Rattle.std.proofs.lemmas.Option.{slice_get_within}
use Rattle.std.specs.Prelude.{slice_get}
use Rattle.std.specs.declared.option.Option.TheVariants.{Some, None}
use Rattle.rmt_names.specs.Names.{Name, Covers}
use Rattle.rmt_entries.specs.declared.entry.Entry.{Entry}
use Rattle.rmt_model.specs.Words.{Has}
use Rattle.rmt_model.specs.Live.{live, Before}
use Rattle.rmt_model.specs.Lawful.{AreNeighbours}
use Rattle.rmt_model.proofs.Lists.{Each-at}
use Rattle.rmt_model.proofs.LiveLaws.{Covers-refl, not-both, Overlap-sym}
use Rattle.rmt_model.proofs.Drops.{some-same}
use Rattle.rmt_model.proofs.Drained.{cover-overlap}
use Rattle.rmt_nameset.specs.NameSets.{AreApart, CoversAt}
use Rattle.rmt_history.proofs.ListLemmas.{get-has, Pairwise-at}

-- no names are neighbours
pub none-neighbours : (log : List Entry) → AreNeighbours log []
none-neighbours log = record { left = []; right = live log; among = refl }

pub stand-neighbours : (log : List Entry) (names : List Name) (at : ℕ) → take (length names) (drop at (live log)) ≡ names → AreNeighbours log names
stand-neighbours log names at e = record {
  left = take at (live log);
  right = drop (length names) (drop at (live log));
  among = ap (λ (l : List Name). take at (live log) ++ (l ++ drop (length names) (drop at (live log)))) (sym e)
      ∙ (ap (λ (l : List Name). take at (live log) ++ l) (take-append-drop (length names) (drop at (live log))) ∙ take-append-drop at (live log));
}

get-seam : (left : List Name) (a : Name) (rest : List Name) → slice_get (left ++ a ∷ rest) (length left) ≡ Some a
get-seam [] a rest = refl
get-seam (x ∷ left) a rest = get-seam left a rest

-- the name that covers a is a's own place, where a is there
own-place : (xs : List Name) (a : Name) (i j : ℕ) → AreApart xs → CoversAt xs a i → slice_get xs j ≡ Some a → i ≡ j
own-place xs a i j p c e = go (nat_lt i j) (nat_lt j i) refl refl
  where
    sized : a.min ≤ a.max
    sized = Each-at (λ (b : Name). b.min ≤ b.max) xs a p.sized (get-has xs j a e)

    go : (b t : Bool) → nat_lt i j ≡ b → nat_lt j i ≡ t → i ≡ j
    go false false q r = grind (arith, nat_tests)
    go true t q r =
        let l : i < j = grind (arith, nat_tests) in
        absurd (not-both c.name a (Pairwise-at Before xs i j c.name a p.apart c.stands e l) (cover-overlap c.name a c.covers sized))
    go false true q r =
        let l : j < i = grind (arith, nat_tests) in
        absurd (not-both a c.name (Pairwise-at Before xs j i a c.name p.apart e c.stands l) (Overlap-sym c.name a (cover-overlap c.name a c.covers sized)))

pub neighbours-stand : (log : List Entry) (a : Name) (rest : List Name) (at : ℕ) → AreApart (live log) → CoversAt (live log) a at → AreNeighbours log (a ∷ rest) → take (length (a ∷ rest)) (drop at (live log)) ≡ a ∷ rest
neighbours-stand log a rest at p c n =
    let here : slice_get (live log) (length n.left) ≡ Some a = subst (λ (l : List Name). slice_get l (length n.left) ≡ Some a) n.among (get-seam n.left a (rest ++ n.right)) in
    let same : at ≡ length n.left = own-place (live log) a at (length n.left) p c here in
    ap (λ i. take (length (a ∷ rest)) (drop i (live log))) same
    ∙ (ap (λ (l : List Name). take (length (a ∷ rest)) (drop (length n.left) l)) (sym n.among)
    ∙ (ap (take (length (a ∷ rest))) (drop-append_seam n.left ((a ∷ rest) ++ n.right)) ∙ take-append_seam (a ∷ rest) n.right))

pub neighbours-first : (log : List Entry) (a : Name) (rest : List Name) → AreNeighbours log (a ∷ rest) → Has (live log) a
neighbours-first log a rest n = get-has (live log) (length n.left) a (subst (λ (l : List Name). slice_get l (length n.left) ≡ Some a) n.among (get-seam n.left a (rest ++ n.right)))

-- ---- what the search answers

no-first : (names : List Name) → slice_get names 0 ≡ None → names ≡ []
no-first [] e = refl
no-first (a ∷ names) e = absurd (cc)

pub answer-empty : (log : List Entry) (names : List Name) → slice_get names 0 ≡ None → AreNeighbours log names
answer-empty log names e = subst (AreNeighbours log) (sym (no-first names e)) (none-neighbours log)

pub answer-absent : (log : List Entry) (held names : List Name) (a : Name) → held ≡ live log → slice_get names 0 ≡ Some a → ((x : Name) → Has held x → Covers x a → ⊥) → AreNeighbours log names → ⊥
answer-absent log held [] a h e f n = absurd (cc)
answer-absent log held (b ∷ names) a h e f n =
    f b (subst (λ (xs : List Name). Has xs b) (sym h) (neighbours-first log b names n)) (subst (Covers b) (some-same b a e) (Covers-refl b))

pub answer-within : (held shown : List Name) (a : Name) (at : ℕ) → shown ≡ held → CoversAt held a at → at ≤ length shown
answer-within held shown a at s c = let l = slice_get_within held at c.name c.stands in let n = ap length s in omega (arith, l, n)

pub answer-stand : (log : List Entry) (held shown names : List Name) (a : Name) (at : ℕ) → held ≡ live log → AreApart held → shown ≡ held → slice_get names 0 ≡ Some a → CoversAt held a at → AreNeighbours log names → take (length names) (drop at shown) ≡ names
answer-stand log held shown [] a at h p s e c n = absurd (cc)
answer-stand log held shown (b ∷ names) a at h p s e c n =
    ap (λ (xs : List Name). take (length (b ∷ names)) (drop at xs)) (s ∙ h)
    ∙ neighbours-stand log b names at (subst AreApart h p) (subst (λ (x : Name). CoversAt (live log) x at) (sym (some-same b a e)) (subst (λ (xs : List Name). CoversAt xs a at) h c)) n

pub answer-side : (log : List Entry) (held shown names : List Name) (at : ℕ) → held ≡ live log → shown ≡ held → take (length names) (drop at shown) ≡ names → AreNeighbours log names
answer-side log held shown names at h s e = stand-neighbours log names at (ap (λ (xs : List Name). take (length names) (drop at xs)) (sym (s ∙ h)) ∙ e)
