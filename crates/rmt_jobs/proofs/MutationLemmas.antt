-- The place of the mutation that a worker finds, in a copy of the log.
use Rattle.std.proofs.Common.{◌≡◌, ℕ, ◌<◌, ◌&&◌, Bool, true, false, cond, List, [], ◌∷◌, length, refl, ap, arith, nat_lt}
use Rattle.std.proofs.lemmas.Bool.Decides.{nat_tests}
use Rattle.std.specs.declared.option.Option.{Option}
use Rattle.std.specs.declared.option.Option.TheVariants.{Some, None}
use Rattle.rmt_names.specs.Names.{Name}
use Rattle.rmt_entries.specs.declared.entry.Entry.{Entry}
use Rattle.rmt_model.specs.Choices.{is_pending, last_pending, or_next, next_among}
use Rattle.rmt_model.proofs.Drops.{some-same}

last-below : (log : List Entry) (a : Name) (upto i : ℕ) → last_pending log a upto ≡ Some i → i < upto
last-below [] a upto i e = absurd (cc)
last-below (x ∷ log) a upto i e = go (nat_lt (length log) upto) refl (is_pending a x) e (last-below log a upto i)
  where
    go : (t : Bool) → nat_lt (length log) upto ≡ t → (u : Bool)
        → cond (t && u) (Some (length log)) (last_pending log a upto) ≡ Some i → (last_pending log a upto ≡ Some i → i < upto)
        → i < upto
    go true h true w f = let s = some-same (length log) i w in grind (arith, nat_tests)
    go true h false w f = f w
    go false h u w f = f w

-- it is below the one that the search ends at
pub next-below : (log : List Entry) (upto : ℕ) (names : List Name) (m : Name × ℕ) → next_among log upto names ≡ Some m
    → m.1 < upto
next-below log upto [] m e = absurd (cc)
next-below log upto (a ∷ names) m e = go (last_pending log a upto) refl e (next-below log upto names m)
  where
    go : (o : Option ℕ) → last_pending log a upto ≡ o → or_next a o (next_among log upto names) ≡ Some m
        → (next_among log upto names ≡ Some m → m.1 < upto) → m.1 < upto
    go None q w f = f w
    go (Some i) q w f =
        let s = ap (λ (z : Name × ℕ). z.1) (some-same (a, i) m w) in
        let l = last-below log a upto i q in
        omega (arith, s, l)
