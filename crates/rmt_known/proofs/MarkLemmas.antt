-- Marks of places: what more room and more marks change.
use Rattle.std.proofs.Common.{◌≡◌, ℕ, ◌≤◌, ◌⊎◌, inl, inr, ◌&&◌, ◌||◌, Bool, true, false, List, [], ◌∷◌, length, refl, ap, arith, ◌∙◌, nat_lt, nat_le}
use Rattle.std.proofs.lemmas.Bool.Decides.{nat_tests}
use Rattle.std.specs.Option.{option_and_then}
use Rattle.std.specs.declared.option.Option.{Option}
use Rattle.std.specs.declared.option.Option.TheVariants.{None}
use Rattle.rmt_names.specs.Names.{Name}
use Rattle.rmt_entries.specs.declared.entry.Entry.{Entry}
use Rattle.rmt_entries.specs.Entries.{result_name}
use Rattle.rmt_model.specs.Lawful.{entry_at}
use Rattle.rmt_queue.specs.Marks.{done_at}
use Rattle.rmt_statement_model.specs.TableStates.{covered_by, is_shown}
use Rattle.rmt_known.specs.KnownTables.{GainsMarks}

-- ---- the marks from one place up to another

end-step : (from i to j : ℕ) (b : Bool) → to ≤ i → (i ≡ from) ⊎ (i ≤ to) → ((nat_le from j && nat_lt j i) || b) ≡ ((nat_le from j && nat_lt j to) || b)
end-step from i to j b l (inl e) = grind (arith, nat_tests)
end-step from i to j b l (inr m) = let e : i ≡ to = omega (arith, l, m) in ap (λ n. (nat_le from j && nat_lt j n) || b) e

pub end-between : (xs ys : List Bool) (from i to : ℕ) → to ≤ i → (i ≡ from) ⊎ (i ≤ to) → GainsMarks xs (λ j. nat_le from j && nat_lt j i) ys → GainsMarks xs (λ j. nat_le from j && nat_lt j to) ys
end-between xs ys from i to l w g j = g j ∙ end-step from i to j (done_at xs j) l w

-- ---- the marks of what is shown

-- the test of a loop that has come up to a place
abbrev pub shown_between : List Entry → List Name → ℕ → ℕ → ℕ → Bool
shown_between log names from to j = nat_le from j && nat_lt j to && is_shown log names j

past-log : (log : List Entry) (i : ℕ) → length log ≤ i → entry_at log i ≡ None
past-log [] i l = refl
past-log (e ∷ log) i l = grind (arith, nat_tests, past-log log i (omega (arith, l)))

pub past-shown : (log : List Entry) (names : List Name) (i : ℕ) → length log ≤ i → is_shown log names i ≡ false
past-shown log names i l = ap (λ (e : Option Entry). covered_by names (option_and_then result_name e)) (past-log log i l)

end-shown : (from to len j : ℕ) (s b : Bool) → len ≤ to → (len ≤ j → s ≡ false) → ((nat_le from j && nat_lt j to && s) || b) ≡ ((nat_le from j && s) || b)
end-shown from to len j true b l f = grind (arith, nat_tests, f)
end-shown from to len j false b l f = grind (arith, nat_tests)

pub all-shown : (log : List Entry) (names : List Name) (xs ys : List Bool) (from to : ℕ) → length log ≤ to → GainsMarks xs (shown_between log names from to) ys → GainsMarks xs (λ j. nat_le from j && is_shown log names j) ys
all-shown log names xs ys from to l g j = g j ∙ end-shown from to (length log) j (is_shown log names j) (done_at xs j) l (past-shown log names j)
