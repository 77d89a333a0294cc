-- Counts of parts, one part after the other.
use Rattle.std.proofs.Common.{◌≡◌, ℕ, zero, suc, ◌+◌, ◌<◌, List, [], ◌∷◌, ◌++◌, length, take, get_or, ap, subst, arith}
use Rattle.std.specs.declared.option.Option.{Option}
use Rattle.rmt_values.specs.declared.checked.Checked.{Checked}
use Rattle.rmt_names.specs.Names.{Name}
use Rattle.rmt_partset.specs.Snapshots.{NamedData, names_in, data_in}
use Rattle.rmt_query.specs.Explained.{IsCounted, AreExplained}

-- the first i parts are explained
abbrev pub FirstExplained : Option Checked → List NamedData → ℕ → List (Name × ℕ × ℕ) → Type 0
FirstExplained c all i ns = AreExplained c (names_in (take i all)) (data_in (take i all)) ns

more : (c : Option Checked) (all : List NamedData) (i : ℕ) (p : NamedData) (ns : List (Name × ℕ × ℕ)) (n : ℕ × ℕ) → i < length all → p ≡ get_or all i p
    → FirstExplained c all i ns → IsCounted c p.rows n → FirstExplained c all (suc i) (ns ++ (p.name, n.0, n.1) ∷ [])
more c [] i p ns n h e a k = absurd (omega (arith, h))
more c (q ∷ qs) zero p [] n h e a k = (ap (λ (r : NamedData). r.name) e, subst (λ (r : NamedData). IsCounted c r.rows n) e k, tt)
more c (q ∷ qs) zero p (m ∷ ms) n h e a k = absurd a
more c (q ∷ qs) (suc i) p [] n h e a k = absurd a
more c (q ∷ qs) (suc i) p (m ∷ ms) n h e a k = (a.0, a.1, more c qs i p ms n (omega (arith, h)) e a.2 k)

-- one part more is explained
pub explained-more : (c : Option Checked) (all : List NamedData) (i : ℕ) (p : NamedData) (ns : List (Name × ℕ × ℕ)) (n : ℕ × ℕ) → i < length all → p ≡ get_or all i p
    → FirstExplained c all i ns → IsCounted c p.rows n → FirstExplained c all (i + 1) (ns ++ (p.name, n.0, n.1) ∷ [])
explained-more c all i p ns n h e a k =
    let s : suc i ≡ i + 1 = omega arith in subst (λ (j : ℕ). FirstExplained c all j (ns ++ (p.name, n.0, n.1) ∷ [])) s (more c all i p ns n h e a k)
