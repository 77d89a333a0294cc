-- Rows that fit have one value per column.
use Rattle.std.proofs.Common.{◌≡◌, Bool, true, false, List, [], ◌∷◌, length, refl, sym, arith}
use Rattle.std.proofs.lemmas.Bool.{and_parts}
use Rattle.rmt_values.specs.declared.value.Value.{Value}
use Rattle.rmt_values.specs.declared.column.Column.{Column}
use Rattle.rmt_values.specs.Rows.{fits, is_of}

pub length-fits : (ks : List Column) (vs : List Value) → fits ks vs ≡ true → length vs ≡ length ks
length-fits [] [] h = refl
length-fits [] (v ∷ vs) h = absurd (cc)
length-fits (k ∷ ks) [] h = absurd (cc)
length-fits (k ∷ ks) (v ∷ vs) h =
    let rest = length-fits ks vs (and_parts (is_of k.kind v) (fits ks vs) h).1 in omega (arith, rest)

pub unfit-length : (ks : List Column) (vs : List Value) (b : Bool) → b ≡ fits ks vs → (length vs ≡ length ks → ⊥) → false ≡ b
unfit-length ks vs true e h = absurd (h (length-fits ks vs (sym e)))
unfit-length ks vs false e h = refl
