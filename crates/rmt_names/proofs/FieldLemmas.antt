-- Fields: pieces of text in which no underscore stands, and what a split at an underscore makes of them.
use Rattle.std.proofs.Common.{◌≡◌, ◌≢◌, ℕ, suc, ◌<◌, ◌^◌, List, [], ◌∷◌, ◌++◌, length, get_or, Bor, Some, None, length-append, sym, ◌∙◌, arith}
use Rattle.std.specs.Fmt.{decimal}
use Rattle.std.proofs.Math.Seq.{get_or-append_seam}
use Rattle.std.proofs.lemmas.Str.Pattern.{IsSplitOnceResult, split_after, split_parts}
use Rattle.rmt_names.proofs.DecimalLemmas.{decimal_lacks}

-- no underscore is in it
pub record IsField (xs : List ℕ) : Type 0 where
  pub lacks : (i : ℕ) → i < length xs → get_or xs i 0 ≢ 95

-- a decimal is a field
pub IsField-decimal : (n : ℕ) → n < 2 ^ 64 → IsField (decimal n)
IsField-decimal n small = record { lacks = decimal_lacks 95 n (λ within. omega arith) small }

-- what is after the first byte of a field is one
IsField-tail : (x : ℕ) (xs : List ℕ) → IsField (x ∷ xs) → IsField xs
IsField-tail x xs field = record { lacks = λ i inside. field.lacks (suc i) (omega arith) }

-- no text with an underscore is a field
pub field_unjoined : (xs ys zs : List ℕ) → IsField xs → xs ≡ ys ++ (95 ∷ zs) → ⊥
field_unjoined xs ys zs field is =
    field.lacks (length ys) (rw is (simp length-append (omega arith))) (rw is (get_or-append_seam ys 95 zs 0))

-- two texts that are the same have the same first field, and the same after its underscore
pub same_fields :
    (xs ys us vs : List ℕ) → IsField xs → IsField ys → xs ++ (95 ∷ us) ≡ ys ++ (95 ∷ vs) → (xs ≡ ys) × (us ≡ vs)
same_fields [] [] us vs left right is = (cc, cc)
same_fields [] (y ∷ ys) us vs left right is = absurd (right.lacks 0 (omega arith) (cc))
same_fields (x ∷ xs) [] us vs left right is = absurd (left.lacks 0 (omega arith) (cc))
same_fields (x ∷ xs) (y ∷ ys) us vs left right is =
    let (xs_is, us_is) = same_fields xs ys us vs (IsField-tail x xs left) (IsField-tail y ys right) (cc) in
    (cc, us_is)

-- a split at an underscore gives what is on both sides of the first
pub cut :
    (bs xs ys : List ℕ) (prefix back : Bor (List ℕ)) → IsSplitOnceResult 95 bs (Some (prefix, back))
    → bs ≡ xs ++ (95 ∷ ys) → IsField xs → (prefix.now ≡ xs) × (back.now ≡ ys)
cut bs xs ys prefix back split is field = split_after 95 bs xs ys (Some (prefix, back)) split (omega arith) is field.lacks

-- and there is one
pub uncut : (bs xs ys : List ℕ) → IsSplitOnceResult 95 bs None → bs ≡ xs ++ (95 ∷ ys) → IsField xs → ⊥
uncut bs xs ys split is field = split_after 95 bs xs ys None split (omega arith) is field.lacks

-- a field alone is not split
pub cut_none :
    (bs xs : List ℕ) (prefix back : Bor (List ℕ)) → IsSplitOnceResult 95 bs (Some (prefix, back)) → bs ≡ xs
    → IsField xs → ⊥
cut_none bs xs prefix back split is field =
    let (parts, _) = split_parts 95 bs (Some (prefix, back)) split (omega arith) in
    field_unjoined xs prefix.now back.now field (sym is ∙ parts)
