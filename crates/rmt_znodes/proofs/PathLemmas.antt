-- The texts of ids, partitions and numbers are names, and the paths of one name.
use Rattle.std.proofs.Common.{◌≡◌, ℕ, ◌<◌, ◌^◌, Bool, true, false, Option, Some, None, List, [], ◌∷◌, ◌++◌, length, get_or, codes, nat_eq, inl, inr, refl, sym, ap, subst, arith, ◌∙◌, suc, ◌||◌, IfOk, length-append, Result, Ok, Err}
use Rattle.std.proofs.lemmas.Bool.{cases_lt}
use Rattle.std.proofs.lemmas.Bool.Decides.{nat_tests}
use Rattle.std.proofs.lemmas.List.{get_or_past}
use Rattle.std.proofs.lemmas.Fmt.{decimal_nonempty}
use Rattle.std.specs.Fmt.{decimal}
use Rattle.std.specs.List.{All, AllPass, list_any}
use Rattle.std.specs.declared.alloc.AllocError.{AllocError}
use Rattle.hex.specs.Hex.{IsBytes, is_hex_digit, encode_lower}
use Rattle.hex.proofs.HexLemmas.{decode_of-encode_lower, decode_of-ok}
use Rattle.rmt_names.specs.Texts.{partition_text}
use Rattle.rmt_names.proofs.DecimalLemmas.{decimal_lacks}
use Rattle.rmt_block.specs.Blocks.{IsId}
use Rattle.rmt_paths.specs.Paths.{Names, IsName, IsPath, path_text}
use Rattle.rmt_paths.proofs.NameLemmas.{any-append}
use Rattle.rmt_znodes.specs.declared.znode.Znode.{Znode}
use Rattle.rmt_znodes.specs.Znodes.{id_text, znode_path, IsPartition}

-- bytes of which each is another than a slash
no-slash : (xs : List ℕ) → ((i : ℕ) → i < length xs → get_or xs i 0 ≡ 47 → ⊥) → list_any (nat_eq 47) xs ≡ false
no-slash [] h = refl
no-slash (x ∷ xs) h = go (nat_eq 47 x) refl (no-slash xs (λ i inside. h (suc i) (omega arith)))
  where
    go : (b : Bool) → nat_eq 47 x ≡ b → list_any (nat_eq 47) xs ≡ false → (b || list_any (nat_eq 47) xs) ≡ false
    go true e f = absurd (h 0 (omega arith) (grind (arith, nat_tests)))
    go false e f = f

-- a decimal is a name
pub IsName-decimal : (n : ℕ) → n < 2 ^ 64 → IsName (decimal n)
IsName-decimal n small = record { some = decimal_nonempty n small; whole = no-slash (decimal n) (decimal_lacks 47 n (λ within. omega arith) small) }

-- so is the text of a partition
pub IsName-partition : (p : Option ℕ) → IsPartition p → IsName (partition_text p)
IsName-partition None small = record { some = omega arith; whole = refl }
IsName-partition (Some n) small = IsName-decimal n small

-- no digit is a slash
whole-digits : (xs : List ℕ) → AllPass is_hex_digit xs → list_any (nat_eq 47) xs ≡ false
whole-digits xs h = no-slash xs (λ i inside e. other (get_or xs i 0) e (h i 0 inside))
  where
    other : (c : ℕ) → c ≡ 47 → is_hex_digit c ≡ true → ⊥
    other c e t = let w : is_hex_digit 47 ≡ true = subst (λ (k : ℕ). is_hex_digit k ≡ true) e t in absurd (let v : false ≡ true = w in cc)

-- bytes that are in range are bytes
IsBytes-in_range : (xs : List ℕ) → All (λ b. b < 2 ^ 8) xs → IsBytes xs
IsBytes-in_range xs h k =
    elim (cases_lt k (length xs)) [
      | inl inside ↦ h k 0 inside
      | inr past ↦ omega (arith, get_or_past xs k 0 past)
    ]

-- two texts with an underscore between them
whole-joined : (xs ys : List ℕ) → list_any (nat_eq 47) xs ≡ false → list_any (nat_eq 47) ys ≡ false → list_any (nat_eq 47) (xs ++ codes "_" ++ ys) ≡ false
whole-joined xs ys f g =
    any-append (nat_eq 47) (xs ++ codes "_") ys ∙ ap (λ (b : Bool). b || list_any (nat_eq 47) ys) (any-append (nat_eq 47) xs (codes "_") ∙ ap (λ (b : Bool). b || false) f) ∙ g

-- and the text of an id
pub IsName-id : (p : Option ℕ) (digest : List ℕ) → IsId (record { partition = p; digest = digest }) → IsName (id_text p digest)
IsName-id p digest is = let small : IsPartition p = is.partition in let bytes : IsBytes digest = IsBytes-in_range digest is.bytes in record {
  some = let w = IsName.some (IsName-partition p small) in let l = length-append (partition_text p ++ codes "_") (encode_lower digest) in let k = length-append (partition_text p) (codes "_") in omega (arith, w, l, k);
  whole = whole-joined (partition_text p) (encode_lower digest) (IsName.whole (IsName-partition p small)) (whole-digits (encode_lower digest) (decode_of-ok (encode_lower digest) digest (decode_of-encode_lower digest bytes)).1);
}

-- a path of one name, by its text
pub IsPath-top : (name : List ℕ) → IsName name → IsPath (name ∷ [])
IsPath-top name is = record { below = λ e. absurd (let l = ap length e in omega (arith, l)); names = (is, tt) }

-- that of a znode right below the root
pub top-znode : (r : Result Names AllocError) (name : List ℕ) (x y : Znode) → y ≡ x → znode_path x ≡ name ∷ [] → IsName name
    → IfOk r (λ path. (n : List ℕ) → IsName n → path_text (name ∷ []) ≡ path_text (n ∷ []) → path ≡ n ∷ [])
    → IfOk r (λ path. path ≡ znode_path y)
top-znode (Ok path) name x y same is named h = h name named refl ∙ sym is ∙ ap znode_path (sym same)
top-znode (Err e) name x y same is named h = tt
