-- Each node has a path of its own: the path tells what the node stands for.
use Rattle.std.proofs.Common.{◌≡◌, ◌++◌, inl, inr, ℕ, zero, suc, ◌+◌, ◌-◌, ◌*◌, ◌/◌, ◌%◌, ◌^◌, ◌<◌, Bool, true, false, cond, List, [], ◌∷◌, length, take, drop, get_or, slice_index, nat_eq, refl, sym, ap, arith, ◌∙◌, length-append}
use Rattle.std.proofs.lemmas.Bool.{cases_lt}
use Rattle.std.proofs.lemmas.Bool.Decides.{nat_tests}
use Rattle.std.proofs.Math.Nat.{pow-succ'}
use Rattle.std.proofs.lemmas.Int.Digits.{digits_value_push}
use Rattle.std.proofs.lemmas.List.{append_assoc, get_or_past, take_at, drop_at}
use Rattle.std.proofs.lemmas.Str.{digit_value_digit}
use Rattle.std.proofs.lemmas.Fmt.{decimal_is_IsNumeral, decimal_nonempty}
use Rattle.std.specs.Fmt.{decimal}
use Rattle.std.specs.Char.{digit_value}
use Rattle.std.specs.Str.Parse.{digits_value}
use Rattle.std.specs.declared.option.Option.{Option}
use Rattle.std.specs.declared.option.Option.TheVariants.{Some, None}
use Rattle.std.specs.List.{All}
use Rattle.std.specs.declared.result.Result.{Result}
use Rattle.std.specs.declared.result.Result.TheVariants.{Ok, Err}
use Rattle.hex.specs.Hex.{IsBytes, decode_of, encode_lower, lower_digits}
use Rattle.hex.specs.declared.error.FromHexError.{FromHexError}
use Rattle.hex.proofs.HexLemmas.{decode_of-encode_lower, length-encode_with}
use Rattle.rmt_names.specs.Texts.{partition_text}
use Rattle.rmt_names.proofs.DecimalLemmas.{decimal_lacks}
use Rattle.rmt_paths.specs.Paths.{Names, digits}
use Rattle.rmt_znodes.specs.declared.znode.Znode.{Znode}
use Rattle.rmt_znodes.specs.declared.znode.Znode.TheVariants.{Log, LogEntry, Blocks, Block, Order, OrderOf, Numbers, Partition, Lock, Mutations, MutationNode, Quorum, Status, LastPart, Replicas, Replica, LogPointer, IsActive}
use Rattle.rmt_znodes.specs.Znodes.{id_text, znode_path, IsPartition, IsZnode}

-- ---- texts

-- ten digits tell their number
pub digits-value : (w n : ℕ) → n < 10 ^ w → digits_value 10 (digits w n) ≡ n
digits-value zero n h = omega arith
digits-value (suc w) n h =
    let d : digit_value (48 + n % 10) + 48 ≡ 48 + n % 10 = digit_value_digit (48 + n % 10) (omega arith) in
    digits_value_push 10 (digits w (n / 10)) (48 + n % 10) ∙ (let q = pow-succ' 10 w in let l : n / 10 < 10 ^ w = omega (arith, q, h) in let r = digits-value w (n / 10) l in omega (arith, r, d))

-- the bytes of a hexadecimal text
abbrev bytes_or_none : Result (List ℕ) FromHexError → List ℕ
bytes_or_none (Ok bytes) = bytes
bytes_or_none (Err e) = []

IsBytes-in_range : (xs : List ℕ) → All (λ b. b < 2 ^ 8) xs → IsBytes xs
IsBytes-in_range xs h k =
    elim (cases_lt k (length xs)) [
      | inl inside ↦ h k 0 inside
      | inr past ↦ omega (arith, get_or_past xs k 0 past)
    ]

-- bytes from their digits
digest-at : (digest : List ℕ) → All (λ b. b < 2 ^ 8) digest → bytes_or_none (decode_of (encode_lower digest)) ≡ digest
digest-at digest h = ap bytes_or_none (decode_of-encode_lower digest (IsBytes-in_range digest h))

-- an id's text in its two parts
id-parts : (p : Option ℕ) (digest : List ℕ) → id_text p digest ≡ partition_text p ++ (95 ∷ encode_lower digest)
id-parts p digest = append_assoc (partition_text p) (95 ∷ []) (encode_lower digest)

-- the partition that a text is of
partition_of : List ℕ → Option ℕ
partition_of s = cond (nat_eq (slice_index s 0) 97) None (Some (digits_value 10 s))

partition-of : (p : Option ℕ) → IsPartition p → partition_of (partition_text p) ≡ p
unfolding partition_of
partition-of None h = refl
partition-of (Some n) h = go (nat_eq (slice_index (decimal n) 0) 97) refl
  where
    go : (b : Bool) → nat_eq (slice_index (decimal n) 0) 97 ≡ b → cond b None (Some (digits_value 10 (decimal n))) ≡ Some n
    go true e =
        let q : get_or (decimal n) 0 0 ≡ 97 = grind (arith, nat_tests) in
        absurd (decimal_lacks 97 n (λ within. omega arith) h 0 (decimal_nonempty n h) q)
    go false e = ap Some (decimal_is_IsNumeral n h).1

-- how many digits an id's text has behind its partition
id-length : (p : Option ℕ) (digest : List ℕ) → length digest ≡ 32 → length (partition_text p) ≡ length (id_text p digest) - 65
id-length p digest n =
    let a = length-append (partition_text p) (95 ∷ encode_lower digest) in
    let b = length-encode_with lower_digits digest in
    let c = ap length (id-parts p digest) in
    omega (arith, a, b, c, n)

-- what stands in an id's text
id-partition : (p : Option ℕ) (digest : List ℕ) → length digest ≡ 32 → take (length (id_text p digest) - 65) (id_text p digest) ≡ partition_text p
id-partition p digest n =
    ap (take (length (id_text p digest) - 65)) (id-parts p digest) ∙ take_at (partition_text p) (95 ∷ encode_lower digest) (length (id_text p digest) - 65) (id-length p digest n)

id-digest : (p : Option ℕ) (digest : List ℕ) → length digest ≡ 32 → drop (length (id_text p digest) - 65) (id_text p digest) ≡ 95 ∷ encode_lower digest
id-digest p digest n =
    ap (drop (length (id_text p digest) - 65)) (id-parts p digest) ∙ drop_at (partition_text p) (95 ∷ encode_lower digest) (length (id_text p digest) - 65) (id-length p digest n)

-- ---- paths

-- the first names are told apart by their lengths and their first bytes
abbrev head_of : List ℕ → ℕ
head_of h = length h * 256 + slice_index h 0

-- what stands at a path of one, two, or three names
first_znode : ℕ → Znode
first_znode g =
    cond (nat_eq g 876) Log (cond (nat_eq g 1634) Blocks (cond (nat_eq g 3170) Order (cond (nat_eq g 3426) Numbers (cond (nat_eq g 2413) Mutations (cond (nat_eq g 1649) Quorum Replicas)))))

second_znode : ℕ → List ℕ → Znode
second_znode g s =
    cond (nat_eq g 876) (LogEntry (digits_value 10 (drop 4 s)))
    (cond (nat_eq g 1634) (Block (partition_of (take (length s - 65) s)) (bytes_or_none (decode_of (drop 1 (drop (length s - 65) s)))))
    (cond (nat_eq g 3170) (OrderOf (digits_value 10 (drop 3 s)))
    (cond (nat_eq g 3426) (Partition (partition_of s))
    (cond (nat_eq g 2413) (MutationNode (digits_value 10 s))
    (cond (nat_eq g 1649) (cond (nat_eq (length s) 6) Status LastPart)
    (Replica (digits_value 10 s)))))))

third_znode : ℕ → List ℕ → List ℕ → Znode
third_znode g s t =
    cond (nat_eq g 3426) (Lock (partition_of s) (digits_value 10 (drop 6 t)))
    (cond (nat_eq (length t) 11) (LogPointer (digits_value 10 s)) (IsActive (digits_value 10 s)))

znode_at : Names → Znode
znode_at [] = Log
znode_at (h ∷ []) = first_znode (head_of h)
znode_at (h ∷ s ∷ []) = second_znode (head_of h) s
znode_at (h ∷ s ∷ t ∷ rest) = third_znode (head_of h) s t

ten : (n : ℕ) → n < 2 ^ 32 → digits_value 10 (digits 10 n) ≡ n
ten n h = digits-value 10 n (omega arith)

replica : (r : ℕ) → r < 2 ^ 32 → digits_value 10 (decimal r) ≡ r
replica r h = (decimal_is_IsNumeral r (omega arith)).1

znode-at : (x : Znode) → IsZnode x → znode_at (znode_path x) ≡ x
unfolding znode_at first_znode second_znode third_znode
znode-at Log h = refl
znode-at (LogEntry i) h = ap LogEntry (ten i h)
znode-at Blocks h = refl
znode-at (Block p digest) h =
    let a : partition_of (take (length (id_text p digest) - 65) (id_text p digest)) ≡ p = ap partition_of (id-partition p digest h.size) ∙ partition-of p h.partition in
    let b : bytes_or_none (decode_of (drop 1 (drop (length (id_text p digest) - 65) (id_text p digest)))) ≡ digest = ap (λ (s : List ℕ). bytes_or_none (decode_of (drop 1 s))) (id-digest p digest h.size) ∙ digest-at digest h.bytes in
    cc
znode-at Order h = refl
znode-at (OrderOf k) h = ap OrderOf (ten k h)
znode-at Numbers h = refl
znode-at (Partition p) h = ap Partition (partition-of p h)
znode-at (Lock p n) h = let a = partition-of p h.0 in let b = ten n h.1 in cc
znode-at Mutations h = refl
znode-at (MutationNode k) h = ap MutationNode (ten k h)
znode-at Quorum h = refl
znode-at Status h = refl
znode-at LastPart h = refl
znode-at Replicas h = refl
znode-at (Replica r) h = ap Replica (replica r h)
znode-at (LogPointer r) h = ap LogPointer (replica r h)
znode-at (IsActive r) h = ap IsActive (replica r h)

-- nodes of one path are one
pub znode_path-injective : (x y : Znode) → IsZnode x → IsZnode y → znode_path x ≡ znode_path y → x ≡ y
znode_path-injective x y h k e = sym (znode-at x h) ∙ ap znode_at e ∙ znode-at y k
