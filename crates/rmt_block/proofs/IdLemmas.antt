-- The text of an id tells the id.
use Rattle.std.proofs.Common.{◌≡◌, ℕ, ◌<◌, ◌^◌, Option, List, [], ◌∷◌, length, ◌++◌, IfSome, inl, inr, refl, sym, ap, ◌∙◌, arith}
use Rattle.std.proofs.lemmas.Bool.{cases_lt}
use Rattle.std.proofs.lemmas.List.{append_assoc, get_or_past}
use Rattle.std.specs.List.{All}
use Rattle.hex.specs.Hex.{IsBytes, decode_of, encode_lower}
use Rattle.hex.proofs.HexLemmas.{decode_of-encode_lower}
use Rattle.rmt_names.specs.Names.{Name, IsName, block_name}
use Rattle.rmt_names.specs.Texts.{partition_text, text_of}
use Rattle.rmt_names.proofs.FieldLemmas.{same_fields}
use Rattle.rmt_names.proofs.TextLemmas.{IsField-partition, one_name}
use Rattle.rmt_block.specs.declared.block_id.BlockId.{BlockId}
use Rattle.rmt_block.specs.Blocks.{IsId, id_text_of}

-- bytes that are in range are bytes
IsBytes-in_range : (xs : List ℕ) → All (λ b. b < 2 ^ 8) xs → IsBytes xs
IsBytes-in_range xs h k =
    elim (cases_lt k (length xs)) [
      | inl inside ↦ h k 0 inside
      | inr past ↦ omega (arith, get_or_past xs k 0 past)
    ]

-- bytes that have one text are the same
encode_lower-inj : (xs ys : List ℕ) → IsBytes xs → IsBytes ys → encode_lower xs ≡ encode_lower ys → xs ≡ ys
encode_lower-inj xs ys g h e =
    let both = sym (decode_of-encode_lower xs g) ∙ ap decode_of e ∙ decode_of-encode_lower ys h in
    cc

-- the name of a partition's first block is one
IsName-first : (p : Option ℕ) → IfSome p (λ n. n < 2 ^ 64) → IsName (block_name p 0)
IsName-first p small = record { ordered = omega arith; partition = small; max = omega arith; level = omega arith; mutation = omega arith }

-- partitions that have one text are the same
partition_text-inj : (p q : Option ℕ) → IfSome p (λ n. n < 2 ^ 64) → IfSome q (λ n. n < 2 ^ 64) →
    partition_text p ≡ partition_text q → p ≡ q
partition_text-inj p q g h e =
    let texts : text_of (block_name p 0) ≡ text_of (block_name q 0) = rw e refl in
    ap (λ (n : Name). n.partition) (one_name (block_name p 0) (block_name q 0) (IsName-first p g) (IsName-first q h) texts)

-- the text in its two parts
id_text_of-parts : (i : BlockId) → id_text_of i ≡ partition_text i.partition ++ (95 ∷ encode_lower i.digest)
id_text_of-parts i = append_assoc (partition_text i.partition) (95 ∷ []) (encode_lower i.digest)

-- ids that have one text are the same
pub id_text_of-inj : (i j : BlockId) → IsId i → IsId j → id_text_of i ≡ id_text_of j → i ≡ j
id_text_of-inj i j p q e =
    let both = same_fields (partition_text i.partition) (partition_text j.partition) (encode_lower i.digest) (encode_lower j.digest)
    (IsField-partition i.partition p.partition) (IsField-partition j.partition q.partition) (sym (id_text_of-parts i) ∙ e ∙ id_text_of-parts j) in
    let partitions = partition_text-inj i.partition j.partition p.partition q.partition both.0 in
    let digests = encode_lower-inj i.digest j.digest (IsBytes-in_range i.digest p.bytes) (IsBytes-in_range j.digest q.bytes) both.1 in
    let of : Option ℕ → List ℕ → BlockId = λ r d. record { partition = r; digest = d } in
    let ids : of i.partition i.digest ≡ of j.partition j.digest = rw (partitions, digests) refl in
    ids
