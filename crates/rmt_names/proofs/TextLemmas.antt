-- The text of a name: its fields one after the other, and that it has one name.
use Rattle.std.proofs.Common.{◌≡◌, ◌≢◌, ℕ, zero, suc, ◌<◌, ◌^◌, true, List, [], ◌∷◌, ◌++◌, get_or, codes, Bor, Option, Some, None, IfSome, append_assoc, append-nil, sym, ◌∙◌, ap, refl, arith}
use Rattle.std.specs.Fmt.{decimal}
use Rattle.std.specs.Str.{bytes_eq}
use Rattle.std.proofs.Math.Dec.{eqb-suc-zero}
use Rattle.std.proofs.lemmas.Fmt.{decimal_injective, decimal_nonempty}
use Rattle.std.proofs.lemmas.Option.{same_Some}
use Rattle.std.proofs.lemmas.Slice.Eq.{bytes_eq-Decides}
use Rattle.std.proofs.lemmas.Str.Pattern.{IsSplitOnceResult}
use Rattle.rmt_names.specs.Names.{Name, IsName}
use Rattle.rmt_names.specs.Texts.{partition_text, mutation_text, text_of}
use Rattle.rmt_names.proofs.DecimalLemmas.{decimal_lacks}
use Rattle.rmt_names.proofs.FieldLemmas.{IsField, IsField-decimal, cut, uncut, cut_none, same_fields, field_unjoined}

-- only the partition of an unpartitioned table is written `all`
pub partition_all :
    (bs : List ℕ) → bytes_eq bs (codes "all") ≡ true → (p : Option ℕ) → IfSome p (λ n. n < 2 ^ 64)
    → partition_text p ≡ bs → Some None ≡ Some p
partition_all bs test None small is = refl
partition_all bs test (Some n) small is =
    let text_is : decimal n ≡ codes "all" = is ∙ (bytes_eq-Decides bs (codes "all")).0 test in
    let letter : get_or (decimal n) 0 0 ≡ 97 = ap (λ t. get_or t 0 0) text_is in
    absurd (decimal_lacks 97 n (λ within. omega arith) small 0 (decimal_nonempty n small) letter)

-- two partitions with one text are one
same_partitions :
    (p q : Option ℕ) → IfSome p (λ n. n < 2 ^ 64) → IfSome q (λ n. n < 2 ^ 64) → partition_text p ≡ partition_text q
    → p ≡ q
same_partitions None q p_fits q_fits is = same_Some None q (partition_all (codes "all") refl q q_fits (sym is))
same_partitions (Some m) None p_fits q_fits is =
    sym (same_Some None (Some m) (partition_all (codes "all") refl (Some m) p_fits is))
same_partitions (Some m) (Some n) p_fits q_fits is = ap Some (decimal_injective m n p_fits q_fits is)

-- the letters of `all`
all_lacks : (i : ℕ) → i < 3 → get_or (codes "all") i 0 ≢ 95
all_lacks zero inside = λ e. omega arith
all_lacks (suc zero) inside = λ e. omega arith
all_lacks (suc (suc zero)) inside = λ e. omega arith
all_lacks (suc (suc (suc i))) inside = absurd (omega arith)

-- a partition is written as one field
pub IsField-partition : (p : Option ℕ) → IfSome p (λ n. n < 2 ^ 64) → IsField (partition_text p)
IsField-partition None small = record { lacks = all_lacks }
IsField-partition (Some n) small = IsField-decimal n small

-- a mutation is written as a field after an underscore
mutation_text-suc : (m : ℕ) → mutation_text (suc m) ≡ 95 ∷ decimal (suc m)
mutation_text-suc m = rw eqb-suc-zero refl

-- with no underscore left no mutation is written
pub last_uncut :
    (bs : List ℕ) → IsSplitOnceResult 95 bs None → (level mutation : ℕ) → level < 2 ^ 32
    → decimal level ++ mutation_text mutation ≡ bs → (decimal level ≡ bs) × (mutation ≡ 0)
last_uncut bs split level zero small is = (sym (append-nil (decimal level)) ∙ is, refl)
last_uncut bs split level (suc m) small is =
    let joined = sym (rw mutation_text-suc at is) in
    absurd (uncut bs (decimal level) (decimal (suc m)) split joined (IsField-decimal level (omega arith)))

-- with one left there is one, and not 0
pub last_cut :
    (bs : List ℕ) (prefix back : Bor (List ℕ)) → IsSplitOnceResult 95 bs (Some (prefix, back)) → (level mutation : ℕ)
    → level < 2 ^ 32 → decimal level ++ mutation_text mutation ≡ bs
    → (decimal level ≡ prefix.now) × (decimal mutation ≡ back.now) × (mutation ≢ 0)
last_cut bs prefix back split level zero small is =
    let alone = sym is ∙ append-nil (decimal level) in
    absurd (cut_none bs (decimal level) prefix back split alone (IsField-decimal level (omega arith)))
last_cut bs prefix back split level (suc m) small is =
    let joined = sym (rw mutation_text-suc at is) in
    let field = IsField-decimal level (omega arith) in
    let (front_is, back_is) = cut bs (decimal level) (decimal (suc m)) prefix back split joined field in
    (sym front_is, sym back_is, λ none. omega arith)

-- two numbers written alike before an underscore are one, and so is what is after it
same_numbers :
    (m n : ℕ) (us vs : List ℕ) → m < 2 ^ 32 → n < 2 ^ 32 → decimal m ++ (95 ∷ us) ≡ decimal n ++ (95 ∷ vs)
    → (m ≡ n) × (us ≡ vs)
same_numbers m n us vs m_fits n_fits is =
    let m_field = IsField-decimal m (omega arith) in
    let n_field = IsField-decimal n (omega arith) in
    let (text_is, behind_is) = same_fields (decimal m) (decimal n) us vs m_field n_field is in
    (decimal_injective m n (omega arith) (omega arith) text_is, behind_is)

-- a level with a mutation is written as no level alone
mutated_apart : (k l m : ℕ) → k < 2 ^ 32 → decimal k ++ [] ≡ decimal l ++ mutation_text (suc m) → ⊥
mutated_apart k l m k_fits is =
    let joined = sym (append-nil (decimal k)) ∙ rw mutation_text-suc at is in
    field_unjoined (decimal k) (decimal l) (decimal (suc m)) (IsField-decimal k (omega arith)) joined

-- two levels with mutations that are written alike are the same
same_lasts :
    (k l m n : ℕ) → k < 2 ^ 32 → l < 2 ^ 32 → m < 2 ^ 32 → n < 2 ^ 32
    → decimal k ++ mutation_text m ≡ decimal l ++ mutation_text n → (k ≡ l) × (m ≡ n)
same_lasts k l zero zero k_fits l_fits m_fits n_fits is =
    let alone = sym (append-nil (decimal k)) ∙ is ∙ append-nil (decimal l) in
    (decimal_injective k l (omega arith) (omega arith) alone, refl)
same_lasts k l zero (suc n) k_fits l_fits m_fits n_fits is = absurd (mutated_apart k l n k_fits is)
same_lasts k l (suc m) zero k_fits l_fits m_fits n_fits is = absurd (mutated_apart l k m l_fits (sym is))
same_lasts k l (suc m) (suc n) k_fits l_fits m_fits n_fits is =
    let joined = simp mutation_text-suc at is in
    let (level_is, text_is) = same_numbers k l (decimal (suc m)) (decimal (suc n)) k_fits l_fits joined in
    (level_is, decimal_injective (suc m) (suc n) (omega arith) (omega arith) text_is)

-- the text after the highest number
abbrev pub behind_max : Name → List ℕ
behind_max a = decimal a.level ++ mutation_text a.mutation

-- the text after the lowest number
abbrev pub behind_min : Name → List ℕ
behind_min a = decimal a.max ++ (95 ∷ behind_max a)

-- the text after the partition
abbrev pub numbers : Name → List ℕ
numbers a = decimal a.min ++ (95 ∷ behind_min a)

-- the whole text, read from the start
pub text_of-parts : (a : Name) → text_of a ≡ partition_text a.partition ++ (95 ∷ numbers a)
text_of-parts a = simp append_assoc

-- the first split of a name's text gives its partition and the rest
pub cut_partition :
    (bs : List ℕ) (prefix back : Bor (List ℕ)) → IsSplitOnceResult 95 bs (Some (prefix, back)) → (a : Name) → IsName a
    → text_of a ≡ bs → (partition_text a.partition ≡ prefix.now) × (back.now ≡ numbers a)
cut_partition bs prefix back split a is_name is =
    let field = IsField-partition a.partition is_name.partition in
    let joined = sym is ∙ text_of-parts a in
    let (front_is, back_is) = cut bs (partition_text a.partition) (numbers a) prefix back split joined field in
    (sym front_is, back_is)

-- and there is one
pub uncut_partition : (bs : List ℕ) → IsSplitOnceResult 95 bs None → (a : Name) → IsName a → text_of a ≡ bs → ⊥
uncut_partition bs split a is_name is =
    let field = IsField-partition a.partition is_name.partition in
    uncut bs (partition_text a.partition) (numbers a) split (sym is ∙ text_of-parts a) field

-- the lowest number is in range as the highest is
pub min_fits : (a : Name) → IsName a → a.min < 2 ^ 32
min_fits a is = omega (arith, is.ordered, is.max)

-- names whose parts are the same are the same
pub same_parts :
    (a b : Name) → a.partition ≡ b.partition → a.min ≡ b.min → a.max ≡ b.max → a.level ≡ b.level
    → a.mutation ≡ b.mutation → a ≡ b
same_parts a b partition min max level mutation =
    let whole : Name → Name =
    λ n. record { partition = n.partition; min = n.min; max = n.max; level = n.level; mutation = n.mutation } in
    let joined : whole a ≡ whole b = cc in
    joined

-- two names with one text are one
pub one_name : (a b : Name) → IsName a → IsName b → text_of a ≡ text_of b → a ≡ b
one_name a b a_is b_is is =
    let a_field = IsField-partition a.partition a_is.partition in
    let b_field = IsField-partition b.partition b_is.partition in
    let joined = sym (text_of-parts a) ∙ is ∙ text_of-parts b in
    let (partition_is, at_numbers) = same_fields (partition_text a.partition) (partition_text b.partition) (numbers a) (numbers b) a_field b_field joined in
    let partition = same_partitions a.partition b.partition a_is.partition b_is.partition partition_is in
    let (min, at_min) = same_numbers a.min b.min (behind_min a) (behind_min b) (min_fits a a_is) (min_fits b b_is) at_numbers in
    let (max, at_max) = same_numbers a.max b.max (behind_max a) (behind_max b) a_is.max b_is.max at_min in
    let (level, mutation) = same_lasts a.level b.level a.mutation b.mutation a_is.level b_is.level a_is.mutation b_is.mutation at_max in
    same_parts a b partition min max level mutation
