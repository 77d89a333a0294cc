-- What a part keeps of its lineage, and what it comes from, are what a log says of its name.
use Rattle.std.proofs.Common.{◌≡◌, ℕ, ◌+◌, ◌-◌, ◌<◌, ◌≤◌, ◌⊎◌, inl, inr, ◌&&◌, ◌||◌, Bool, true, false, not, cond, List, [], ◌∷◌, length, map, refl, ap, arith, ◌∙◌, nat_eq, nat_lt, nat_le}
use Rattle.std.proofs.lemmas.Bool.Decides.{nat_tests}
use Rattle.std.specs.declared.option.Option.{Option}
use Rattle.rmt_values.specs.Rows.{Shape}
use Rattle.rmt_names.specs.Names.{Name, Spans}
use Rattle.rmt_entries.specs.declared.entry.Entry.{Entry}
use Rattle.rmt_model.specs.Words.{Has, Each, Pairwise}
use Rattle.rmt_model.specs.Lawful.{Lawful}
use Rattle.rmt_model.specs.Content.{has_block}
use Rattle.rmt_model.specs.Parts.{NumberedBlock, Lineage, IsLineage, IsOf, ComesFrom}
use Rattle.rmt_model.specs.CopiedParts.{blocks_of, HasNumber, AreBlocksOf, IsCopied}
use Rattle.rmt_model.proofs.Lists.{Each-at, Each-all}
use Rattle.rmt_model.proofs.VersionLaws.{made-sized}
use Rattle.rmt_laws.proofs.PlainRows.{total-same}
use Rattle.rmt_part.specs.Lineages.{PartValue, numbered, lineage_of, IsPart, IsOfLog}
use Rattle.rmt_part.specs.CopiedPart.{copied}
use Rattle.rmt_part.proofs.LineageLaws.{has-block-at, passing, passing-more, count-passing, has-made, told-count, fewer, Each-map}
use Rattle.rmt_part.proofs.PartLaws.{rows-content, of-log-has}

-- ---- a number that passes is a block's

has-number : (bs : List NumberedBlock) (n : ℕ) → HasNumber bs n ⊎ Each (λ b. b.number ≡ n → ⊥) bs
has-number [] n = inr tt
has-number (b ∷ bs) n = go (nat_eq b.number n) refl (has-number bs n)
  where
    go : (c : Bool) → nat_eq b.number n ≡ c → HasNumber bs n ⊎ Each (λ x. x.number ≡ n → ⊥) bs → HasNumber (b ∷ bs) n ⊎ Each (λ x. x.number ≡ n → ⊥) (b ∷ bs)
    go true e r = inl (inl (grind (arith, nat_tests)))
    go false e (inl h) = inl (inr h)
    go false e (inr h) = inr (λ q. absurd (grind (arith, nat_tests)), h)

-- blocks in order of number in a range, as many as numbers pass there: each number that passes is one of theirs
all-there : (h : ℕ → Bool) (low k n : ℕ) (bs : List NumberedBlock) → Pairwise (λ x y. x.number < y.number) bs → Each (λ b. (low ≤ b.number) × (b.number < low + k)) bs → Each (λ b. h b.number ≡ true) bs → length bs ≡ passing h low k
    → h n ≡ true → low ≤ n → n < low + k → HasNumber bs n
all-there h low k n bs rising within passes count t l u = go (has-number bs n)
  where
    rest : ℕ → Bool
    rest m = not (nat_eq n m) && h m

    join : (m : ℕ) (c : Bool) → nat_eq n m ≡ c → h m ≡ (c || (not c && h m))
    join m true e = ap h (let q : m ≡ n = grind (arith, nat_tests) in q) ∙ t
    join m false e = refl

    other : (m : ℕ) (c : Bool) → nat_eq n m ≡ c → (m ≡ n → ⊥) → (not c && h m) ≡ h m
    other m true e f = absurd (f (grind (arith, nat_tests)))
    other m false e f = refl

    off : rest n ≡ false
    off = ap (λ (c : Bool). not c && h n) (let e : nat_eq n n ≡ true = grind (arith, nat_tests) in e)

    one : passing h low k ≡ 1 + passing rest low k
    one =
        let a : passing h low k ≡ passing (λ m. nat_eq n m || rest m) low k = total-same (λ m. cond (h m) 1 0) (λ m. cond (nat_eq n m || rest m) 1 0) low k (λ m x y. ap (λ (c : Bool). cond c 1 0) (join m (nat_eq n m) refl)) in
        let b = passing-more rest n low k off in
        let c : (nat_le low n && nat_lt n (low + k)) ≡ true = grind (arith, nat_tests) in
        let d : passing (λ m. nat_eq n m || rest m) low k ≡ 1 + passing rest low k = b ∙ ap (λ (x : Bool). cond x 1 0 + passing rest low k) c in
        a ∙ d

    go : HasNumber bs n ⊎ Each (λ b. b.number ≡ n → ⊥) bs → HasNumber bs n
    go (inl i) = i
    go (inr i) =
        let f = fewer rest low k bs rising within (Each-all (λ b. rest b.number ≡ true) bs (λ b m. other b.number (nat_eq n b.number) refl (Each-at (λ x. x.number ≡ n → ⊥) bs b i m) ∙ Each-at (λ x. h x.number ≡ true) bs b passes m)) in
        let s = one in
        absurd (omega (arith, f, s, count))

-- ---- the blocks that a lineage gives are its own

agree : (p : Option ℕ) (bs : List NumberedBlock) → Pairwise (λ x y. x.number < y.number) bs → Each (λ b. blocks_of bs p b.number ≡ b.rows) bs
agree p bs rising = Each-all (λ b. blocks_of bs p b.number ≡ b.rows) bs (λ b m. own bs b rising m)
  where
    own : (bs : List NumberedBlock) (b : NumberedBlock) → Pairwise (λ x y. x.number < y.number) bs → Has bs b → blocks_of bs p b.number ≡ b.rows
    own [] b r m = absurd m
    own (x ∷ xs) b r (inl e) = ap (λ (c : Bool). cond c x.rows (blocks_of xs p b.number)) (let q = ap (λ (y : NumberedBlock). y.number) e in let c : nat_eq x.number b.number ≡ true = grind (arith, nat_tests) in c) ∙ ap (λ (y : NumberedBlock). y.rows) e
    own (x ∷ xs) b r (inr m) =
        let l : x.number < b.number = Each-at (λ (y : NumberedBlock). x.number < y.number) xs b r.0 m in
        ap (λ (c : Bool). cond c x.rows (blocks_of xs p b.number)) (let c : nat_eq x.number b.number ≡ false = grind (arith, nat_tests) in c) ∙ own xs b r.1 m

Each-unmapped : {A B : Type 0} (P : B → Type 0) (f : A → B) (xs : List A) → Each P (map f xs) → Each (λ x. P (f x)) xs
Each-unmapped P f [] h = tt
Each-unmapped P f (x ∷ xs) h = (h.0, Each-unmapped P f xs h.1)

-- ---- the bridge

lineage-copied : (schema : Shape) (log : List Entry) (e : Entry) (a : Name) (lineage : Lineage) → Lawful schema log → IsLineage e a lineage → ComesFrom log e a lineage → AreBlocksOf log a lineage.blocks
lineage-copied schema log e a lineage l keeps comes = record {
  rising = keeps.rising;
  within = Each-all (λ b. Spans a a.partition b.number × IsOf log a.partition b) lineage.blocks (λ b m.
      let w = Each-at (λ (x : NumberedBlock). (a.min ≤ x.number) × (x.number ≤ a.max)) lineage.blocks b keeps.within m in
      (record { partition = refl; low = w.0; high = w.1 }, Each-at (IsOf log a.partition) lineage.blocks b comes.blocks m));
  whole = λ n source need digest h s.
      let x = s.low in let y = s.high in
      all-there (has_block log a.partition) a.min (a.max + 1 - a.min) n lineage.blocks keeps.rising inside there count (has-block-at log a.partition n digest source need h) x (omega (arith, x, y));
}
  where
    inside : Each (λ b. (a.min ≤ b.number) × (b.number < a.min + (a.max + 1 - a.min))) lineage.blocks
    inside = Each-map (λ b. (a.min ≤ b.number) × (b.number ≤ a.max)) (λ b. (a.min ≤ b.number) × (b.number < a.min + (a.max + 1 - a.min))) lineage.blocks keeps.within (λ b i w. let x = w.0 in let y = w.1 in (x, omega (arith, x, y)))

    there : Each (λ b. has_block log a.partition b.number ≡ true) lineage.blocks
    there = Each-map (IsOf log a.partition) (λ b. has_block log a.partition b.number ≡ true) lineage.blocks comes.blocks (λ b i o. has-block-at log a.partition b.number b.digest (IsOf.source o) (IsOf.need o) (IsOf.entry o))

    count : length lineage.blocks ≡ passing (has_block log a.partition) a.min (a.max + 1 - a.min)
    count = keeps.whole ∙ (told-count schema log e a l comes.made keeps.made ∙ count-passing schema log a l (made-sized schema log a l (has-made log e a comes.made keeps.made)))

-- a part of a log's entries is, as a cluster sees it, one of that log
pub part-copied : (part : PartValue) (log : List Entry) → IsPart part → Lawful part.schema log → IsOfLog log part → IsCopied part.schema log (copied part)
part-copied part log is l of =
    let has = of-log-has part log is of in
    record {
      lineage = lineage-copied part.schema log part.made.value part.name (lineage_of part) l is.keeps has;
      holds = rows-content part log (blocks_of (map numbered part.blocks)) is l has (Each-unmapped (λ (b : NumberedBlock). blocks_of (map numbered part.blocks) part.name.partition b.number ≡ b.rows) numbered part.blocks (agree part.name.partition (map numbered part.blocks) is.keeps.rising));
    }
