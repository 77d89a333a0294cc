-- What a lineage tells is the content of its name.
use Rattle.std.proofs.Common.{◌≡◌, ℕ, zero, suc, ◌+◌, ◌-◌, ◌<◌, ◌≤◌, ◌⊎◌, inl, inr, ◌&&◌, ◌||◌, Bool, true, false, cond, List, [], ◌∷◌, ◌++◌, length, refl, sym, ap, subst, arith, ◌∙◌, nat_eq, nat_lt, nat_le}
use Rattle.std.proofs.lemmas.Bool.Decides.{nat_tests}
use Rattle.std.proofs.lemmas.List.Sums.{sum_by-cons}
use Rattle.std.specs.List.{filter_map}
use Rattle.std.specs.Option.{option_and_then}
use Rattle.std.specs.declared.option.Option.{Option}
use Rattle.std.specs.declared.option.Option.TheVariants.{Some}
use Rattle.rmt_values.specs.Rows.{Shape, in_key_order}
use Rattle.rmt_names.specs.Names.{Name, rank, block_name}
use Rattle.rmt_entries.specs.Entries.{result_name}
use Rattle.rmt_entries.specs.declared.entry.Entry.{Entry}
use Rattle.rmt_entries.specs.declared.entry.Entry.TheVariants.{Get, Merge, Mutate, Mutation, DropRange}
use Rattle.rmt_model.specs.Words.{Has, Each, Pairwise}
use Rattle.rmt_model.specs.Live.{made}
use Rattle.rmt_model.specs.Lawful.{Used, Uses, AboveUsed, IsFresh, IsMutation, is_mutation, mutation_count, gets_block_of, block_count, Merges, IsMutate, Lawful}
use Rattle.rmt_model.specs.Content.{Row, Blocks, changed_by, changed, is_block, has_block, block_rows, joined, content}
use Rattle.rmt_model.specs.Parts.{NumberedBlock, Lineage, mutated_rows, lineage_rows, own_content, blocks_told, AreNumbered, EndAt, IsLineage, IsOf, ComesFrom}
use Rattle.rmt_model.proofs.Lists.{Each-at, Each-all, rank-injective}
use Rattle.rmt_model.proofs.Drops.{newest-made, made-more, some-same}
use Rattle.rmt_model.proofs.LiveLaws.{tight}
use Rattle.rmt_model.proofs.VersionLaws.{made-sized}
use Rattle.rmt_laws.proofs.ContentLaws.{outside-made}
use Rattle.rmt_laws.proofs.PlainRows.{total}
use Rattle.rmt_laws.proofs.TwoChanges.{then-some, skips}
use Rattle.rmt_part.proofs.RowChanges.{none-chosen, filter_map-same}

-- ---- mutations

-- the id of a mutation
abbrev pub id_told : Entry → ℕ
id_told (Mutation id numbers command) = id
id_told (Get p n digest source need) = 0
id_told (Merge new sources count) = 0
id_told (Mutate old new upto count mcount) = 0
id_told (DropRange p n) = 0

count-cons : (e : Entry) (log : List Entry) → mutation_count (e ∷ log) ≡ cond (is_mutation e) 1 0 + mutation_count log
count-cons e log = sum_by-cons (λ x. cond (is_mutation x) 1 0) e log

other-kind : (e m : Entry) → is_mutation e ≡ false → is_mutation m ≡ true → e ≡ m → ⊥
other-kind e m f t q = let s : false ≡ true = sym f ∙ (ap is_mutation q ∙ t) in absurd (cc)

-- the id of a mutation of a lawful log is below their count
pub id-below : (schema : Shape) (log : List Entry) (m : Entry) → Lawful schema log → Has log m → is_mutation m ≡ true → id_told m < mutation_count log
id-below schema [] m l h k = absurd h
id-below schema (Mutation id numbers command ∷ log) m l (inl q) k =
    let s = ap id_told q in let c = count-cons (Mutation id numbers command) log in let i = IsMutation.numbered l.1 in omega (arith, s, c, i)
id-below schema (e ∷ log) m l (inl q) k = absurd (other-kind e m refl k q)
id-below schema (e ∷ log) m l (inr h) k =
    let r = id-below schema log m l.0 h k in let c = count-cons e log in omega (arith, r, c)

-- the entry of a numbered list is a mutation, and its id is below the length
pub numbered-one : (ms : List Entry) (m : Entry) → AreNumbered ms → Has ms m → (is_mutation m ≡ true) × (id_told m < length ms)
numbered-one [] m n h = absurd h
numbered-one (Mutation id numbers command ∷ older) m n (inl q) =
    let s = ap id_told q in let i = n.0 in (sym (ap is_mutation q), omega (arith, s, i))
numbered-one (Mutation id numbers command ∷ older) m n (inr h) = let r = numbered-one older m n.1 h in (r.0, let k = r.1 in omega (arith, k))
numbered-one (e ∷ older) m n h = absurd n

-- an entry that is no mutation changes no row
passed-over : (e : Entry) (log : List Entry) (p : Option ℕ) (t : ℕ → Bool) (r : Row) → is_mutation e ≡ false → changed (e ∷ log) p t r ≡ changed log p t r
passed-over (Mutation id numbers command) log p t r f = absurd (cc)
passed-over (Get q n digest source need) log p t r f = then-some (changed log p t r)
passed-over (Merge new sources count) log p t r f = then-some (changed log p t r)
passed-over (Mutate old new upto count mcount) log p t r f = then-some (changed log p t r)
passed-over (DropRange q n) log p t r f = then-some (changed log p t r)

-- a numbered list of a log's entries is one of the log without an entry that is no mutation
without-other : (e : Entry) (log ms : List Entry) → is_mutation e ≡ false → AreNumbered ms → Each (Has (e ∷ log)) ms → Each (Has log) ms
without-other e log ms f n h = Each-all (Has log) ms (λ x i. go x i (Each-at (Has (e ∷ log)) ms x h i))
  where
    go : (x : Entry) → Has ms x → (e ≡ x) ⊎ Has log x → Has log x
    go x i (inl q) = absurd (other-kind e x f (numbered-one ms x n i).0 q)
    go x i (inr k) = k

-- as many mutations as the log has are the log's
same-mutations : (schema : Shape) (log ms : List Entry) (p : Option ℕ) (t : ℕ → Bool) (r : Row) → Lawful schema log → AreNumbered ms → Each (Has log) ms → length ms ≡ mutation_count log → changed log p t r ≡ changed ms p t r
same-mutations schema [] [] p t r l n h c = refl
same-mutations schema [] (m ∷ older) p t r l n h c = absurd h.0
same-mutations schema (Mutation id numbers command ∷ log) [] p t r l n h c =
    let k = count-cons (Mutation id numbers command) log in absurd (omega (arith, k, c))
same-mutations schema (Mutation id numbers command ∷ log) (Mutation id' numbers' command' ∷ older) p t r l n h c =
    let k = count-cons (Mutation id numbers command) log in
    let i = IsMutation.numbered l.1 in
    let i' = n.0 in
    let as-many : length older ≡ mutation_count log = omega (arith, k, c) in
    let newest : Mutation id numbers command ≡ Mutation id' numbers' command' = first as-many i' h.0 in
    ap (λ x. option_and_then (changed_by x p t) (changed log p t r)) newest
    ∙ ap (option_and_then (changed_by (Mutation id' numbers' command') p t)) (same-mutations schema log older p t r l.0 n.1 (Each-all (Has log) older (λ x j. inner as-many x j (Each-at (Has (Mutation id numbers command ∷ log)) older x h.1 j))) as-many)
  where
    first : length older ≡ mutation_count log → id' ≡ length older → (Mutation id numbers command ≡ Mutation id' numbers' command') ⊎ Has log (Mutation id' numbers' command') → Mutation id numbers command ≡ Mutation id' numbers' command'
    first a i (inl q) = q
    first a i (inr k) = let b = id-below schema log (Mutation id' numbers' command') l.0 k refl in absurd (omega (arith, a, i, b))

    inner : length older ≡ mutation_count log → (x : Entry) → Has older x → (Mutation id numbers command ≡ x) ⊎ Has log x → Has log x
    inner a x j (inl q) =
        let s = ap id_told q in let b = (numbered-one older x n.1 j).1 in let i = IsMutation.numbered l.1 in absurd (omega (arith, a, s, b, i))
    inner a x j (inr k) = k
same-mutations schema (Mutation id numbers command ∷ log) (e ∷ older) p t r l n h c = absurd n
same-mutations schema (e ∷ log) ms p t r l n h c =
    let k = count-cons e log in
    passed-over e log p t r refl ∙ same-mutations schema log ms p t r l.0 n (without-other e log ms refl n h) (omega (arith, k, c))

-- what an entry of the log uses, the log uses
pub has-used : (log : List Entry) (e : Entry) (p : Option ℕ) (n : ℕ) → Has log e → Uses e p n → Used log p n
has-used [] e p n h u = absurd h
has-used (x ∷ log) e p n (inl q) u = inl (subst (λ (y : Entry). Uses y p n) (sym q) u)
has-used (x ∷ log) e p n (inr h) u = inr (has-used log e p n h u)

-- the mutations up to a number change a row as the whole log does up to that number
pub told-mutations : (schema : Shape) (log ms : List Entry) (p : Option ℕ) (limit n : ℕ) (r : Row) → Lawful schema log → AreNumbered ms → Each (Has log) ms → EndAt ms p limit → changed log p (λ k. nat_lt n k && nat_le k limit) r ≡ changed ms p (λ k. nat_lt n k && nat_le k limit) r
told-mutations schema [] [] p limit n r l a h e = refl
told-mutations schema [] (m ∷ older) p limit n r l a h e = absurd h.0
told-mutations schema (Mutation id numbers command ∷ log) [] p limit n r l a h e =
    skips id numbers command log p (λ k. nat_lt n k && nat_le k limit) r
    (none-chosen numbers p n limit (λ m k. let s = (Each-at (λ x. (1 ≤ x.1) × AboveUsed log x.0 x.1) numbers (p, m) (IsMutation.above l.1) k).0 in omega (arith, s, e)))
    ∙ told-mutations schema log [] p limit n r l.0 a tt e
told-mutations schema (Mutation id numbers command ∷ log) (Mutation id' numbers' command' ∷ older) p limit n r l a h e = elim h.0 [
  | inl q ↦
      let k = count-cons (Mutation id numbers command) log in
      let s = ap id_told q in
      let i = IsMutation.numbered l.1 in
      let i' = a.0 in
      same-mutations schema (Mutation id numbers command ∷ log) (Mutation id' numbers' command' ∷ older) p (λ k. nat_lt n k && nat_le k limit) r l a h (omega (arith, k, s, i, i'))
  | inr q ↦
      skips id numbers command log p (λ k. nat_lt n k && nat_le k limit) r
      (none-chosen numbers p n limit (λ m k. (Each-at (λ x. (1 ≤ x.1) × AboveUsed log x.0 x.1) numbers (p, m) (IsMutation.above l.1) k).1 limit (has-used log (Mutation id' numbers' command') p limit q e)))
      ∙ told-mutations schema log (Mutation id' numbers' command' ∷ older) p limit n r l.0 a (Each-all (Has log) (Mutation id' numbers' command' ∷ older) (λ x j. inner q x j (Each-at (Has (Mutation id numbers command ∷ log)) (Mutation id' numbers' command' ∷ older) x h j))) e
]
  where
    inner : Has log (Mutation id' numbers' command') → (x : Entry) → Has (Mutation id' numbers' command' ∷ older) x → (Mutation id numbers command ≡ x) ⊎ Has log x → Has log x
    inner q x j (inl y) =
        let b = id-below schema log (Mutation id' numbers' command') l.0 q refl in
        let s = ap id_told y in
        let i = IsMutation.numbered l.1 in
        let w = (numbered-one (Mutation id' numbers' command' ∷ older) x a j).1 in
        let i' = a.0 in
        absurd (omega (arith, b, s, i, w, i'))
    inner q x j (inr k) = k
told-mutations schema (Mutation id numbers command ∷ log) (m ∷ older) p limit n r l a h e = absurd a
told-mutations schema (x ∷ log) ms p limit n r l a h e =
    passed-over x log p (λ k. nat_lt n k && nat_le k limit) r refl ∙ told-mutations schema log ms p limit n r l.0 a (without-other x log ms refl a h) e

-- ---- blocks

has-block-used : (log : List Entry) (p : Option ℕ) (n : ℕ) → has_block log p n ≡ true → Used log p n
has-block-used [] p n h = absurd (cc)
has-block-used (e ∷ log) p n h = go (is_block e p n) refl h (has-block-used log p n)
  where
    here : (e : Entry) → is_block e p n ≡ true → Uses e p n
    here (Get q m digest source need) b = let r : rank q ≡ rank p = grind (arith, nat_tests) in (rank-injective q p r, grind (arith, nat_tests))
    here (Merge new sources count) b = absurd (cc)
    here (Mutate old new upto count mcount) b = absurd (cc)
    here (Mutation id numbers command) b = absurd (cc)
    here (DropRange q m) b = absurd (cc)

    go : (b : Bool) → is_block e p n ≡ b → (b || has_block log p n) ≡ true → (has_block log p n ≡ true → Used log p n) → Used (e ∷ log) p n
    go true q k f = inl (here e q)
    go false q k f = inr (f k)

pub has-block-at : (log : List Entry) (p : Option ℕ) (n : ℕ) (digest : List ℕ) (source need : ℕ) → Has log (Get p n digest source need) → has_block log p n ≡ true
has-block-at [] p n digest source need h = absurd h
has-block-at (e ∷ log) p n digest source need (inl q) = rw (ap (λ (x : Entry). is_block x p n) q, same (rank p), same n) refl
  where
    same : (k : ℕ) → nat_eq k k ≡ true
    same k = grind (arith, nat_tests)
has-block-at (e ∷ log) p n digest source need (inr h) = rw (has-block-at log p n digest source need h) (either (is_block e p n))
  where
    either : (b : Bool) → (b || true) ≡ true
    either true = refl
    either false = refl

plus-none : (n : ℕ) → 0 + n ≡ n
plus-none n = omega arith

-- how many of the numbers pass
abbrev pub passing : (ℕ → Bool) → ℕ → ℕ → ℕ
passing h low k = total (λ n. cond (h n) 1 0) low k

-- one more number that passes
pub passing-more : (h : ℕ → Bool) (m low k : ℕ) → h m ≡ false → passing (λ n. nat_eq m n || h n) low k ≡ cond (nat_le low m && nat_lt m (low + k)) 1 0 + passing h low k
passing-more h m low zero f = let e : (nat_le low m && nat_lt m (low + 0)) ≡ false = grind (arith, nat_tests) in rw e refl
passing-more h m low (suc k) f = go (nat_eq m low) refl (passing-more h m (low + 1) k f)
  where
    go : (b : Bool) → nat_eq m low ≡ b → passing (λ n. nat_eq m n || h n) (low + 1) k ≡ cond (nat_le (low + 1) m && nat_lt m (low + 1 + k)) 1 0 + passing h (low + 1) k → cond (b || h low) 1 0 + passing (λ n. nat_eq m n || h n) (low + 1) k ≡ cond (nat_le low m && nat_lt m (low + suc k)) 1 0 + (cond (h low) 1 0 + passing h (low + 1) k)
    go true e i =
        let q : m ≡ low = grind (arith, nat_tests) in
        let a : (nat_le low m && nat_lt m (low + suc k)) ≡ true = grind (arith, nat_tests) in
        let b : (nat_le (low + 1) m && nat_lt m (low + 1 + k)) ≡ false = grind (arith, nat_tests) in
        let c : h low ≡ false = ap h (sym q) ∙ f in
        let j : passing (λ n. nat_eq m n || h n) (low + 1) k ≡ 0 + passing h (low + 1) k = i ∙ ap (λ (x : Bool). cond x 1 0 + passing h (low + 1) k) b in
        rw (a, c) (omega (arith, j))
    go false e i =
        let a : (nat_le low m && nat_lt m (low + suc k)) ≡ (nat_le (low + 1) m && nat_lt m (low + 1 + k)) = grind (arith, nat_tests) in
        rw a (omega (arith, i))

-- the blocks that a lawful log has in a name's range are as many as the numbers there that have one
pub count-passing : (schema : Shape) (log : List Entry) (a : Name) → Lawful schema log → a.min ≤ a.max → block_count log a ≡ passing (has_block log a.partition) a.min (a.max + 1 - a.min)
count-passing schema [] a l w = none (a.max + 1 - a.min) a.min
  where
    none : (k low : ℕ) → 0 ≡ passing (λ n. false) low k
    none zero low = refl
    none (suc k) low = let r = none k (low + 1) in omega (arith, r)
count-passing schema (Get q m digest source need ∷ log) a l w = go (count-passing schema log a l.0 w) (nat_eq (rank q) (rank a.partition)) refl (has_block log a.partition m) refl
  where
    more : block_count (Get q m digest source need ∷ log) a ≡ cond (nat_eq (rank q) (rank a.partition) && nat_le a.min m && nat_le m a.max) 1 0 + block_count log a
    more = sum_by-cons (λ x. cond (gets_block_of a x) 1 0) (Get q m digest source need) log

    go : block_count log a ≡ passing (has_block log a.partition) a.min (a.max + 1 - a.min) → (b : Bool) → nat_eq (rank q) (rank a.partition) ≡ b → (c : Bool) → has_block log a.partition m ≡ c → block_count (Get q m digest source need ∷ log) a ≡ passing (λ n. (nat_eq (rank q) (rank a.partition) && nat_eq m n) || has_block log a.partition n) a.min (a.max + 1 - a.min)
    go rest false f c g = more ∙ rw f (plus-none (block_count log a) ∙ rest)
    go rest true f true g =
        let r : rank q ≡ rank a.partition = grind (arith, nat_tests) in
        absurd (IsFresh.unused l.1 (subst (λ (p : Option ℕ). Used log p m) (sym (rank-injective q a.partition r)) (has-block-used log a.partition m g)))
    go rest true f false g =
        let i = passing-more (has_block log a.partition) m a.min (a.max + 1 - a.min) g in
        let z : (nat_le a.min m && nat_lt m (a.min + (a.max + 1 - a.min))) ≡ (nat_le a.min m && nat_le m a.max) = grind (arith, nat_tests) in
        let s : block_count (Get q m digest source need ∷ log) a ≡ cond (nat_le a.min m && nat_le m a.max) 1 0 + block_count log a = more ∙ ap (λ (b : Bool). cond (b && nat_le a.min m && nat_le m a.max) 1 0 + block_count log a) f in
        let j : passing (λ n. nat_eq m n || has_block log a.partition n) a.min (a.max + 1 - a.min) ≡ cond (nat_le a.min m && nat_le m a.max) 1 0 + passing (has_block log a.partition) a.min (a.max + 1 - a.min) = i ∙ ap (λ (b : Bool). cond b 1 0 + passing (has_block log a.partition) a.min (a.max + 1 - a.min)) z in
        s ∙ (ap (λ n. cond (nat_le a.min m && nat_le m a.max) 1 0 + n) rest ∙ (sym j ∙ ap (λ (b : Bool). passing (λ n. (b && nat_eq m n) || has_block log a.partition n) a.min (a.max + 1 - a.min)) (sym f)))
count-passing schema (e ∷ log) a l w = sum_by-cons (λ x. cond (gets_block_of a x) 1 0) e log ∙ (plus-none (block_count log a) ∙ count-passing schema log a l.0 w)

-- what was made has its numbers in order, and the entry that made it stands in the log
pub has-made : (log : List Entry) (e : Entry) (a : Name) → Has log e → result_name e ≡ Some a → Has (made log) a
has-made [] e a h r = absurd h
has-made (x ∷ log) e a (inl q) r = newest-made x log a (ap result_name q ∙ r)
has-made (x ∷ log) e a (inr h) r = made-more x log a (has-made log e a h r)

-- a further entry adds no block to what was made
count-stays : (schema : Shape) (e : Entry) (log : List Entry) (a : Name) → Lawful schema (e ∷ log) → Has (made log) a → block_count (e ∷ log) a ≡ block_count log a
count-stays schema (Get q m digest source need) log a l h =
    sum_by-cons (λ x. cond (gets_block_of a x) 1 0) (Get q m digest source need) log
    ∙ (ap (λ (b : Bool). cond b 1 0 + block_count log a) (outside (nat_eq (rank q) (rank a.partition) && nat_le a.min m && nat_le m a.max) refl) ∙ plus-none (block_count log a))
  where
    outside : (b : Bool) → (nat_eq (rank q) (rank a.partition) && nat_le a.min m && nat_le m a.max) ≡ b → (nat_eq (rank q) (rank a.partition) && nat_le a.min m && nat_le m a.max) ≡ false
    outside false e = e
    outside true e =
        let r : rank q ≡ rank a.partition = grind (arith, nat_tests) in
        absurd (outside-made log q m a l.1 h (record { partition = sym (rank-injective q a.partition r); low = grind (arith, nat_tests); high = grind (arith, nat_tests) }))
count-stays schema (Merge new sources count) log a l h = sum_by-cons (λ x. cond (gets_block_of a x) 1 0) (Merge new sources count) log ∙ plus-none (block_count log a)
count-stays schema (Mutate old new upto count mcount) log a l h = sum_by-cons (λ x. cond (gets_block_of a x) 1 0) (Mutate old new upto count mcount) log ∙ plus-none (block_count log a)
count-stays schema (Mutation id numbers command) log a l h = sum_by-cons (λ x. cond (gets_block_of a x) 1 0) (Mutation id numbers command) log ∙ plus-none (block_count log a)
count-stays schema (DropRange p n) log a l h = sum_by-cons (λ x. cond (gets_block_of a x) 1 0) (DropRange p n) log ∙ plus-none (block_count log a)

-- the newest entry has as many blocks as the log has in its part's range
newest-count : (schema : Shape) (e : Entry) (log : List Entry) (a : Name) → Lawful schema (e ∷ log) → result_name e ≡ Some a → blocks_told e ≡ block_count (e ∷ log) a
newest-count schema (Get p n digest source need) log a l r =
    let s : block_name p n ≡ a = some-same (block_name p n) a r in
    subst (λ (x : Name). 1 ≡ block_count (Get p n digest source need ∷ log) x) s
    (sym (count-passing schema (Get p n digest source need ∷ log) (block_name p n) l (omega arith) ∙ one (n + 1 - n) (omega arith)))
  where
    one : (k : ℕ) → k ≡ 1 → passing (has_block (Get p n digest source need ∷ log) p) n k ≡ 1
    one k e = rw (e, has-block-at (Get p n digest source need ∷ log) p n digest source need (inl refl)) refl
newest-count schema (Merge new [] count) log a l r = absurd l.1
newest-count schema (Merge new (b ∷ []) count) log a l r = absurd l.1
newest-count schema (Merge new (b ∷ c ∷ rest) count) log a l r =
    let s : new ≡ a = some-same new a r in
    subst (λ (x : Name). count ≡ block_count (Merge new (b ∷ c ∷ rest) count ∷ log) x) s
    (Merges.counted l.1 ∙ sym (sum_by-cons (λ x. cond (gets_block_of new x) 1 0) (Merge new (b ∷ c ∷ rest) count) log ∙ plus-none (block_count log new)))
newest-count schema (Mutate old new upto count mcount) log a l r =
    let s : record old { mutation = IsMutate.number l.1 } ≡ a = sym (IsMutate.name l.1) ∙ some-same new a r in
    let w : old.min ≤ old.max = (tight schema log l.0).sized old (IsMutate.is_live l.1) in
    subst (λ (x : Name). count ≡ block_count (Mutate old new upto count mcount ∷ log) x) s
    (IsMutate.counted l.1
    ∙ (count-passing schema log old l.0 w
    ∙ sym (sum_by-cons (λ x. cond (gets_block_of (record old { mutation = IsMutate.number l.1 }) x) 1 0) (Mutate old new upto count mcount) log
    ∙ (plus-none (block_count log (record old { mutation = IsMutate.number l.1 }))
    ∙ count-passing schema log (record old { mutation = IsMutate.number l.1 }) l.0 w))))
newest-count schema (Mutation id numbers command) log a l r = absurd (cc)
newest-count schema (DropRange p n) log a l r = absurd (cc)

-- an entry that makes a part has as many blocks as the log has in the part's range
pub told-count : (schema : Shape) (log : List Entry) (e : Entry) (a : Name) → Lawful schema log → Has log e → result_name e ≡ Some a → blocks_told e ≡ block_count log a
told-count schema [] e a l h r = absurd h
told-count schema (x ∷ log) e a l (inl q) r = ap blocks_told (sym q) ∙ newest-count schema x log a l (ap result_name q ∙ r)
told-count schema (x ∷ log) e a l (inr h) r = told-count schema log e a l.0 h r ∙ sym (count-stays schema x log a l (has-made log e a h r))

-- ---- the content

-- what holds of numbers in order from low on, where the first isn't low, holds from the next number on
later : (low k : ℕ) (b : NumberedBlock) (bs : List NumberedBlock) → Each (λ x. b.number < x.number) bs → low ≤ b.number → Each (λ x. (low ≤ x.number) × (x.number < low + suc k)) bs → Each (λ x. (low + 1 ≤ x.number) × (x.number < low + 1 + k)) bs
later low k b [] r g w = tt
later low k b (x ∷ bs) r g w = let i = r.0 in let j = w.0.1 in ((omega (arith, i, g), omega (arith, j)), later low k b bs r.1 g w.1)

-- blocks in order of number, in a range where so many numbers pass as there are blocks at most
pub fewer : (h : ℕ → Bool) (low k : ℕ) (bs : List NumberedBlock) → Pairwise (λ x y. x.number < y.number) bs → Each (λ b. (low ≤ b.number) × (b.number < low + k)) bs → Each (λ b. h b.number ≡ true) bs → length bs ≤ passing h low k
fewer h low zero [] p w t = omega arith
fewer h low zero (b ∷ bs) p w t = let i = w.0.0 in let j = w.0.1 in absurd (omega (arith, i, j))
fewer h low (suc k) [] p w t = omega arith
fewer h low (suc k) (b ∷ bs) p w t =
    go (nat_eq b.number low) refl
    (fewer h (low + 1) k bs p.1 (later low k b bs p.0 w.0.0 w.1) t.1)
    (λ g. fewer h (low + 1) k (b ∷ bs) p ((g, let j = w.0.1 in omega (arith, j)), later low k b bs p.0 w.0.0 w.1) t)
  where
    go : (c : Bool) → nat_eq b.number low ≡ c → length bs ≤ passing h (low + 1) k → (low + 1 ≤ b.number → length (b ∷ bs) ≤ passing h (low + 1) k) → length (b ∷ bs) ≤ cond (h low) 1 0 + passing h (low + 1) k
    go true e i j = let q : b.number ≡ low = grind (arith, nat_tests) in rw (ap h (sym q) ∙ t.0) (omega (arith, i))
    go false e i j =
        let g : low ≤ b.number = w.0.0 in
        let r = j (let n : (b.number ≡ low → ⊥) = λ z. apart z e in grind arith) in
        more (length (b ∷ bs)) (passing h (low + 1) k) (cond (h low) 1 0) r
      where
        apart : b.number ≡ low → nat_eq b.number low ≡ false → ⊥
        apart z f = grind (arith, nat_tests)

        more : (x y z : ℕ) → x ≤ y → x ≤ z + y
        more x y z r = omega arith

-- the lists of blocks, joined
abbrev pub each_joined : {A : Type 0} → (NumberedBlock → List A) → List NumberedBlock → List A
each_joined g [] = []
each_joined g (b ∷ bs) = g b ++ each_joined g bs

-- the lists of k numbers from low on, joined
abbrev pub joined_by : {A : Type 0} → (ℕ → List A) → ℕ → ℕ → List A
joined_by of low zero = []
joined_by of low (suc k) = of low ++ joined_by of (low + 1) k

rows-joined : (of : ℕ → List Row) (low k : ℕ) → joined of low k ≡ joined_by of low k
rows-joined of low zero = refl
rows-joined of low (suc k) = ap (λ rows. of low ++ rows) (rows-joined of (low + 1) k)

-- the lists of the numbers of a range, joined, are those of the blocks
pub walk : {A : Type 0} (f : ℕ → List A) (h : ℕ → Bool) (g : NumberedBlock → List A) (low k : ℕ) (bs : List NumberedBlock) → Pairwise (λ x y. x.number < y.number) bs → Each (λ b. (low ≤ b.number) × (b.number < low + k)) bs → Each (λ b. h b.number ≡ true) bs → length bs ≡ passing h low k → ((n : ℕ) → h n ≡ false → f n ≡ []) → Each (λ b. f b.number ≡ g b) bs → joined_by f low k ≡ each_joined g bs
walk f h g low zero [] p w t c none same = refl
walk f h g low zero (b ∷ bs) p w t c none same = let i = w.0.0 in let j = w.0.1 in absurd (omega (arith, i, j))
walk f h g low (suc k) [] p w t c none same = go (h low) refl c (walk f h g (low + 1) k [] tt tt tt)
  where
    go : (b : Bool) → h low ≡ b → 0 ≡ cond b 1 0 + passing h (low + 1) k → (0 ≡ passing h (low + 1) k → ((n : ℕ) → h n ≡ false → f n ≡ []) → Unit {0} → joined_by f (low + 1) k ≡ []) → f low ++ joined_by f (low + 1) k ≡ []
    go true e d i = absurd (omega (arith, d))
    go false e d i = rw (none low e) (i (omega (arith, d)) none tt)
walk f h g low (suc k) (b ∷ bs) p w t c none same =
    go (nat_eq b.number low) refl
    (λ d. walk f h g (low + 1) k bs p.1 (later low k b bs p.0 w.0.0 w.1) t.1 d none same.1)
    (λ v d. walk f h g (low + 1) k (b ∷ bs) p ((v, let j = w.0.1 in omega (arith, j)), later low k b bs p.0 w.0.0 w.1) t d none same)
    (λ v. fewer h (low + 1) k (b ∷ bs) p ((v, let j = w.0.1 in omega (arith, j)), later low k b bs p.0 w.0.0 w.1) t)
  where
    above : nat_eq b.number low ≡ false → low + 1 ≤ b.number
    above e = let v : low ≤ b.number = w.0.0 in grind (arith, nat_tests)

    go : (x : Bool) → nat_eq b.number low ≡ x → (length bs ≡ passing h (low + 1) k → joined_by f (low + 1) k ≡ each_joined g bs) → (low + 1 ≤ b.number → length (b ∷ bs) ≡ passing h (low + 1) k → joined_by f (low + 1) k ≡ each_joined g (b ∷ bs)) → (low + 1 ≤ b.number → length (b ∷ bs) ≤ passing h (low + 1) k) → f low ++ joined_by f (low + 1) k ≡ each_joined g (b ∷ bs)
    go true e i j m =
        let q : b.number ≡ low = grind (arith, nat_tests) in
        let d : length (b ∷ bs) ≡ 1 + passing h (low + 1) k = c ∙ ap (λ (x : Bool). cond x 1 0 + passing h (low + 1) k) (ap h (sym q) ∙ t.0) in
        ap (λ xs. xs ++ joined_by f (low + 1) k) (ap f (sym q) ∙ same.0) ∙ ap (λ xs. g b ++ xs) (i (omega (arith, d)))
    go false e i j m = passes (h low) refl
      where
        passes : (x : Bool) → h low ≡ x → f low ++ joined_by f (low + 1) k ≡ each_joined g (b ∷ bs)
        passes true y =
            let d : length (b ∷ bs) ≡ 1 + passing h (low + 1) k = c ∙ ap (λ (x : Bool). cond x 1 0 + passing h (low + 1) k) y in
            let r = m (above e) in
            absurd (omega (arith, d, r))
        passes false y =
            let d : length (b ∷ bs) ≡ 0 + passing h (low + 1) k = c ∙ ap (λ (x : Bool). cond x 1 0 + passing h (low + 1) k) y in
            ap (λ xs. xs ++ joined_by f (low + 1) k) (none low y) ∙ j (above e) (omega (arith, d))

lineage-joined : (ms : List Entry) (p : Option ℕ) (limit : ℕ) (bs : List NumberedBlock) → each_joined (mutated_rows ms p limit) bs ≡ lineage_rows ms p limit bs
lineage-joined ms p limit [] = refl
lineage-joined ms p limit (b ∷ bs) = ap (λ xs. mutated_rows ms p limit b ++ xs) (lineage-joined ms p limit bs)

pub Each-map : {A : Type 0} (P Q : A → Type 0) (xs : List A) → Each P xs → ((x : A) → Has xs x → P x → Q x) → Each Q xs
Each-map P Q xs h f = Each-all Q xs (λ x i. f x i (Each-at P xs x h i))

-- what a lineage tells is the content of its name
pub tells-content : (schema : Shape) (log : List Entry) → Lawful schema log → (e : Entry) (a : Name) (lineage : Lineage) (blocks : Blocks) → IsLineage e a lineage → ComesFrom log e a lineage → Each (λ b. blocks a.partition b.number ≡ b.rows) lineage.blocks → own_content schema lineage a ≡ content schema log blocks a
tells-content schema log l e a lineage blocks keeps comes agree =
    ap (in_key_order schema)
    (sym (lineage-joined lineage.mutations a.partition a.mutation lineage.blocks)
    ∙ sym (rows-joined (λ n. block_rows log blocks a.partition (λ k. nat_lt n k && nat_le k a.mutation) n) a.min (a.max + 1 - a.min)
    ∙ walk (λ n. block_rows log blocks a.partition (λ k. nat_lt n k && nat_le k a.mutation) n) (has_block log a.partition) (mutated_rows lineage.mutations a.partition a.mutation) a.min (a.max + 1 - a.min) lineage.blocks keeps.rising
    (Each-map (λ b. (a.min ≤ b.number) × (b.number ≤ a.max)) (λ b. (a.min ≤ b.number) × (b.number < a.min + (a.max + 1 - a.min))) lineage.blocks keeps.within (λ b i w. let x = w.0 in let y = w.1 in (x, omega (arith, x, y))))
    there
    (keeps.whole ∙ (told-count schema log e a l comes.made keeps.made ∙ count-passing schema log a l sized))
    (λ n f. ap (λ (x : Bool). cond x (filter_map (changed log a.partition (λ k. nat_lt n k && nat_le k a.mutation)) (blocks a.partition n)) []) f)
    (Each-map (λ b. h b ≡ true) (λ b. block_rows log blocks a.partition (λ k. nat_lt b.number k && nat_le k a.mutation) b.number ≡ mutated_rows lineage.mutations a.partition a.mutation b) lineage.blocks there one)))
  where
    h : NumberedBlock → Bool
    h b = has_block log a.partition b.number

    sized : a.min ≤ a.max
    sized = made-sized schema log a l (has-made log e a comes.made keeps.made)

    there : Each (λ b. has_block log a.partition b.number ≡ true) lineage.blocks
    there = Each-map (IsOf log a.partition) (λ b. has_block log a.partition b.number ≡ true) lineage.blocks comes.blocks (λ b i o. has-block-at log a.partition b.number b.digest (IsOf.source o) (IsOf.need o) (IsOf.entry o))

    one : (b : NumberedBlock) → Has lineage.blocks b → has_block log a.partition b.number ≡ true → block_rows log blocks a.partition (λ k. nat_lt b.number k && nat_le k a.mutation) b.number ≡ mutated_rows lineage.mutations a.partition a.mutation b
    one b i t =
        ap (λ (x : Bool). cond x (filter_map (changed log a.partition (λ k. nat_lt b.number k && nat_le k a.mutation)) (blocks a.partition b.number)) []) t
        ∙ (filter_map-same (changed log a.partition (λ k. nat_lt b.number k && nat_le k a.mutation)) (changed lineage.mutations a.partition (λ k. nat_lt b.number k && nat_le k a.mutation)) (λ r. told-mutations schema log lineage.mutations a.partition a.mutation b.number r l keeps.numbered comes.mutations keeps.upto) (blocks a.partition b.number)
        ∙ ap (filter_map (changed lineage.mutations a.partition (λ k. nat_lt b.number k && nat_le k a.mutation))) (Each-at (λ x. blocks a.partition x.number ≡ x.rows) lineage.blocks b agree i))

-- a log that has a lineage has it when it has grown
pub comes-more : (e : Entry) (log : List Entry) (by : Entry) (a : Name) (lineage : Lineage) → ComesFrom log by a lineage → ComesFrom (e ∷ log) by a lineage
comes-more e log by a lineage c = record {
  made = inr c.made;
  blocks = Each-map (IsOf log a.partition) (IsOf (e ∷ log) a.partition) lineage.blocks c.blocks (λ b i o. record { source = o.source; need = o.need; entry = inr o.entry });
  mutations = Each-map (Has log) (Has (e ∷ log)) lineage.mutations c.mutations (λ m i h. inr h);
}
