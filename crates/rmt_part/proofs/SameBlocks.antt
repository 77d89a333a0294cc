-- Parts of one name that were made in one log are of the same blocks.
use Rattle.std.proofs.Common.{◌≡◌, ℕ, ◌+◌, ◌-◌, ◌<◌, ◌≤◌, inl, inr, ◌&&◌, ◌||◌, Bool, true, false, cond, List, [], ◌∷◌, map, refl, sym, ap, subst, arith, ◌∙◌, nat_eq}
use Rattle.std.proofs.lemmas.Bool.Decides.{nat_tests}
use Rattle.std.specs.declared.option.Option.{Option}
use Rattle.rmt_values.specs.Rows.{Shape}
use Rattle.rmt_names.specs.Names.{Name, rank}
use Rattle.rmt_entries.specs.declared.entry.Entry.{Entry}
use Rattle.rmt_entries.specs.declared.entry.Entry.TheVariants.{Get, Merge, Mutate, Mutation, DropRange}
use Rattle.rmt_block.specs.Blocks.{BlockView, id_of}
use Rattle.rmt_block.specs.declared.block_id.BlockId.{BlockId}
use Rattle.rmt_granules.specs.Granules.{PartView as Data}
use Rattle.rmt_granules.specs.MadePart.{data_of}
use Rattle.rmt_model.specs.Words.{Has, Each, Pairwise}
use Rattle.rmt_model.specs.Lawful.{Used, Lawful, IsFresh}
use Rattle.rmt_model.specs.Content.{Blocks, has_block, content}
use Rattle.rmt_model.specs.Parts.{Lineage, IsLineage, ComesFrom, IsOf}
use Rattle.rmt_model.proofs.Lists.{Each-at, Each-all, rank-injective}
use Rattle.rmt_model.proofs.VersionLaws.{made-sized}
use Rattle.rmt_part.specs.Lineages.{AcceptedView, PartValue, IsGetOf, number_got, numbered, lineage_of, IsPart, IsOfLog}
use Rattle.rmt_part.proofs.LineageLaws.{has-made, has-block-at, told-count, count-passing, walk, joined_by, each_joined, Each-map, has-used}
use Rattle.rmt_part.proofs.PartLaws.{of-log-has, rows-content}

-- the number and the digest of the block that a log has at a number of p
abbrev got_at : List Entry → Option ℕ → ℕ → List (ℕ × List ℕ)
got_at [] p n = []
got_at (Get q m digest source need ∷ log) p n = cond (nat_eq (rank q) (rank p) && nat_eq m n) ((n, digest) ∷ []) (got_at log p n)
got_at (Merge new sources count ∷ log) p n = got_at log p n
got_at (Mutate old new upto count mcount ∷ log) p n = got_at log p n
got_at (Mutation id numbers command ∷ log) p n = got_at log p n
got_at (DropRange q m ∷ log) p n = got_at log p n

got-none : (log : List Entry) (p : Option ℕ) (n : ℕ) → has_block log p n ≡ false → got_at log p n ≡ []
got-none [] p n f = refl
got-none (Get q m digest source need ∷ log) p n f = go (nat_eq (rank q) (rank p) && nat_eq m n) f (got-none log p n)
  where
    go : (b : Bool) → (b || has_block log p n) ≡ false → (has_block log p n ≡ false → got_at log p n ≡ []) → cond b ((n, digest) ∷ []) (got_at log p n) ≡ []
    go true e h = absurd (cc)
    go false e h = h e
got-none (Merge new sources count ∷ log) p n f = got-none log p n f
got-none (Mutate old new upto count mcount ∷ log) p n f = got-none log p n f
got-none (Mutation id numbers command ∷ log) p n f = got-none log p n f
got-none (DropRange q m ∷ log) p n f = got-none log p n f

get-digest : (q p : Option ℕ) (m n : ℕ) (d c : List ℕ) (s t u v : ℕ) → Get q m d s u ≡ Get p n c t v → d ≡ c
get-digest q p m n d c s t u v e = cc

get-place : (q p : Option ℕ) (m n : ℕ) (d c : List ℕ) (s t u v : ℕ) → Get q m d s u ≡ Get p n c t v → (nat_eq (rank q) (rank p) && nat_eq m n) ≡ true
get-place q p m n d c s t u v e =
    let a : q ≡ p = cc in
    let b : m ≡ n = cc in
    let r : rank q ≡ rank p = ap rank a in
    grind (arith, nat_tests)

-- a lawful log has one block of a number
got-one : (schema : Shape) (log : List Entry) (p : Option ℕ) (n : ℕ) (c : List ℕ) (t v : ℕ) → Lawful schema log → Has log (Get p n c t v) → got_at log p n ≡ (n, c) ∷ []
got-one schema [] p n c t v l h = absurd h
got-one schema (Get q m d s u ∷ log) p n c t v l (inl e) =
    ap (λ b. cond b ((n, d) ∷ []) (got_at log p n)) (get-place q p m n d c s t u v e) ∙ ap (λ x. (n, x) ∷ []) (get-digest q p m n d c s t u v e)
got-one schema (Get q m d s u ∷ log) p n c t v l (inr h) = go (nat_eq (rank q) (rank p) && nat_eq m n) refl (got-one schema log p n c t v l.0 h)
  where
    go : (b : Bool) → (nat_eq (rank q) (rank p) && nat_eq m n) ≡ b → got_at log p n ≡ (n, c) ∷ [] → cond b ((n, d) ∷ []) (got_at log p n) ≡ (n, c) ∷ []
    go true e f =
        let r : rank q ≡ rank p = grind (arith, nat_tests) in
        let k : m ≡ n = grind (arith, nat_tests) in
        let used : Used log p n = has-used log (Get p n c t v) p n h (refl, refl) in
        absurd (IsFresh.unused l.1 (subst (λ (x : ℕ). Used log q x) (sym k) (subst (λ (x : Option ℕ). Used log x n) (sym (rank-injective q p r)) used)))
    go false e f = f
got-one schema (Merge new sources count ∷ log) p n c t v l (inl e) = absurd (cc)
got-one schema (Merge new sources count ∷ log) p n c t v l (inr h) = got-one schema log p n c t v l.0 h
got-one schema (Mutate old new upto count mcount ∷ log) p n c t v l (inl e) = absurd (cc)
got-one schema (Mutate old new upto count mcount ∷ log) p n c t v l (inr h) = got-one schema log p n c t v l.0 h
got-one schema (Mutation id numbers command ∷ log) p n c t v l (inl e) = absurd (cc)
got-one schema (Mutation id numbers command ∷ log) p n c t v l (inr h) = got-one schema log p n c t v l.0 h
got-one schema (DropRange q m ∷ log) p n c t v l (inl e) = absurd (cc)
got-one schema (DropRange q m ∷ log) p n c t v l (inr h) = got-one schema log p n c t v l.0 h

-- the numbers and the digests of a lineage are those of the log's blocks in the name's range
told-blocks : (schema : Shape) (log : List Entry) (e : Entry) (a : Name) (lineage : Lineage) → Lawful schema log → IsLineage e a lineage → ComesFrom log e a lineage
    → joined_by (got_at log a.partition) a.min (a.max + 1 - a.min) ≡ each_joined (λ b. (b.number, b.digest) ∷ []) lineage.blocks
told-blocks schema log e a lineage l keeps comes =
    walk (got_at log a.partition) (has_block log a.partition) (λ b. (b.number, b.digest) ∷ []) a.min (a.max + 1 - a.min) lineage.blocks keeps.rising
    (Each-map (λ b. (a.min ≤ b.number) × (b.number ≤ a.max)) (λ b. (a.min ≤ b.number) × (b.number < a.min + (a.max + 1 - a.min))) lineage.blocks keeps.within (λ b i w. let x = w.0 in let y = w.1 in (x, omega (arith, x, y))))
    (Each-map (IsOf log a.partition) (λ b. has_block log a.partition b.number ≡ true) lineage.blocks comes.blocks (λ b i o. has-block-at log a.partition b.number b.digest (IsOf.source o) (IsOf.need o) (IsOf.entry o)))
    (keeps.whole ∙ (told-count schema log e a l comes.made keeps.made ∙ count-passing schema log a l sized))
    (λ n f. got-none log a.partition n f)
    (Each-map (IsOf log a.partition) (λ b. got_at log a.partition b.number ≡ (b.number, b.digest) ∷ []) lineage.blocks comes.blocks (λ b i o. got-one schema log a.partition b.number b.digest (IsOf.source o) (IsOf.need o) l (IsOf.entry o)))
  where
    sized : a.min ≤ a.max
    sized = made-sized schema log a l (has-made log e a comes.made keeps.made)

-- the number and the digest of a block
abbrev label : AcceptedView → ℕ × List ℕ
label b = (number_got b.get.value, b.block.digest)

labels-joined : (bs : List AcceptedView) → each_joined (λ b. (b.number, b.digest) ∷ []) (map numbered bs) ≡ map label bs
labels-joined [] = refl
labels-joined (b ∷ bs) = ap (λ ls. label b ∷ ls) (labels-joined bs)

-- two parts of one name that were made in one log have the same numbers and digests
same-labels : (p q : PartValue) (log : List Entry) → IsPart p → IsPart q → Lawful p.schema log → IsOfLog log p → IsOfLog log q → p.name ≡ q.name → map label p.blocks ≡ map label q.blocks
same-labels p q log k m l o u e =
    sym (labels-joined p.blocks)
    ∙ (sym (told-blocks p.schema log p.made.value p.name (lineage_of p) l k.keeps (of-log-has p log k o))
    ∙ (ap (λ (a : Name). joined_by (got_at log a.partition) a.min (a.max + 1 - a.min)) e
    ∙ (told-blocks p.schema log q.made.value q.name (lineage_of q) l m.keeps (of-log-has q log m u)
    ∙ labels-joined q.blocks)))

-- the id of a block of p by its digest
abbrev id_by : Option ℕ → ℕ × List ℕ → BlockId
id_by p x = record { partition = p; digest = x.1 }

get-partition : (e : Entry) (p : Option ℕ) (b : BlockView) → IsGetOf e p b → b.partition ≡ p
get-partition (Get q n digest source need) p b g = g.1
get-partition (Merge new sources count) p b g = absurd g
get-partition (Mutate old new upto count mcount) p b g = absurd g
get-partition (Mutation id numbers command) p b g = absurd g
get-partition (DropRange q n) p b g = absurd g

ids-by : (p : Option ℕ) (bs : List AcceptedView) → Each (λ b. IsGetOf b.get.value p b.block) bs → map (λ b. id_of b.block) bs ≡ map (id_by p) (map label bs)
ids-by p [] g = refl
ids-by p (b ∷ bs) g = one (b.block.partition) (get-partition b.get.value p b.block g.0) ∙ ap (λ ids. id_by p (label b) ∷ ids) (ids-by p bs g.1)
  where
    one : (x : Option ℕ) → x ≡ p → id_of (record b.block { partition = x }) ∷ map (λ c. id_of c.block) bs ≡ id_by p (label b) ∷ map (λ c. id_of c.block) bs
    one x e = ap (λ (y : Option ℕ). record { partition = y; digest = b.block.digest } ∷ map (λ c. id_of c.block) bs) e

pub same-ids : (p q : PartValue) (log : List Entry) → IsPart p → IsPart q → Lawful p.schema log → IsOfLog log p → IsOfLog log q → p.name ≡ q.name → map (λ b. id_of b.block) p.blocks ≡ map (λ b. id_of b.block) q.blocks
same-ids p q log k m l o u e =
    ids-by p.name.partition p.blocks k.gets
    ∙ (ap (map (id_by p.name.partition)) (same-labels p q log k m l o u e)
    ∙ (ap (λ (a : Name). map (id_by a.partition) (map label q.blocks)) e
    ∙ sym (ids-by q.name.partition q.blocks m.gets)))

-- ---- the data

-- the rows of blocks by their numbers
abbrev rows_by : List AcceptedView → Blocks
rows_by [] p n = []
rows_by (b ∷ bs) p n = cond (nat_eq (number_got b.get.value) n) b.block.rows (rows_by bs p n)

-- what holds of images holds along the list
Each-along : {A B : Type 0} (f : A → B) (P : B → Type 0) (xs : List A) → Each P (map f xs) → Each (λ x. P (f x)) xs
Each-along f P [] h = tt
Each-along f P (x ∷ xs) h = (h.0, Each-along f P xs h.1)

Each-images : {A B : Type 0} (f : A → B) (P : B → Type 0) (xs : List A) → Each (λ x. P (f x)) xs → Each P (map f xs)
Each-images f P [] h = tt
Each-images f P (x ∷ xs) h = (h.0, Each-images f P xs h.1)

-- blocks with rising numbers are found by them
rows-found : (bs : List AcceptedView) (p : Option ℕ) → Pairwise (λ x y. x.number < y.number) (map numbered bs) → Each (λ b. rows_by bs p (number_got b.get.value) ≡ b.block.rows) bs
rows-found [] p r = tt
rows-found (b ∷ bs) p r = (
  ap (λ t. cond t b.block.rows (rows_by bs p (number_got b.get.value))) (same (number_got b.get.value)),
  Each-all (λ x. rows_by (b ∷ bs) p (number_got x.get.value) ≡ x.block.rows) bs (λ x h.
      let low = Each-at (λ y. number_got b.get.value < number_got y.get.value) bs x (Each-along numbered (λ y. number_got b.get.value < y.number) bs r.0) h in
      ap (λ t. cond t b.block.rows (rows_by bs p (number_got x.get.value))) (apart (number_got b.get.value) (number_got x.get.value) low)
      ∙ Each-at (λ y. rows_by bs p (number_got y.get.value) ≡ y.block.rows) bs x (rows-found bs p r.1) h),
)
  where
    same : (n : ℕ) → nat_eq n n ≡ true
    same n = grind (arith, nat_tests)

    apart : (m n : ℕ) → m < n → nat_eq m n ≡ false
    apart m n h = grind (arith, nat_tests)

-- a block and its number
abbrev placed : AcceptedView → ℕ × BlockView
placed b = (number_got b.get.value, b.block)

list-head : {A : Type 0} (x y : A) (xs ys : List A) → x ∷ xs ≡ y ∷ ys → x ≡ y
list-head x y xs ys e = cc

list-tail : {A : Type 0} (x y : A) (xs ys : List A) → x ∷ xs ≡ y ∷ ys → xs ≡ ys
list-tail x y xs ys e = cc

both : (bs cs : List AcceptedView) → map label bs ≡ map label cs → map (λ b. b.block) bs ≡ map (λ b. b.block) cs → map placed bs ≡ map placed cs
both [] [] e f = refl
both [] (c ∷ cs) e f = absurd (cc)
both (b ∷ bs) [] e f = absurd (cc)
both (b ∷ bs) (c ∷ cs) e f =
    one (number_got b.get.value) (number_got c.get.value) b.block c.block (ap (λ x. x.0) (list-head (label b) (label c) (map label bs) (map label cs) e)) (list-head b.block c.block (map (λ b. b.block) bs) (map (λ b. b.block) cs) f)
    ∙ ap (λ xs. placed c ∷ xs) (both bs cs (list-tail (label b) (label c) (map label bs) (map label cs) e) (list-tail b.block c.block (map (λ b. b.block) bs) (map (λ b. b.block) cs) f))
  where
    one : (m n : ℕ) (x y : BlockView) → m ≡ n → x ≡ y → ◌≡◌ {A = List (ℕ × BlockView)} ((m, x) ∷ map placed bs) ((n, y) ∷ map placed bs)
    one m n x y u v = cc

data-of-rows : (p : PartValue) → IsPart p → p.body ≡ data_of p.schema p.body.rows
data-of-rows p k = k.content ∙ ap (data_of p.schema) (sym (ap (λ (d : Data). d.rows) k.content))

-- two parts of one name of the same blocks have equal data
pub same-data : (p q : PartValue) (log : List Entry) → IsPart p → IsPart q → Lawful p.schema log → IsOfLog log p → IsOfLog log q → p.name ≡ q.name → p.schema ≡ q.schema → map (λ b. b.block) p.blocks ≡ map (λ b. b.block) q.blocks → p.body ≡ q.body
same-data p q log k m l o u e s f =
    data-of-rows p k ∙ (ap (data_of p.schema) rows ∙ (ap (λ (x : Shape). data_of x q.body.rows) s ∙ sym (data-of-rows q m)))
  where
    blocks : Blocks
    blocks = rows_by p.blocks

    found : Each (λ b. blocks p.name.partition (number_got b.get.value) ≡ b.block.rows) p.blocks
    found = rows-found p.blocks p.name.partition k.keeps.rising

    found-too : Each (λ b. blocks q.name.partition (number_got b.get.value) ≡ b.block.rows) q.blocks
    found-too = Each-along placed (λ x. blocks q.name.partition x.0 ≡ x.1.rows) q.blocks
        (subst (Each (λ x. blocks q.name.partition x.0 ≡ x.1.rows)) (both p.blocks q.blocks (same-labels p q log k m l o u e) f)
        (Each-images placed (λ x. blocks q.name.partition x.0 ≡ x.1.rows) p.blocks
        (subst (λ (a : Name). Each (λ b. blocks a.partition (number_got b.get.value) ≡ b.block.rows) p.blocks) e found)))

    rows : p.body.rows ≡ q.body.rows
    rows =
        rows-content p log blocks k l (of-log-has p log k o) found
        ∙ (ap (λ (a : Name). content p.schema log blocks a) e
        ∙ (ap (λ (x : Shape). content x log blocks q.name) s
        ∙ sym (rows-content q log blocks m (subst (λ (x : Shape). Lawful x log) s l) (of-log-has q log m u) found-too)))
