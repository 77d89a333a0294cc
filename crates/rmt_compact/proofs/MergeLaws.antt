-- A merge of sorted parts is the content of the merged name.
use Rattle.std.proofs.Common.{◌≡◌, ℕ, ◌<◌, ◌≤◌, ◌⊎◌, inl, inr, ◌&&◌, Bool, true, false, cond, List, [], ◌∷◌, ◌++◌, length, refl, sym, ap, subst, arith, ◌∙◌, nat_eq, nat_lt, nat_le, append_assoc, length-append}
use Rattle.std.proofs.lemmas.Bool.Decides.{nat_tests}
use Rattle.std.specs.declared.option.Option.{Option}
use Rattle.std.specs.declared.option.Option.TheVariants.{Some}
use Rattle.rmt_values.specs.Rows.{Shape, in_key_order, key_cmp}
use Rattle.rmt_values.specs.Order.{tally}
use Rattle.rmt_values.proofs.Totals.{key_cmp_total}
use Rattle.rmt_granules.proofs.StableOrder.{order-joined, order-twice}
use Rattle.rmt_names.specs.Names.{Name, rank, data_version, merged_name}
use Rattle.rmt_entries.specs.declared.entry.Entry.{Entry}
use Rattle.rmt_entries.specs.declared.entry.Entry.TheVariants.{Get, Merge, Mutate, Mutation, DropRange}
use Rattle.rmt_model.specs.Words.{Has, Each, Pairwise}
use Rattle.rmt_model.specs.Live.{Before}
use Rattle.rmt_model.specs.Laws.{MutatedAt}
use Rattle.rmt_model.specs.Lawful.{Used, Uses, AboveUsed, Meets, is_mutation, version_below, IsMutation, IsMutationWith, mutation_count, block_count, Merges, ver, Lawful}
use Rattle.rmt_model.specs.Content.{Row, changed}
use Rattle.rmt_model.specs.Parts.{NumberedBlock, PartView, mutated_rows, lineage_rows, AreNumbered, EndAt, IsLineage, ComesFrom, IsPartOf}
use Rattle.rmt_model.proofs.Lists.{Each-at, Each-all, Has-append}
use Rattle.rmt_model.proofs.LiveLaws.{Tight, tight, source-fits, sources-lined, merged-sized, highest-above, merged-covers}
use Rattle.rmt_model.proofs.VersionLaws.{highest-reached, below-limit, mutated-below}
use Rattle.rmt_laws.proofs.PlainRows.{of_name, tally-same, merged-total}
use Rattle.rmt_laws.proofs.TwoChanges.{changed-same, alone}
use Rattle.rmt_part.proofs.RowChanges.{filter_map-same}
use Rattle.rmt_part.proofs.LineageLaws.{id_told, id-below, told-mutations, told-count, count-passing, has-used}
use Rattle.rmt_compact.proofs.ToldParts.{told_names, blocks_in, most_mutations, merged_lineage, rows_in, Makes}

-- ---- the order of joined parts

order-parts : (schema : Shape) (xs xs' ys ys' : List Row) → in_key_order schema xs ≡ in_key_order schema xs' → in_key_order schema ys ≡ in_key_order schema ys' → in_key_order schema (xs ++ ys) ≡ in_key_order schema (xs' ++ ys')
unfolding in_key_order
order-parts schema xs xs' ys ys' e f = order-joined (key_cmp schema.key) (key_cmp_total schema.key) xs xs' ys ys' e f

pub order-again : (schema : Shape) (xs : List Row) → in_key_order schema (in_key_order schema xs) ≡ in_key_order schema xs
unfolding in_key_order
order-again schema xs = order-twice (key_cmp schema.key) (key_cmp_total schema.key) xs

lineage-append : (ms : List Entry) (p : Option ℕ) (limit : ℕ) (bs cs : List NumberedBlock) → lineage_rows ms p limit (bs ++ cs) ≡ lineage_rows ms p limit bs ++ lineage_rows ms p limit cs
lineage-append ms p limit [] cs = refl
lineage-append ms p limit (b ∷ bs) cs =
    ap (λ xs. mutated_rows ms p limit b ++ xs) (lineage-append ms p limit bs cs) ∙ sym (append_assoc (mutated_rows ms p limit b) (lineage_rows ms p limit bs) (lineage_rows ms p limit cs))

pub lineage-same : (ms ms' : List Entry) (p p' : Option ℕ) (limit limit' : ℕ) (bs : List NumberedBlock) → ((b : NumberedBlock) → Has bs b → mutated_rows ms p limit b ≡ mutated_rows ms' p' limit' b) → lineage_rows ms p limit bs ≡ lineage_rows ms' p' limit' bs
lineage-same ms ms' p p' limit limit' [] h = refl
lineage-same ms ms' p p' limit limit' (b ∷ bs) h =
    ap (λ xs. xs ++ lineage_rows ms p limit bs) (h b (inl refl)) ∙ ap (λ xs. mutated_rows ms' p' limit' b ++ xs) (lineage-same ms ms' p p' limit limit' bs (λ c i. h c (inr i)))

-- a block's rows by a lineage are its rows by the log
pub mutated-log : (schema : Shape) (log ms : List Entry) (p : Option ℕ) (limit : ℕ) (b : NumberedBlock) → Lawful schema log → AreNumbered ms → Each (Has log) ms → EndAt ms p limit → mutated_rows ms p limit b ≡ mutated_rows log p limit b
mutated-log schema log ms p limit b l n h e =
    filter_map-same (changed ms p (λ k. nat_lt b.number k && nat_le k limit)) (changed log p (λ k. nat_lt b.number k && nat_le k limit)) (λ r. sym (told-mutations schema log ms p limit b.number r l n h e)) b.rows

-- ---- the longest list of mutations

-- of two mutations of a lawful log the one with the lower id has the lower number
ids-rise : (schema : Shape) (log : List Entry) (p : Option ℕ) (x y : Entry) (j k : ℕ) → Lawful schema log → Has log x → Has log y → IsMutationWith (Some x) p j → IsMutationWith (Some y) p k → id_told x ≤ id_told y → j ≤ k
ids-rise schema [] p x y j k l h i u v g = absurd h
ids-rise schema (e ∷ log) p x y j k l (inr h) (inr i) u v g = ids-rise schema log p x y j k l.0 h i u v g
ids-rise schema (e ∷ log) p x y j k l (inl q) (inl r) u v g = newest e l.1 (subst (λ (z : Entry). IsMutationWith (Some z) p j) (sym q) u) (subst (λ (z : Entry). IsMutationWith (Some z) p k) (sym r) v)
  where
    newest : (e : Entry) → Meets schema log e → IsMutationWith (Some e) p j → IsMutationWith (Some e) p k → j ≤ k
    newest (Mutation id numbers command) m a b = let s = alone numbers p j k (IsMutation.rising m) a b in omega (arith, s)
    newest (Get q n digest source need) m a b = absurd a
    newest (Merge new sources count) m a b = absurd a
    newest (Mutate old new upto count mcount) m a b = absurd a
    newest (DropRange q n) m a b = absurd a
ids-rise schema (e ∷ log) p x y j k l (inr h) (inl r) u v g = newest e l.1 (subst (λ (z : Entry). IsMutationWith (Some z) p k) (sym r) v) (has-used log x p j h (uses x u))
  where
    uses : (x : Entry) → IsMutationWith (Some x) p j → Uses x p j
    uses (Mutation id numbers command) a = a
    uses (Get q n digest source need) a = absurd a
    uses (Merge new sources count) a = absurd a
    uses (Mutate old new upto count mcount) a = absurd a
    uses (DropRange q n) a = absurd a

    newest : (e : Entry) → Meets schema log e → IsMutationWith (Some e) p k → Used log p j → j ≤ k
    newest (Mutation id numbers command) m b d =
        let s = (Each-at (λ x. (1 ≤ x.1) × AboveUsed log x.0 x.1) numbers (p, k) (IsMutation.above m) b).1 j d in omega (arith, s)
    newest (Get q n digest source need) m b d = absurd b
    newest (Merge new sources count) m b d = absurd b
    newest (Mutate old new upto count mcount) m b d = absurd b
    newest (DropRange q n) m b d = absurd b
ids-rise schema (e ∷ log) p x y j k l (inl q) (inr i) u v g = absurd (newest e l.1 (subst (λ (z : Entry). IsMutationWith (Some z) p j) (sym q) u) (subst (λ (z : Entry). id_told z ≤ id_told y) (sym q) g))
  where
    below : id_told y < mutation_count log
    below = id-below schema log y l.0 i (is y v)
      where
        is : (y : Entry) → IsMutationWith (Some y) p k → is_mutation y ≡ true
        is (Mutation id numbers command) a = refl
        is (Get q n digest source need) a = absurd a
        is (Merge new sources count) a = absurd a
        is (Mutate old new upto count mcount) a = absurd a
        is (DropRange q n) a = absurd a

    newest : (e : Entry) → Meets schema log e → IsMutationWith (Some e) p j → id_told e ≤ id_told y → ⊥
    newest (Mutation id numbers command) m a d = let s = IsMutation.numbered m in let t = below in omega (arith, s, t, d)
    newest (Get q n digest source need) m a d = a
    newest (Merge new sources count) m a d = a
    newest (Mutate old new upto count mcount) m a d = a
    newest (DropRange q n) m a d = a

numbered-head : (e : Entry) (older : List Entry) → AreNumbered (e ∷ older) → id_told e ≡ length older
numbered-head (Mutation id numbers command) older n = n.0
numbered-head (Get q n digest source need) older a = absurd a
numbered-head (Merge new sources count) older a = absurd a
numbered-head (Mutate old new upto count mcount) older a = absurd a
numbered-head (DropRange q n) older a = absurd a

-- of two lists of first mutations the longer ends at the greater number
ends-greater : (schema : Shape) (log : List Entry) (p : Option ℕ) (ms ms' : List Entry) (j k : ℕ) → Lawful schema log → AreNumbered ms → AreNumbered ms' → Each (Has log) ms → Each (Has log) ms' → EndAt ms p j → EndAt ms' p k → length ms' ≤ length ms → j ≤ k → EndAt ms p k
ends-greater schema log p [] [] j k l n n' h h' e e' g le = e'
ends-greater schema log p [] (f ∷ ms') j k l n n' h h' e e' g le = absurd (omega (arith, g))
ends-greater schema log p (x ∷ ms) [] j k l n n' h h' e e' g le = subst (EndAt (x ∷ ms) p) (let q : j ≡ k = omega (arith, e', le) in q) e
ends-greater schema log p (x ∷ ms) (f ∷ ms') j k l n n' h h' e e' g le =
    let a = numbered-head x ms n in let b = numbered-head f ms' n' in
    let r = ids-rise schema log p f x k j l h'.0 h.0 e' e (omega (arith, a, b, g)) in
    subst (EndAt (x ∷ ms) p) (let q : j ≡ k = omega (arith, r, le) in q) e

most-longest : (parts : List PartView) (part : PartView) → Has parts part → length part.lineage.mutations ≤ length (most_mutations parts)
most-longest [] part h = absurd h
most-longest (x ∷ parts) part h = go (nat_le (length (most_mutations parts)) (length x.lineage.mutations)) refl h (most-longest parts part)
  where
    go : (b : Bool) → nat_le (length (most_mutations parts)) (length x.lineage.mutations) ≡ b → Has (x ∷ parts) part → (Has parts part → length part.lineage.mutations ≤ length (most_mutations parts)) → length part.lineage.mutations ≤ length (cond b x.lineage.mutations (most_mutations parts))
    go true e (inl q) f = let s = ap (λ (z : PartView). length z.lineage.mutations) q in omega (arith, s)
    go true e (inr i) f = let s = f i in grind (arith, nat_tests)
    go false e (inl q) f = let s = ap (λ (z : PartView). length z.lineage.mutations) q in grind (arith, nat_tests)
    go false e (inr i) f = f i

most-reached : (x : PartView) (parts : List PartView) → (part : PartView) × Has (x ∷ parts) part × (part.lineage.mutations ≡ most_mutations (x ∷ parts))
most-reached x [] = go (nat_le 0 (length x.lineage.mutations)) refl
  where
    go : (b : Bool) → nat_le 0 (length x.lineage.mutations) ≡ b → (part : PartView) × Has (x ∷ []) part × (part.lineage.mutations ≡ cond b x.lineage.mutations [])
    go true e = (x, inl refl, refl)
    go false e = absurd (grind (arith, nat_tests))
most-reached x (y ∷ parts) = go (most-reached y parts) (nat_le (length (most_mutations (y ∷ parts))) (length x.lineage.mutations))
  where
    go : (part : PartView) × Has (y ∷ parts) part × (part.lineage.mutations ≡ most_mutations (y ∷ parts)) → (b : Bool) → (part : PartView) × Has (x ∷ y ∷ parts) part × (part.lineage.mutations ≡ cond b x.lineage.mutations (most_mutations (y ∷ parts)))
    go r true = (x, inl refl, refl)
    go r false = (r.0, inr r.1, r.2)

-- ---- joined parts

pub name-in : (parts : List PartView) (part : PartView) → Has parts part → Has (told_names parts) part.name
name-in [] part h = absurd h
name-in (x ∷ parts) part (inl q) = inl (ap (λ z. z.name) q)
name-in (x ∷ parts) part (inr h) = inr (name-in parts part h)

part-of : (parts : List PartView) (a : Name) → Has (told_names parts) a → (part : PartView) × Has parts part × (part.name ≡ a)
part-of [] a h = absurd h
part-of (x ∷ parts) a (inl q) = (x, inl refl, q)
part-of (x ∷ parts) a (inr h) = let r = part-of parts a h in (r.0, inr r.1, r.2)

block-of : (parts : List PartView) (b : NumberedBlock) → Has (blocks_in parts) b → (part : PartView) × Has parts part × Has part.lineage.blocks b
block-of [] b h = absurd h
block-of (x ∷ parts) b h = go (Has-append x.lineage.blocks (blocks_in parts) b h) (block-of parts b)
  where
    go : Has x.lineage.blocks b ⊎ Has (blocks_in parts) b → (Has (blocks_in parts) b → (part : PartView) × Has parts part × Has part.lineage.blocks b) → (part : PartView) × Has (x ∷ parts) part × Has part.lineage.blocks b
    go (inl i) f = (x, inl refl, i)
    go (inr i) f = let r = f i in (r.0, inr r.1, r.2)

Pairwise-joined : {A : Type 0} (R : A → A → Type 0) (xs ys : List A) → Pairwise R xs → Pairwise R ys → ((x y : A) → Has xs x → Has ys y → R x y) → Pairwise R (xs ++ ys)
Pairwise-joined R [] ys p q f = q
Pairwise-joined R (x ∷ xs) ys p q f = (
  Each-all (R x) (xs ++ ys) (λ y h. elim (Has-append xs ys y h) [ inl i ↦ Each-at (R x) xs y p.0 i | inr i ↦ f x y (inl refl) i ]),
  Pairwise-joined R xs ys p.1 q (λ a b h i. f a b (inr h) i),
)

module _ (schema : Shape) (log : List Entry) where
  within-part : (parts : List PartView) → Each (IsPartOf schema log) parts → (part : PartView) (b : NumberedBlock) → Has parts part → Has part.lineage.blocks b → (part.name.min ≤ b.number) × (b.number ≤ part.name.max)
  within-part parts each part b h i =
      Each-at (λ b. (part.name.min ≤ b.number) × (b.number ≤ part.name.max)) part.lineage.blocks b (IsLineage.within (IsPartOf.keeps (Each-at (IsPartOf schema log) parts part each h))) i

  blocks-rise : (parts : List PartView) (p : Option ℕ) → Each (IsPartOf schema log) parts → Pairwise Before (told_names parts) → ((a : Name) → Has (told_names parts) a → a.partition ≡ p) → Pairwise (λ x y. x.number < y.number) (blocks_in parts)
  blocks-rise [] p each lined same = tt
  blocks-rise (x ∷ parts) p each lined same =
      Pairwise-joined (λ x y. x.number < y.number) x.lineage.blocks (blocks_in parts) each.0.keeps.rising (blocks-rise parts p each.1 lined.1 (λ a h. same a (inr h))) across
    where
      across : (b c : NumberedBlock) → Has x.lineage.blocks b → Has (blocks_in parts) c → b.number < c.number
      across b c h i =
          let r = block-of parts c i in
          let u = (within-part (x ∷ parts) each x b (inl refl) h).1 in
          let v = (within-part parts each.1 r.0 c r.1 r.2).0 in
          let k : Before x.name (PartView.name r.0) = Each-at (Before x.name) (told_names parts) (PartView.name r.0) lined.0 (name-in parts r.0 r.1) in
          let q : rank x.name.partition ≡ rank (PartView.name r.0).partition = ap rank (same x.name (inl refl) ∙ sym (same (PartView.name r.0) (inr (name-in parts r.0 r.1)))) in
          far x.name (PartView.name r.0) b.number c.number k q u v
        where
          far : (a d : Name) (m n : ℕ) → Before a d → rank a.partition ≡ rank d.partition → m ≤ a.max → d.min ≤ n → m < n
          far a d m n k q u v = grind arith

  blocks-count : (l : Lawful schema log) (parts : List PartView) → Each (IsPartOf schema log) parts → length (blocks_in parts) ≡ tally (block_count log) (told_names parts)
  blocks-count l [] each = refl
  blocks-count l (x ∷ parts) each =
      let a = length-append x.lineage.blocks (blocks_in parts) in
      let b = blocks-count l parts each.1 in
      let c = each.0.keeps.whole ∙ told-count schema log x.entry x.name l each.0.comes.made each.0.keeps.made in
      omega (arith, a, b, c)

  joined-order : (ms : List Entry) (p : Option ℕ) (limit : ℕ) (parts : List PartView) → ((part : PartView) → Has parts part → part.rows ≡ in_key_order schema (lineage_rows ms p limit part.lineage.blocks)) → in_key_order schema (rows_in parts) ≡ in_key_order schema (lineage_rows ms p limit (blocks_in parts))
  joined-order ms p limit [] same = refl
  joined-order ms p limit (x ∷ parts) same =
      order-parts schema x.rows (lineage_rows ms p limit x.lineage.blocks) (rows_in parts) (lineage_rows ms p limit (blocks_in parts))
      (ap (in_key_order schema) (same x (inl refl)) ∙ order-again schema (lineage_rows ms p limit x.lineage.blocks))
      (joined-order ms p limit parts (λ part h. same part (inr h)))
      ∙ ap (in_key_order schema) (sym (lineage-append ms p limit x.lineage.blocks (blocks_in parts)))

-- a merge of sorted parts is the content of the merged name
pub merge-tells : (schema : Shape) (log : List Entry) (new : Name) (count : ℕ) (parts : List PartView) → Lawful schema (Merge new (told_names parts) count ∷ log) → Each (IsPartOf schema log) parts → Makes schema (Merge new (told_names parts) count) new (merged_lineage parts) (in_key_order schema (rows_in parts))
merge-tells schema log new count [] l each = absurd l.1
merge-tells schema log new count (x ∷ []) l each = absurd l.1
merge-tells schema log new count (x ∷ y ∷ rest) l each =
    subst (λ (a : Name). Makes schema (Merge new (told_names (x ∷ y ∷ rest)) count) a (merged_lineage (x ∷ y ∷ rest)) (in_key_order schema (rows_in (x ∷ y ∷ rest)))) (sym m.name)
    (record {
      keeps = record {
        made = ap Some m.name;
        rising = blocks-rise schema log all p each lined (λ a h. (fits a h).0);
        within = Each-all (λ b. (merged.min ≤ b.number) × (b.number ≤ merged.max)) (blocks_in all) inside;
        whole = whole;
        numbered = numbered;
        upto = upto;
      };
      holds = joined-order schema log ms p merged.mutation all holds;
    })
  where
    m : Merges log x.name y.name (told_names rest) new count
    m = l.1

    all : List PartView
    all = x ∷ y ∷ rest

    names : List Name
    names = told_names all

    merged : Name
    merged = merged_name x.name (y.name ∷ told_names rest)

    p : Option ℕ
    p = x.name.partition

    ms : List Entry
    ms = most_mutations all

    t : Tight log
    t = tight schema log l.0

    lined : Pairwise Before (x.name ∷ y.name ∷ told_names rest)
    lined = sources-lined log t x.name y.name (told_names rest) new count m

    fits : (c : Name) → Has (x.name ∷ y.name ∷ told_names rest) c → (c.partition ≡ x.name.partition) × (c.min ≤ c.max)
    fits = source-fits log t x.name y.name (told_names rest) new count m

    part-at : (part : PartView) → Has all part → IsPartOf schema log part
    part-at part h = Each-at (IsPartOf schema log) all part each h

    inside : (b : NumberedBlock) → Has (blocks_in all) b → (merged.min ≤ b.number) × (b.number ≤ merged.max)
    inside b h =
        let r = block-of all b h in
        let w = within-part schema log all each r.0 b r.1 r.2 in
        let c = merged-covers x.name (y.name ∷ told_names rest) (PartView.name r.0) lined fits (name-in all r.0 r.1) in
        let i = w.0 in let j = w.1 in let u = c.min in let v = c.max in
        (omega (arith, i, u), omega (arith, j, v))

    one : Option ℕ → ℕ → ℕ
    one q n = 1

    whole : length (blocks_in all) ≡ count
    whole =
        let a = blocks-count schema log l.0 all each in
        let b = tally-same (of_name log one) (block_count log) names (λ c h. sym (count-passing schema log c l.0 (fits c h).1)) in
        let c = merged-total schema new x.name y.name (told_names rest) count log one l.0 m in
        let d = count-passing schema log merged l.0 (merged-sized log t x.name y.name (told_names rest) new count m) in
        let e = m.counted ∙ ap (block_count log) m.name in
        omega (arith, a, b, c, d, e)

    longest : (part : PartView) × Has all part × (part.lineage.mutations ≡ ms)
    longest = most-reached x (y ∷ rest)

    numbered : AreNumbered ms
    numbered = subst AreNumbered longest.2 (IsLineage.numbered (IsPartOf.keeps (part-at longest.0 longest.1)))

    come : Each (Has log) ms
    come = subst (Each (Has log)) longest.2 (ComesFrom.mutations (IsPartOf.comes (part-at longest.0 longest.1)))

    top : (c : Name) × Has names c × (c.mutation ≡ merged.mutation)
    top = highest-reached (λ c. c.mutation) x.name (y.name ∷ told_names rest)

    top-part : (part : PartView) × Has all part × (part.name ≡ top.0)
    top-part = part-of all top.0 top.1

    highest-one : (part : PartView) → Has all part → part.name.mutation ≤ merged.mutation
    highest-one part h = highest-above (λ c. c.mutation) x.name (y.name ∷ told_names rest) part.name (name-in all part h)

    end-of : (part : PartView) → Has all part → EndAt part.lineage.mutations p part.name.mutation
    end-of part h = subst (λ (q : Option ℕ). EndAt part.lineage.mutations q part.name.mutation) (fits part.name (name-in all part h)).0 (IsLineage.upto (IsPartOf.keeps (part-at part h)))

    upto : EndAt ms p merged.mutation
    upto =
        ends-greater schema log p ms (PartView.lineage top-part.0).mutations (PartView.name longest.0).mutation merged.mutation l.0 numbered (IsLineage.numbered (IsPartOf.keeps (part-at top-part.0 top-part.1))) come (ComesFrom.mutations (IsPartOf.comes (part-at top-part.0 top-part.1)))
        (subst (λ (es : List Entry). EndAt es p (PartView.name longest.0).mutation) longest.2 (end-of longest.0 longest.1))
        (subst (EndAt (PartView.lineage top-part.0).mutations p) (ap (λ c. c.mutation) top-part.2 ∙ top.2) (end-of top-part.0 top-part.1))
        (most-longest all top-part.0 top-part.1) (highest-one longest.0 longest.1)

    version : (c : Name) → Has names c → ver log c ≡ ver log x.name
    version c (inl q) = ap (ver log) (sym q)
    version c (inr h) = Each-at (λ c. ver log c ≡ ver log x.name) (y.name ∷ told_names rest) c m.version h

    -- each source has the mutations of the greatest number already
    agree : (part : PartView) → Has all part → (n : ℕ) → part.name.min ≤ n → (k : ℕ) → MutatedAt log p k → (nat_lt n k && nat_le k merged.mutation) ≡ (nat_lt n k && nat_le k part.name.mutation)
    agree part h n g k z =
        decide n k part.name.mutation merged.mutation part.name.min (data_version part.name) (data_version top.0) (highest-one part h) g (version-of part.name) (version-of-top)
        (λ q. let a = mutated-below log p k (data_version top.0) z q in
        let b = version top.0 top.1 ∙ sym (version part.name (name-in all part h)) in
        let c = below-limit log part.name.partition (data_version part.name) in
        let d = ap (λ (o : Option ℕ). version_below log o (data_version top.0)) (fits top.0 top.1).0 in
        omega (arith, a, b, c, d))
      where
        version-of : (a : Name) → ((a.mutation ≡ 0) × (data_version a ≡ a.min)) ⊎ (data_version a ≡ a.mutation)
        version-of a = go (nat_eq a.mutation 0) refl
          where
            go : (b : Bool) → nat_eq a.mutation 0 ≡ b → ((a.mutation ≡ 0) × (cond b a.min a.mutation ≡ a.min)) ⊎ (cond b a.min a.mutation ≡ a.mutation)
            go true e = inl (grind (arith, nat_tests), refl)
            go false e = inr refl

        version-of-top : (merged.mutation ≡ 0) ⊎ (data_version top.0 ≡ merged.mutation)
        version-of-top = elim (version-of top.0) [ inl e ↦ inl (sym top.2 ∙ e.0) | inr e ↦ inr (e ∙ top.2) ]

        decide : (n k own all low dv top : ℕ) → own ≤ all → low ≤ n → ((own ≡ 0) × (dv ≡ low)) ⊎ (dv ≡ own) → (all ≡ 0) ⊎ (top ≡ all) → (k ≤ top → k ≤ dv) → (nat_lt n k && nat_le k all) ≡ (nat_lt n k && nat_le k own)
        decide n k own all low dv top le g (inl a) (inl b) f = let i = a.0 in let j = a.1 in grind (arith, nat_tests)
        decide n k own all low dv top le g (inl a) (inr b) f = let i = a.0 in let j = a.1 in grind (arith, nat_tests)
        decide n k own all low dv top le g (inr a) (inl b) f = grind (arith, nat_tests)
        decide n k own all low dv top le g (inr a) (inr b) f = grind (arith, nat_tests)

    holds : (part : PartView) → Has all part → part.rows ≡ in_key_order schema (lineage_rows ms p merged.mutation part.lineage.blocks)
    holds part h =
        let is = part-at part h in
        is.holds
        ∙ ap (in_key_order schema)
        (lineage-same part.lineage.mutations ms part.name.partition p part.name.mutation merged.mutation part.lineage.blocks
        (λ b i. mutated-log schema log part.lineage.mutations part.name.partition part.name.mutation b l.0 is.keeps.numbered is.comes.mutations is.keeps.upto
        ∙ (ap (λ (o : Option ℕ). mutated_rows log o part.name.mutation b) (fits part.name (name-in all part h)).0
        ∙ (filter_map-same (changed log p (λ k. nat_lt b.number k && nat_le k part.name.mutation)) (changed log p (λ k. nat_lt b.number k && nat_le k merged.mutation))
        (λ r. changed-same log p (λ k. nat_lt b.number k && nat_le k part.name.mutation) (λ k. nat_lt b.number k && nat_le k merged.mutation) r (λ k z. sym (agree part h b.number (within-part schema log all each part b h i).0 k z))) b.rows
        ∙ sym (mutated-log schema log ms p merged.mutation b l.0 numbered come upto)))))

-- the sources of a merge are of the new name's partition
pub source-partition : (schema : Shape) (log : List Entry) (new : Name) (names : List Name) (count : ℕ) → Lawful schema (Merge new names count ∷ log) → (a : Name) → Has names a → a.partition ≡ new.partition
source-partition schema log new [] count l a h = absurd h
source-partition schema log new (x ∷ []) count l a h = absurd l.1
source-partition schema log new (x ∷ y ∷ rest) count l a h =
    (source-fits log (tight schema log l.0) x y rest new count l.1 a h).0 ∙ sym (ap (λ (b : Name). b.partition) (Merges.name l.1))
