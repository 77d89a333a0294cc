-- What is made of a block and of other parts is a part.
use Rattle.std.proofs.Common.{◌≡◌, ℕ, zero, suc, ◌<◌, ◌≤◌, inl, inr, Bool, true, false, cond, List, [], ◌∷◌, ◌++◌, map, length, slice_get, refl, sym, ap, subst, arith, ◌∙◌, append-nil, nat_le, All}
use Rattle.std.proofs.lemmas.List.{length-map, length-reverse}
use Rattle.std.specs.List.{filter_map}
use Rattle.std.specs.declared.option.Option.{Option}
use Rattle.std.specs.declared.option.Option.TheVariants.{Some, None}
use Rattle.rmt_values.specs.Rows.{Shape, fits, key_cmp, in_key_order}
use Rattle.rmt_granules.proofs.StableOrder.{All-ordered}
use Rattle.rmt_names.specs.Names.{Name, block_name}
use Rattle.rmt_entries.specs.Entries.{result_name}
use Rattle.rmt_entries.specs.declared.entry.Entry.{Entry}
use Rattle.rmt_entries.specs.declared.entry.Entry.TheVariants.{Get, Merge, Mutate, Mutation, DropRange}
use Rattle.rmt_row.specs.Token.{Token}
use Rattle.rmt_block.specs.Blocks.{BlockView}
use Rattle.rmt_granules.specs.Granules.{PartView as Data}
use Rattle.rmt_granules.specs.MadePart.{data_of}
use Rattle.rmt_granules.specs.MergedData.{rows_joined, IsDataOf, AreDataOf}
use Rattle.rmt_granules.proofs.MergeLemmas.{merged-fit}
use Rattle.rmt_model.specs.Words.{Has, Each}
use Rattle.rmt_model.specs.Lawful.{Lawful}
use Rattle.rmt_model.specs.Content.{Row}
use Rattle.rmt_model.specs.Parts.{NumberedBlock, Lineage, own_content, IsLineage, IsPartOf}
use Rattle.rmt_model.proofs.Drops.{entry-below}
use Rattle.rmt_part.specs.Lineages.{AcceptedView, PartValue, IsGetOf, numbered, entries_of, lineage_of, IsPart, StandsIn, IsOfLog}
use Rattle.rmt_part.proofs.PartLaws.{of-log-has}
use Rattle.rmt_compact.specs.NewParts.{GetsBlock, names_of, blocks_joined, most_tokens, bodies_of, IsMergeOf, IsMerged}
use Rattle.rmt_compact.proofs.ToldParts.{told, told_names, blocks_in, most_mutations, merged_lineage, rows_in, Makes}
use Rattle.rmt_compact.proofs.MergeLaws.{merge-tells, order-again, source-partition}

pub some-same : {A : Type 0} (a b : A) → ◌≡◌ {A = Option A} (Some a) (Some b) → a ≡ b
some-same a b e = cc

pub no-name : (e : Entry) (a : Name) → result_name e ≡ Some a → result_name e ≡ None → ⊥
no-name e a h i = absurd (let s = sym h ∙ i in cc)

-- ---- a block

unchanged-rows : (rows : List Row) → filter_map (λ r. Some r) rows ≡ rows
unchanged-rows [] = refl
unchanged-rows (r ∷ rows) = ap (λ (l : List Row). r ∷ l) (unchanged-rows rows)

pub block-name : (e : Entry) (b : BlockView) → GetsBlock e b → result_name e ≡ None → ⊥
block-name (Get p n digest source need) b g h = absurd (cc)
block-name (Merge new sources count) b g h = absurd g
block-name (Mutate old new upto count mcount) b g h = absurd g
block-name (Mutation id numbers command) b g h = absurd g
block-name (DropRange p n) b g h = absurd g

ordered-fit : (shape : Shape) (rows : List Row) → All (λ row. fits shape.columns row ≡ true) rows → All (λ row. fits shape.columns row ≡ true) (in_key_order shape rows)
unfolding in_key_order
ordered-fit shape rows h = All-ordered (key_cmp shape.key) (λ row. fits shape.columns row ≡ true) rows h

-- a block's part
pub block-part : (shape : Shape) (token : Token Entry) (b : BlockView) (name : Name) (body : Data) (blocks : List AcceptedView) (tokens : List (Token Entry)) → GetsBlock token.value b → All (λ row. fits shape.columns row ≡ true) b.rows → result_name token.value ≡ Some name → body ≡ data_of shape (in_key_order shape b.rows) → blocks ≡ record { get = token; block = b } ∷ [] → tokens ≡ [] → IsPart (record { schema = shape; name = name; body = body; made = token; blocks = blocks; mutations = tokens })
block-part shape token b name body blocks tokens g f h d bs ts =
    subst (λ (l : List AcceptedView). IsPart (record { schema = shape; name = name; body = body; made = token; blocks = l; mutations = tokens })) (sym bs)
    (subst (λ (l : List (Token Entry)). IsPart (record { schema = shape; name = name; body = body; made = token; blocks = record { get = token; block = b } ∷ []; mutations = l })) (sym ts)
    (subst (λ (x : Data). IsPart (record { schema = shape; name = name; body = x; made = token; blocks = record { get = token; block = b } ∷ []; mutations = [] })) (sym d) (of token.value g h)))
  where
    of : (e : Entry) → GetsBlock e b → result_name e ≡ Some name → IsPart (record { schema = shape; name = name; body = data_of shape (in_key_order shape b.rows); made = record { place = token.place; value = e; cell = token.cell }; blocks = record { get = record { place = token.place; value = e; cell = token.cell }; block = b } ∷ []; mutations = [] })
    of (Get p n digest source need) g h =
        let s : block_name p n ≡ name = some-same (block_name p n) name h in
        subst (λ (a : Name). IsPart (record { schema = shape; name = a; body = data_of shape (in_key_order shape b.rows); made = record { place = token.place; value = Get p n digest source need; cell = token.cell }; blocks = record { get = record { place = token.place; value = Get p n digest source need; cell = token.cell }; block = b } ∷ []; mutations = [] })) s
        (record {
          gets = ((refl, sym g.0, g.1), tt);
          keeps = record { made = refl; rising = (tt, tt); within = ((omega arith, omega arith), tt); whole = refl; numbered = tt; upto = refl };
          content = ap (data_of shape) (ap (in_key_order shape) (sym (append-nil (filter_map (λ r. Some r) b.rows) ∙ unchanged-rows b.rows)));
          fit = ordered-fit shape b.rows f;
          earlier = (omega arith, tt);
          before = tt;
        })
    of (Merge new sources count) g h = absurd g
    of (Mutate old new upto count mcount) g h = absurd g
    of (Mutation id numbers command) g h = absurd g
    of (DropRange p n) g h = absurd g

-- ---- a merge

pub some-parts : (token : Token Entry) (parts : List PartValue) → IsMergeOf token parts → 0 < length parts
some-parts token [] m = absurd ((IsMergeOf.lawful m).1)
some-parts token (p ∷ parts) m = omega arith

pub merge-name : (token : Token Entry) (parts : List PartValue) → IsMergeOf token parts → result_name token.value ≡ None → ⊥
merge-name token parts m h = no-name token.value (IsMergeOf.new m) (ap result_name (IsMergeOf.entry m)) h

pub each-slice : {A : Type 0} (P : A → Type 0) (xs : List A) (i : ℕ) (x : A) → Each P xs → slice_get xs i ≡ Some x → P x
each-slice P [] i x h e = absurd (cc)
each-slice P (y ∷ ys) zero x h e = subst P (some-same y x e) h.0
each-slice P (y ∷ ys) (suc i) x h e = each-slice P ys i x h.1 e

-- parts of one schema have data of that schema
pub part-data : (shape : Shape) (part : PartValue) → IsPart part → part.schema ≡ shape → IsDataOf shape part.body
part-data shape part is s =
    let rows : part.body.rows ≡ own_content part.schema (lineage_of part) part.name = ap (λ (d : Data). d.rows) is.content in
    subst (λ (x : Shape). IsDataOf x part.body) s
    (record {
      is = is.content ∙ ap (data_of part.schema) (sym rows);
      fit = is.fit;
      ordered = ap (in_key_order part.schema) rows ∙ (order-again part.schema _ ∙ sym rows);
    })

pub all-data : (shape : Shape) (parts : List PartValue) → Each IsPart parts → Each (λ p. p.schema ≡ shape) parts → AreDataOf shape (bodies_of parts)
all-data shape [] is s = tt
all-data shape (p ∷ parts) is s = (part-data shape p is.0 s.0, all-data shape parts is.1 s.1)

joined-rows : (parts : List PartValue) → rows_in (map told parts) ≡ rows_joined (bodies_of parts)
joined-rows [] = refl
joined-rows (p ∷ parts) = ap (λ (l : List Row). p.body.rows ++ l) (joined-rows parts)

numbered-append : (xs ys : List AcceptedView) → map numbered (xs ++ ys) ≡ map numbered xs ++ map numbered ys
numbered-append [] ys = refl
numbered-append (x ∷ xs) ys = ap (λ (l : List NumberedBlock). numbered x ∷ l) (numbered-append xs ys)

joined-blocks : (parts : List PartValue) → blocks_in (map told parts) ≡ map numbered (blocks_joined parts)
joined-blocks [] = refl
joined-blocks (p ∷ parts) = ap (λ (l : List NumberedBlock). map numbered p.blocks ++ l) (joined-blocks parts) ∙ sym (numbered-append p.blocks (blocks_joined parts))

length-entries : (tokens : List (Token Entry)) → length (entries_of tokens) ≡ length tokens
length-entries tokens = length-reverse (map (λ t. t.value) tokens) ∙ length-map tokens (λ t. t.value)

joined-mutations : (parts : List PartValue) → most_mutations (map told parts) ≡ entries_of (most_tokens parts)
joined-mutations [] = refl
joined-mutations (p ∷ parts) =
    let ih = joined-mutations parts in
    ap (λ (es : List Entry). cond (nat_le (length es) (length (entries_of p.mutations))) (entries_of p.mutations) es) ih
    ∙ (ap (λ n. cond (nat_le n (length (entries_of p.mutations))) (entries_of p.mutations) (entries_of (most_tokens parts))) (length-entries (most_tokens parts))
    ∙ (ap (λ n. cond (nat_le (length (most_tokens parts)) n) (entries_of p.mutations) (entries_of (most_tokens parts))) (length-entries p.mutations)
    ∙ go (nat_le (length (most_tokens parts)) (length p.mutations))))
  where
    go : (b : Bool) → cond b (entries_of p.mutations) (entries_of (most_tokens parts)) ≡ entries_of (cond b p.mutations (most_tokens parts))
    go true = refl
    go false = refl

names-told : (parts : List PartValue) → told_names (map told parts) ≡ names_of parts
names-told [] = refl
names-told (p ∷ parts) = ap (λ (l : List Name). p.name ∷ l) (names-told parts)

told-parts : (shape : Shape) (log : List Entry) (parts : List PartValue) → Each IsPart parts → Each (λ p. p.schema ≡ shape) parts → Each (IsOfLog log) parts → Each (IsPartOf shape log) (map told parts)
told-parts shape log [] is s c = tt
told-parts shape log (p ∷ parts) is s c = (
  record {
    keeps = is.0.keeps;
    comes = of-log-has p log is.0 c.0;
    holds = ap (λ (d : Data). d.rows) is.0.content ∙ ap (λ (x : Shape). own_content x (lineage_of p) p.name) s.0;
  },
  told-parts shape log parts is.1 s.1 c.1,
)

pub Each-append : {A : Type 0} (P : A → Type 0) (xs ys : List A) → Each P xs → Each P ys → Each P (xs ++ ys)
Each-append P [] ys f g = g
Each-append P (x ∷ xs) ys f g = (f.0, Each-append P xs ys f.1 g)

-- the entries of a log's parts lie in the log
joined-earlier : (log : List Entry) (n : ℕ) (parts : List PartValue) → n ≡ length log → Each (IsOfLog log) parts → Each (λ b. b.get.place ≤ n) (blocks_joined parts)
joined-earlier log n [] e c = tt
joined-earlier log n (p ∷ parts) e c = Each-append (λ b. b.get.place ≤ n) p.blocks (blocks_joined parts) (own p.blocks c.0.blocks) (joined-earlier log n parts e c.1)
  where
    own : (bs : List AcceptedView) → Each (λ b. StandsIn log b.get) bs → Each (λ b. b.get.place ≤ n) bs
    own [] f = tt
    own (b ∷ bs) f = ((let i = entry-below log b.get.place b.get.value f.0 in omega (arith, i, e)), own bs f.1)

most-before : (log : List Entry) (n : ℕ) (parts : List PartValue) → n ≡ length log → Each (IsOfLog log) parts → Each (λ t. t.place < n) (most_tokens parts)
most-before log n [] e c = tt
most-before log n (p ∷ parts) e c = go (nat_le (length (most_tokens parts)) (length p.mutations)) (own p.mutations c.0.mutations) (most-before log n parts e c.1)
  where
    own : (ts : List (Token Entry)) → Each (StandsIn log) ts → Each (λ t. t.place < n) ts
    own [] f = tt
    own (t ∷ ts) f = ((let i = entry-below log t.place t.value f.0 in omega (arith, i, e)), own ts f.1)

    go : (b : Bool) → Each (λ t. t.place < n) p.mutations → Each (λ t. t.place < n) (most_tokens parts) → Each (λ t. t.place < n) (cond b p.mutations (most_tokens parts))
    go true f g = f
    go false f g = g

joined-gets : (q : Option ℕ) (parts : List PartValue) → Each IsPart parts → ((p : PartValue) → Has parts p → p.name.partition ≡ q) → Each (λ b. IsGetOf b.get.value q b.block) (blocks_joined parts)
joined-gets q [] is same = tt
joined-gets q (p ∷ parts) is same =
    Each-append (λ b. IsGetOf b.get.value q b.block) p.blocks (blocks_joined parts) (subst (λ (o : Option ℕ). Each (λ b. IsGetOf b.get.value o b.block) p.blocks) (same p (inl refl)) is.0.gets) (joined-gets q parts is.1 (λ x h. same x (inr h)))

name-has : (parts : List PartValue) (p : PartValue) → Has parts p → Has (names_of parts) p.name
name-has [] p h = absurd h
name-has (x ∷ parts) p (inl e) = inl (ap (λ (y : PartValue). y.name) e)
name-has (x ∷ parts) p (inr h) = inr (name-has parts p h)

-- the part of a merge
pub merged-part : (token : Token Entry) (parts : List PartValue) (shape : Shape) (name : Name) (body : Data) (blocks : List AcceptedView) (tokens : List (Token Entry)) → (m : IsMergeOf token parts) → Each IsPart parts → shape ≡ m.schema → result_name token.value ≡ Some name → body ≡ data_of shape (in_key_order shape (rows_joined (bodies_of parts))) → blocks ≡ blocks_joined parts → tokens ≡ most_tokens parts → IsPart (record { schema = shape; name = name; body = body; made = token; blocks = blocks; mutations = tokens })
merged-part token parts shape name body blocks tokens m is s h d bs ts =
    subst (λ (x : Shape). IsPart (record { schema = x; name = name; body = body; made = token; blocks = blocks; mutations = tokens })) (sym s)
    (record {
      gets = subst (λ (l : List AcceptedView). Each (λ b. IsGetOf b.get.value name.partition b.block) l) (sym bs) (joined-gets name.partition parts is (λ p i. source-partition m.schema m.log m.new (names_of parts) m.count m.lawful p.name (name-has parts p i) ∙ ap (λ (a : Name). a.partition) named));
      keeps = subst (λ (e : Entry). IsLineage e name (record { blocks = map numbered blocks; mutations = entries_of tokens })) (sym m.entry) (subst (λ (l : Lineage). IsLineage (Merge m.new (names_of parts) m.count) name l) lineage (subst (λ (a : Name). IsLineage (Merge m.new (names_of parts) m.count) a (merged_lineage (map told parts))) named made.keeps));
      content = content;
      fit = subst (λ (x : Data). All (λ row. fits m.schema.columns row ≡ true) x.rows) (sym (d ∙ ap (λ (x : Shape). data_of x (in_key_order x (rows_joined (bodies_of parts)))) s)) (merged-fit m.schema (bodies_of parts) (all-data m.schema parts is m.schemas));
      earlier = subst (λ (l : List AcceptedView). Each (λ b. b.get.place ≤ token.place) l) (sym bs) (joined-earlier m.log token.place parts m.place m.of_log);
      before = subst (λ (l : List (Token Entry)). Each (λ t. t.place < token.place) l) (sym ts) (most-before m.log token.place parts m.place m.of_log);
    })
  where
    made : Makes (IsMergeOf.schema m) (Merge (IsMergeOf.new m) (names_of parts) (IsMergeOf.count m)) (IsMergeOf.new m) (merged_lineage (map told parts)) (in_key_order (IsMergeOf.schema m) (rows_in (map told parts)))
    made =
        subst (λ (names : List Name). Makes (IsMergeOf.schema m) (Merge (IsMergeOf.new m) names (IsMergeOf.count m)) (IsMergeOf.new m) (merged_lineage (map told parts)) (in_key_order (IsMergeOf.schema m) (rows_in (map told parts)))) (names-told parts)
        (merge-tells (IsMergeOf.schema m) (IsMergeOf.log m) (IsMergeOf.new m) (IsMergeOf.count m) (map told parts)
        (subst (λ (names : List Name). Lawful (IsMergeOf.schema m) (Merge (IsMergeOf.new m) names (IsMergeOf.count m) ∷ IsMergeOf.log m)) (sym (names-told parts)) (IsMergeOf.lawful m))
        (told-parts (IsMergeOf.schema m) (IsMergeOf.log m) parts is (IsMergeOf.schemas m) (IsMergeOf.of_log m)))

    named : IsMergeOf.new m ≡ name
    named = some-same (IsMergeOf.new m) name (sym (ap result_name (IsMergeOf.entry m)) ∙ h)

    lineage : merged_lineage (map told parts) ≡ record { blocks = map numbered blocks; mutations = entries_of tokens }
    lineage =
        ap (λ (l : List NumberedBlock). record { blocks = l; mutations = most_mutations (map told parts) }) (joined-blocks parts ∙ ap (map numbered) (sym bs))
        ∙ ap (λ (es : List Entry). record { blocks = map numbered blocks; mutations = es }) (joined-mutations parts ∙ ap entries_of (sym ts))

    content : body ≡ data_of (IsMergeOf.schema m) (own_content (IsMergeOf.schema m) (record { blocks = map numbered blocks; mutations = entries_of tokens }) name)
    content =
        d
        ∙ (ap (λ (x : Shape). data_of x (in_key_order x (rows_joined (bodies_of parts)))) s
        ∙ ap (data_of (IsMergeOf.schema m))
        (ap (in_key_order (IsMergeOf.schema m)) (sym (joined-rows parts))
        ∙ (made.holds
        ∙ (ap (own_content (IsMergeOf.schema m) (merged_lineage (map told parts))) named
        ∙ ap (λ (l : Lineage). own_content (IsMergeOf.schema m) l name) lineage))))

-- what the part is, by what went into it
pub is-merged : (token : Token Entry) (parts : List PartValue) (part : PartValue) (shape : Shape) (name : Name) (body : Data) (blocks : List AcceptedView) (tokens : List (Token Entry)) → (m : IsMergeOf token parts) → part ≡ record { schema = shape; name = name; body = body; made = token; blocks = blocks; mutations = tokens } → shape ≡ m.schema → result_name token.value ≡ Some name → blocks ≡ blocks_joined parts → tokens ≡ most_tokens parts → IsMerged token parts part
is-merged token parts part shape name body blocks tokens m e s h bs ts =
    subst (IsMerged token parts) (sym e)
    (record { schemas = subst (λ (x : Shape). Each (λ p. p.schema ≡ x) parts) (sym s) m.schemas; named = h; made = refl; blocks = bs; mutations = ts })
