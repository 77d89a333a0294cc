-- Parts and the logs that have their entries.
use Rattle.std.proofs.Common.{◌≡◌, ℕ, ◌<◌, ◌≤◌, ◌⊎◌, inl, inr, List, [], ◌∷◌, ◌++◌, map, reverse, length, refl, sym, ap, subst, arith, ◌∙◌, length-append, Bool, false, cond, nat_eq}
use Rattle.std.proofs.lemmas.Bool.Decides.{nat_tests}
use Rattle.std.proofs.lemmas.List.{reverse-append}
use Rattle.std.specs.declared.option.Option.{Option}
use Rattle.std.specs.declared.option.Option.TheVariants.{Some}
use Rattle.rmt_entries.specs.declared.entry.Entry.{Entry}
use Rattle.rmt_entries.specs.declared.entry.Entry.TheVariants.{Get, Merge, Mutate, Mutation, DropRange}
use Rattle.rmt_row.specs.Token.{Token}
use Rattle.rmt_block.specs.Blocks.{BlockView}
use Rattle.rmt_granules.specs.Granules.{PartView as Data}
use Rattle.rmt_model.specs.Words.{Has, Each}
use Rattle.rmt_model.specs.Lawful.{entry_at, IsPrefix, Lawful}
use Rattle.rmt_model.specs.Content.{Blocks, content}
use Rattle.rmt_model.specs.Parts.{NumberedBlock, IsOf}
use Rattle.rmt_model.proofs.Lists.{Each-at, Each-all, Has-append}
use Rattle.rmt_model.proofs.Drops.{entry-has, entry-older}
use Rattle.rmt_part.specs.Lineages.{PartValue, IsGetOf, number_got, numbered, entries_of, lineage_of, IsPart, StandsIn, IsOfLog, AgreesWith, IsOfTable, HasEntries, AgreeOn}
use Rattle.rmt_part.proofs.LineageLaws.{tells-content}

Each-both : {A : Type 0} (P Q R : A → Type 0) (xs : List A) → Each P xs → Each Q xs → ((x : A) → P x → Q x → R x) → Each R xs
Each-both P Q R [] p q f = tt
Each-both P Q R (x ∷ xs) p q f = (f x p.0 q.0, Each-both P Q R xs p.1 q.1 f)

Each-mapped : {A B : Type 0} (P : B → Type 0) (f : A → B) (xs : List A) → Each (λ x. P (f x)) xs → Each P (map f xs)
Each-mapped P f [] h = tt
Each-mapped P f (x ∷ xs) h = (h.0, Each-mapped P f xs h.1)

Has-reverse : {A : Type 0} (xs : List A) (x : A) → Has (reverse xs) x → Has xs x
Has-reverse [] x h = absurd h
Has-reverse {A} (y ∷ xs) x h = go (Has-append (reverse xs) (y ∷ []) x (subst (λ (l : List A). Has l x) (reverse-append (y ∷ []) xs) h)) (Has-reverse xs x)
  where
    go : Has (reverse xs) x ⊎ Has (y ∷ []) x → (Has (reverse xs) x → Has xs x) → Has (y ∷ xs) x
    go (inl k) f = inr (f k)
    go (inr (inl e)) f = inl e
    go (inr (inr k)) f = absurd k

-- what holds of each token's entry holds of each of their entries
pub Each-entries : (P : Entry → Type 0) (tokens : List (Token Entry)) → Each (λ t. P t.value) tokens → Each P (entries_of tokens)
Each-entries P tokens h =
    let m : Each P (map (λ t. t.value) tokens) = Each-mapped P (λ (t : Token Entry). t.value) tokens h in
    Each-all P (entries_of tokens) (λ x k. Each-at P (map (λ t. t.value) tokens) x m (Has-reverse (map (λ t. t.value) tokens) x k))

-- ---- the content

pub rows-content : (part : PartValue) (log : List Entry) (blocks : Blocks) → IsPart part → Lawful part.schema log → HasEntries log part → AgreeOn blocks part → part.body.rows ≡ content part.schema log blocks part.name
rows-content part log blocks is l has agree =
    ap (λ (d : Data). d.rows) is.content
    ∙ tells-content part.schema log l part.made.value part.name (lineage_of part) blocks is.keeps has
    (Each-mapped (λ (b : NumberedBlock). blocks part.name.partition b.number ≡ b.rows) numbered part.blocks agree)

-- ---- the entries of a log

-- a Get that stands in a log is one of its block
got : (log : List Entry) (p : Option ℕ) (e : Entry) (b : BlockView) → IsGetOf e p b → Has log e → IsOf log p (record { number = number_got e; digest = b.digest; rows = b.rows })
got log p (Get q n digest source need) b g h = record {
  source = source;
  need = need;
  entry = subst (λ (o : Option ℕ). Has log (Get o n b.digest source need)) g.0 (subst (λ (d : List ℕ). Has log (Get q n d source need)) g.2 h);
}
got log p (Merge new sources count) b g h = absurd g
got log p (Mutate old new upto count mcount) b g h = absurd g
got log p (Mutation id numbers command) b g h = absurd g
got log p (DropRange q n) b g h = absurd g

pub of-log-has : (part : PartValue) (log : List Entry) → IsPart part → IsOfLog log part → HasEntries log part
of-log-has part log is o = record {
  made = entry-has log part.made.place part.made.value o.made;
  blocks = Each-mapped (IsOf log part.name.partition) numbered part.blocks
      (Each-both (λ b. IsGetOf b.get.value part.name.partition b.block) (λ b. StandsIn log b.get) (λ b. IsOf log part.name.partition (numbered b)) part.blocks is.gets o.blocks
      (λ b g s. got log part.name.partition b.get.value b.block g (entry-has log b.get.place b.get.value s)));
  mutations = Each-entries (Has log) part.mutations
      (Each-both (StandsIn log) (StandsIn log) (λ t. Has log t.value) part.mutations o.mutations o.mutations (λ t s r. entry-has log t.place t.value s));
}

pub of-log-more : (part : PartValue) (log : List Entry) (e : Entry) → IsOfLog log part → IsOfLog (e ∷ log) part
of-log-more part log e o = record {
  made = entry-older e log part.made.place part.made.value o.made;
  blocks = Each-both (λ b. StandsIn log b.get) (λ b. StandsIn log b.get) (λ b. StandsIn (e ∷ log) b.get) part.blocks o.blocks o.blocks (λ b s r. entry-older e log b.get.place b.get.value s);
  mutations = Each-both (StandsIn log) (StandsIn log) (StandsIn (e ∷ log)) part.mutations o.mutations o.mutations (λ t s r. entry-older e log t.place t.value s);
}

pub of-log-longer : (part : PartValue) (shorter longer : List Entry) → IsPrefix shorter longer → IsOfLog shorter part → IsOfLog longer part
of-log-longer part shorter longer p o = subst (λ (l : List Entry). IsOfLog l part) (sym (IsPrefix.is p)) (all (IsPrefix.gained p))
  where
    all : (gained : List Entry) → IsOfLog (gained ++ shorter) part
    all [] = o
    all (e ∷ gained) = of-log-more part (gained ++ shorter) e (all gained)

-- ---- what lies before the part's own entry

earlier-place : (i j n : ℕ) → i ≤ j → j < n → i < n
earlier-place i j n h k = omega arith

later-place : (i j n : ℕ) → i < j → j < n → i < n
later-place i j n h k = omega arith

pub of-table-within : (part : PartValue) (log : List Entry) → IsPart part → IsOfTable log part → part.made.place < length log → IsOfLog log part
of-table-within part log is o w = record {
  made = o.made w;
  blocks = Each-both (λ b. b.get.place ≤ part.made.place) (λ b. AgreesWith log b.get) (λ b. StandsIn log b.get) part.blocks is.earlier o.blocks (λ b i f. f (earlier-place b.get.place part.made.place (length log) i w));
  mutations = Each-both (λ t. t.place < part.made.place) (AgreesWith log) (StandsIn log) part.mutations is.before o.mutations (λ t i f. f (later-place t.place part.made.place (length log) i w));
}

-- the entry at a place of a prefix
within-prefix : (gained log : List Entry) (i : ℕ) → i < length log → entry_at (gained ++ log) i ≡ entry_at log i
within-prefix [] log i h = refl
within-prefix (e ∷ gained) log i h =
    let n = length-append gained log in
    let f : nat_eq i (length (gained ++ log)) ≡ false = apart (length (gained ++ log)) (omega (arith, n, h)) in
    ap (λ (b : Bool). cond b (Some e) (entry_at (gained ++ log) i)) f ∙ within-prefix gained log i h
  where
    apart : (n : ℕ) → i < n → nat_eq i n ≡ false
    apart n h = grind (arith, nat_tests)

pub of-log-prefix : (part : PartValue) (copy longer : List Entry) → IsPart part → IsPrefix copy longer → part.made.place < length copy → IsOfLog longer part → IsOfLog copy part
of-log-prefix part copy longer is p w o = record {
  made = stands part.made w o.made;
  blocks = Each-both (λ b. b.get.place ≤ part.made.place) (λ b. StandsIn longer b.get) (λ b. StandsIn copy b.get) part.blocks is.earlier o.blocks (λ b i s. stands b.get (earlier-place b.get.place part.made.place (length copy) i w) s);
  mutations = Each-both (λ t. t.place < part.made.place) (StandsIn longer) (StandsIn copy) part.mutations is.before o.mutations (λ t i s. stands t (later-place t.place part.made.place (length copy) i w) s);
}
  where
    stands : (t : Token Entry) → t.place < length copy → StandsIn longer t → StandsIn copy t
    stands t h s = sym (within-prefix (IsPrefix.gained p) copy t.place h) ∙ (sym (ap (λ (l : List Entry). entry_at l t.place) (IsPrefix.is p)) ∙ s)
