-- What a part is after its pending mutations.
use Rattle.std.proofs.Common.{◌≡◌, ℕ, zero, suc, ◌+◌, ◌<◌, ◌≤◌, inr, Bool, true, false, cond, List, [], ◌∷◌, ◌++◌, map, length, take, slice_get, refl, sym, ap, subst, arith, ◌∙◌, append-nil, nat_eq, nat_lt, All, filter, IsSorted}
use Rattle.std.proofs.lemmas.Bool.Decides.{nat_tests}
use Rattle.std.proofs.lemmas.List.Sums.{sum_by-cons}
use Rattle.std.proofs.lemmas.List.Elements.{filter_map-append, All-cons}
use Rattle.std.specs.List.{filter_map, cons_option}
use Rattle.std.specs.declared.option.Option.{Option}
use Rattle.std.specs.declared.option.Option.TheVariants.{Some, None}
use Rattle.rmt_values.specs.Rows.{Shape, fits, key_cmp}
use Rattle.rmt_names.specs.Names.{Name, data_version}
use Rattle.rmt_entries.specs.Entries.{result_name}
use Rattle.rmt_entries.specs.declared.entry.Entry.{Entry}
use Rattle.rmt_entries.specs.declared.entry.Entry.TheVariants.{Get, Merge, Mutate, Mutation, DropRange}
use Rattle.rmt_row.specs.Token.{Token}
use Rattle.rmt_granules.specs.Granules.{PartView as Data}
use Rattle.rmt_granules.specs.MadePart.{data_of}
use Rattle.rmt_granules.proofs.MergeLemmas.{merged-sorted}
use Rattle.rmt_model.specs.Words.{Has, Each}
use Rattle.rmt_model.specs.Lawful.{Lawful, IsMutation, IsMutationWith, is_mutation, mutation_count, entry_at}
use Rattle.rmt_model.specs.Content.{Row, changed}
use Rattle.rmt_model.specs.Parts.{own_content, AreNumbered, EndAt, IsLineage, IsPartOf}
use Rattle.rmt_model.proofs.Lists.{Each-all, Has-filter}
use Rattle.rmt_model.proofs.Drops.{entry-below, entry-has}
use Rattle.rmt_history.specs.Copies.{History}
use Rattle.rmt_history.specs.Mutations.{first_entries, mutations_below, IsTokenBelow, AreTokensBelow}
use Rattle.rmt_changes.specs.Changes.{between, applied_all}
use Rattle.rmt_part.specs.Lineages.{AcceptedView, PartValue, IsGetOf, numbered, entries_of, lineage_of, IsPart}
use Rattle.rmt_part.proofs.RowChanges.{filter_map-same}
use Rattle.rmt_part.proofs.PartLaws.{of-log-has}
use Rattle.rmt_compact.specs.NewParts.{IsMutateOf, IsMutated}
use Rattle.rmt_compact.proofs.ToldParts.{told, Makes}
use Rattle.rmt_compact.proofs.MutateLaws.{mutate-tells, changed-fits, MutateLine, mutate-line, MutatePlaces, mutate-places}
use Rattle.rmt_compact.proofs.NewPartLemmas.{some-same, no-name}

-- ---- the first mutations of a log

whole-first : (log : List Entry) (i : ℕ) → length log ≤ i → first_entries log i ≡ log
whole-first [] i h = refl
whole-first (x ∷ log) i h =
    let b : nat_lt (length log) i ≡ true = grind (arith, nat_tests) in ap (λ (c : Bool). cond c (x ∷ log) (first_entries log i)) b

first-next : (log : List Entry) (i : ℕ) (e : Entry) → entry_at log i ≡ Some e → first_entries log (i + 1) ≡ e ∷ first_entries log i
first-next [] i e h = absurd (cc)
first-next (x ∷ log) i e h = go (nat_eq i (length log)) refl h (first-next log i e)
  where
    go : (b : Bool) → nat_eq i (length log) ≡ b → cond b (Some x) (entry_at log i) ≡ Some e → (entry_at log i ≡ Some e → first_entries log (i + 1) ≡ e ∷ first_entries log i) → first_entries (x ∷ log) (i + 1) ≡ e ∷ first_entries (x ∷ log) i
    go true q k f =
        let n : i ≡ length log = grind (arith, nat_tests) in
        let a : nat_lt (length log) (i + 1) ≡ true = grind (arith, nat_tests) in
        let b : nat_lt (length log) i ≡ false = grind (arith, nat_tests) in
        ap (λ (c : Bool). cond c (x ∷ log) (first_entries log (i + 1))) a
        ∙ (ap (λ (y : Entry). y ∷ log) (some-same x e k)
        ∙ ap (λ (l : List Entry). e ∷ l) (sym (whole-first log i (omega (arith, n))) ∙ sym (ap (λ (c : Bool). cond c (x ∷ log) (first_entries log i)) b)))
    go false q k f =
        let w : i < length log = entry-below log i e k in
        let a : nat_lt (length log) (i + 1) ≡ false = grind (arith, nat_tests) in
        let b : nat_lt (length log) i ≡ false = grind (arith, nat_tests) in
        ap (λ (c : Bool). cond c (x ∷ log) (first_entries log (i + 1))) a
        ∙ (f k ∙ ap (λ (l : List Entry). e ∷ l) (sym (ap (λ (c : Bool). cond c (x ∷ log) (first_entries log i)) b)))

below-more : (log : List Entry) (i : ℕ) (e : Entry) → entry_at log i ≡ Some e → is_mutation e ≡ true → mutations_below log (i + 1) ≡ e ∷ mutations_below log i
below-more log i e h m = ap (filter is_mutation) (first-next log i e h) ∙ ap (λ (c : Bool). cond c (e ∷ mutations_below log i) (mutations_below log i)) m

count-filter : (log : List Entry) → length (filter is_mutation log) ≡ mutation_count log
count-filter [] = refl
count-filter (e ∷ log) = go (is_mutation e) refl (count-filter log) (sum_by-cons (λ x. cond (is_mutation x) 1 0) e log)
  where
    go : (b : Bool) → is_mutation e ≡ b → length (filter is_mutation log) ≡ mutation_count log → mutation_count (e ∷ log) ≡ cond (is_mutation e) 1 0 + mutation_count log → length (cond b (e ∷ filter is_mutation log) (filter is_mutation log)) ≡ mutation_count (e ∷ log)
    go true q i s = let u : mutation_count (e ∷ log) ≡ 1 + mutation_count log = s ∙ ap (λ (c : Bool). cond c 1 0 + mutation_count log) q in omega (arith, i, u)
    go false q i s = let u : mutation_count (e ∷ log) ≡ 0 + mutation_count log = s ∙ ap (λ (c : Bool). cond c 1 0 + mutation_count log) q in omega (arith, i, u)

all-numbered : (schema : Shape) (log : List Entry) → Lawful schema log → AreNumbered (filter is_mutation log)
all-numbered schema [] l = tt
all-numbered schema (Mutation id numbers command ∷ log) l = (IsMutation.numbered l.1 ∙ sym (count-filter log), all-numbered schema log l.0)
all-numbered schema (Get p n digest source need ∷ log) l = all-numbered schema log l.0
all-numbered schema (Merge new sources count ∷ log) l = all-numbered schema log l.0
all-numbered schema (Mutate old new upto count mcount ∷ log) l = all-numbered schema log l.0
all-numbered schema (DropRange p n ∷ log) l = all-numbered schema log l.0

below-numbered : (schema : Shape) (log : List Entry) (i : ℕ) → Lawful schema log → AreNumbered (mutations_below log i)
below-numbered schema [] i l = tt
below-numbered schema (e ∷ log) i l = go (nat_lt (length log) i) (below-numbered schema log i l.0)
  where
    go : (b : Bool) → AreNumbered (mutations_below log i) → AreNumbered (filter is_mutation (cond b (e ∷ log) (first_entries log i)))
    go true r = all-numbered schema (e ∷ log) l
    go false r = r

first-has : (log : List Entry) (i : ℕ) (e : Entry) → Has (first_entries log i) e → Has log e
first-has [] i e h = h
first-has (x ∷ log) i e h = go (nat_lt (length log) i) h (first-has log i e)
  where
    go : (b : Bool) → Has (cond b (x ∷ log) (first_entries log i)) e → (Has (first_entries log i) e → Has log e) → Has (x ∷ log) e
    go true k f = k
    go false k f = inr (f k)

pub below-has : (log : List Entry) (i : ℕ) → Each (Has log) (mutations_below log i)
below-has log i = Each-all (Has log) (mutations_below log i) (λ e h. first-has log i e (Has-filter is_mutation (first_entries log i) e h).0)

-- ---- rows

pub rows-kept : (f : Row → Option Row) (rows out : List Row) (i : ℕ) (row new : Row) → out ≡ filter_map f (take i rows) → slice_get rows i ≡ Some row → Some new ≡ f row → out ++ new ∷ [] ≡ filter_map f (take (i + 1) rows)
rows-kept f rows out i row new e s g =
    ap (λ (l : List Row). l ++ new ∷ []) e
    ∙ (ap (λ (o : Option Row). filter_map f (take i rows) ++ cons_option o []) g
    ∙ (sym (filter_map-append f (take i rows) (row ∷ [])) ∙ ap (filter_map f) (sym (take-at rows i row s))))
  where
    take-at : (xs : List Row) (i : ℕ) (x : Row) → slice_get xs i ≡ Some x → take (i + 1) xs ≡ take i xs ++ x ∷ []
    take-at [] i x h = absurd (cc)
    take-at (y ∷ ys) zero x h = ap (λ (z : Row). z ∷ []) (some-same y x h)
    take-at (y ∷ ys) (suc i) x h = let n : suc i + 1 ≡ suc (i + 1) = omega arith in rw n (ap (λ (l : List Row). y ∷ l) (take-at ys i x h))

pub rows-dropped : (f : Row → Option Row) (rows out : List Row) (i : ℕ) (row : Row) → out ≡ filter_map f (take i rows) → slice_get rows i ≡ Some row → None ≡ f row → out ≡ filter_map f (take (i + 1) rows)
rows-dropped f rows out i row e s g =
    e
    ∙ (sym (append-nil (filter_map f (take i rows)))
    ∙ (ap (λ (o : Option Row). filter_map f (take i rows) ++ cons_option o []) g
    ∙ (sym (filter_map-append f (take i rows) (row ∷ [])) ∙ ap (filter_map f) (sym (take-at rows i row s)))))
  where
    take-at : (xs : List Row) (i : ℕ) (x : Row) → slice_get xs i ≡ Some x → take (i + 1) xs ≡ take i xs ++ x ∷ []
    take-at [] i x h = absurd (cc)
    take-at (y ∷ ys) zero x h = ap (λ (z : Row). z ∷ []) (some-same y x h)
    take-at (y ∷ ys) (suc i) x h = let n : suc i + 1 ≡ suc (i + 1) = omega arith in rw n (ap (λ (l : List Row). y ∷ l) (take-at ys i x h))

-- ---- the part of a Mutate

kept-fit : (P : Row → Type 0) (f : Row → Option Row) → ((row row' : Row) → f row ≡ Some row' → P row → P row') → (rows : List Row) → All P rows → All P (filter_map f rows)
kept-fit P f keeps [] h = h
kept-fit P f keeps (r ∷ rows) h = go (f r) refl (kept-fit P f keeps rows (λ k d l. h (suc k) d (omega (arith, l))))
  where
    go : (o : Option Row) → f r ≡ o → All P (filter_map f rows) → All P (cons_option o (filter_map f rows))
    go None e i = i
    go (Some r') e i = All-cons P r' (filter_map f rows) (keeps r r' e (h zero r (omega arith))) i

pub mutate-name : (token : Token Entry) (old : PartValue) (tokens : List (Token Entry)) → IsMutateOf token old tokens → result_name token.value ≡ None → ⊥
mutate-name token old tokens m h = no-name token.value (IsMutateOf.new m) (ap result_name (IsMutateOf.entry m)) h

with-mutation : (e : Entry) (p : Option ℕ) (n : ℕ) → IsMutationWith (Some e) p n → is_mutation e ≡ true
with-mutation (Mutation id numbers command) p n k = refl
with-mutation (Get q m digest source need) p n k = absurd k
with-mutation (Merge new sources count) p n k = absurd k
with-mutation (Mutate old new upto count mcount) p n k = absurd k
with-mutation (DropRange q m) p n k = absurd k

-- the mutations up to a mutation's place end at its number
ends-at : (log : List Entry) (i : ℕ) (p : Option ℕ) (n : ℕ) → IsMutationWith (entry_at log i) p n → (i < length log) × EndAt (mutations_below log (i + 1)) p n
ends-at log i p n h = go (entry_at log i) refl h
  where
    go : (o : Option Entry) → entry_at log i ≡ o → IsMutationWith o p n → (i < length log) × EndAt (mutations_below log (i + 1)) p n
    go None q k = absurd k
    go (Some e) q k = (entry-below log i e q, subst (λ (es : List Entry). EndAt es p n) (sym (below-more log i e q (with-mutation e p n k))) k)

-- for callers: up to the last one that a Mutate applies there is a mutation
pub has-mutations : (schema : Shape) (log : List Entry) (old new : Name) (upto count mcount : ℕ) → Lawful schema log → Has log (Mutate old new upto count mcount) → mutations_below log (upto + 1) ≡ [] → ⊥
has-mutations schema log old new upto count mcount l h none = go (entry_at log upto) refl (MutateLine.at m)
  where
    m : MutateLine log old new upto
    m = mutate-line schema log old new upto count mcount l h

    go : (o : Option Entry) → entry_at log upto ≡ o → IsMutationWith o old.partition (MutateLine.number m) → ⊥
    go None q k = absurd k
    go (Some e) q k = let s = below-more log upto e q (with-mutation e old.partition (MutateLine.number m) k) in absurd (cc)

line-of : (token : Token Entry) (old : PartValue) (tokens : List (Token Entry)) → (m : IsMutateOf token old tokens) → MutateLine m.copy.log old.name m.new m.upto
line-of token old tokens m = mutate-line m.copy.schema m.copy.log old.name m.new m.upto m.count m.mcount m.lawful (subst (Has m.copy.log) m.entry (entry-has m.copy.log token.place token.value m.stands))

-- what the Mutate brings up and what it applies come before it
places-of : (token : Token Entry) (old : PartValue) (tokens : List (Token Entry)) → (m : IsMutateOf token old tokens) → MutatePlaces m.copy.log token.place old.name m.upto
places-of token old tokens m = mutate-places m.copy.schema m.copy.log token.place old.name m.new m.upto m.count m.mcount m.lawful (subst (λ (e : Entry). entry_at m.copy.log token.place ≡ Some e) m.entry m.stands)

-- what the rows of a Mutate are
pub record AreMutated (token : Token Entry) (old : PartValue) (name : Name) (tokens : List (Token Entry)) (rows : List Row) : Type 0 where
  pub keeps : IsLineage token.value name (record { blocks = map numbered old.blocks; mutations = entries_of tokens })
  pub holds : rows ≡ own_content old.schema (record { blocks = map numbered old.blocks; mutations = entries_of tokens }) name
  pub fit : All (λ row. fits old.schema.columns row ≡ true) rows
  pub same : name.partition ≡ old.name.partition
  pub above : old.made.place < token.place

pub are-mutated : (token : Token Entry) (old : PartValue) (name : Name) (tokens : List (Token Entry)) (rows : List Row) → IsMutateOf token old tokens → IsPart old → result_name token.value ≡ Some name → rows ≡ filter_map (changed (entries_of tokens) name.partition (between (data_version old.name) name.mutation)) old.body.rows → AreMutated token old name tokens rows
are-mutated token old name tokens rows m is h rs = record {
  keeps = subst (λ (e : Entry). IsLineage e name (record { blocks = map numbered old.blocks; mutations = entries_of tokens })) (sym m.entry) (subst (λ (a : Name). IsLineage (Mutate old.name m.new m.upto m.count m.mcount) a (record { blocks = map numbered old.blocks; mutations = entries_of tokens })) named made.keeps);
  holds =
      rs
      ∙ (ap (λ (a : Name). filter_map (changed (entries_of tokens) a.partition (between (data_version old.name) a.mutation)) old.body.rows) (sym named)
      ∙ (made.holds ∙ (ap (λ (x : Shape). own_content x (record { blocks = map numbered old.blocks; mutations = entries_of tokens }) m.new) (sym m.schema) ∙ ap (own_content old.schema (record { blocks = map numbered old.blocks; mutations = entries_of tokens })) named)));
  fit = subst (All (λ row. fits old.schema.columns row ≡ true)) (sym rs) (kept-fit (λ row. fits old.schema.columns row ≡ true) (changed (entries_of tokens) name.partition (between (data_version old.name) name.mutation)) (λ row row' e f. subst (λ (x : Shape). fits x.columns row' ≡ true) (sym m.schema) (changed-fits m.copy.schema m.copy.log (entries_of tokens) name.partition (between (data_version old.name) name.mutation) row row' m.lawful come e (subst (λ (x : Shape). fits x.columns row ≡ true) m.schema f))) old.body.rows is.fit);
  same = ap (λ (a : Name). a.partition) (sym named ∙ line.name);
  above = places.maker old.made.place old.made.value m.of_log.made is.keeps.made;
}
  where
    named : IsMutateOf.new m ≡ name
    named = some-same (IsMutateOf.new m) name (sym (ap result_name (IsMutateOf.entry m)) ∙ h)

    below : entries_of tokens ≡ mutations_below (History.log (IsMutateOf.copy m)) (IsMutateOf.upto m + 1)
    below = AreTokensBelow.entries (IsMutateOf.below m)

    come : Each (Has (History.log (IsMutateOf.copy m))) (entries_of tokens)
    come = subst (Each (Has (History.log (IsMutateOf.copy m)))) (sym below) (below-has (History.log (IsMutateOf.copy m)) (IsMutateOf.upto m + 1))

    stands : Has (History.log (IsMutateOf.copy m)) (Mutate old.name (IsMutateOf.new m) (IsMutateOf.upto m) (IsMutateOf.count m) (IsMutateOf.mcount m))
    stands = subst (Has (History.log (IsMutateOf.copy m))) (IsMutateOf.entry m) (entry-has (History.log (IsMutateOf.copy m)) token.place token.value (IsMutateOf.stands m))

    places : MutatePlaces (History.log (IsMutateOf.copy m)) token.place old.name (IsMutateOf.upto m)
    places = places-of token old tokens m

    line : MutateLine (History.log (IsMutateOf.copy m)) old.name (IsMutateOf.new m) (IsMutateOf.upto m)
    line = line-of token old tokens m

    ends : EndAt (mutations_below (History.log (IsMutateOf.copy m)) (IsMutateOf.upto m + 1)) (Name.partition (IsMutateOf.new m)) (Name.mutation (IsMutateOf.new m))
    ends = subst (λ (a : Name). EndAt (mutations_below (History.log (IsMutateOf.copy m)) (IsMutateOf.upto m + 1)) a.partition a.mutation) (sym (MutateLine.name line)) (ends-at (History.log (IsMutateOf.copy m)) (IsMutateOf.upto m) old.name.partition (MutateLine.number line) (MutateLine.at line)).1

    part : IsPartOf (History.schema (IsMutateOf.copy m)) (History.log (IsMutateOf.copy m)) (told old)
    part = record {
      keeps = IsPart.keeps is;
      comes = of-log-has old (History.log (IsMutateOf.copy m)) is (IsMutateOf.of_log m);
      holds = ap (λ (d : Data). d.rows) (IsPart.content is) ∙ ap (λ (x : Shape). own_content x (lineage_of old) old.name) (IsMutateOf.schema m);
    }

    made : Makes (History.schema (IsMutateOf.copy m)) (Mutate old.name (IsMutateOf.new m) (IsMutateOf.upto m) (IsMutateOf.count m) (IsMutateOf.mcount m)) (IsMutateOf.new m) (record { blocks = map numbered old.blocks; mutations = entries_of tokens }) (filter_map (changed (entries_of tokens) (IsMutateOf.new m).partition (between (data_version old.name) (IsMutateOf.new m).mutation)) old.body.rows)
    made = mutate-tells (History.schema (IsMutateOf.copy m)) (History.log (IsMutateOf.copy m)) (IsMutateOf.lawful m) (IsMutateOf.new m) (IsMutateOf.upto m) (IsMutateOf.count m) (IsMutateOf.mcount m) (told old) (entries_of tokens) stands part
        (subst AreNumbered (sym below) (below-numbered (History.schema (IsMutateOf.copy m)) (History.log (IsMutateOf.copy m)) (IsMutateOf.upto m + 1) (IsMutateOf.lawful m))) come
        (subst (λ (es : List Entry). EndAt es (IsMutateOf.new m).partition (IsMutateOf.new m).mutation) (sym below) ends)

-- rows that are a content stand in order
pub mutated-sorted : (token : Token Entry) (old : PartValue) (name : Name) (tokens : List (Token Entry)) (rows : List Row) → AreMutated token old name tokens rows → IsSorted (key_cmp old.schema.key) rows
mutated-sorted token old name tokens rows a = subst (IsSorted (key_cmp old.schema.key)) (sym a.holds) (merged-sorted old.schema _)

pub mutated-part : (token : Token Entry) (old : PartValue) (name : Name) (tokens : List (Token Entry)) (rows : List Row) (shape : Shape) (body : Data) (blocks : List AcceptedView) → AreMutated token old name tokens rows → IsPart old → (m : IsMutateOf token old tokens) → shape ≡ old.schema → body ≡ data_of old.schema rows → blocks ≡ old.blocks → IsPart (record { schema = shape; name = name; body = body; made = token; blocks = blocks; mutations = tokens })
mutated-part token old name tokens rows shape body blocks a is m s d bs =
    subst (λ (x : Shape). IsPart (record { schema = x; name = name; body = body; made = token; blocks = blocks; mutations = tokens })) (sym s)
    (subst (λ (l : List AcceptedView). IsPart (record { schema = old.schema; name = name; body = body; made = token; blocks = l; mutations = tokens })) (sym bs)
    (record {
      gets = subst (λ (o : Option ℕ). Each (λ b. IsGetOf b.get.value o b.block) old.blocks) (sym a.same) is.gets;
      keeps = a.keeps;
      content = d ∙ ap (data_of old.schema) a.holds;
      fit = subst (λ (x : Data). All (λ row. fits old.schema.columns row ≡ true) x.rows) (sym d) a.fit;
      earlier = early old.blocks is.earlier;
      before = below tokens m.below.places;
    }))
  where
    early : (xs : List AcceptedView) → Each (λ b. b.get.place ≤ old.made.place) xs → Each (λ b. b.get.place ≤ token.place) xs
    early [] f = tt
    early (b ∷ xs) f = ((let i = f.0 in let j = AreMutated.above a in omega (arith, i, j)), early xs f.1)

    below : (xs : List (Token Entry)) → Each (IsTokenBelow (IsMutateOf.copy m) (IsMutateOf.upto m + 1)) xs → Each (λ t. t.place < token.place) xs
    below [] f = tt
    below (t ∷ xs) f = ((let i = f.0.below in let j = MutatePlaces.upto (places-of token old tokens m) in omega (arith, i, j)), below xs f.1)

-- what the part is, by what went into it
pub is-mutated : (token : Token Entry) (old : PartValue) (part : PartValue) (shape : Shape) (name : Name) (body : Data) (blocks : List AcceptedView) (wanted tokens : List (Token Entry)) → part ≡ record { schema = shape; name = name; body = body; made = token; blocks = blocks; mutations = tokens } → shape ≡ old.schema → result_name token.value ≡ Some name → blocks ≡ old.blocks → tokens ≡ wanted → IsMutated token old wanted part
is-mutated token old part shape name body blocks wanted tokens e s h bs ts = subst (IsMutated token old wanted) (sym e) (record { schema = s; named = h; made = refl; blocks = bs; mutations = ts })

-- ---- what calls tell

-- the rows after the mutations of tokens, in other words
pub rows-told : (rows old old' : List Row) (all all' : List (Token Entry)) (p p' : Option ℕ) (l l' h h' : ℕ) → rows ≡ filter_map (changed (entries_of all) p (between l h)) old → all ≡ all' → p ≡ p' → l ≡ l' → h ≡ h' → old ≡ old' → rows ≡ filter_map (changed (entries_of all') p' (between l' h')) old'
rows-told rows old old' all all' p p' l l' h h' e a q m n d = cc

-- the rows after the commands of the tokens that are due are those after all
pub due-rows : (rows old new : List Row) (due all : List (Token Entry)) (p : Option ℕ) (t : ℕ → Bool) → ((row : Row) → applied_all (entries_of due) row ≡ changed (entries_of all) p t row)
    → new ≡ filter_map (applied_all (entries_of due)) rows → rows ≡ old → new ≡ filter_map (changed (entries_of all) p t) old
due-rows rows old new due all p t f e r = e ∙ (filter_map-same (applied_all (entries_of due)) (changed (entries_of all) p t) f rows ∙ ap (filter_map (changed (entries_of all) p t)) r)
