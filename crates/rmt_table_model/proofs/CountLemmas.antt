-- The counts that entries record: of the blocks in a part, and of the mutations up to a place.
use Rattle.std.proofs.Common.{◌≡◌, ℕ, ◌+◌, ◌<◌, ◌≤◌, inl, inr, ◌&&◌, Bool, true, false, cond, not, List, [], ◌∷◌, length, refl, sym, ap, subst, arith, ◌∙◌, nat_eq, nat_le}
use Rattle.std.proofs.lemmas.Bool.Decides.{nat_tests}
use Rattle.std.proofs.lemmas.List.Sums.{sum_by-cons}
use Rattle.std.specs.declared.option.Option.{Option}
use Rattle.std.specs.declared.option.Option.TheVariants.{Some}
use Rattle.rmt_values.specs.declared.checked_mutation.CheckedMutation.{CheckedMutation}
use Rattle.rmt_values.specs.Rows.{Shape}
use Rattle.rmt_names.specs.Names.{Name, Spans, rank, block_name, merged_name}
use Rattle.rmt_entries.specs.Entries.{result_name}
use Rattle.rmt_entries.specs.declared.entry.Entry.{Entry}
use Rattle.rmt_entries.specs.declared.entry.Entry.TheVariants.{Get, Merge, Mutate, Mutation, DropRange}
use Rattle.rmt_model.specs.Words.{Has, Pairwise}
use Rattle.rmt_model.specs.Live.{Before, live, made, made_with, in_drop}
use Rattle.rmt_model.specs.Lawful.{Used, AboveDrops, DropIn, entry_at, gets_block_of, block_count, is_mutation, mutation_count, mutations_through, IsFresh, Merges, IsMutate, IsMutation, Meets, Lawful}
use Rattle.rmt_model.specs.Laws.{Supersedes}
use Rattle.rmt_model.proofs.Lists.{Has-filter, Each-at, rank-injective}
use Rattle.rmt_model.proofs.LiveLaws.{Has-placed, later-covers, Tight, tight, blocks-live-once, is-source, source-live, sources-lined, source-fits, merged-covers}
use Rattle.rmt_model.proofs.Drops.{entry-cases, entry-below, entry-made}
use Rattle.rmt_values.specs.Order.{tally}
use Rattle.rmt_table_model.specs.Counts.{recorded}

-- no name is made twice
not-twice : (schema : Shape) (x : Entry) (log : List Entry) (a : Name) → Lawful schema (x ∷ log) → result_name x ≡ Some a → Has (made log) a → ⊥
not-twice schema x log a l m h =
    let p = subst (λ (o : Option Name). Pairwise Supersedes (made_with o (made log))) m (later-covers schema (x ∷ log) l) in
    (Each-at (Supersedes a) (made log) a p.0 h).differ refl

count-next : (a : Name) (e : Entry) (log : List Entry) → block_count (e ∷ log) a ≡ cond (gets_block_of a e) 1 0 + block_count log a
count-next a e log = sum_by-cons (λ x. cond (gets_block_of a x) 1 0) e log

count-same : (a : Name) (e : Entry) (log : List Entry) → gets_block_of a e ≡ false → block_count (e ∷ log) a ≡ block_count log a
count-same a e log h = count-next a e log ∙ ap (λ (b : Bool). cond b 1 0 + block_count log a) h ∙ omega arith

count-more : (a : Name) (e : Entry) (log : List Entry) → gets_block_of a e ≡ true → block_count (e ∷ log) a ≡ 1 + block_count log a
count-more a e log h = count-next a e log ∙ ap (λ (b : Bool). cond b 1 0 + block_count log a) h

-- the test on a block of the log
hits : Option ℕ → ℕ → Name → Bool
hits p n a = nat_eq (rank p) (rank a.partition) && nat_le a.min n && nat_le n a.max

hits-true : (p : Option ℕ) (n : ℕ) (a : Name) → hits p n a ≡ true → Spans a p n
unfolding hits
hits-true p n a h = record { partition = sym (rank-injective p a.partition (grind (arith, nat_tests))); low = grind (arith, nat_tests); high = grind (arith, nat_tests) }

hits-false : (p : Option ℕ) (n : ℕ) (a : Name) → hits p n a ≡ false → Spans a p n → ⊥
unfolding hits
hits-false p n a h s = let q : rank p ≡ rank a.partition = ap rank (sym s.partition) in let b = s.low in let c = s.high in grind (arith, nat_tests)

hits-is : (p : Option ℕ) (n : ℕ) (a : Name) → Spans a p n → hits p n a ≡ true
hits-is p n a s = go (hits p n a) refl
  where
    go : (b : Bool) → hits p n a ≡ b → b ≡ true
    go true e = refl
    go false e = absurd (hits-false p n a e s)

misses : (p : Option ℕ) (n : ℕ) (a : Name) → (Spans a p n → ⊥) → hits p n a ≡ false
misses p n a out = go (hits p n a) refl
  where
    go : (b : Bool) → hits p n a ≡ b → b ≡ false
    go true e = absurd (out (hits-true p n a e))
    go false e = refl

-- a range that has no used number has no block
no-blocks : (log : List Entry) (a : Name) → ((m : ℕ) → Used log a.partition m → a.min ≤ m → m ≤ a.max → ⊥) → block_count log a ≡ 0
unfolding hits
no-blocks [] a f = refl
no-blocks (Get p n digest source need ∷ log) a f =
    count-same a (Get p n digest source need) log (misses p n a (λ s. f n (inl (sym s.partition, refl)) s.low s.high)) ∙ no-blocks log a (λ m u. f m (inr u))
no-blocks (Merge new sources count ∷ log) a f = count-same a (Merge new sources count) log refl ∙ no-blocks log a (λ m u. f m (inr u))
no-blocks (Mutate old new upto count mcount ∷ log) a f = count-same a (Mutate old new upto count mcount) log refl ∙ no-blocks log a (λ m u. f m (inr u))
no-blocks (Mutation id numbers command ∷ log) a f = count-same a (Mutation id numbers command) log refl ∙ no-blocks log a (λ m u. f m (inr u))
no-blocks (DropRange p n ∷ log) a f = count-same a (DropRange p n) log refl ∙ no-blocks log a (λ m u. f m (inr u))

-- a mutated part has the blocks that it had
count-mutated : (log : List Entry) (old : Name) (number : ℕ) → block_count log (record old { mutation = number }) ≡ block_count log old
count-mutated [] old number = refl
count-mutated (Get p n digest source need ∷ log) old number =
    count-next (record old { mutation = number }) (Get p n digest source need) log
    ∙ ap (λ (k : ℕ). cond (gets_block_of old (Get p n digest source need)) 1 0 + k) (count-mutated log old number)
    ∙ sym (count-next old (Get p n digest source need) log)
count-mutated (Merge new sources count ∷ log) old number = count-same (record old { mutation = number }) (Merge new sources count) log refl ∙ count-mutated log old number ∙ sym (count-same old (Merge new sources count) log refl)
count-mutated (Mutate o new upto count mcount ∷ log) old number = count-same (record old { mutation = number }) (Mutate o new upto count mcount) log refl ∙ count-mutated log old number ∙ sym (count-same old (Mutate o new upto count mcount) log refl)
count-mutated (Mutation id numbers command ∷ log) old number = count-same (record old { mutation = number }) (Mutation id numbers command) log refl ∙ count-mutated log old number ∙ sym (count-same old (Mutation id numbers command) log refl)
count-mutated (DropRange p n ∷ log) old number = count-same (record old { mutation = number }) (DropRange p n) log refl ∙ count-mutated log old number ∙ sym (count-same old (DropRange p n) log refl)

-- the newest entry records the count of what it makes
newest-count : (schema : Shape) (x : Entry) (log : List Entry) (a : Name) → Lawful schema (x ∷ log) → result_name x ≡ Some a → recorded x ≡ block_count (x ∷ log) a
unfolding hits
newest-count schema (Get p n digest source need) log a l m =
    let q : block_name p n ≡ a = cc in
    let none : block_count log (block_name p n) ≡ 0 = no-blocks log (block_name p n) (λ k u low high. let e : k ≡ n = omega arith in IsFresh.unused l.1 (subst (λ (i : ℕ). Used log p i) e u)) in
    subst (λ (b : Name). 1 ≡ block_count (Get p n digest source need ∷ log) b) q
    (sym (count-more (block_name p n) (Get p n digest source need) log (hits-is p n (block_name p n) (record { partition = refl; low = omega arith; high = omega arith })) ∙ omega (arith, none)))
newest-count schema (Merge new [] count) log a l m = absurd l.1
newest-count schema (Merge new (b ∷ []) count) log a l m = absurd l.1
newest-count schema (Merge new (b ∷ c ∷ rest) count) log a l m =
    let q : new ≡ a = cc in
    subst (λ (x : Name). count ≡ block_count (Merge new (b ∷ c ∷ rest) count ∷ log) x) q (Merges.counted l.1 ∙ sym (count-same new (Merge new (b ∷ c ∷ rest) count) log refl))
newest-count schema (Mutate old new upto count mcount) log a l m =
    let q : new ≡ a = cc in
    let s = IsMutate.name l.1 in
    subst (λ (x : Name). count ≡ block_count (Mutate old new upto count mcount ∷ log) x) q
    (IsMutate.counted l.1 ∙ sym (count-same new (Mutate old new upto count mcount) log refl ∙ ap (block_count log) s ∙ count-mutated log old (IsMutate.number l.1)))
newest-count schema (Mutation id numbers command) log a l m = absurd (cc)
newest-count schema (DropRange p n) log a l m = absurd (cc)

-- what is live and was made before was live before, and has no more blocks than it had
stays : (schema : Shape) (x : Entry) (log : List Entry) (a : Name) → Lawful schema (x ∷ log) → Has (live (x ∷ log)) a → Has (made log) a → Has (live log) a × (block_count (x ∷ log) a ≡ block_count log a)
unfolding hits
stays schema (Get p n digest source need) log a l h k = elim (Has-placed (block_name p n) (live log) a h) [
  | inl e ↦ absurd (not-twice schema (Get p n digest source need) log a l (ap Some e) k)
  | inr m ↦ (m, count-same a (Get p n digest source need) log (misses p n a (λ s. IsFresh.outside l.1 a m s)))
]
stays schema (Merge new sources count) log a l h k = elim (Has-placed new (live log) a h) [
  | inl e ↦ absurd (not-twice schema (Merge new sources count) log a l (ap Some e) k)
  | inr m ↦ (m, count-same a (Merge new sources count) log refl)
]
stays schema (Mutate old new upto count mcount) log a l h k = elim (Has-placed new (live log) a h) [
  | inl e ↦ absurd (not-twice schema (Mutate old new upto count mcount) log a l (ap Some e) k)
  | inr m ↦ (m, count-same a (Mutate old new upto count mcount) log refl)
]
stays schema (Mutation id numbers command) log a l h k = (h, count-same a (Mutation id numbers command) log refl)
stays schema (DropRange p n) log a l h k = ((Has-filter (λ x. not (in_drop p n x)) (live log) a h).0, count-same a (DropRange p n) log refl)

-- the entry that made a live name has the count of its blocks
pub recorded-count : (schema : Shape) (log : List Entry) (i : ℕ) (e : Entry) (a : Name) → Lawful schema log → Has (live log) a → entry_at log i ≡ Some e → result_name e ≡ Some a → recorded e ≡ block_count log a
recorded-count schema [] i e a l h q r = absurd h
recorded-count schema (x ∷ log) i e a l h q r = elim (entry-cases x log i e q) [
  | inl k ↦ subst (λ (y : Entry). recorded y ≡ block_count (x ∷ log) a) k.1 (newest-count schema x log a l (ap result_name k.1 ∙ r))
  | inr k ↦ let s = stays schema x log a l h (entry-made log i e a k r) in recorded-count schema log i e a l.0 s.0 k r ∙ sym s.1
]

-- a mutation has the number of mutations before it
pub mutations-through : (schema : Shape) (log : List Entry) (i id : ℕ) (numbers : List (Option ℕ × ℕ)) (command : CheckedMutation) → Lawful schema log → entry_at log i ≡ Some (Mutation id numbers command) → mutations_through log i ≡ id + 1
mutations-through schema [] i id numbers command l q = absurd (cc)
mutations-through schema (x ∷ log) i id numbers command l q = elim (entry-cases x log i (Mutation id numbers command) q) [
  | inl k ↦ newest k
  | inr k ↦ older (entry-below log i (Mutation id numbers command) k) (mutations-through schema log i id numbers command l.0 k)
]
  where
    newest : (i ≡ length log) × (x ≡ Mutation id numbers command) → mutations_through (x ∷ log) i ≡ id + 1
    newest k =
        let t : nat_le (length log) i ≡ true = let e = k.0 in grind (arith, nat_tests) in
        let m : IsMutation schema log id numbers command = subst (Meets schema log) k.1 l.1 in
        let c : mutation_count (x ∷ log) ≡ 1 + mutation_count log = sum_by-cons (λ y. cond (is_mutation y) 1 0) x log ∙ ap (λ (y : Entry). cond (is_mutation y) 1 0 + mutation_count log) k.1 in
        let n = m.numbered in
        ap (λ (b : Bool). cond b (mutation_count (x ∷ log)) (mutations_through log i)) t ∙ omega (arith, c, n)

    older : i < length log → mutations_through log i ≡ id + 1 → mutations_through (x ∷ log) i ≡ id + 1
    older b f =
        let t : nat_le (length log) i ≡ false = grind (arith, nat_tests) in
        ap (λ (v : Bool). cond v (mutation_count (x ∷ log)) (mutations_through log i)) t ∙ f

-- ---- the blocks of a merge

tally-zero : {A : Type 0} (f : A → ℕ) (xs : List A) → ((x : A) → Has xs x → f x ≡ 0) → tally f xs ≡ 0
tally-zero f [] z = refl
tally-zero f (x ∷ xs) z = let a = z x (inl refl) in let b = tally-zero f xs (λ y h. z y (inr h)) in omega (arith, a, b)

tally-add : {A : Type 0} (f g h : A → ℕ) (xs : List A) → ((x : A) → Has xs x → h x ≡ f x + g x) → tally h xs ≡ tally f xs + tally g xs
tally-add f g h [] e = refl
tally-add f g h (x ∷ xs) e = let a = e x (inl refl) in let b = tally-add f g h xs (λ y k. e y (inr k)) in omega (arith, a, b)

-- of names that stand apart exactly one has the number that one of them has
one-hit : (p : Option ℕ) (n : ℕ) (xs : List Name) (x : Name) → Pairwise Before xs → Has xs x → Spans x p n → tally (λ a. cond (hits p n a) 1 0) xs ≡ 1
one-hit p n [] x w h s = absurd h
one-hit p n (z ∷ zs) x w (inl e) s =
    let t : Spans z p n = subst (λ (y : Name). Spans y p n) (sym e) s in
    let here : hits p n z ≡ true = hits-is p n z t in
    let rest = tally-zero (λ a. cond (hits p n a) 1 0) zs (λ y k. ap (λ (b : Bool). cond b 1 0) (misses p n y (λ u. apart z y t u (Each-at (Before z) zs y w.0 k)))) in
    ap (λ (b : Bool). cond b 1 0 + tally (λ a. cond (hits p n a) 1 0) zs) here ∙ omega (arith, rest)
  where
    apart : (a b : Name) → Spans a p n → Spans b p n → Before a b → ⊥
    apart a b s t h =
        let r : rank a.partition ≡ rank b.partition = ap rank (s.partition ∙ sym t.partition) in
        let u = s.high in let v = t.low in grind arith
one-hit p n (z ∷ zs) x w (inr k) s =
    let there : hits p n z ≡ false = misses p n z (λ u. apart z x u s (Each-at (Before z) zs x w.0 k)) in
    ap (λ (b : Bool). cond b 1 0 + tally (λ a. cond (hits p n a) 1 0) zs) there ∙ let r = one-hit p n zs x w.1 k s in omega (arith, r)
  where
    apart : (a b : Name) → Spans a p n → Spans b p n → Before a b → ⊥
    apart a b s t h =
        let r : rank a.partition ≡ rank b.partition = ap rank (s.partition ∙ sym t.partition) in
        let u = s.high in let v = t.low in grind arith

-- sums over the sources, entry by entry
swapped : (sources : List Name) (whole : Name) (es : List Entry) → ((e : Entry) → Has es e → tally (λ c. cond (gets_block_of c e) 1 0) sources ≡ cond (gets_block_of whole e) 1 0) → tally (block_count es) sources ≡ block_count es whole
swapped sources whole [] f = tally-zero (block_count []) sources (λ x h. refl)
swapped sources whole (e ∷ es) f =
    tally-add (λ c. cond (gets_block_of c e) 1 0) (block_count es) (block_count (e ∷ es)) sources (λ c h. count-next c e es)
    ∙ (let a = f e (inl refl) in let b = swapped sources whole es (λ x h. f x (inr h)) in let c = count-next whole e es in omega (arith, a, b, c))

-- a merge has the blocks of its sources
pub merged-count : (schema : Shape) (log : List Entry) (a b : Name) (rest : List Name) (new : Name) (count : ℕ) → Lawful schema log → Merges log a b rest new count → tally (block_count log) (a ∷ b ∷ rest) ≡ block_count log (merged_name a (b ∷ rest))
unfolding hits
merged-count schema log a b rest new count l m = swapped (a ∷ b ∷ rest) whole log each
  where
    t : Tight log
    t = tight schema log l

    whole : Name
    whole = merged_name a (b ∷ rest)

    zero-of : (e : Entry) → ((c : Name) → gets_block_of c e ≡ false) → tally (λ c. cond (gets_block_of c e) 1 0) (a ∷ b ∷ rest) ≡ cond (gets_block_of whole e) 1 0
    zero-of e f = tally-zero (λ c. cond (gets_block_of c e) 1 0) (a ∷ b ∷ rest) (λ c h. ap (λ (v : Bool). cond v 1 0) (f c)) ∙ sym (ap (λ (v : Bool). cond v 1 0) (f whole))

    get : (p : Option ℕ) (n : ℕ) (digest : List ℕ) (source need : ℕ) → Has log (Get p n digest source need) → (v : Bool) → hits p n whole ≡ v → tally (λ c. cond (hits p n c) 1 0) (a ∷ b ∷ rest) ≡ cond v 1 0
    get p n digest source need h true e =
        let s : Spans whole p n = hits-true p n whole e in
        let above : AboveDrops log p n = λ k d. (let u = t.above a (source-live log t a b rest new count m a (inl refl)) k (subst (λ (q : Option ℕ). DropIn log q k) (sym s.partition) d) in let v = s.low in omega (arith, u, v)) in
        let one = blocks-live-once schema log l p n (record { digest = digest; source = source; need = need; entry = h }) above in
        let o = one.spans in
        let found : Has (a ∷ b ∷ rest) one.name = is-source log t a b rest new count m one.name one.is_live (record { partition = s.partition ∙ sym o.partition; low = (let u = s.low in let v = o.high in omega (arith, u, v)); high = (let u = s.high in let v = o.low in omega (arith, u, v)) }) in
        one-hit p n (a ∷ b ∷ rest) one.name (sources-lined log t a b rest new count m) found o
    get p n digest source need h false e =
        tally-zero (λ c. cond (hits p n c) 1 0) (a ∷ b ∷ rest) (λ c k. ap (λ (v : Bool). cond v 1 0) (misses p n c (λ s. hits-false p n whole e (wide c k s))))
      where
        wide : (c : Name) → Has (a ∷ b ∷ rest) c → Spans c p n → Spans whole p n
        wide c k s =
            let w = merged-covers a (b ∷ rest) c (sources-lined log t a b rest new count m) (source-fits log t a b rest new count m) k in
            let i = w.min in let j = w.max in let u = s.low in let v = s.high in
            record { partition = w.partition ∙ s.partition; low = omega (arith, i, u); high = omega (arith, j, v) }

    each : (e : Entry) → Has log e → tally (λ c. cond (gets_block_of c e) 1 0) (a ∷ b ∷ rest) ≡ cond (gets_block_of whole e) 1 0
    each (Get p n digest source need) h = get p n digest source need h (hits p n whole) refl
    each (Merge made sources c) h = zero-of (Merge made sources c) (λ x. refl)
    each (Mutate old made upto c k) h = zero-of (Mutate old made upto c k) (λ x. refl)
    each (Mutation id numbers command) h = zero-of (Mutation id numbers command) (λ x. refl)
    each (DropRange p n) h = zero-of (DropRange p n) (λ x. refl)
