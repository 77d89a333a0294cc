-- The content of a made name stays.
use Rattle.std.proofs.Common.{◌≡◌, ℕ, zero, suc, ◌+◌, ◌-◌, ◌<◌, ◌≤◌, ◌⊎◌, inl, inr, ◌&&◌, ◌||◌, Bool, true, false, cond, List, [], ◌∷◌, ◌++◌, length, refl, sym, ap, subst, arith, ◌∙◌, nat_eq, nat_lt, nat_le}
use Rattle.std.proofs.lemmas.Bool.Decides.{nat_tests}
use Rattle.std.specs.List.{filter_map, cons_option}
use Rattle.std.specs.Option.{option_and_then}
use Rattle.std.specs.declared.option.Option.{Option}
use Rattle.std.specs.declared.option.Option.TheVariants.{Some, None}
use Rattle.rmt_values.specs.Rows.{Shape}
use Rattle.rmt_values.specs.Rows.{in_key_order}
use Rattle.rmt_names.specs.Names.{Name, rank, Spans}
use Rattle.rmt_entries.specs.declared.entry.Entry.{Entry}
use Rattle.rmt_entries.specs.declared.entry.Entry.TheVariants.{Get, Merge, Mutate, Mutation, DropRange}
use Rattle.rmt_model.specs.Words.{Has}
use Rattle.rmt_model.specs.Live.{live, made}
use Rattle.rmt_model.specs.Lawful.{Used, Uses, DropIn, AboveUsed, entry_at, IsMutationWith, IsFresh, IsMutation, Lawful}
use Rattle.rmt_model.specs.Fair.{CoveredBy}
use Rattle.rmt_model.specs.Laws.{ContentStays}
use Rattle.rmt_model.specs.Content.{Row, Blocks, chosen, changed_by, changed, is_block, has_block, block_rows, joined, content}
use Rattle.rmt_model.proofs.Lists.{rank-injective, Each-at}
use Rattle.rmt_model.proofs.LiveLaws.{tight, accounted, drop-of, source-live, source-fits}
use Rattle.rmt_model.proofs.VersionLaws.{live-made, highest-reached}

-- a fresh number lies in no made name
pub outside-made : (log : List Entry) (p : Option ℕ) (n : ℕ) (a : Name) → IsFresh log p n → Has (made log) a → Spans a p n → ⊥
outside-made log p n a f h s = elim (accounted log a h) [ inl d ↦ dropped (drop-of log a d) | inr c ↦ covered c ]
  where
    dropped : (m : ℕ) × DropIn log a.partition m × (a.max ≤ m) → ⊥
    dropped r = let u = f.above r.0 (subst (λ (q : Option ℕ). DropIn log q r.0) s.partition r.1) in let v = r.2 in let w = s.high in omega (arith, u, v, w)

    covered : CoveredBy (live log) a → ⊥
    covered c =
        let i = c.covers.min in let j = c.covers.max in let u = s.low in let v = s.high in
        f.outside c.name c.is_in (record { partition = c.covers.partition ∙ s.partition; low = both i u; high = both v j })
      where
        both : {x y z : ℕ} → x ≤ y → y ≤ z → x ≤ z
        both g h = omega arith

-- what a mutation of the log uses
mutation-used : (log : List Entry) (i : ℕ) (p : Option ℕ) (n : ℕ) → IsMutationWith (entry_at log i) p n → Used log p n
mutation-used [] i p n k = absurd k
mutation-used (e ∷ log) i p n k = go (nat_eq i (length log)) k (mutation-used log i p n)
  where
    go : (b : Bool) → IsMutationWith (cond b (Some e) (entry_at log i)) p n → (IsMutationWith (entry_at log i) p n → Used log p n) → Used (e ∷ log) p n
    go true k f = inl (here e k)
      where
        here : (v : Entry) → IsMutationWith (Some v) p n → Uses v p n
        here (Mutation id numbers command) k = k
        here (Get q m digest source need) k = absurd k
        here (Merge new olds count) k = absurd k
        here (Mutate old new upto count mcount) k = absurd k
        here (DropRange q m) k = absurd k
    go false k f = inr (f k)

elsewhere : (e : Entry) (log : List Entry) (a : Name) → (a.mutation ≡ 0) ⊎ Used log a.partition a.mutation → (a.mutation ≡ 0) ⊎ Used (e ∷ log) a.partition a.mutation
elsewhere e log a (inl z) = inl z
elsewhere e log a (inr u) = inr (inr u)

-- a made name's mutation is none or used
pub mutation-of-made : (schema : Shape) (log : List Entry) (a : Name) → Lawful schema log → Has (made log) a → (a.mutation ≡ 0) ⊎ Used log a.partition a.mutation
mutation-of-made schema [] a l h = absurd h
mutation-of-made schema (Get p n digest source need ∷ log) a l (inl e) = inl (ap (λ x. x.mutation) (sym e))
mutation-of-made schema (Get p n digest source need ∷ log) a l (inr h) = elsewhere (Get p n digest source need) log a (mutation-of-made schema log a l.0 h)
mutation-of-made schema (Merge new [] count ∷ log) a l h = absurd l.1
mutation-of-made schema (Merge new (b ∷ []) count ∷ log) a l h = absurd l.1
mutation-of-made schema (Merge new (b ∷ c ∷ rest) count ∷ log) a l (inl e) =
    let s = l.1 in
    let top = highest-reached (λ x. x.mutation) b (c ∷ rest) in
    subst (λ (x : Name). (x.mutation ≡ 0) ⊎ Used (Merge new (b ∷ c ∷ rest) count ∷ log) x.partition x.mutation) (sym s.name ∙ e)
    (subst (λ m. (m ≡ 0) ⊎ Used (Merge new (b ∷ c ∷ rest) count ∷ log) b.partition m) top.2
    (subst (λ (p : Option ℕ). (Name.mutation top.0 ≡ 0) ⊎ Used (Merge new (b ∷ c ∷ rest) count ∷ log) p (Name.mutation top.0)) (source-fits log (tight schema log l.0) b c rest new count s top.0 top.1).0
    (elsewhere (Merge new (b ∷ c ∷ rest) count) log top.0 (mutation-of-made schema log top.0 l.0 (live-made log top.0 (source-live log (tight schema log l.0) b c rest new count s top.0 top.1))))))
mutation-of-made schema (Merge new (b ∷ c ∷ rest) count ∷ log) a l (inr h) = elsewhere (Merge new (b ∷ c ∷ rest) count) log a (mutation-of-made schema log a l.0 h)
mutation-of-made schema (Mutate old new upto count mcount ∷ log) a l (inl e) =
    let s = l.1 in
    subst (λ (x : Name). (x.mutation ≡ 0) ⊎ Used (Mutate old new upto count mcount ∷ log) x.partition x.mutation) (sym s.name ∙ e) (inr (inr (mutation-used log upto old.partition s.number s.at)))
mutation-of-made schema (Mutate old new upto count mcount ∷ log) a l (inr h) = elsewhere (Mutate old new upto count mcount) log a (mutation-of-made schema log a l.0 h)
mutation-of-made schema (Mutation id numbers command ∷ log) a l h = elsewhere (Mutation id numbers command) log a (mutation-of-made schema log a l.0 h)
mutation-of-made schema (DropRange p n ∷ log) a l h = elsewhere (DropRange p n) log a (mutation-of-made schema log a l.0 h)

-- lists of equal parts are equal
joined-same : (f g : ℕ → List Row) (low k : ℕ) → ((n : ℕ) → low ≤ n → n < low + k → f n ≡ g n) → joined f low k ≡ joined g low k
joined-same f g low zero h = refl
joined-same f g low (suc k) h =
    ap (λ xs. xs ++ joined f (low + 1) k) (h low (omega arith) (omega arith))
    ∙ ap (λ xs. g low ++ xs) (joined-same f g (low + 1) k (λ n i j. h n (omega arith) (omega arith)))

filter_map-same : (f g : Row → Option Row) → ((r : Row) → f r ≡ g r) → (xs : List Row) → filter_map f xs ≡ filter_map g xs
filter_map-same f g h [] = refl
filter_map-same f g h (x ∷ xs) = ap (λ o. cons_option o (filter_map f xs)) (h x) ∙ ap (λ ys. cons_option (g x) ys) (filter_map-same f g h xs)

-- an entry that is no block of the range and whose numbers don't pass leaves the content
content-same : (schema : Shape) (e : Entry) (log : List Entry) (blocks : Blocks) (a : Name) → ((n : ℕ) → a.min ≤ n → n ≤ a.max → is_block e a.partition n ≡ false) → ((n : ℕ) (r : Row) → changed_by e a.partition (λ k. nat_lt n k && nat_le k a.mutation) r ≡ Some r) → content schema (e ∷ log) blocks a ≡ content schema log blocks a
content-same schema e log blocks a none keeps =
    ap (in_key_order schema) (joined-same (of (e ∷ log)) (of log) a.min (a.max + 1 - a.min) (λ n i j. each n i (omega arith)))
  where
    of : List Entry → ℕ → List Row
    of xs n = block_rows xs blocks a.partition (λ k. nat_lt n k && nat_le k a.mutation) n

    each : (n : ℕ) → a.min ≤ n → n ≤ a.max → block_rows (e ∷ log) blocks a.partition (λ k. nat_lt n k && nat_le k a.mutation) n ≡ block_rows log blocks a.partition (λ k. nat_lt n k && nat_le k a.mutation) n
    each n i j =
        ap (λ b. cond (b || has_block log a.partition n) (filter_map (changed (e ∷ log) a.partition (λ k. nat_lt n k && nat_le k a.mutation)) (blocks a.partition n)) []) (none n i j)
        ∙ ap (λ (xs : List Row). cond (has_block log a.partition n) xs []) (filter_map-same _ _ (λ r. unchanged n (changed log a.partition (λ k. nat_lt n k && nat_le k a.mutation) r)) (blocks a.partition n))
      where
        unchanged : (n : ℕ) (o : Option Row) → option_and_then (changed_by e a.partition (λ k. nat_lt n k && nat_le k a.mutation)) o ≡ o
        unchanged n None = refl
        unchanged n (Some r) = keeps n r

-- a mutation whose numbers in p are above the limit changes nothing
none-chosen : (numbers : List (Option ℕ × ℕ)) (p : Option ℕ) (n limit : ℕ) → ((m : ℕ) → Has numbers (p, m) → limit < m) → chosen numbers p (λ k. nat_lt n k && nat_le k limit) ≡ false
none-chosen [] p n limit h = refl
none-chosen (x ∷ xs) p n limit h = go (nat_eq (rank x.0) (rank p)) refl (none-chosen xs p n limit (λ m k. h m (inr k)))
  where
    go : (b : Bool) → nat_eq (rank x.0) (rank p) ≡ b → chosen xs p (λ k. nat_lt n k && nat_le k limit) ≡ false → ((b && (nat_lt n x.1 && nat_le x.1 limit)) || chosen xs p (λ k. nat_lt n k && nat_le k limit)) ≡ false
    go false e f = f
    go true e f =
        let r : rank x.0 ≡ rank p = grind (arith, nat_tests) in
        let above : limit < x.1 = h x.1 (inl (ap (λ (q : Option ℕ). (q, x.1)) (rank-injective x.0 p r))) in
        rw f (past n x.1 limit above)
      where
        past : (n m l : ℕ) → l < m → ((nat_lt n m && nat_le m l) || false) ≡ false
        past n m l g = grind (arith, nat_tests)

-- one more entry leaves the content of what was made
pub content-stays : (schema : Shape) (e : Entry) (log : List Entry) → Lawful schema (e ∷ log) → ContentStays schema log e
content-stays schema (Get p n digest source need) log l blocks a h = content-same schema (Get p n digest source need) log blocks a (λ m i j. other m i j (nat_eq (rank p) (rank a.partition) && nat_eq n m) refl) (λ m r. refl)
  where
    other : (m : ℕ) → a.min ≤ m → m ≤ a.max → (b : Bool) → (nat_eq (rank p) (rank a.partition) && nat_eq n m) ≡ b → b ≡ false
    other m i j false e = refl
    other m i j true e =
        let r : rank p ≡ rank a.partition = grind (arith, nat_tests) in
        let s : n ≡ m = grind (arith, nat_tests) in
        absurd (outside-made log p n a l.1 h (record { partition = sym (rank-injective p a.partition r); low = omega arith; high = omega arith }))
content-stays schema (Merge new sources count) log l blocks a h = content-same schema (Merge new sources count) log blocks a (λ m i j. refl) (λ m r. refl)
content-stays schema (Mutate old new upto count mcount) log l blocks a h = content-same schema (Mutate old new upto count mcount) log blocks a (λ m i j. refl) (λ m r. refl)
content-stays schema (Mutation id numbers command) log l blocks a h =
    content-same schema (Mutation id numbers command) log blocks a (λ m i j. refl)
    (λ n r. rw (none-chosen numbers a.partition n a.mutation above) refl)
  where
    above : (m : ℕ) → Has numbers (a.partition, m) → a.mutation < m
    above m k =
        let s = Each-at (λ x. (1 ≤ x.1) × AboveUsed log x.0 x.1) numbers (a.partition, m) (IsMutation.above l.1) k in
        elim (mutation-of-made schema log a l.0 h) [ inl z ↦ (let u = s.0 in omega (arith, u, z)) | inr u ↦ s.1 a.mutation u ]
content-stays schema (DropRange p n) log l blocks a h = content-same schema (DropRange p n) log blocks a (λ m i j. refl) (λ m r. refl)
