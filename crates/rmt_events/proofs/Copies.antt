-- What a part says in one copy of a log it says in each copy that has its maker.
use Rattle.std.proofs.Common.{◌≡◌, ℕ, zero, suc, ◌+◌, ◌-◌, ◌<◌, ◌≤◌, ◌⊎◌, inl, inr, ◌&&◌, ◌||◌, Bool, true, false, cond, List, [], ◌∷◌, ◌++◌, length, refl, sym, ap, subst, arith, ◌∙◌, nat_eq, nat_lt, nat_le}
use Rattle.std.proofs.lemmas.Bool.Decides.{nat_tests}
use Rattle.std.specs.List.{filter_map}
use Rattle.std.specs.declared.option.Option.{Option}
use Rattle.std.specs.declared.option.Option.TheVariants.{Some}
use Rattle.rmt_values.specs.Rows.{Shape, in_key_order}
use Rattle.rmt_names.specs.Names.{Name, rank, Spans}
use Rattle.rmt_entries.specs.declared.entry.Entry.{Entry}
use Rattle.rmt_entries.specs.declared.entry.Entry.TheVariants.{Get, Merge, Mutate, Mutation, DropRange}
use Rattle.rmt_model.specs.Words.{Has, Each}
use Rattle.rmt_model.specs.Live.{made, Dropped}
use Rattle.rmt_model.specs.Lawful.{Lawful, entry_at, MakesAt, IsPrefix}
use Rattle.rmt_model.specs.Laws.{Committed}
use Rattle.rmt_model.specs.Content.{Row, Blocks, changed, has_block, block_rows, joined, content}
use Rattle.rmt_model.specs.Parts.{NumberedBlock, IsOf}
use Rattle.rmt_model.specs.CopiedParts.{Copied, blocks_of, HasNumber, AreBlocksOf, IsCopied}
use Rattle.rmt_model.proofs.Lists.{Each-at, Each-all, rank-injective}
use Rattle.rmt_model.proofs.Drops.{made-more, entry-older, entry-made}
use Rattle.rmt_laws.proofs.ContentLaws.{outside-made, content-stays}

-- ---- one more entry

-- a Get among the numbers of a made name stands behind the newest entry
pub get-within : (schema : Shape) (e : Entry) (log : List Entry) (a : Name) (n source need : ℕ) (digest : List ℕ) → Lawful schema (e ∷ log) → Has (made log) a → Spans a a.partition n → Has (e ∷ log) (Get a.partition n digest source need) → Has log (Get a.partition n digest source need)
get-within schema e log a n source need digest l m s (inr h) = h
get-within schema e log a n source need digest l m s (inl q) =
    let k = subst (λ (x : Entry). Lawful schema (x ∷ log)) q l in
    absurd (outside-made log a.partition n a k.1 m s)

-- the lineage of a made name stays
lineage-more : (schema : Shape) (e : Entry) (log : List Entry) (a : Name) (bs : List NumberedBlock) → Lawful schema (e ∷ log) → Has (made log) a → AreBlocksOf log a bs → AreBlocksOf (e ∷ log) a bs
lineage-more schema e log a bs l m i =
    record {
      rising = i.rising;
      within = Each-all (λ b. Spans a a.partition b.number × IsOf (e ∷ log) a.partition b) bs (λ b h. let w = Each-at (λ b. Spans a a.partition b.number × IsOf log a.partition b) bs b i.within h in (w.0, record { source = IsOf.source w.1; need = IsOf.need w.1; entry = inr (IsOf.entry w.1) }));
      whole = λ n source need digest h s. i.whole n source need digest (get-within schema e log a n source need digest l m s h) s;
    }

lineage-less : (schema : Shape) (e : Entry) (log : List Entry) (a : Name) (bs : List NumberedBlock) → Lawful schema (e ∷ log) → Has (made log) a → AreBlocksOf (e ∷ log) a bs → AreBlocksOf log a bs
lineage-less schema e log a bs l m i =
    record {
      rising = i.rising;
      within = Each-all (λ b. Spans a a.partition b.number × IsOf log a.partition b) bs (λ b h. let w = Each-at (λ b. Spans a a.partition b.number × IsOf (e ∷ log) a.partition b) bs b i.within h in (w.0, record { source = IsOf.source w.1; need = IsOf.need w.1; entry = get-within schema e log a b.number (IsOf.source w.1) (IsOf.need w.1) b.digest l m w.0 (IsOf.entry w.1) }));
      whole = λ n source need digest h s. i.whole n source need digest (inr h) s;
    }

pub part-more : (schema : Shape) (e : Entry) (log : List Entry) (part : Copied) → Lawful schema (e ∷ log) → Has (made log) part.name → IsCopied schema log part → IsCopied schema (e ∷ log) part
part-more schema e log part l m i =
    record { lineage = lineage-more schema e log part.name part.lineage l m i.lineage; holds = i.holds ∙ sym (content-stays schema e log l (blocks_of part.lineage) part.name m) }

pub part-less : (schema : Shape) (e : Entry) (log : List Entry) (part : Copied) → Lawful schema (e ∷ log) → Has (made log) part.name → IsCopied schema (e ∷ log) part → IsCopied schema log part
part-less schema e log part l m i =
    record { lineage = lineage-less schema e log part.name part.lineage l m i.lineage; holds = i.holds ∙ content-stays schema e log l (blocks_of part.lineage) part.name m }

-- ---- many more

pub lawful-behind : (schema : Shape) (gained log : List Entry) → Lawful schema (gained ++ log) → Lawful schema log
lawful-behind schema [] log l = l
lawful-behind schema (e ∷ gained) log l = lawful-behind schema gained log l.0

pub made-behind : (gained log : List Entry) (a : Name) → Has (made log) a → Has (made (gained ++ log)) a
made-behind [] log a h = h
made-behind (e ∷ gained) log a h = made-more e (gained ++ log) a (made-behind gained log a h)

pub dropped-behind : (gained log : List Entry) (a : Name) → Dropped log a → Dropped (gained ++ log) a
dropped-behind [] log a d = d
dropped-behind (e ∷ gained) log a d = inl (dropped-behind gained log a d)

pub entry-behind : (gained log : List Entry) (i : ℕ) (e : Entry) → entry_at log i ≡ Some e → entry_at (gained ++ log) i ≡ Some e
entry-behind [] log i e q = q
entry-behind (x ∷ gained) log i e q = entry-older x (gained ++ log) i e (entry-behind gained log i e q)

pub has-behind : {A : Type 0} (gained log : List A) (x : A) → Has log x → Has (gained ++ log) x
has-behind [] log x h = h
has-behind (y ∷ gained) log x h = inr (has-behind gained log x h)

pub makes-behind : (gained log : List Entry) (i : ℕ) (a : Name) → MakesAt log i a → MakesAt (gained ++ log) i a
makes-behind gained log i a m = record { entry = m.entry; stands = entry-behind gained log i m.entry m.stands; makes = m.makes }

pub made-at : (log : List Entry) (i : ℕ) (a : Name) → MakesAt log i a → Has (made log) a
made-at log i a m = entry-made log i m.entry a m.stands m.makes

pub gets-within : (schema : Shape) (gained log : List Entry) (a : Name) (n source need : ℕ) (digest : List ℕ) → Lawful schema (gained ++ log) → Has (made log) a → Spans a a.partition n → Has (gained ++ log) (Get a.partition n digest source need) → Has log (Get a.partition n digest source need)
gets-within schema [] log a n source need digest l m s h = h
gets-within schema (e ∷ gained) log a n source need digest l m s h =
    gets-within schema gained log a n source need digest l.0 m s (get-within schema e (gained ++ log) a n source need digest l (made-behind gained log a m) s h)

pub part-behind : (schema : Shape) (gained log : List Entry) (part : Copied) → Lawful schema (gained ++ log) → Has (made log) part.name → IsCopied schema log part → IsCopied schema (gained ++ log) part
part-behind schema [] log part l m i = i
part-behind schema (e ∷ gained) log part l m i = part-more schema e (gained ++ log) part l (made-behind gained log part.name m) (part-behind schema gained log part l.0 m i)

pub part-before : (schema : Shape) (gained log : List Entry) (part : Copied) → Lawful schema (gained ++ log) → Has (made log) part.name → IsCopied schema (gained ++ log) part → IsCopied schema log part
part-before schema [] log part l m i = i
part-before schema (e ∷ gained) log part l m i = part-before schema gained log part l.0 m (part-less schema e (gained ++ log) part l (made-behind gained log part.name m) i)

-- ---- two fronts of one log

-- of two fronts of a log one is a front of the other
pub fronts : (x y log : List Entry) → IsPrefix x log → IsPrefix y log → IsPrefix x y ⊎ IsPrefix y x
fronts x y log f g = go f.gained g.gained (sym f.is ∙ g.is)
  where
    tails : (a b : Entry) (u v : List Entry) → a ∷ u ≡ b ∷ v → u ≡ v
    tails a b u v e = cc

    go : (us vs : List Entry) → us ++ x ≡ vs ++ y → IsPrefix x y ⊎ IsPrefix y x
    go [] vs e = inr (record { gained = vs; is = e })
    go (u ∷ us) [] e = inl (record { gained = u ∷ us; is = sym e })
    go (u ∷ us) (v ∷ vs) e = go us vs (tails u v (us ++ x) (vs ++ y) e)

-- an entry at a place of the longer list that is within the shorter stands there
pub entry-front : (gained log : List Entry) (i : ℕ) (e : Entry) → i < length log → entry_at (gained ++ log) i ≡ Some e → entry_at log i ≡ Some e
entry-front [] log i e l q = q
entry-front (x ∷ gained) log i e l q = entry-front gained log i e l (same (nat_eq i (length (gained ++ log))) refl q)
  where
    longer : (us : List Entry) → length log ≤ length (us ++ log)
    longer [] = omega arith
    longer (u ∷ us) = let k = longer us in omega (arith, k)

    same : (b : Bool) → nat_eq i (length (gained ++ log)) ≡ b → cond b (Some x) (entry_at (gained ++ log) i) ≡ Some e → entry_at (gained ++ log) i ≡ Some e
    same true n q = let k = longer gained in let m : i ≡ length (gained ++ log) = grind (arith, nat_tests) in absurd (omega (arith, k, m, l))
    same false n q = q

-- a part of one copy, made at a place that another copy has, is a part of that copy
pub part-over : (schema : Shape) (x y log : List Entry) (part : Copied) → Lawful schema log → IsPrefix x log → IsPrefix y log → MakesAt x part.place part.name → IsCopied schema x part → part.place < length y → MakesAt y part.place part.name × IsCopied schema y part
part-over schema x y log part l f g m i p = go (fronts x y log f g)
  where
    lawful-x : Lawful schema x
    lawful-x = lawful-behind schema f.gained x (subst (Lawful schema) f.is l)

    lawful-y : Lawful schema y
    lawful-y = lawful-behind schema g.gained y (subst (Lawful schema) g.is l)

    go : IsPrefix x y ⊎ IsPrefix y x → MakesAt y part.place part.name × IsCopied schema y part
    go (inl h) =
        subst (λ (z : List Entry). MakesAt z part.place part.name × IsCopied schema z part) (sym h.is)
        (makes-behind h.gained x part.place part.name m, part-behind schema h.gained x part (subst (Lawful schema) h.is lawful-y) (made-at x part.place part.name m) i)
    go (inr h) =
        let k : MakesAt y part.place part.name = record { entry = m.entry; stands = entry-front h.gained y part.place m.entry p (subst (λ (z : List Entry). entry_at z part.place ≡ Some m.entry) h.is m.stands); makes = m.makes } in
        (k, part-before schema h.gained y part (subst (Lawful schema) h.is lawful-x) (made-at y part.place part.name k) (subst (λ (z : List Entry). IsCopied schema z part) h.is i))

-- ---- the blocks of the lineage are all that the content asks for

joined-equal : (f g : ℕ → List Row) (low k : ℕ) → ((n : ℕ) → low ≤ n → n < low + k → f n ≡ g n) → joined f low k ≡ joined g low k
joined-equal f g low zero h = refl
joined-equal f g low (suc k) h =
    ap (λ xs. xs ++ joined f (low + 1) k) (h low (omega arith) (omega arith))
    ∙ ap (λ xs. g low ++ xs) (joined-equal f g (low + 1) k (λ n i j. h n (omega arith) (omega arith)))

found-get : (log : List Entry) (p : Option ℕ) (n : ℕ) → has_block log p n ≡ true → Committed log p n
found-get [] p n h = absurd (cc)
found-get (Get q m digest source need ∷ log) p n h = go (nat_eq (rank q) (rank p) && nat_eq m n) refl h (found-get log p n)
  where
    go : (b : Bool) → (nat_eq (rank q) (rank p) && nat_eq m n) ≡ b → (b || has_block log p n) ≡ true → (has_block log p n ≡ true → Committed log p n) → Committed (Get q m digest source need ∷ log) p n
    go true e i f =
        let r : rank q ≡ rank p = grind (arith, nat_tests) in
        let s : m ≡ n = grind (arith, nat_tests) in
        record { digest = digest; source = source; need = need; entry = inl (same (rank-injective q p r) s) }
      where
        same : q ≡ p → m ≡ n → Get q m digest source need ≡ Get p n digest source need
        same x y = cc
    go false e i f = let c = f i in record { digest = c.digest; source = c.source; need = c.need; entry = inr c.entry }
found-get (Merge new olds count ∷ log) p n h = let c = found-get log p n h in record { digest = c.digest; source = c.source; need = c.need; entry = inr c.entry }
found-get (Mutate old new upto count mcount ∷ log) p n h = let c = found-get log p n h in record { digest = c.digest; source = c.source; need = c.need; entry = inr c.entry }
found-get (Mutation id numbers command ∷ log) p n h = let c = found-get log p n h in record { digest = c.digest; source = c.source; need = c.need; entry = inr c.entry }
found-get (DropRange q m ∷ log) p n h = let c = found-get log p n h in record { digest = c.digest; source = c.source; need = c.need; entry = inr c.entry }

-- a lineage whose blocks are those of others gives their rows
lineage-gives : (bs : List NumberedBlock) (blocks : Blocks) (p : Option ℕ) (n : ℕ) → Each (λ b. blocks p b.number ≡ b.rows) bs → HasNumber bs n → blocks_of bs p n ≡ blocks p n
lineage-gives [] blocks p n e h = absurd h
lineage-gives (b ∷ bs) blocks p n e h = go (nat_eq b.number n) refl h (lineage-gives bs blocks p n e.1)
  where
    go : (c : Bool) → nat_eq b.number n ≡ c → HasNumber (b ∷ bs) n → (HasNumber bs n → blocks_of bs p n ≡ blocks p n) → cond c b.rows (blocks_of bs p n) ≡ blocks p n
    go true q h f = let r : b.number ≡ n = grind (arith, nat_tests) in sym e.0 ∙ ap (blocks p) r
    go false q (inl r) f = absurd (grind (arith, nat_tests))
    go false q (inr h) f = f h

pub content-of-lineage : (schema : Shape) (log : List Entry) (blocks : Blocks) (a : Name) (bs : List NumberedBlock) → AreBlocksOf log a bs → Each (λ b. blocks a.partition b.number ≡ b.rows) bs → a.min ≤ a.max → content schema log (blocks_of bs) a ≡ content schema log blocks a
content-of-lineage schema log blocks a bs i e sized =
    ap (in_key_order schema) (joined-equal (of (blocks_of bs)) (of blocks) a.min (a.max + 1 - a.min) (λ n l m. each n l (omega (arith, l, m, sized)) (has_block log a.partition n) refl))
  where
    of : Blocks → ℕ → List Row
    of from n = block_rows log from a.partition (λ k. nat_lt n k && nat_le k a.mutation) n

    each : (n : ℕ) → a.min ≤ n → n ≤ a.max → (b : Bool) → has_block log a.partition n ≡ b
        → cond b (filter_map (changed log a.partition (λ k. nat_lt n k && nat_le k a.mutation)) (blocks_of bs a.partition n)) [] ≡ cond b (filter_map (changed log a.partition (λ k. nat_lt n k && nat_le k a.mutation)) (blocks a.partition n)) []
    each n l m true h =
        let c = found-get log a.partition n h in
        ap (λ (rows : List Row). filter_map (changed log a.partition (λ k. nat_lt n k && nat_le k a.mutation)) rows)
        (lineage-gives bs blocks a.partition n e (i.whole n c.source c.need c.digest c.entry (record { partition = refl; low = l; high = m })))
    each n l m false h = refl
