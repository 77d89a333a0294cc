-- A part put through its pending mutations is the content of the new name.
use Rattle.std.proofs.Common.{◌≡◌, ℕ, ◌<◌, ◌≤◌, ◌⊎◌, inl, inr, ◌&&◌, Bool, true, false, List, [], ◌∷◌, ◌++◌, length, refl, sym, ap, subst, arith, ◌∙◌, nat_lt, nat_le}
use Rattle.std.proofs.lemmas.Bool.Decides.{nat_tests}
use Rattle.std.specs.List.{filter_map}
use Rattle.std.specs.Option.{option_and_then}
use Rattle.std.specs.declared.option.Option.{Option}
use Rattle.std.specs.declared.option.Option.TheVariants.{Some, None}
use Rattle.std.specs.Cmp.Lexicographic.{slice_cmp}
use Rattle.rmt_values.specs.declared.value.Value.{Value}
use Rattle.rmt_values.specs.Rows.{Shape, in_key_order, key_cmp, key_of, cell_cmp, fits}
use Rattle.rmt_values.proofs.Totals.{key_cmp_total}
use Rattle.rmt_granules.proofs.StableOrder.{order-changed}
use Rattle.rmt_names.specs.Names.{Name, data_version}
use Rattle.rmt_entries.specs.Entries.{result_name}
use Rattle.rmt_entries.specs.declared.entry.Entry.{Entry}
use Rattle.rmt_entries.specs.declared.entry.Entry.TheVariants.{Get, Merge, Mutate, Mutation, DropRange}
use Rattle.rmt_model.specs.Words.{Has, Each, Pairwise}
use Rattle.rmt_model.specs.Live.{made, made_with}
use Rattle.rmt_model.specs.Laws.{MutatedAt, Supersedes}
use Rattle.rmt_model.specs.Lawful.{entry_at, IsMutationWith, Meets, IsMutation, IsMutate, Lawful}
use Rattle.rmt_model.specs.Content.{Row, changed}
use Rattle.rmt_model.specs.Parts.{NumberedBlock, PartView, mutated_rows, lineage_rows, AreNumbered, EndAt, IsPartOf}
use Rattle.rmt_model.proofs.Lists.{Each-at, Each-all}
use Rattle.rmt_model.proofs.LiveLaws.{pending-above, later-covers}
use Rattle.rmt_model.proofs.Drops.{made-more, entry-older, entry-below, entry-cases, entry-has}
use Rattle.rmt_model.proofs.VersionLaws.{live-made, made-sized, pending-above-max}
use Rattle.rmt_laws.proofs.TwoChanges.{PartsAt, in-two, filter_map-joins, filter_map-twice}
use Rattle.rmt_changes.specs.Changes.{between}
use Rattle.rmt_changes.specs.Laws.{EntryFits}
use Rattle.rmt_changes.proofs.ChangeLaws.{keys-stay, rows-stay-fit}
use Rattle.rmt_part.proofs.LineageLaws.{told-mutations, told-count, count-passing}
use Rattle.rmt_compact.proofs.ToldParts.{Makes}

-- ---- what a mutation of the log leaves of a row

-- the commands of a lawful log are of its schema
entry-fits : (schema : Shape) (log : List Entry) (e : Entry) → Lawful schema log → Has log e → EntryFits schema e
entry-fits schema [] e l h = absurd h
entry-fits schema (x ∷ log) e l (inl q) = of e (subst (Meets schema log) q l.1)
  where
    of : (e : Entry) → Meets schema log e → EntryFits schema e
    of (Mutation id numbers command) m = IsMutation.fits m
    of (Get p n digest source need) m = tt
    of (Merge new sources count) m = tt
    of (Mutate old new upto count mcount) m = tt
    of (DropRange p n) m = tt
entry-fits schema (x ∷ log) e l (inr h) = entry-fits schema log e l.0 h

pub entries-fit : (schema : Shape) (log ms : List Entry) → Lawful schema log → Each (Has log) ms → Each (EntryFits schema) ms
entries-fit schema log ms l h = Each-all (EntryFits schema) ms (λ e i. entry-fits schema log e l (Each-at (Has log) ms e h i))

-- mutations leave a row that fits one that fits
pub changed-fits : (schema : Shape) (log ms : List Entry) (p : Option ℕ) (t : ℕ → Bool) (row row' : Row) → Lawful schema log → Each (Has log) ms → changed ms p t row ≡ Some row' → fits schema.columns row ≡ true → fits schema.columns row' ≡ true
changed-fits schema log ms p t row row' l h e f = rows-stay-fit schema ms p t row row' (entries-fit schema log ms l h) f e

-- so the order stays
pub order-stays : (schema : Shape) (log ms : List Entry) (p : Option ℕ) (t : ℕ → Bool) (rows : List Row) → Lawful schema log → Each (Has log) ms → filter_map (changed ms p t) (in_key_order schema rows) ≡ in_key_order schema (filter_map (changed ms p t) rows)
unfolding in_key_order
order-stays schema log ms p t rows l h =
    order-changed (key_cmp schema.key) (key_cmp_total schema.key) (changed ms p t)
    (λ x x' e y. let k = keys-stay schema ms p t x x' (entries-fit schema log ms l h) e in
    (ap (λ (z : List (Option Value)). slice_cmp cell_cmp z (key_of schema.key y)) k, ap (slice_cmp cell_cmp (key_of schema.key y)) k)) rows

-- ---- the line of a Mutate

pub record MutateLine (log : List Entry) (old new : Name) (upto : ℕ) : Type 0 where
  pub number : ℕ
  pub at : IsMutationWith (entry_at log upto) old.partition number
  pub name : new ≡ record old { mutation = number }
  pub pending : data_version old < number
  pub was_made : Has (made log) old

at-older : (x : Entry) (log : List Entry) (i : ℕ) (p : Option ℕ) (n : ℕ) → IsMutationWith (entry_at log i) p n → IsMutationWith (entry_at (x ∷ log) i) p n
at-older x log i p n h = go (entry_at log i) refl h
  where
    go : (o : Option Entry) → entry_at log i ≡ o → IsMutationWith o p n → IsMutationWith (entry_at (x ∷ log) i) p n
    go None q k = absurd k
    go (Some e) q k = subst (λ (o : Option Entry). IsMutationWith o p n) (sym (entry-older x log i e q)) k

pub mutate-line : (schema : Shape) (log : List Entry) (old new : Name) (upto count mcount : ℕ) → Lawful schema log → Has log (Mutate old new upto count mcount) → MutateLine log old new upto
mutate-line schema [] old new upto count mcount l h = absurd h
mutate-line schema (e ∷ log) old new upto count mcount l (inl q) =
    let m : IsMutate log old new upto count mcount = subst (Meets schema log) q l.1 in
    record { number = m.number; at = at-older e log upto old.partition m.number m.at; name = m.name; pending = pending-above log old new upto count mcount m; was_made = made-more e log old (live-made log old m.is_live) }
mutate-line schema (e ∷ log) old new upto count mcount l (inr h) =
    let r = mutate-line schema log old new upto count mcount l.0 h in
    record { number = r.number; at = at-older e log upto old.partition r.number r.at; name = r.name; pending = r.pending; was_made = made-more e log old r.was_made }

-- twice no entry makes a name
made-once : (schema : Shape) (x : Entry) (log : List Entry) (a : Name) → Lawful schema (x ∷ log) → result_name x ≡ Some a → Has (made log) a → ⊥
made-once schema x log a l r h =
    let k = subst (λ (o : Option Name). Pairwise Supersedes (made_with o (made log))) r (later-covers schema (x ∷ log) l) in
    (Each-at (Supersedes a) (made log) a k.0 h).differ refl

-- a Mutate at a place comes after the last mutation that it applies, and after the entry that makes the old name
pub record MutatePlaces (log : List Entry) (j : ℕ) (old : Name) (last : ℕ) : Type 0 where
  pub upto : last < j
  pub maker : (i : ℕ) (e : Entry) → entry_at log i ≡ Some e → result_name e ≡ Some old → i < j

mutation-below : (log : List Entry) (i : ℕ) (p : Option ℕ) (n : ℕ) → IsMutationWith (entry_at log i) p n → i < length log
mutation-below log i p n h = go (entry_at log i) refl h
  where
    go : (o : Option Entry) → entry_at log i ≡ o → IsMutationWith o p n → i < length log
    go None q k = absurd k
    go (Some e) q k = entry-below log i e q

pub mutate-places : (schema : Shape) (log : List Entry) (j : ℕ) (old new : Name) (upto count mcount : ℕ) → Lawful schema log → entry_at log j ≡ Some (Mutate old new upto count mcount) → MutatePlaces log j old upto
mutate-places schema [] j old new upto count mcount l q = absurd (cc)
mutate-places schema (x ∷ log) j old new upto count mcount l q = go (entry-cases x log j (Mutate old new upto count mcount) q) (λ u. mutate-places schema log j old new upto count mcount l.0 u)
  where
    go : ((j ≡ length log) × (x ≡ Mutate old new upto count mcount)) ⊎ (entry_at log j ≡ Some (Mutate old new upto count mcount)) → (entry_at log j ≡ Some (Mutate old new upto count mcount) → MutatePlaces log j old upto) → MutatePlaces (x ∷ log) j old upto
    go (inl u) f =
        let m : IsMutate log old new upto count mcount = subst (Meets schema log) u.1 l.1 in
        let n = u.0 in
        record {
          upto = let w = mutation-below log upto old.partition m.number m.at in omega (arith, n, w);
          maker = λ i e a r. maker i e (live-made log old m.is_live) n r (entry-cases x log i e a);
        }
      where
        maker : (i : ℕ) (e : Entry) → Has (made log) old → j ≡ length log → result_name e ≡ Some old → ((i ≡ length log) × (x ≡ e)) ⊎ (entry_at log i ≡ Some e) → i < j
        maker i e h n r (inl v) = absurd (made-once schema x log old l (ap result_name v.1 ∙ r) h)
        maker i e h n r (inr v) = let w = entry-below log i e v in omega (arith, n, w)
    go (inr u) f =
        let g = f u in
        let was = (mutate-line schema log old new upto count mcount l.0 (entry-has log j (Mutate old new upto count mcount) u)).was_made in
        record { upto = g.upto; maker = λ i e a r. maker i e was g.maker r (entry-cases x log i e a) }
      where
        maker : (i : ℕ) (e : Entry) → Has (made log) old → ((i : ℕ) (e : Entry) → entry_at log i ≡ Some e → result_name e ≡ Some old → i < j) → result_name e ≡ Some old → ((i ≡ length log) × (x ≡ e)) ⊎ (entry_at log i ≡ Some e) → i < j
        maker i e h g r (inl v) = absurd (made-once schema x log old l (ap result_name v.1 ∙ r) h)
        maker i e h g r (inr v) = g i e v r

-- ---- the content

-- the mutations up to a part's own, and then those up to the new one
abbrev pub first_of : ℕ → ℕ → ℕ → Bool
first_of n limit k = nat_lt n k && nat_le k limit

module _ (schema : Shape) (log : List Entry) (l : Lawful schema log) (old : Name) (number : ℕ) (above : data_version old < number) (was : Has (made log) old) (ms ms' : List Entry) (n0 : AreNumbered ms) (n1 : AreNumbered ms') (h0 : Each (Has log) ms) (h1 : Each (Has log) ms') (e0 : EndAt ms old.partition old.mutation) (e1 : EndAt ms' old.partition number) where
  split-at : (n : ℕ) → old.min ≤ n → n ≤ old.max → (k : ℕ) → MutatedAt log old.partition k → PartsAt (first_of n old.mutation) (between (data_version old) number) (first_of n number) (data_version old) k
  split-at n i j k z = record { low = λ q. (low q, past q); high = λ q. (none q, whole q) }
    where
      low : k ≤ data_version old → (nat_lt n k && nat_le k old.mutation) ≡ (nat_lt n k && nat_le k number)
      low q = grind (arith, nat_tests)

      past : k ≤ data_version old → (nat_lt (data_version old) k && nat_le k number) ≡ false
      past q = grind (arith, nat_tests)

      none : data_version old < k → (nat_lt n k && nat_le k old.mutation) ≡ false
      none q = grind (arith, nat_tests)

      whole : data_version old < k → (nat_lt (data_version old) k && nat_le k number) ≡ (nat_lt n k && nat_le k number)
      whole q = let u = pending-above-max schema log l old was k z q in grind (arith, nat_tests)

  one-row : (n : ℕ) → old.min ≤ n → n ≤ old.max → (r : Row) → option_and_then (changed ms' old.partition (between (data_version old) number)) (changed ms old.partition (first_of n old.mutation) r) ≡ changed ms' old.partition (first_of n number) r
  one-row n i j r =
      ap (option_and_then (changed ms' old.partition (between (data_version old) number))) (sym (told-mutations schema log ms old.partition old.mutation n r l n0 h0 e0))
      ∙ (pointwise (changed log old.partition (first_of n old.mutation) r)
      ∙ (in-two schema old.partition (first_of n old.mutation) (between (data_version old) number) (first_of n number) (data_version old) log l (split-at n i j) r
      ∙ told-mutations schema log ms' old.partition number n r l n1 h1 e1))
    where
      pointwise : (o : Option Row) → option_and_then (changed ms' old.partition (between (data_version old) number)) o ≡ option_and_then (changed log old.partition (between (data_version old) number)) o
      pointwise None = refl
      pointwise (Some r) = sym (told-mutations schema log ms' old.partition number (data_version old) r l n1 h1 e1)

  all-blocks : (bs : List NumberedBlock) → Each (λ b. (old.min ≤ b.number) × (b.number ≤ old.max)) bs → filter_map (changed ms' old.partition (between (data_version old) number)) (lineage_rows ms old.partition old.mutation bs) ≡ lineage_rows ms' old.partition number bs
  all-blocks [] w = refl
  all-blocks (b ∷ bs) w =
      filter_map-joins (changed ms' old.partition (between (data_version old) number)) (mutated_rows ms old.partition old.mutation b) (lineage_rows ms old.partition old.mutation bs)
      ∙ (ap (λ xs. xs ++ filter_map (changed ms' old.partition (between (data_version old) number)) (lineage_rows ms old.partition old.mutation bs))
      (filter_map-twice (changed ms' old.partition (between (data_version old) number)) (changed ms old.partition (first_of b.number old.mutation)) (changed ms' old.partition (first_of b.number number)) (one-row b.number w.0.0 w.0.1) b.rows)
      ∙ ap (λ xs. mutated_rows ms' old.partition number b ++ xs) (all-blocks bs w.1))

-- a part put through its pending mutations is the content of the new name
pub mutate-tells : (schema : Shape) (log : List Entry) → Lawful schema log → (new : Name) (upto count mcount : ℕ) (part : PartView) (mutations : List Entry) → Has log (Mutate part.name new upto count mcount) → IsPartOf schema log part → AreNumbered mutations → Each (Has log) mutations → EndAt mutations new.partition new.mutation → Makes schema (Mutate part.name new upto count mcount) new (record { blocks = part.lineage.blocks; mutations = mutations }) (filter_map (changed mutations new.partition (between (data_version part.name) new.mutation)) part.rows)
mutate-tells schema log l new upto count mcount part ms' h is n1 h1 e1 =
    subst (λ (a : Name). Makes schema (Mutate part.name new upto count mcount) a (record { blocks = part.lineage.blocks; mutations = ms' }) (filter_map (changed ms' a.partition (between (data_version part.name) a.mutation)) part.rows)) (sym line.name)
    (record {
      keeps = record {
        made = ap Some line.name;
        rising = is.keeps.rising;
        within = is.keeps.within;
        whole = whole;
        numbered = n1;
        upto = end;
      };
      holds =
          ap (filter_map (changed ms' part.name.partition (between (data_version part.name) line.number))) is.holds
          ∙ (order-stays schema log ms' part.name.partition (between (data_version part.name) line.number) (lineage_rows part.lineage.mutations part.name.partition part.name.mutation part.lineage.blocks) l h1
          ∙ ap (in_key_order schema) (all-blocks schema log l part.name line.number line.pending line.was_made part.lineage.mutations ms' is.keeps.numbered n1 is.comes.mutations h1 is.keeps.upto end part.lineage.blocks is.keeps.within));
    })
  where
    line : MutateLine log part.name new upto
    line = mutate-line schema log part.name new upto count mcount l h

    end : EndAt ms' part.name.partition line.number
    end = subst (λ (a : Name). EndAt ms' a.partition a.mutation) line.name e1

    whole : length part.lineage.blocks ≡ count
    whole =
        let w : part.name.min ≤ part.name.max = made-sized schema log part.name l line.was_made in
        is.keeps.whole
        ∙ (told-count schema log part.entry part.name l is.comes.made is.keeps.made
        ∙ (count-passing schema log part.name l w
        ∙ (sym (count-passing schema log (record part.name { mutation = line.number }) l w)
        ∙ sym (told-count schema log (Mutate part.name new upto count mcount) (record part.name { mutation = line.number }) l h (ap Some line.name)))))
