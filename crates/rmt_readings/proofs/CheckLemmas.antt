-- When names are checked: each place that is known and isn't done is, and the done ones are by the replica's own standing.
use Rattle.std.proofs.Common.{◌≡◌, ℕ, ◌≤◌, ◌<◌, ◌⊎◌, inl, inr, Bool, true, false, cond, List, [], ◌∷◌, length, refl, sym, ap, subst, arith, ◌∙◌, nat_eq, nat_lt}
use Rattle.std.proofs.lemmas.Bool.Decides.{nat_tests}
use Rattle.std.specs.declared.option.Option.{Option}
use Rattle.std.specs.declared.option.Option.TheVariants.{Some, None}
use Rattle.rmt_values.specs.Rows.{Shape}
use Rattle.rmt_names.specs.Names.{Name}
use Rattle.rmt_entries.specs.Entries.{result_name}
use Rattle.rmt_entries.specs.declared.entry.Entry.{Entry}
use Rattle.rmt_entries.specs.declared.entry.Entry.TheVariants.{Get, Merge, Mutate, Mutation, DropRange}
use Rattle.rmt_model.specs.Words.{Has, Each}
use Rattle.rmt_model.specs.Live.{made, TakesAway, Dropped}
use Rattle.rmt_model.specs.Lawful.{Lawful, IsPrefix, entry_at}
use Rattle.rmt_model.specs.Fair.{CoveredBy, MadeAtMark, DroppedAtMark, AreFair}
use Rattle.rmt_model.proofs.Lists.{Each-at, Each-all}
use Rattle.rmt_model.proofs.VersionLaws.{made-sized}
use Rattle.rmt_model.proofs.Drops.{some-same, supplants, made-cases, makes-no-drop, entry-below, entry-cases, entry-older, entry-has}
use Rattle.rmt_queue.specs.Marks.{done_at}
use Rattle.rmt_nameset.specs.NameSets.{AreApart}
use Rattle.rmt_partset.specs.ActiveParts.{part_names, shown}
use Rattle.rmt_partset.specs.Snapshots.{NamedData, names_in}
use Rattle.rmt_partset.proofs.PartLists.{names-shown}
use Rattle.rmt_events.proofs.Copies.{made-behind, dropped-behind, entry-front}
use Rattle.rmt_clients.specs.ClientReadings.{IsChecked}
use Rattle.rmt_known.specs.KnownTables.{Known, client_of}
use Rattle.rmt_replica.specs.Replicas.{ReplicaView, IsStandingReplica}
use Rattle.rmt_replica.proofs.MarkLemmas.{past-false}
use Rattle.rmt_readings.specs.Checks.{IsCheckedEntry, IsCheckedAt, IsOpen}

-- ---- marked places

-- a marked place of the log with an entry of this kind
record IsMarked (log : List Entry) (marked : ℕ → Bool) (Kind : Entry → Type 0) : Type 0 where
  pub place : ℕ
  pub entry : Entry
  pub stands : entry_at log place ≡ Some entry
  pub mark : marked place ≡ true
  pub kind : Kind entry

newest-at : (e : Entry) (log : List Entry) → entry_at (e ∷ log) (length log) ≡ Some e
newest-at e log =
    let n : nat_eq (length log) (length log) ≡ true = grind (arith, nat_tests) in
    ap (λ (b : Bool). cond b (Some e) (entry_at log (length log))) n

marked-older : (e : Entry) (log : List Entry) (marked : ℕ → Bool) (Kind : Entry → Type 0) → IsMarked log marked Kind → IsMarked (e ∷ log) marked Kind
marked-older e log marked Kind m = record { place = m.place; entry = m.entry; stands = entry-older e log m.place m.entry m.stands; mark = m.mark; kind = m.kind }

-- what is made at a mark is made by the entry of a marked place
place-made : (log : List Entry) (marked : ℕ → Bool) (a : Name) → MadeAtMark log marked a → IsMarked log marked (λ e. result_name e ≡ Some a)
place-made [] marked a h = absurd h
place-made (e ∷ log) marked a (inl h) = record { place = length log; entry = e; stands = newest-at e log; mark = h.0; kind = h.1 }
place-made (e ∷ log) marked a (inr h) = marked-older e log marked (λ e. result_name e ≡ Some a) (place-made log marked a h)

made-place : (log : List Entry) (marked : ℕ → Bool) (i : ℕ) (e : Entry) (a : Name) → entry_at log i ≡ Some e → marked i ≡ true → result_name e ≡ Some a → MadeAtMark log marked a
made-place [] marked i e a q m r = absurd (cc)
made-place (x ∷ log) marked i e a q m r = elim (entry-cases x log i e q) [
  | inl k ↦ inl (ap marked (sym k.0) ∙ m, ap result_name k.1 ∙ r)
  | inr k ↦ inr (made-place log marked i e a k m r)
]

-- what a drop at a mark takes away the entry of a marked place does
place-dropped : (log : List Entry) (marked : ℕ → Bool) (a : Name) → DroppedAtMark log marked a → IsMarked log marked (λ e. TakesAway e a)
place-dropped [] marked a h = absurd h
place-dropped (e ∷ log) marked a (inl h) = marked-older e log marked (λ e. TakesAway e a) (place-dropped log marked a h)
place-dropped (e ∷ log) marked a (inr h) = record { place = length log; entry = e; stands = newest-at e log; mark = h.0; kind = h.2 }

taken-by : (e : Entry) (a : Name) → TakesAway e a → (n : ℕ) × (e ≡ DropRange a.partition n) × (a.max ≤ n)
taken-by (DropRange p n) a t = (n, ap (λ (q : Option ℕ). DropRange q n) t.0, t.1)
taken-by (Get p n digest source need) a t = absurd t
taken-by (Merge new sources count) a t = absurd t
taken-by (Mutate old new upto count mcount) a t = absurd t
taken-by (Mutation id numbers command) a t = absurd t

-- a made name that the drop at a marked place takes away was made before it
dropped-place : (schema : Shape) (log : List Entry) (marked : ℕ → Bool) (i : ℕ) (e : Entry) (a : Name) → Lawful schema log → Has (made log) a → entry_at log i ≡ Some e → marked i ≡ true → TakesAway e a → DroppedAtMark log marked a
dropped-place schema [] marked i e a l h q m t = absurd h
dropped-place schema (x ∷ log) marked i e a l h q m t = go (made-cases x log a h) (entry-cases x log i e q) (λ g k. dropped-place schema log marked i e a l.0 g k m t)
  where
    go : (result_name x ≡ Some a) ⊎ Has (made log) a → ((i ≡ length log) × (x ≡ e)) ⊎ (entry_at log i ≡ Some e) → (Has (made log) a → entry_at log i ≡ Some e → DroppedAtMark log marked a) → DroppedAtMark (x ∷ log) marked a
    go (inl r) (inl k) f = absurd (makes-no-drop x a a r (subst (λ (y : Entry). TakesAway y a) (sym k.1) t))
    go (inl r) (inr k) f =
        let d = taken-by e a t in
        let u = supplants schema x log a l r in
        let below = u.above d.0 (subst (λ (y : Entry). Has log y) d.1 (entry-has log i e k)) in
        let sized = u.sized in
        let upto = d.2 in
        absurd (omega (arith, below, sized, upto))
    go (inr g) (inl k) f = inr (ap marked (sym k.0) ∙ m, g, subst (λ (y : Entry). TakesAway y a) (sym k.1) t)
    go (inr g) (inr k) f = inl (f g k)

-- ---- one entry

-- an entry that makes no part and takes none away
pub entry-unmade : (log : List Entry) (names : List Name) (e : Entry) → result_name e ≡ None → Each (λ a. TakesAway e a → ⊥) names → IsCheckedEntry log names e
entry-unmade log names e q k = record { kept = k; answered = λ a r. absurd (cc) }

-- an entry that makes a part which is covered or dropped: it takes none away
pub maker-checked : (log : List Entry) (names : List Name) (e : Entry) (a : Name) → result_name e ≡ Some a → CoveredBy names a ⊎ Dropped log a → IsCheckedEntry log names e
maker-checked log names e a q k = record {
  kept = Each-all (λ x. TakesAway e x → ⊥) names (λ x h t. makes-no-drop e a x q t);
  answered = λ b r. subst (λ (x : Name). CoveredBy names x ⊎ Dropped log x) (some-same a b (sym q ∙ r)) k;
}

-- ---- names that are checked

-- where each marked place is checked that isn't done, and the names are fair for the done ones, the names are checked
pub all-checked : (schema : Shape) (own log : List Entry) (marked : ℕ → Bool) (done : List Bool) (names : List Name) → Lawful schema own → IsPrefix own log → length done ≡ length own → AreFair own (done_at done) names
    → ((j : ℕ) → j < length log → marked j ≡ true → done_at done j ≡ false → IsCheckedAt log names j) → IsChecked log marked names
all-checked schema own log marked done names l p n f c = record {
  kept = Each-all (λ a. DroppedAtMark log marked a → ⊥) names (λ a h d. let m = place-dropped log marked a d in kept a h m (done_at done m.place) refl);
  answered = λ a d. let m = place-made log marked a d in answered a m (done_at done m.place) refl;
}
  where
    -- a done place is in the replica's copy
    own-entry : (i : ℕ) (e : Entry) → done_at done i ≡ true → entry_at log i ≡ Some e → entry_at own i ≡ Some e
    own-entry i e t q = entry-front p.gained own i e (within (nat_lt i (length own)) refl) (subst (λ (x : List Entry). entry_at x i ≡ Some e) p.is q)
      where
        within : (b : Bool) → nat_lt i (length own) ≡ b → i < length own
        within true k = grind (arith, nat_tests)
        within false k =
            let m : length done ≤ i = grind (arith, nat_tests, n) in
            let past = past-false done i m in
            absurd (cc)

    checked : (i : ℕ) (e : Entry) → entry_at log i ≡ Some e → marked i ≡ true → done_at done i ≡ false → IsCheckedEntry log names e
    checked i e q m t = c i (entry-below log i e q) m t e q

    kept : (a : Name) → Has names a → (m : IsMarked log marked (λ e. TakesAway e a)) → (b : Bool) → done_at done m.place ≡ b → ⊥
    kept a h m true t = Each-at (λ a. DroppedAtMark own (done_at done) a → ⊥) names a f.kept h
        (dropped-place schema own (done_at done) m.place m.entry a l (Each-at (λ a. Has (made own) a) names a f.made_here h) (own-entry m.place m.entry t m.stands) t m.kind)
    kept a h m false t = Each-at (λ a. TakesAway m.entry a → ⊥) names a (checked m.place m.entry m.stands m.mark t).kept h m.kind

    answered : (a : Name) → (m : IsMarked log marked (λ e. result_name e ≡ Some a)) → (b : Bool) → done_at done m.place ≡ b → CoveredBy names a ⊎ Dropped log a
    answered a m true t = elim (f.answered a (made-place own (done_at done) m.place m.entry a (own-entry m.place m.entry t m.stands) t m.kind)) [
      | inl k ↦ inl k
      | inr d ↦ inr (subst (λ (x : List Entry). Dropped x a) (sym p.is) (dropped-behind p.gained own a d))
    ]
    answered a m false t = (checked m.place m.entry m.stands m.mark t).answered a m.kind

-- of checked names each marked place is checked
pub checked-at : (schema : Shape) (own log : List Entry) (marked : ℕ → Bool) (names : List Name) (i : ℕ) → Lawful schema log → IsPrefix own log → Each (λ a. Has (made own) a) names → marked i ≡ true → IsChecked log marked names → IsCheckedAt log names i
checked-at schema own log marked names i l p made_here m c e q = record {
  kept = Each-all (λ a. TakesAway e a → ⊥) names (λ a h t. Each-at (λ a. DroppedAtMark log marked a → ⊥) names a c.kept h (dropped-place schema log marked i e a l (there a h) q m t));
  answered = λ a r. c.answered a (made-place log marked i e a q m r);
}
  where
    there : (a : Name) → Has names a → Has (made log) a
    there a h = subst (λ (x : List Entry). Has (made x) a) (sym p.is) (made-behind p.gained own a (Each-at (λ a. Has (made own) a) names a made_here h))

-- ---- a replica

-- the names of the parts that are shown of a replica share no number
pub parts-apart : (r : ReplicaView) (parts : List NamedData) → IsStandingReplica r → parts ≡ shown r.parts → (names_in parts ≡ part_names r.parts) × AreApart (names_in parts)
parts-apart r parts s e =
    let names : names_in parts ≡ part_names r.parts = ap names_in e ∙ names-shown r.parts in (
      names,
      subst AreApart (sym names) (record {
        apart = s.fair.apart;
        sized = Each-all (λ a. a.min ≤ a.max) (part_names r.parts) (λ a h. made-sized r.schema r.log a s.lawful (Each-at (λ a. Has (made r.log) a) (part_names r.parts) a s.fair.made_here h));
      }),
    )

-- a replica each of whose places is checked that is known and not done
pub replica-checked : (k : Known) (r : ReplicaView) (from : ℕ) → IsStandingReplica r → IsPrefix r.log k.log → ((j : ℕ) → j < from → done_at r.done j ≡ true)
    → ((j : ℕ) → from ≤ j → j < length k.log → IsOpen k r j → IsCheckedAt k.log (part_names r.parts) j)
    → IsChecked k.log ((client_of k).known r.number) (part_names r.parts)
replica-checked k r from s p below c = all-checked r.schema r.log k.log ((client_of k).known r.number) r.done (part_names r.parts) s.lawful p s.marks s.fair (λ j l m t. go j (nat_lt j from) refl l m t)
  where
    go : (j : ℕ) (b : Bool) → nat_lt j from ≡ b → j < length k.log → (client_of k).known r.number j ≡ true → done_at r.done j ≡ false → IsCheckedAt k.log (part_names r.parts) j
    go j true n l m t = let d = below j (grind (arith, nat_tests)) in absurd (cc)
    go j false n l m t = c j (grind (arith, nat_tests)) l (record { marked = m; pending = t })
