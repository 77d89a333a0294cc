-- What one replica does leaves all whole.
use Rattle.std.proofs.Common.{◌≡◌, ℕ, ◌⊎◌, inl, inr, Bool, true, false, not, List, [], ◌∷◌, length, refl, sym, ap, subst, arith, ◌∙◌}
use Rattle.std.proofs.lemmas.Bool.Decides.{nat_tests}
use Rattle.std.specs.declared.option.Option.{Option}
use Rattle.std.specs.declared.option.Option.TheVariants.{Some, None}
use Rattle.rmt_values.specs.Rows.{Shape}
use Rattle.rmt_names.specs.Names.{Name, rank, Covers, block_name}
use Rattle.rmt_entries.specs.Entries.{result_name}
use Rattle.rmt_entries.specs.declared.entry.Entry.{Entry}
use Rattle.rmt_entries.specs.declared.entry.Entry.TheVariants.{Get, Merge, Mutate, Mutation, DropRange}
use Rattle.rmt_model.specs.Words.{Has, Each}
use Rattle.rmt_model.specs.Live.{made, Dropped}
use Rattle.rmt_model.specs.Lawful.{Lawful, entry_at, is_mutation, MakesAt, IsPrefix}
use Rattle.rmt_model.specs.Fair.{CoveredBy, MadeAtMark}
use Rattle.rmt_model.specs.EntryStates.{IsDroppedEntry}
use Rattle.rmt_model.specs.CopiedParts.{Copied, names_of}
use Rattle.rmt_model.proofs.Lists.{Each-at, Each-all, Has-filter, Has-kept, rank-injective}
use Rattle.rmt_model.proofs.LiveLaws.{covered-placed, placed-new, Get-made}
use Rattle.rmt_model.proofs.Drops.{some-same, entry-cases}
use Rattle.rmt_queue.specs.Marks.{done_at, grown}
use Rattle.rmt_events.specs.Views.{Staged, Replica}
use Rattle.rmt_events.specs.Sound.{IsSoundTable}
use Rattle.rmt_events.specs.ReplicaCalls.{IsStanding, IsStaged, waits_at, staged_without, staged_after, IsAlready, with_entry_done, Settles, DoesDrop, DoesPart, without_range, Pulls}
use Rattle.rmt_events.proofs.FairSteps.{Serves}
use Rattle.rmt_events.specs.Clusters.{Cluster}
use Rattle.rmt_events.specs.Whole.{HasItsBlocks, IsRightlyStaged, KeepsBlock, IsKeptAt, Follows, IsWhole}
use Rattle.rmt_events.specs.ClusterChanges.{IsNumbered, AtReplica}
use Rattle.rmt_events.proofs.Copies.{gets-within, dropped-behind, lawful-behind}
use Rattle.rmt_events.proofs.Moves.{goes-on-refl, whole-replaced}
use Rattle.rmt_events.proofs.ReplicaSteps.{stands-settles, stands-drop, stands-part, stands-pulls, swept-note}

pub follower : (s : Cluster) (k : ℕ) (x : Replica) → IsWhole s → IsNumbered s k x → Follows s x
follower s k x w at = Each-at (Follows s) s.replicas x w.follow at.is_in

-- ---- pull

-- a copy of more of the log, if not of all
follows-copies : (s : Cluster) (x y : Replica) (log : List Entry) → IsWhole s → Follows s x → IsPrefix x.log log → IsPrefix log s.table.log → Pulls x log y → Follows s y
follows-copies s x y log w f g h e =
    record {
      stands = stands-pulls s.table.schema x y log f.stands (lawful-behind s.table.schema (IsPrefix.gained h) log (subst (Lawful s.table.schema) (IsPrefix.is h) (IsSoundTable.lawful w.table))) g e;
      prefix = subst (λ (l : List Entry). IsPrefix l s.table.log) (sym (ap (λ (z : Replica). z.log) e)) h;
      session = subst (λ (z : Replica). (z.up ≡ true → Has s.table.sessions z.number) × (Has s.table.sessions z.number → z.up ≡ true)) (sym e) f.session;
      sources = subst (λ (z : Replica). (p : Option ℕ) (n need : ℕ) (digest : List ℕ) → Has s.table.log (Get p n digest z.number need) → IsKeptAt z p n digest) (sym e) (λ p n need digest h. kept p n digest (f.sources p n need digest h));
      blocks = subst (λ (z : Replica). Each (HasItsBlocks s) z.parts) (sym e) f.blocks;
      waiting = subst (λ (z : Replica). Each (IsRightlyStaged s) z.staged) (sym e) f.waiting;
    }
  where
    kept : (p : Option ℕ) (n : ℕ) (digest : List ℕ) → IsKeptAt x p n digest → IsKeptAt (record x { log = log; done = grown x.done (length log) }) p n digest
    kept p n digest (inl k) = inl (record { block = k.block; staged = record { is_in = IsStaged.is_in k.staged; partition = IsStaged.partition k.staged }; same_id = k.same_id })
    kept p n digest (inr (inl k)) = inr (inl k)
    kept p n digest (inr (inr k)) = inr (inr (subst (λ (l : List Entry). Dropped l (block_name p n)) (sym (IsPrefix.is g)) (dropped-behind (IsPrefix.gained g) x.log (block_name p n) k)))

-- a replica has copied some of the log
pub whole-copies : (s t : Cluster) (k : ℕ) (log : List Entry) → IsWhole s → IsPrefix log s.table.log → AtReplica s k (λ x y. IsPrefix x.log log × Pulls x log y) t → IsWhole t
whole-copies s t k log w h a = subst IsWhole (sym a.change) (whole-replaced s k a.old a.new w a.at (ap (λ (z : Replica). z.number) a.does.1) (λ b h. subst (λ (z : Replica). Has z.noted b) (sym a.does.1) h) (follows-copies s a.old a.new log w (follower s k a.old w a.at) a.does.0 h a.does.1))

pub whole-pulls : (s t : Cluster) (k : ℕ) → IsWhole s → AtReplica s k (λ x y. Pulls x s.table.log y) t → IsWhole t
whole-pulls s t k w a = whole-copies s t k s.table.log w (goes-on-refl s.table.log) (record {
  old = a.old;
  new = a.new;
  at = record { is_in = a.at.is_in; number = a.at.number };
  up = a.up;
  does = (Follows.prefix (follower s k a.old w a.at), a.does);
  change = a.change;
})

-- ---- what an entry that is done leaves staged

-- the entry is the Get of this number
pub record IsGetAt (e : Option Entry) (p : Option ℕ) (n : ℕ) : Type 0 where
  pub digest : List ℕ
  pub source : ℕ
  pub need : ℕ
  pub is : e ≡ Some (Get p n digest source need)

pub still-waits : (e : Option Entry) (zs : List Staged) (z : Staged) → Has zs z → Has (staged_after e zs) z ⊎ IsGetAt e z.block.partition z.number
still-waits None zs z h = inl h
still-waits (Some (Merge new olds count)) zs z h = inl h
still-waits (Some (Mutate old new upto count mcount)) zs z h = inl h
still-waits (Some (Mutation id numbers command)) zs z h = inl h
still-waits (Some (DropRange p n)) zs z h = inl h
still-waits (Some (Get p n digest source need)) zs z h = go (waits_at p n z) refl
  where
    same : p ≡ z.block.partition → n ≡ z.number → ◌≡◌ {A = Option Entry} (Some (Get p n digest source need)) (Some (Get z.block.partition z.number digest source need))
    same a b = cc

    go : (b : Bool) → waits_at p n z ≡ b → Has (staged_without zs p n) z ⊎ IsGetAt (Some (Get p n digest source need)) z.block.partition z.number
    go true e =
        let r : rank z.block.partition ≡ rank p = grind (arith, nat_tests) in
        let m : z.number ≡ n = grind (arith, nat_tests) in
        inr (record { digest = digest; source = source; need = need; is = same (sym (rank-injective z.block.partition p r)) (sym m) })
    go false e = inl (Has-kept (λ y. not (waits_at p n y)) zs z h (ap not e))

pub waited : (e : Option Entry) (zs : List Staged) (z : Staged) → Has (staged_after e zs) z → Has zs z
waited None zs z h = h
waited (Some (Merge new olds count)) zs z h = h
waited (Some (Mutate old new upto count mcount)) zs z h = h
waited (Some (Mutation id numbers command)) zs z h = h
waited (Some (DropRange p n)) zs z h = h
waited (Some (Get p n digest source need)) zs z h = (Has-filter (λ y. not (waits_at p n y)) zs z h).0

-- ---- settle

made-mark : (log : List Entry) (i : ℕ) (m : ℕ → Bool) (e : Entry) (a : Name) → entry_at log i ≡ Some e → result_name e ≡ Some a → m i ≡ true → MadeAtMark log m a
made-mark [] i m e a q r t = absurd (cc)
made-mark (x ∷ log) i m e a q r t = elim (entry-cases x log i e q) [
  | inl k ↦ inl (ap m (sym k.0) ∙ t, ap result_name k.1 ∙ r)
  | inr k ↦ inr (made-mark log i m e a k r t)
]

one-result : (log : List Entry) (i : ℕ) (e : Entry) (a b : Name) → entry_at log i ≡ Some e → result_name e ≡ Some a → MakesAt log i b → b ≡ a
one-result log i e a b q r m = some-same b a (sym m.makes ∙ (ap result_name (some-same m.entry e (sym m.stands ∙ q)) ∙ r))

mutation-makes-none : (e : Entry) (a : Name) → is_mutation e ≡ true → result_name e ≡ Some a → ⊥
mutation-makes-none (Mutation id numbers command) a q r = absurd (cc)
mutation-makes-none (Get p n digest source need) a q r = absurd (cc)
mutation-makes-none (Merge new sources count) a q r = absurd (cc)
mutation-makes-none (Mutate old new upto count mcount) a q r = absurd (cc)
mutation-makes-none (DropRange p n) a q r = absurd (cc)

-- what is done, covered or dropped has its result covered or dropped
answered-entry : (schema : Shape) (x : Replica) (i : ℕ) (e : Entry) (a : Name) → IsStanding schema x → IsAlready x i ⊎ IsDroppedEntry x.log i → entry_at x.log i ≡ Some e → result_name e ≡ Some a → CoveredBy (names_of x.parts) a ⊎ Dropped x.log a
answered-entry schema x i e a t (inl (inl d)) q r = t.fair.answered a (made-mark x.log i (done_at x.done) e a q r d)
answered-entry schema x i e a t (inl (inr (inl k))) q r = absurd (mutation-makes-none e a (ap is_mutation (some-same e k.entry (sym q ∙ k.stands)) ∙ k.is) r)
answered-entry schema x i e a t (inl (inr (inr k))) q r = inl (subst (CoveredBy (names_of x.parts)) (one-result x.log i e a k.name q r k.makes) k.covered)
answered-entry schema x i e a t (inr k) q r = inr (subst (Dropped x.log) (one-result x.log i e a k.name q r k.makes) k.dropped)

-- the staged block of a Get that is done is needed no more
kept-released : (x : Replica) (i : ℕ) (parts : List Copied) (p : Option ℕ) (n : ℕ) (digest : List ℕ) → KeepsBlock x p n digest
    → ((d : List ℕ) (source need : ℕ) → entry_at x.log i ≡ Some (Get p n d source need) → CoveredBy (names_of parts) (block_name p n) ⊎ Dropped x.log (block_name p n))
    → IsKeptAt (record (with_entry_done x i) { parts = parts }) p n digest
kept-released x i parts p n digest k f = elim (still-waits (entry_at x.log i) x.staged (record { number = n; block = k.block }) (IsStaged.is_in k.staged)) [
  | inl h ↦ inl (record { block = k.block; staged = record { is_in = h; partition = IsStaged.partition k.staged }; same_id = k.same_id })
  | inr g ↦ inr (f g.digest g.source g.need (subst (λ (o : Option ℕ). entry_at x.log i ≡ Some (Get o n g.digest g.source g.need)) (IsStaged.partition k.staged) g.is))
]

pub follows-settles : (s : Cluster) (x y : Replica) (i : ℕ) → IsWhole s → Follows s x → Settles x i y → Follows s y
follows-settles s x y i w f e =
    record {
      stands = stands-settles s.table.schema x y i f.stands e;
      prefix = subst (λ (z : Replica). IsPrefix z.log s.table.log) (sym e.change) f.prefix;
      session = subst (λ (z : Replica). (z.up ≡ true → Has s.table.sessions z.number) × (Has s.table.sessions z.number → z.up ≡ true)) (sym e.change) f.session;
      sources = subst (λ (z : Replica). (p : Option ℕ) (n need : ℕ) (digest : List ℕ) → Has s.table.log (Get p n digest z.number need) → IsKeptAt z p n digest) (sym e.change) (λ p n need digest h. kept p n digest (f.sources p n need digest h));
      blocks = subst (λ (z : Replica). Each (HasItsBlocks s) z.parts) (sym e.change) f.blocks;
      waiting = subst (λ (z : Replica). Each (IsRightlyStaged s) z.staged) (sym e.change) (Each-all (IsRightlyStaged s) (staged_after (entry_at x.log i) x.staged) (λ z h. Each-at (IsRightlyStaged s) x.staged z f.waiting (waited (entry_at x.log i) x.staged z h)));
    }
  where
    kept : (p : Option ℕ) (n : ℕ) (digest : List ℕ) → IsKeptAt x p n digest → IsKeptAt (with_entry_done x i) p n digest
    kept p n digest (inl k) = kept-released x i x.parts p n digest k (λ d source need q. answered-entry s.table.schema x i (Get p n d source need) (block_name p n) f.stands e.cause q refl)
    kept p n digest (inr k) = inr k

-- ---- a drop

-- a Get whose result an active part covers stands in the copy
pub covered-made : (s : Cluster) (x : Replica) (p : Option ℕ) (n source need : ℕ) (digest : List ℕ) → IsWhole s → Follows s x → Has s.table.log (Get p n digest source need) → CoveredBy (names_of x.parts) (block_name p n) → Has (made x.log) (block_name p n)
covered-made s x p n source need digest w f h k =
    let m = Each-at (λ a. Has (made x.log) a) (names_of x.parts) k.name f.stands.fair.made_here k.is_in in
    let l = subst (Lawful s.table.schema) (IsPrefix.is f.prefix) (IsSoundTable.lawful w.table) in
    let g = subst (λ (l : List Entry). Has l (Get k.name.partition n digest source need)) (IsPrefix.is f.prefix) (subst (λ (o : Option ℕ). Has s.table.log (Get o n digest source need)) (sym k.covers.partition) h) in
    let t = gets-within s.table.schema (IsPrefix.gained f.prefix) x.log k.name n source need digest l m (record { partition = refl; low = k.covers.min; high = k.covers.max }) g in
    Get-made x.log p n digest source need (subst (λ (o : Option ℕ). Has x.log (Get o n digest source need)) k.covers.partition t)

pub follows-drop : (s : Cluster) (x y : Replica) (i : ℕ) → IsWhole s → Follows s x → DoesDrop x i y → Follows s y
follows-drop s x y i w f e =
    record {
      stands = stands-drop s.table.schema x y i f.stands e;
      prefix = subst (λ (z : Replica). IsPrefix z.log s.table.log) (sym e.change) f.prefix;
      session = subst (λ (z : Replica). (z.up ≡ true → Has s.table.sessions z.number) × (Has s.table.sessions z.number → z.up ≡ true)) (sym e.change) f.session;
      sources = subst (λ (z : Replica). (p : Option ℕ) (n need : ℕ) (digest : List ℕ) → Has s.table.log (Get p n digest z.number need) → IsKeptAt z p n digest) (sym e.change) (λ p n need digest h. kept p n need digest h (f.sources p n need digest h));
      blocks = subst (λ (z : Replica). Each (HasItsBlocks s) z.parts) (sym e.change) (Each-all (HasItsBlocks s) left (λ part h. Each-at (HasItsBlocks s) x.parts part f.blocks (Has-filter _ x.parts part h).0));
      waiting = subst (λ (z : Replica). Each (IsRightlyStaged s) z.staged) (sym e.change) (Each-all (IsRightlyStaged s) (staged_after (entry_at x.log i) x.staged) (λ z h. Each-at (IsRightlyStaged s) x.staged z f.waiting (waited (entry_at x.log i) x.staged z h)));
    }
  where
    left : List Copied
    left = without_range e.partition e.number x.parts

    other : (d : List ℕ) (p : Option ℕ) (n source need : ℕ) → entry_at x.log i ≡ Some (Get p n d source need) → ⊥
    other d p n source need q = let k = some-same (Get p n d source need) (DropRange e.partition e.number) (sym q ∙ e.stands) in absurd (cc)

    kept : (p : Option ℕ) (n need : ℕ) (digest : List ℕ) → Has s.table.log (Get p n digest x.number need) → IsKeptAt x p n digest → IsKeptAt (record (with_entry_done x i) { parts = without_range e.partition e.number x.parts }) p n digest
    kept p n need digest h (inl k) = kept-released x i left p n digest k (λ d source m q. absurd (other d p n source m q))
    kept p n need digest h (inr (inl k)) = inr (swept-note s.table.schema x i e.partition e.number (block_name p n) f.stands e.stands (covered-made s x p n x.number need digest w f h k) k)
    kept p n need digest h (inr (inr k)) = inr (inr k)

-- ---- a part

pub follows-part : (s : Cluster) (x y : Replica) (i : ℕ) (part : Copied) → IsWhole s → Follows s x → Serves s.table.schema x i part → HasItsBlocks s part → DoesPart x i part y → Follows s y
follows-part s x y i part w f v b e =
    record {
      stands = stands-part s.table.schema x y i part f.stands v e;
      prefix = subst (λ (z : Replica). IsPrefix z.log s.table.log) (sym e.change) f.prefix;
      session = subst (λ (z : Replica). (z.up ≡ true → Has s.table.sessions z.number) × (Has s.table.sessions z.number → z.up ≡ true)) (sym e.change) f.session;
      sources = subst (λ (z : Replica). (p : Option ℕ) (n need : ℕ) (digest : List ℕ) → Has s.table.log (Get p n digest z.number need) → IsKeptAt z p n digest) (sym e.change) (λ p n need digest h. kept p n digest (f.sources p n need digest h));
      blocks = Each-all (HasItsBlocks s) y.parts (λ q h. elim (e.installs.others q h) [ inl r ↦ subst (HasItsBlocks s) (sym r) b | inr k ↦ Each-at (HasItsBlocks s) x.parts q f.blocks k ]);
      waiting = subst (λ (z : Replica). Each (IsRightlyStaged s) z.staged) (sym e.change) (Each-all (IsRightlyStaged s) (staged_after (entry_at x.log i) x.staged) (λ z h. Each-at (IsRightlyStaged s) x.staged z f.waiting (waited (entry_at x.log i) x.staged z h)));
    }
  where
    -- the part covers what the entry makes
    serves : (p : Option ℕ) (n source need : ℕ) (d : List ℕ) → entry_at x.log i ≡ Some (Get p n d source need) → CoveredBy (names_of y.parts) (block_name p n)
    serves p n source need d q =
        subst (λ (xs : List Name). CoveredBy xs (block_name p n)) (sym e.installs.names)
        (record { name = part.name; is_in = placed-new part.name (names_of x.parts); covers = subst (Covers part.name) (one-result x.log i (Get p n d source need) (block_name p n) e.fits.name q refl e.fits.makes) e.fits.covers })

    kept : (p : Option ℕ) (n : ℕ) (digest : List ℕ) → IsKeptAt x p n digest → IsKeptAt (record (with_entry_done x i) { parts = y.parts }) p n digest
    kept p n digest (inl k) = kept-released x i y.parts p n digest k (λ d source need q. inl (serves p n source need d q))
    kept p n digest (inr (inl k)) = inr (inl (subst (λ (xs : List Name). CoveredBy xs (block_name p n)) (sym e.installs.names) (covered-placed part.name (names_of x.parts) (block_name p n) k)))
    kept p n digest (inr (inr k)) = inr (inr k)
