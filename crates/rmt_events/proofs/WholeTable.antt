-- A table that gains an entry which is no Get leaves all whole.
use Rattle.std.proofs.Common.{◌≡◌, ℕ, ◌+◌, ◌<◌, ◌≤◌, ◌⊎◌, inl, inr, List, ◌∷◌, refl, sym, ap, subst, arith, ◌∙◌}
use Rattle.std.specs.declared.option.Option.{Option}
use Rattle.std.specs.declared.option.Option.TheVariants.{Some}
use Rattle.rmt_values.specs.declared.checked_mutation.CheckedMutation.{CheckedMutation}
use Rattle.rmt_names.specs.Names.{Name}
use Rattle.rmt_entries.specs.declared.entry.Entry.{Entry}
use Rattle.rmt_entries.specs.declared.entry.Entry.TheVariants.{Get, Merge, Mutate, Mutation, DropRange}
use Rattle.rmt_model.specs.Words.{Has}
use Rattle.rmt_model.specs.Lawful.{Uses, Used, entry_at, IsPrefix}
use Rattle.rmt_model.proofs.Lists.{Each-at, Each-all}
use Rattle.rmt_model.proofs.Drops.{entry-cases}
use Rattle.rmt_events.specs.Views.{Replica, Table}
use Rattle.rmt_model.specs.BlockNumbers.{next_number}
use Rattle.rmt_events.specs.TableCalls.{AssignsMerge, AssignsMutate, CreatesMutation, DropsPartition}
use Rattle.rmt_events.specs.Sound.{IsSoundTable}
use Rattle.rmt_events.specs.Clusters.{blocks_in, Attempt, Cluster}
use Rattle.rmt_model.specs.Quorum.{quorum_blocks}
use Rattle.rmt_events.specs.Whole.{Follows, IsOpen, IsCommitted, KeepNotes, IsWhole}
use Rattle.rmt_events.proofs.Notes.{noted-same, notes-on, notes-same, pending-left, last-left}
use Rattle.rmt_events.specs.ClusterChanges.{AtTable}
use Rattle.rmt_events.proofs.Numbers.{next-has, next-advanced}
use Rattle.rmt_events.proofs.TableSteps.{still-below, sound-merges, sound-mutates, sound-mutation, sound-drops}
use Rattle.rmt_events.proofs.Moves.{count-kept, goes-on-refl, goes-on-more, GrowsTo, Suits, follows-moved, open-moved}

-- the entry gets no block
abbrev pub GetsNone : Entry → Type 0
GetsNone e = (p : Option ℕ) (n source need : ℕ) (digest : List ℕ) → e ≡ Get p n digest source need → ⊥

-- a table gains an entry that gets no block and uses no number below the next ones; the rest of it goes on
pub record Gains (old : Table) (e : Entry) (new : Table) : Type 0 where
  pub sound : IsSoundTable new
  pub schema_is : new.schema ≡ old.schema
  pub log_is : new.log ≡ e ∷ old.log
  pub sessions_are : new.sessions ≡ old.sessions
  pub values_are : new.values ≡ old.values
  pub none : GetsNone e
  pub uses : (p : Option ℕ) (n : ℕ) → Uses e p n → next_number old.next p ≤ n
  pub next_on : (p : Option ℕ) (m : ℕ) → m < next_number old.next p → m < next_number new.next p
  pub notes_on : (xs : List Replica) → KeepNotes old xs → KeepNotes new xs

older-entry : (s : Cluster) (u : Table) (e : Entry) (i n source need : ℕ) (p : Option ℕ) (digest : List ℕ) → Gains s.table e u → entry_at u.log i ≡ Some (Get p n digest source need) → entry_at s.table.log i ≡ Some (Get p n digest source need)
older-entry s u e i n source need p digest g q =
    let k = subst (λ (l : List Entry). entry_at l i ≡ Some (Get p n digest source need)) g.log_is q in
    elim (entry-cases e s.table.log i (Get p n digest source need) k) [ inl h ↦ absurd (g.none p n source need digest h.1) | inr h ↦ h ]

pub whole-gains : (s : Cluster) (u : Table) (e : Entry) → IsWhole s → Gains s.table e u → IsWhole (record s { table = u })
whole-gains s u e w g =
    record {
      table = g.sound;
      rising = w.rising;
      follow = Each-all (Follows t) s.replicas (λ x h. follows-moved s t x (suits x) (Each-at (Follows s) s.replicas x w.follow h));
      committed = λ i p n source need digest q. let c = w.committed i p n source need digest (older-entry s u e i n source need p digest g q) in (record { block = IsCommitted.block c.0; is = IsCommitted.is c.0; partition = IsCommitted.partition c.0; same_id = IsCommitted.same_id c.0 }, c.1);
      attempts = Each-all (IsOpen t) s.attempts (λ a h. try a (Each-at (IsOpen s) s.attempts a w.attempts h));
      apart = w.apart;
      counted = count-kept s t g.values_are g.schema_is (ap (λ (l : List Entry). blocks_in l s.events) g.log_is ∙ no-block e g.none) w.counted;
      notes = g.notes_on s.replicas w.notes;
    }
  where
    t : Cluster
    t = record s { table = u }

    no-block : (e : Entry) → GetsNone e → blocks_in (e ∷ s.table.log) s.events ≡ blocks_in s.table.log s.events
    no-block (Get p n digest source need) f = absurd (f p n source need digest refl)
    no-block (Merge name sources count) f = refl
    no-block (Mutate old name upto count mcount) f = refl
    no-block (Mutation id numbers command) f = refl
    no-block (DropRange p n) f = refl

    grows : GrowsTo s t
    grows = record {
      schema = g.schema_is;
      log = subst (λ (l : List Entry). IsPrefix s.table.log l) (sym g.log_is) (goes-on-more e s.table.log s.table.log (goes-on-refl s.table.log));
      next = g.next_on;
      blocks = λ i b l q. q;
    }

    older : (p : Option ℕ) (n source need : ℕ) (digest : List ℕ) → Has u.log (Get p n digest source need) → Has s.table.log (Get p n digest source need)
    older p n source need digest h = elim (subst (λ (l : List Entry). Has l (Get p n digest source need)) g.log_is h) [ inl q ↦ absurd (g.none p n source need digest q) | inr k ↦ k ]

    suits : (x : Replica) → Suits s t x
    suits x = record {
      grows = grows;
      opened = λ h. subst (λ (l : List ℕ). Has l x.number) (sym g.sessions_are) h;
      closed = λ h. subst (λ (l : List ℕ). Has l x.number) g.sessions_are h;
      gets = λ p n need digest h. inl (older p n x.number need digest h);
      staged = λ z h. record { gets = λ i source need digest q. inl (older-entry s u e i z.number source need z.block.partition digest g q); attempts = λ a k q m. inl k };
    }

    try : (a : Attempt) → IsOpen s a → IsOpen t a
    try a o = open-moved s t a (omega arith) (λ b. b) grows (λ k. used (subst (λ (l : List Entry). Used l a.block.partition a.number) g.log_is k)) o
      where
        used : Uses e a.block.partition a.number ⊎ Used s.table.log a.block.partition a.number → Used s.table.log a.block.partition a.number
        used (inl k) = let l = g.uses a.block.partition a.number k in let m = o.below in absurd (omega (arith, l, m))
        used (inr k) = k

-- ---- the four kinds

gains-merge : (t u : Table) (name : Name) (olds : List Name) (count : ℕ) → IsSoundTable t → AssignsMerge t name olds count u → Gains t (Merge name olds count) u
gains-merge t u name olds count s c =
    record {
      sound = sound-merges t u name olds count s c;
      schema_is = ap (λ (x : Table). x.schema) c.change;
      log_is = ap (λ (x : Table). x.log) c.change;
      sessions_are = ap (λ (x : Table). x.sessions) c.change;
      values_are = ap (λ (x : Table). x.values) c.change;
      none = λ p n source need digest q. absurd (cc);
      uses = λ p n k. absurd k;
      next_on = λ p m l. subst (λ (x : Table). m < next_number x.next p) (sym c.change) l;
      notes_on = λ xs k. notes-same t u xs xs (ap (λ (x : Table). x.quorum) c.change) (λ b h. subst (λ (x : Table). Has (quorum_blocks x.log) b) (sym c.change) h) (noted-same xs) k;
    }

gains-mutate : (t u : Table) (old name : Name) (upto count mcount : ℕ) → IsSoundTable t → AssignsMutate t old name upto count mcount u → Gains t (Mutate old name upto count mcount) u
gains-mutate t u old name upto count mcount s c =
    record {
      sound = sound-mutates t u old name upto count mcount s c;
      schema_is = ap (λ (x : Table). x.schema) c.change;
      log_is = ap (λ (x : Table). x.log) c.change;
      sessions_are = ap (λ (x : Table). x.sessions) c.change;
      values_are = ap (λ (x : Table). x.values) c.change;
      none = λ p n source need digest q. absurd (cc);
      uses = λ p n k. absurd k;
      next_on = λ p m l. subst (λ (x : Table). m < next_number x.next p) (sym c.change) l;
      notes_on = λ xs k. notes-same t u xs xs (ap (λ (x : Table). x.quorum) c.change) (λ b h. subst (λ (x : Table). Has (quorum_blocks x.log) b) (sym c.change) h) (noted-same xs) k;
    }

pub whole-merge : (s t : Cluster) (name : Name) (olds : List Name) (count : ℕ) → IsWhole s → AtTable s (λ u v. AssignsMerge u name olds count v) t → IsWhole t
whole-merge s t name olds count w c = subst IsWhole (sym c.change) (whole-gains s c.new (Merge name olds count) w (gains-merge s.table c.new name olds count w.table c.does))

pub whole-mutate : (s t : Cluster) (old name : Name) (upto count mcount : ℕ) → IsWhole s → AtTable s (λ u v. AssignsMutate u old name upto count mcount v) t → IsWhole t
whole-mutate s t old name upto count mcount w c = subst IsWhole (sym c.change) (whole-gains s c.new (Mutate old name upto count mcount) w (gains-mutate s.table c.new old name upto count mcount w.table c.does))

pub whole-mutation : (s t : Cluster) (command : CheckedMutation) → IsWhole s → AtTable s (λ u v. CreatesMutation u command v) t → IsWhole t
whole-mutation s t command w c = subst IsWhole (sym c.change) (whole-gains s c.new _ w (record {
  sound = sound-mutation s.table c.new command w.table c.does;
  schema_is = ap (λ (x : Table). x.schema) c.does.change;
  log_is = ap (λ (x : Table). x.log) c.does.change;
  sessions_are = ap (λ (x : Table). x.sessions) c.does.change;
  values_are = ap (λ (x : Table). x.values) c.does.change;
  none = λ p n source need digest q. absurd (cc);
  uses = λ p n k. let e = next-has s.table.next p n (IsSoundTable.ordered w.table) k in omega (arith, e);
  next_on = λ p m l. subst (λ (x : Table). m < next_number x.next p) (sym c.does.change) (let e = next-advanced s.table.next p in omega (arith, e, l));
  notes_on = λ xs k. notes-same s.table c.new xs xs (ap (λ (x : Table). x.quorum) c.does.change) (λ b h. subst (λ (x : Table). Has (quorum_blocks x.log) b) (sym c.does.change) h) (noted-same xs) k;
}))

pub whole-drop : (s t : Cluster) (p : Option ℕ) (n : ℕ) → IsWhole s → AtTable s (λ u v. DropsPartition u p n v) t → IsWhole t
whole-drop s t p n w c = subst IsWhole (sym c.change) (whole-gains s c.new (DropRange p n) w (record {
  sound = sound-drops s.table c.new p n w.table c.does;
  schema_is = ap (λ (x : Table). x.schema) c.does.change;
  log_is = ap (λ (x : Table). x.log) c.does.change;
  sessions_are = ap (λ (x : Table). x.sessions) c.does.change;
  values_are = ap (λ (x : Table). x.values) c.does.change;
  none = λ q m source need digest e. absurd (cc);
  uses = λ q m k. let e = c.does.number in let f = k.1 in subst (λ (o : Option ℕ). next_number s.table.next o ≤ m) k.0 (omega (arith, e, f));
  next_on = λ q m l. subst (λ (x : Table). m < next_number x.next q) (sym c.does.change) (still-below s.table.next p q (n + 1) m (let e = c.does.number in omega (arith, e)) l);
  notes_on = λ xs k. notes-on s.table c.new xs xs
      (λ q e. inl (pending-left p n s.table.quorum.pending q (ap (λ (x : Table). x.quorum.pending) (sym c.does.change) ∙ e)))
      (λ a e. last-left p n s.table.quorum.last a (ap (λ (x : Table). x.quorum.last) (sym c.does.change) ∙ e))
      (λ b h. subst (λ (x : Table). Has (quorum_blocks x.log) b) (sym c.does.change) h) (noted-same xs) k;
}))
