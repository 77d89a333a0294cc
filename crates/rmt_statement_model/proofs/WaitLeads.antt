-- WAIT MUTATION as a loop has it: how it begins, goes on, and ends.
use Rattle.std.proofs.Common.{◌≡◌, ℕ, ◌+◌, ◌≤◌, false, List, ◌∷◌, refl, sym, ap, subst, arith, ◌∙◌}
use Rattle.std.specs.declared.option.Option.{Option}
use Rattle.std.specs.declared.option.Option.TheVariants.{Some, None}
use Rattle.rmt_values.specs.declared.checked_mutation.CheckedMutation.{CheckedMutation}
use Rattle.rmt_values.specs.declared.limit.Limit.{Limit}
use Rattle.rmt_values.specs.Rows.{Shape}
use Rattle.rmt_names.specs.Names.{Name}
use Rattle.rmt_entries.specs.declared.entry.Entry.{Entry}
use Rattle.rmt_entries.specs.declared.entry.Entry.TheVariants.{Mutate, Mutation}
use Rattle.rmt_model.specs.Words.{Has}
use Rattle.rmt_model.specs.Live.{live}
use Rattle.rmt_model.specs.Lawful.{Lawful, entry_at}
use Rattle.rmt_model.proofs.Lists.{Has-right}
use Rattle.rmt_model.proofs.Drops.{entry-older}
use Rattle.rmt_model.specs.EntryLimits.{worker_limit}
use Rattle.rmt_model.specs.Choices.{last_pending}
use Rattle.rmt_events.specs.Sound.{IsSoundTable}
use Rattle.rmt_events.specs.Clusters.{Cluster}
use Rattle.rmt_events.specs.Whole.{IsWhole}
use Rattle.rmt_reply.specs.declared.refusal.Refusal.TheVariants.{LimitReached}
use Rattle.rmt_statement_model.specs.TableStates.{TableState, synced}
use Rattle.rmt_statement_model.specs.Shows.{Shows, ShowsTable, Leads}
use Rattle.rmt_statement_model.specs.Waits.{IsCarried, WaitsFor, LacksEntries}
use Rattle.rmt_statement_model.proofs.PendingLaws.{none-pending, some-pending, new-carried}
use Rattle.rmt_statement_model.proofs.WaitRows.{MutatesSynced, mutates-none, mutates-more, mutates-place, waits-all, waits-some}

-- ---- the log

-- what stood at a place stands there
pub placed-still : (s w : Cluster) (x : Entry) (place : ℕ) (e : Entry) → w.table.log ≡ x ∷ s.table.log → entry_at s.table.log place ≡ Some e → entry_at w.table.log place ≡ Some e
placed-still s w x place e m q = subst (λ (l : List Entry). entry_at l place ≡ Some e) (sym m) (entry-older x s.table.log place e q)

-- ---- what is shown

-- the log that is shown is lawful
shown-lawful : (s : Cluster) (t : TableState) → Lawful s.table.schema s.table.log → Shows s t → Lawful t.schema t.log
shown-lawful s t w h = subst (λ (c : Shape). Lawful c t.log) (sym h.table.schema) (subst (Lawful s.table.schema) (sym h.table.log) w)

-- the replica is up to date, and no part is mutated yet
pub wait-begins : (t : TableState) (s : Cluster) (k id place : ℕ) (numbers : List (Option ℕ × ℕ)) (command : CheckedMutation) → IsWhole s → entry_at s.table.log place ≡ Some (Mutation id numbers command) → Shows s (synced k t) → Leads s (λ v. MutatesSynced t k id v)
wait-begins t s k id place numbers command w e h =
    record {
      state = synced k t;
      holds = mutates-none t k id place numbers command (shown-lawful s (synced k t) (IsSoundTable.lawful w.table) h) (subst (λ (l : List Entry). entry_at l place ≡ Some (Mutation id numbers command)) (sym h.table.log) e);
      shows = h;
    }

-- what is carried in the longer log is so in the log before
carried-before : (t u : TableState) (r id : ℕ) (a : Name) → MutatesSynced t r id u → IsCarried u.log id a → IsCarried t.log id a
carried-before t u r id a m f k n numbers command h =
    f k n numbers command (subst (λ (x : TableState). Has x.log (Mutation k numbers command)) (sym m.change) (Has-right m.gained t.log (Mutation k numbers command) h))

-- one more part is mutated, up to the last mutation that was pending for it and isn't past the place, and the replica is brought
-- up to date
pub wait-goes-on : (t : TableState) (s w : Cluster) (k id place i count mcount : ℕ) (old name : Name) (numbers : List (Option ℕ × ℕ)) (command : CheckedMutation) → Lawful w.table.schema w.table.log → entry_at s.table.log place ≡ Some (Mutation id numbers command) → last_pending s.table.log old (place + 1) ≡ Some i → i ≤ place → worker_limit s.table.log ≡ None
    → ((v : TableState) → Shows s v → Shows w (synced k (record v { log = Mutate old name i count mcount ∷ v.log }))) → Leads s (λ v. MutatesSynced t k id v) → Leads w (λ v. MutatesSynced t k id v)
wait-goes-on t s w k id place i count mcount old name numbers command h e n l b f g =
    record {
      state = synced k next;
      holds = mutates-more t g.state (synced k next) k id place (Mutate old name i count mcount) g.holds
          (let q = mutates-place t g.state k id place numbers command g.holds there in omega (arith, q, l), carried-before t g.state k id name g.holds carried)
          (ap worker_limit (ShowsTable.log (Shows.table g.shows)) ∙ b)
          (subst (λ (c : Shape). Lawful c next.log) (ap (λ (x : TableState). x.schema) (MutatesSynced.change g.holds)) lawful) refl;
      shows = shown;
    }
  where
    next : TableState
    next = record g.state { log = Mutate old name i count mcount ∷ g.state.log }

    shown : Shows w (synced k next)
    shown = f g.state (Leads.shows g)

    lawful : Lawful g.state.schema next.log
    lawful = shown-lawful w (synced k next) h shown

    there : entry_at g.state.log place ≡ Some (Mutation id numbers command)
    there = subst (λ (x : List Entry). entry_at x place ≡ Some (Mutation id numbers command)) (sym (ShowsTable.log (Shows.table g.shows))) e

    carried : IsCarried g.state.log id name
    carried = new-carried g.state.schema g.state.log place id i count mcount old name numbers command lawful there
        (subst (λ (x : List Entry). last_pending x old (place + 1) ≡ Some i) (sym (ShowsTable.log (Shows.table g.shows))) n)

-- no mutation up to the place is pending for a live name
pub wait-ends : (t : TableState) (s : Cluster) (k id place : ℕ) (numbers : List (Option ℕ × ℕ)) (command : CheckedMutation) → IsWhole s → entry_at s.table.log place ≡ Some (Mutation id numbers command) → ((a : Name) → Has (live s.table.log) a → last_pending s.table.log a (place + 1) ≡ None) → Leads s (λ v. MutatesSynced t k id v) → Leads s (λ v. WaitsFor false t k id v)
wait-ends t s k id place numbers command w e n g =
    record {
      state = g.state;
      holds = waits-all false t g.state k id g.holds (none-pending g.state.schema g.state.log place id numbers command (shown-lawful s g.state (IsSoundTable.lawful w.table) (Leads.shows g))
          (subst (λ (l : List Entry). entry_at l place ≡ Some (Mutation id numbers command)) (sym (ShowsTable.log (Shows.table g.shows))) e)
          (subst (λ (l : List Entry). (a : Name) → Has (live l) a → last_pending l a (place + 1) ≡ None) (sym (ShowsTable.log (Shows.table g.shows))) n));
      shows = g.shows;
    }

-- a part waits still, and one more entry would pass a limit
pub wait-stops : (t : TableState) (s u : Cluster) (k id place i : ℕ) (old : Name) (numbers : List (Option ℕ × ℕ)) (command : CheckedMutation) (limit : Limit) (value : ℕ) → IsWhole s → entry_at s.table.log place ≡ Some (Mutation id numbers command) → Has (live s.table.log) old → last_pending s.table.log old (place + 1) ≡ Some i
    → ((v : TableState) → Shows s v → (worker_limit v.log ≡ Some (limit, value)) × Shows u v) → Leads s (λ v. MutatesSynced t k id v) → Leads u (λ v. LacksEntries false t k id (LimitReached limit value) v)
wait-stops t s u k id place i old numbers command limit value w e h n f g =
    let r = f g.state g.shows in
    record {
      state = g.state;
      holds = waits-some false t g.state k id limit value g.holds
          (some-pending g.state.schema g.state.log place id i numbers command old (shown-lawful s g.state (IsSoundTable.lawful w.table) (Leads.shows g))
          (subst (λ (l : List Entry). entry_at l place ≡ Some (Mutation id numbers command)) (sym (ShowsTable.log (Shows.table g.shows))) e)
          (subst (λ (l : List Entry). Has (live l) old) (sym (ShowsTable.log (Shows.table g.shows))) h)
          (subst (λ (l : List Entry). last_pending l old (place + 1) ≡ Some i) (sym (ShowsTable.log (Shows.table g.shows))) n))
          r.0;
      shows = r.1;
    }
