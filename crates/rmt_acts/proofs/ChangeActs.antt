-- What turns, mutations and drops come to, from what their events come to.
use Rattle.std.proofs.Common.{◌≡◌, ℕ, ◌+◌, ◌<◌, inl, inr, ◌∙◌, List, ◌∷◌, length, refl, ap, subst, sym, true}
use Rattle.std.specs.Prelude.{OnOk}
use Rattle.std.specs.declared.option.Option.{Option}
use Rattle.std.specs.declared.option.Option.TheVariants.{Some}
use Rattle.std.specs.declared.result.Result.{Result}
use Rattle.std.specs.declared.result.Result.TheVariants.{Ok, Err}
use Rattle.rmt_entries.specs.declared.entry.Entry.{Entry}
use Rattle.rmt_entries.specs.declared.entry.Entry.TheVariants.{DropRange}
use Rattle.rmt_model.specs.Lawful.{entry_at}
use Rattle.rmt_model.proofs.Drops.{some-same}
use Rattle.rmt_model.specs.Quorum.{quorum_after_drop}
use Rattle.rmt_model.specs.BlockNumbers.{next_number, with_next}
use Rattle.rmt_model.specs.EntryLimits.{drop_limit}
use Rattle.rmt_events.specs.Views.{Replica}
use Rattle.rmt_events.specs.Clusters.{Cluster}
use Rattle.rmt_events.specs.ClusterChanges.{IsNumbered}
use Rattle.rmt_events.specs.Whole.{IsWhole, HasReplica}
use Rattle.rmt_events.specs.Steps.{Does, Step}
use Rattle.rmt_events.specs.declared.applied.Applied.{Applied}
use Rattle.rmt_events.specs.declared.event.Event.TheVariants as ev
use Rattle.rmt_events.specs.declared.reply.Reply.{Reply}
use Rattle.rmt_events.specs.declared.reply.Reply.TheVariants as rp
use Rattle.rmt_events.proofs.WholeSteps.{whole-step}
use Rattle.rmt_statement_model.specs.TableStates.{TableState, learned}
use Rattle.rmt_statement_model.specs.Drops.{with_drop}
use Rattle.rmt_statement_model.specs.Shows.{Shows, Leads, ups}
use Rattle.rmt_statement_model.proofs.UpLaws.{up-step}
use Rattle.rmt_statement_model.proofs.AttemptSteps.{HasWholeLog, IsApplied, quiet-shows, pulled, applied-shows}
use Rattle.rmt_statement_model.proofs.DropEntries.{next-shown, newest, newest-place, drop-shows}
use Rattle.rmt_statement_model.proofs.DropRows.{drop-applied, dropped-at, drop-nothing-row}
use Rattle.rmt_acts.specs.Changing.{IsNumberAt, HasDropAt, HasDrop, DoesDrop}
use Rattle.rmt_statement_model.specs.ActOutcomes.{DropsSome}

-- what follows where all went well
pub on-ok : {A E : Type 0} (r : Result A E) (P Q : Type 0) → (P → Q) → OnOk r P → OnOk r Q
on-ok (Ok a) P Q f p = f p
on-ok (Err e) P Q f p = p

-- ---- Pull and Apply

-- the replica has the whole log after a Pull
pull-whole : (s m : Cluster) (r : ℕ) (reply : Reply) → IsWhole s → ups s r ≡ true → HasReplica s.replicas r → Step s (ev.Pull r) reply m → HasWholeLog m r
pull-whole s m r reply w up h k = (pulled s m r h.replica reply w up (record { is_in = h.is_in; number = h.numbered }) k).1

-- a Pull leaves the log of the table
pull-log : (s m : Cluster) (r : ℕ) (reply : Reply) → Step s (ev.Pull r) reply m → m.table.log ≡ s.table.log
pull-log s m r reply k = go k.does
  where
    go : Does s (ev.Pull r) reply k.after → m.table.log ≡ s.table.log
    go (inl d) = ap (λ (x : Cluster). x.table.log) k.stored ∙ ap (λ (x : Cluster). x.table.log) d.at.change
    go (inr d) = ap (λ (x : Cluster). x.table.log) k.stored ∙ ap (λ (x : Cluster). x.table.log) d.unchanged

-- the copy of the replica is the log of the table
pub copy-log : (s m : Cluster) (r : ℕ) (reply : Reply) (log : List Entry) → IsWhole s → ups s r ≡ true → HasReplica s.replicas r → Step s (ev.Pull r) reply m → ((x : Replica) → IsNumbered m r x → log ≡ x.log) → log ≡ s.table.log
copy-log s m r reply log w up h k f = let l = pull-whole s m r reply w up h k in f l.replica l.at ∙ (l.whole ∙ pull-log s m r reply k)

-- an answer that tells that an entry was looked at
pub unapplied : (answer : Reply) → IsApplied answer → ((comes : Applied) → answer ≡ rp.Applied comes → ⊥) → ⊥
unapplied (rp.Applied comes) a f = f comes refl
unapplied answer a f = a

-- a drop that is in the log is looked at
pub drop-answers : (s m u : Cluster) (r place : ℕ) (reply answer : Reply) → IsWhole s → ups s r ≡ true → HasReplica s.replicas r → HasDrop s place → Step s (ev.Pull r) reply m → Step m (ev.Apply r place) answer u → IsApplied answer
drop-answers s m u r place reply answer w up h q k l =
    let e = subst (λ (log : List Entry). HasDropAt log place) (sym (pull-log s m r reply k)) q in
    drop-applied m u r place e.1.0 e.0 answer (whole-step s m (ev.Pull r) reply w k) (up-step s m (ev.Pull r) reply r w tt k up) (pull-whole s m r reply w up h k) e.1.1 l

-- the drop is known at the replica then
pub does-drop : (s m u : Cluster) (r place n : ℕ) (reply : Reply) (comes : Applied) → IsWhole s → Step s (ev.Pull r) reply m → Step m (ev.Apply r place) (rp.Applied comes) u → IsNumberAt s.table.log place n → DoesDrop s r place n u
does-drop s m u r place n reply comes w k l q = record {
  number = q;
  does = λ t h. applied-shows m u r place comes (whole-step s m (ev.Pull r) reply w k) l t (quiet-shows s m (ev.Pull r) reply w tt k t h);
}

-- ---- DropPartition

-- the drop is in the log
pub has-drop : (s u : Cluster) (p : Option ℕ) (place : ℕ) → Step s (ev.DropPartition p) (rp.Entry place) u → HasDrop u place
has-drop s u p place k = let d = dropped-at s u p place k in (d.number, (p, d.entry))

-- the number of the drop is the partition's next one
number-is : (log : List Entry) (place n i : ℕ) (p : Option ℕ) → IsNumberAt log place i → entry_at log place ≡ Some (DropRange p n) → i ≡ n
number-is log place n i p q e = let f = some-same (DropRange q.0 i) (DropRange p n) (sym q.1 ∙ e) in cc

-- a partition that exists
pub drops : (s a u : Cluster) (r : ℕ) (p : Option ℕ) (place below : ℕ) → IsWhole s → Step s (ev.DropPartition p) (rp.Entry place) a → DoesDrop a r place below u → (t : TableState) → Shows s t → Leads u (DropsSome t r p below)
drops s a u r p place below w k d t h =
    let n = newest s a p place k in
    let x = dropped-at s a p place k in
    let state = record t { log = DropRange p (next_number t.next p) ∷ t.log; next = with_next t.next p (next_number t.next p + 1); quorum = quorum_after_drop p (next_number t.next p) t.quorum } in
    let last = d.does state (drop-shows s a p place w k n t h) in
    let at : place ≡ length t.log = newest-place s k.after p place n ∙ ap (λ (l : List Entry). length l) (sym h.table.log) in
    record {
      state = with_drop t r p;
      holds = inl (record {
        exists = subst (λ i. 0 < i) (sym (next-shown s t p h)) n.appends.at.does.exists;
        room = (ap (λ (y : List (Option ℕ × ℕ)). drop_limit y t.log p) h.table.next ∙ ap (λ (l : List Entry). drop_limit s.table.next l p) h.table.log) ∙ n.appends.at.does.within;
        number = number-is a.table.log place x.number below p d.number x.entry ∙ (x.given ∙ sym (next-shown s t p h));
        change = refl;
      });
      shows = subst (λ i. Shows u (record state { known = learned t.known r i })) at last;
    }

-- one that doesn't
pub drops-nothing : (s u : Cluster) (r : ℕ) (p : Option ℕ) → IsWhole s → Step s (ev.DropPartition p) rp.Done u → (t : TableState) → Shows s t → Leads u (DropsSome t r p 0)
drops-nothing s u r p w k t h = let l = drop-nothing-row s u p w k t h in record { state = l.state; holds = inr l.holds; shows = l.shows }
