-- A drop enters the log: what the cluster shows then.
use Rattle.std.proofs.Common.{◌≡◌, ℕ, ◌+◌, inl, inr, List, ◌∷◌, length, refl, sym, ap, ◌∙◌}
use Rattle.std.specs.declared.option.Option.{Option}
use Rattle.rmt_entries.specs.declared.entry.Entry.TheVariants.{DropRange}
use Rattle.rmt_model.specs.BlockNumbers.{next_number, with_next}
use Rattle.rmt_model.specs.Quorum.{Quorum, quorum_after_drop}
use Rattle.rmt_events.specs.Views.{Table}
use Rattle.rmt_events.specs.TableCalls.{DropsPartition}
use Rattle.rmt_events.specs.Clusters.{Cluster}
use Rattle.rmt_events.specs.Whole.{IsWhole}
use Rattle.rmt_events.specs.ClusterChanges.{Appends}
use Rattle.rmt_events.specs.Steps.{Does, Step}
use Rattle.rmt_statement_model.specs.TableStates.{TableState}
use Rattle.rmt_statement_model.specs.Shows.{Shows}
use Rattle.rmt_statement_model.proofs.GainedEntries.{gains-stored, gained-shows}
use Rattle.rmt_events.specs.declared.event.Event.TheVariants as ev
use Rattle.rmt_events.specs.declared.reply.Reply.TheVariants as rp

-- what the state says of a partition's next number is what the table says
pub next-shown : (s : Cluster) (t : TableState) (p : Option ℕ) → Shows s t → next_number t.next p ≡ next_number s.table.next p
next-shown s t p h = ap (λ (x : List (Option ℕ × ℕ)). next_number x p) h.table.next

-- the drop is the table's newest entry, with the partition's next number
pub record DropsNewest (s : Cluster) (p : Option ℕ) (place : ℕ) (after : Cluster) : Type 0 where
  pub n : ℕ
  pub appends : Appends s (λ u v. DropsPartition u p n v) (rp.Entry place) after

-- it is where the reply is a place
pub newest : (s u : Cluster) (p : Option ℕ) (place : ℕ) → (k : Step s (ev.DropPartition p) (rp.Entry place) u) → DropsNewest s p place k.after
newest s u p place k = go k.does
  where
    go : Does s (ev.DropPartition p) (rp.Entry place) k.after → DropsNewest s p place k.after
    go (inl d) = record { n = d.0; appends = d.1 }
    go (inr (inl d)) = let e = d.answer in absurd (cc)
    go (inr (inr d)) = let e = d.answer in absurd (cc)

-- the place is the next one
pub newest-place : (s u : Cluster) (p : Option ℕ) (place : ℕ) → DropsNewest s p place u → place ≡ length s.table.log
newest-place s u p place d = let e = d.appends.answer in cc

-- the log has the drop
pub newest-log : (s u : Cluster) (p : Option ℕ) (place : ℕ) → (d : DropsNewest s p place u) → u.table.log ≡ DropRange p d.n ∷ s.table.log
newest-log s u p place d = ap (λ (x : Cluster). x.table.log) d.appends.at.change ∙ ap (λ (x : Table). x.log) d.appends.at.does.change

-- the cluster shows the table with the drop
pub drop-shows : (s u : Cluster) (p : Option ℕ) (place : ℕ) → IsWhole s → (k : Step s (ev.DropPartition p) (rp.Entry place) u) → DropsNewest s p place k.after → (t : TableState) → Shows s t → Shows u (record t { log = DropRange p (next_number t.next p) ∷ t.log; next = with_next t.next p (next_number t.next p + 1); quorum = quorum_after_drop p (next_number t.next p) t.quorum })
drop-shows s u p place w k d t h =
    gained-shows s u (ev.DropPartition p) (rp.Entry place) (DropRange p (next_number t.next p)) t (with_next t.next p (next_number t.next p + 1)) (quorum_after_drop p (next_number t.next p) t.quorum) w tt k
    (gains-stored s u (ev.DropPartition p) (rp.Entry place) (DropRange p (next_number t.next p)) k
    (ap (λ (x : Cluster). x.table.schema) d.appends.at.change ∙ ap (λ (x : Table). x.schema) d.appends.at.does.change)
    (newest-log s k.after p place d ∙ ap (λ i. DropRange p i ∷ s.table.log) given)
    (ap (λ (x : Cluster). x.events) d.appends.at.change) (λ xs i. refl))
    tt
    (sym (ap (λ (x : Cluster). x.table.next) k.stored
    ∙ (ap (λ (x : Cluster). x.table.next) d.appends.at.change
    ∙ (ap (λ (x : Table). x.next) d.appends.at.does.change
    ∙ (ap (λ i. with_next s.table.next p (i + 1)) given ∙ ap (λ (x : List (Option ℕ × ℕ)). with_next x p (next_number t.next p + 1)) (sym h.table.next))))))
    (sym (ap (λ (x : Cluster). x.table.quorum) k.stored
    ∙ (ap (λ (x : Cluster). x.table.quorum) d.appends.at.change
    ∙ (ap (λ (x : Table). x.quorum) d.appends.at.does.change
    ∙ (ap (λ i. quorum_after_drop p i s.table.quorum) given ∙ ap (λ (q : Quorum). quorum_after_drop p (next_number t.next p) q) (sym h.table.quorum))))))
    h
  where
    given : d.n ≡ next_number t.next p
    given = d.appends.at.does.number ∙ sym (next-shown s t p h)
