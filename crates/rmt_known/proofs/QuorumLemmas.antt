-- A quorum that waits, as it is noted, and as it is found in a table.
use Rattle.std.proofs.Common.{◌≡◌, ℕ, Bool, true, false, cond, List, length, refl, sym, subst, arith, nat_lt}
use Rattle.std.proofs.lemmas.Bool.Decides.{nat_tests}
use Rattle.std.specs.declared.option.Option.{Option}
use Rattle.std.specs.declared.option.Option.TheVariants.{Some, None}
use Rattle.rmt_entries.specs.declared.entry.Entry.{Entry}
use Rattle.rmt_model.specs.Lawful.{IsPrefix}
use Rattle.rmt_model.specs.Quorum.{Pending, Quorum, QuorumBlock, IsPending, noted_with, noted_by, quorum_after_note}
use Rattle.rmt_model.proofs.QuorumLemmas.{noted-rising}
use Rattle.rmt_events.specs.Sound.{IsSoundTable}
use Rattle.rmt_table_model.specs.Held.{Held}
use Rattle.rmt_table.specs.TableTrees.{table_at}
use Rattle.rmt_clients.specs.Clients.{IsWaiting, GoesOnFrom}
use Rattle.rmt_known.specs.KnownTables.{Known, GoesOnFromKnown}

-- a note leaves a part that waits, or none
pub note-waits : (r : ℕ) (q : Quorum) → IsWaiting q.pending → IsWaiting (quorum_after_note r q).pending
note-waits r q w = go q.pending refl w
  where
    go : (o : Option Pending) → q.pending ≡ o → IsWaiting o → IsWaiting (noted_by r q o).pending
    go None e w = subst IsWaiting (sym e) tt
    go (Some p) e w = met (nat_lt (length (noted_with r p.noted)) p.need) refl
      where
        met : (b : Bool) → nat_lt (length (noted_with r p.noted)) p.need ≡ b → IsWaiting (cond {A = Quorum} b (record { pending = Some (record { part = p.part; need = p.need; noted = noted_with r p.noted }); last = q.last }) (record { pending = None; last = Some p.part })).pending
        met true n = (grind (arith, nat_tests), noted-rising r p.noted w.1)
        met false n = tt

pending-waits : (log : List Entry) (o : Option Pending) (others : List QuorumBlock) → IsPending log o others → IsWaiting o
pending-waits log None others p = tt
pending-waits log (Some q) others p = (p.2, p.3)

-- a table's quorum waits
pub table-waits : (h : Held) → IsSoundTable (table_at h) → IsWaiting h.quorum.pending
table-waits h s = pending-waits h.log h.quorum.pending s.quorum.others s.quorum.pending

-- what is compared of a table is that it goes on from what is known
pub goes-on : (k : Known) (h : Held) → IsSoundTable (table_at h) → IsWaiting k.quorum.pending → IsPrefix k.log h.log → h.next ≡ k.next → (q : Quorum) → q ≡ h.quorum → GoesOnFrom k.quorum.pending k.quorum.last q.pending q.last → GoesOnFromKnown k h
goes-on k h s w p n q e g = record {
  prefix = p;
  next = n;
  noted = record { waits = w; found_waits = table-waits h s; goes_on = subst (λ (x : Quorum). GoesOnFrom k.quorum.pending k.quorum.last x.pending x.last) e g };
}
