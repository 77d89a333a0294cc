-- A whole cluster shows some state, so that a partition that wasn't optimized yet is as it was in the cluster itself.
use Rattle.std.proofs.Common.{◌≡◌, ℕ, false, List, refl, sym, ap, subst, ◌∙◌}
use Rattle.std.specs.declared.option.Option.{Option}
use Rattle.std.specs.declared.option.Option.TheVariants.{None}
use Rattle.rmt_values.specs.Rows.{Shape}
use Rattle.rmt_names.specs.Names.{Name}
use Rattle.rmt_entries.specs.declared.entry.Entry.{Entry}
use Rattle.rmt_model.specs.Words.{Has}
use Rattle.rmt_model.specs.Lawful.{Lawful}
use Rattle.rmt_model.specs.CopiedParts.{names_of}
use Rattle.rmt_model.proofs.Lists.{Each-at}
use Rattle.rmt_model.proofs.Standing.{fair-fewer}
use Rattle.rmt_queue.specs.Marks.{done_at}
use Rattle.rmt_events.specs.Views.{Replica}
use Rattle.rmt_events.specs.ReplicaCalls.{IsStanding}
use Rattle.rmt_events.specs.Sound.{IsSoundTable}
use Rattle.rmt_events.specs.Clusters.{Cluster, accepted}
use Rattle.rmt_events.specs.Whole.{Follows, IsWhole}
use Rattle.rmt_statement_model.specs.TableStates.{TableState, synced}
use Rattle.rmt_statement_model.specs.Optimizes.{live_of, OptimizesAll}
use Rattle.rmt_statement_model.specs.Shows.{Knows, Shows, Leads, fetching_of}
use Rattle.rmt_statement_model.proofs.OptimizeRows.{still-live}

-- a replica knows nothing, at least
knows-nothing : (s : Cluster) (x : Replica) → IsWhole s → Has s.replicas x → Knows x (λ i. false)
knows-nothing s x w h =
    record {
      within = λ i l. refl;
      fair = fair-fewer x.log (λ i. false) (done_at x.done) (names_of x.parts) (λ j l q. absurd (cc)) (IsStanding.fair (Follows.stands (Each-at (Follows s) s.replicas x w.follow h)));
    }

-- a whole cluster shows the state in which nothing is known
pub some-shown : (s : Cluster) → IsWhole s → (t : TableState) × Shows s t
some-shown s w = (
  record { schema = s.table.schema; log = s.table.log; blocks = accepted s; next = s.table.next; quorum = s.table.quorum; fetching = fetching_of s; known = λ r i. false },
  record { table = record { schema = refl; log = refl; next = refl; quorum = refl; fetching = refl; knows = λ x h. knows-nothing s x w h }; blocks = refl },
)

-- what is live of a partition is so still behind those that were optimized, where it is none of these
pub live-left : (s u : Cluster) (r : ℕ) (ps : List (Option ℕ)) (names : List Name) (q : Option ℕ) → IsWhole s → ((t : TableState) → Shows s t → Leads u (λ v. OptimizesAll false (synced r t) r ps names None v)) → (Has ps q → ⊥) → live_of u.table.log q ≡ live_of s.table.log q
live-left s u r ps names q w f n =
    ap (λ (l : List Entry). live_of l q) (sym v.shows.table.log) ∙ (still-live (synced r t) v.state r ps names q l v.holds n ∙ ap (λ (x : List Entry). live_of x q) h.table.log)
  where
    t : TableState
    t = (some-shown s w).0

    h : Shows s t
    h = (some-shown s w).1

    v : Leads u (λ x. OptimizesAll false (synced r t) r ps names None x)
    v = f t h

    l : Lawful t.schema t.log
    l = subst (λ (c : Shape). Lawful c t.log) (sym h.table.schema) (subst (λ (x : List Entry). Lawful s.table.schema x) (sym h.table.log) (IsSoundTable.lawful w.table))
