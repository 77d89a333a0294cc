-- A replica may fetch from now on, or not.
use Rattle.std.proofs.Common.{◌≡◌, ◌∙◌, ℕ, Bool, cond, List, sym, ap, nat_eq}
use Rattle.std.proofs.Math.Path.{fun_ext}
use Rattle.rmt_entries.specs.declared.entry.Entry.{Entry}
use Rattle.rmt_events.specs.Views.{Table}
use Rattle.rmt_events.specs.Clusters.{Cluster, committed_at, blocks_in}
use Rattle.rmt_events.specs.Steps.{Step, Switches}
use Rattle.rmt_events.specs.Whole.{IsWhole}
use Rattle.rmt_events.proofs.Moves.{blocks-same}
use Rattle.rmt_events.specs.declared.event.Event.TheVariants as ev
use Rattle.rmt_events.specs.declared.reply.Reply.{Reply}
use Rattle.rmt_statement_model.specs.TableStates.{TableState, with_switch}
use Rattle.rmt_statement_model.specs.Shows.{Shows, fetching_at, fetching_of}
use Rattle.rmt_statement_model.proofs.KnowsLaws.{knows-step}
use Rattle.rmt_statement_model.proofs.SwitchLaws.{fetching-with}

-- the cluster shows the table with the switch
pub switched-shows : (s u : Cluster) (k : ℕ) (allowed : Bool) (reply : Reply) → IsWhole s → Step s (ev.Fetches k allowed) reply u → (t : TableState) → Shows s t → Shows u (with_switch t k allowed)
switched-shows s u k allowed reply w st t h =
    record {
      table = record {
        schema = h.table.schema ∙ sym (ap (λ (x : Table). x.schema) table);
        log = h.table.log ∙ sym (ap (λ (x : Table). x.log) table);
        next = h.table.next ∙ sym (ap (λ (x : Table). x.next) table);
        quorum = h.table.quorum ∙ sym (ap (λ (x : Table). x.quorum) table);
        fetching = fun_ext (λ j. ap (λ (f : ℕ → Bool). cond (nat_eq k j) allowed (f j)) h.table.fetching ∙ sym (switched j));
        knows = knows-step s u (ev.Fetches k allowed) reply t.known w st h.table.knows;
      };
      blocks = h.blocks ∙ (sym (blocks-same s.table.log s.events u.events (λ i l. commits i)) ∙ ap (λ (l : List Entry). blocks_in l u.events) (sym (ap (λ (x : Table). x.log) table)));
    }
  where
    d : Switches s k allowed reply st.after
    d = st.does

    table : u.table ≡ s.table
    table = ap (λ (x : Cluster). x.table) st.stored ∙ ap (λ (x : Cluster). x.table) d.change

    commits : (i : ℕ) → committed_at u.events i ≡ committed_at s.events i
    commits i = ap (λ (x : Cluster). committed_at x.events i) st.stored ∙ ap (λ (x : Cluster). committed_at x.events i) d.change

    switched : (j : ℕ) → fetching_of u j ≡ cond (nat_eq k j) allowed (fetching_of s j)
    switched j =
        ap (λ (x : Cluster). fetching_at x.replicas j) st.stored
        ∙ (ap (λ (x : Cluster). fetching_at x.replicas j) d.change
        ∙ fetching-with s.replicas k j d.old (record d.old { fetches = allowed }) d.at.is_in d.at.number d.at.number)
