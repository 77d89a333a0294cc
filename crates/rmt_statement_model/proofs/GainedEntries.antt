-- The log gains an entry that is no block's: what the cluster shows then.
use Rattle.std.proofs.Common.{◌≡◌, ℕ, List, ◌∷◌, refl, sym, ap, ◌∙◌}
use Rattle.std.specs.declared.option.Option.{Option}
use Rattle.rmt_entries.specs.declared.entry.Entry.{Entry}
use Rattle.rmt_model.specs.Quorum.{Quorum}
use Rattle.rmt_entries.specs.declared.entry.Entry.TheVariants.{Get, Merge, Mutate, Mutation, DropRange}
use Rattle.rmt_events.specs.Clusters.{Cluster, committed_at, blocks_in}
use Rattle.rmt_events.specs.Whole.{IsWhole}
use Rattle.rmt_events.specs.Steps.{Step}
use Rattle.rmt_events.proofs.Moves.{blocks-same}
use Rattle.rmt_statement_model.specs.TableStates.{TableState}
use Rattle.rmt_statement_model.specs.Shows.{Shows}
use Rattle.rmt_statement_model.proofs.SwitchLaws.{IsNoSwitch, switch-step}
use Rattle.rmt_statement_model.proofs.KnowsLaws.{knows-step}
use Rattle.rmt_statement_model.proofs.ShownSteps.{TellsNoCommit}
use Rattle.rmt_events.specs.declared.event.Event.{Event}
use Rattle.rmt_events.specs.declared.reply.Reply.{Reply}

-- the entry is no block's
abbrev pub IsOfNoBlock : Entry → Type 0
IsOfNoBlock (Get p n digest source need) = ⊥
IsOfNoBlock (Merge name sources count) = Unit {0}
IsOfNoBlock (Mutate old name upto count mcount) = Unit {0}
IsOfNoBlock (Mutation id numbers command) = Unit {0}
IsOfNoBlock (DropRange p n) = Unit {0}

-- such an entry adds no block
blocks-behind : (e : Entry) (log : List Entry) (events : List (Event × Reply)) → IsOfNoBlock e → blocks_in (e ∷ log) events ≡ blocks_in log events
blocks-behind (Get p n digest source need) log events q = absurd q
blocks-behind (Merge name sources count) log events q = refl
blocks-behind (Mutate old name upto count mcount) log events q = refl
blocks-behind (Mutation id numbers command) log events q = refl
blocks-behind (DropRange p n) log events q = refl

-- the second cluster has the schema and the log of the first with one more entry, and the same commits
pub record GainsEntry (s u : Cluster) (e : Entry) : Type 0 where
  pub schema : u.table.schema ≡ s.table.schema
  pub log : u.table.log ≡ e ∷ s.table.log
  pub commits : (i : ℕ) → committed_at u.events i ≡ committed_at s.events i

-- the step does so where what it stores tells of no commit
pub gains-stored : (s u : Cluster) (event : Event) (reply : Reply) (e : Entry) → (k : Step s event reply u) → k.after.table.schema ≡ s.table.schema → k.after.table.log ≡ e ∷ s.table.log → k.after.events ≡ s.events → TellsNoCommit event reply → GainsEntry s u e
gains-stored s u event reply e k p q v f =
    record {
      schema = ap (λ (x : Cluster). x.table.schema) k.stored ∙ p;
      log = ap (λ (x : Cluster). x.table.log) k.stored ∙ q;
      commits = λ i. ap (λ (x : Cluster). committed_at x.events i) k.stored ∙ (f k.after.events i ∙ ap (λ (xs : List (Event × Reply)). committed_at xs i) v);
    }

-- the state is shown with the entry, and with the next numbers and the quorum of the table
pub gained-shows : (s u : Cluster) (event : Event) (reply : Reply) (e : Entry) (t : TableState) (next : List (Option ℕ × ℕ)) (quorum : Quorum) → IsWhole s → IsNoSwitch event → Step s event reply u → GainsEntry s u e → IsOfNoBlock e → next ≡ u.table.next → quorum ≡ u.table.quorum → Shows s t → Shows u (record t { log = e ∷ t.log; next = next; quorum = quorum })
gained-shows s u event reply e t next quorum w z k g q n m h =
    record {
      table = record {
        schema = h.table.schema ∙ sym g.schema;
        log = ap (λ (l : List Entry). e ∷ l) h.table.log ∙ sym g.log;
        next = n;
        quorum = m;
        fetching = h.table.fetching ∙ sym (switch-step s u event reply w z k);
        knows = knows-step s u event reply t.known w k h.table.knows;
      };
      blocks = h.blocks ∙ sym (ap (λ (l : List Entry). blocks_in l u.events) g.log ∙ (blocks-behind e s.table.log u.events q ∙ blocks-same s.table.log s.events u.events (λ i l. g.commits i)));
    }
