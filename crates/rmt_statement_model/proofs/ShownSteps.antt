-- A cluster shows the state of a table still where its log and its accepted blocks are the same.
use Rattle.std.proofs.Common.{◌≡◌, ℕ, List, ◌∷◌, sym, ap, ◌∙◌}
use Rattle.std.specs.declared.option.Option.{Option}
use Rattle.rmt_values.specs.Rows.{Shape}
use Rattle.rmt_entries.specs.declared.entry.Entry.{Entry}
use Rattle.rmt_model.specs.Window.{Kept, kept}
use Rattle.rmt_model.specs.EntryLimits.{allocate_limit, commit_limit}
use Rattle.rmt_events.specs.Views.{Block, Table}
use Rattle.rmt_events.specs.TableCalls.{kept_part}
use Rattle.rmt_events.specs.Sound.{IsSoundTable}
use Rattle.rmt_events.specs.Clusters.{Cluster, Accepted, committed_at, blocks_in, values_in, values_of}
use Rattle.rmt_events.specs.Whole.{IsWhole}
use Rattle.rmt_events.specs.Steps.{Step}
use Rattle.rmt_events.proofs.Moves.{blocks-same}
use Rattle.rmt_statement_model.specs.TableStates.{TableState, kept_with}
use Rattle.rmt_statement_model.specs.Inserts.{number_limit, block_limit}
use Rattle.rmt_statement_model.specs.Shows.{Shows}
use Rattle.rmt_statement_model.proofs.SwitchLaws.{IsNoSwitch, switch-step}
use Rattle.rmt_statement_model.proofs.KnowsLaws.{knows-step}
use Rattle.rmt_events.specs.declared.event.Event.{Event}
use Rattle.rmt_events.specs.declared.reply.Reply.{Reply}

-- ---- what the state says is what the table says

-- of the part that a block's id is kept with
pub kept-shown : (s : Cluster) (t : TableState) (b : Block) → IsWhole s → Shows s t → kept_with t b ≡ kept_part s.table.window b.partition b.digest
kept-shown s t b w h =
    ap (λ (c : Shape). kept_part (kept c.window t.log) b.partition b.digest) h.table.schema
    ∙ (ap (λ (l : List Entry). kept_part (kept s.table.schema.window l) b.partition b.digest) h.table.log
    ∙ ap (λ (k : List Kept). kept_part k b.partition b.digest) (sym (IsSoundTable.window w.table)))

-- of the limit of one more number
pub number-shown : (s : Cluster) (t : TableState) (b : Block) → Shows s t → number_limit t b ≡ allocate_limit s.table.next s.table.log b.partition
number-shown s t b h = ap (λ (x : List (Option ℕ × ℕ)). allocate_limit x t.log b.partition) h.table.next ∙ ap (λ (l : List Entry). allocate_limit s.table.next l b.partition) h.table.log

-- of the limit of one more block
pub room-shown : (s : Cluster) (t : TableState) (b : Block) → IsWhole s → Shows s t → block_limit t b ≡ commit_limit s.table.log s.table.values (values_of s.table.schema b.rows)
room-shown s t b w h =
    ap (λ (l : List Entry). commit_limit l (values_in t.schema t.blocks) (values_of t.schema b.rows)) h.table.log
    ∙ (ap (λ (c : Shape). commit_limit s.table.log (values_in c t.blocks) (values_of c b.rows)) h.table.schema
    ∙ (ap (λ (bs : List Accepted). commit_limit s.table.log (values_in s.table.schema bs) (values_of s.table.schema b.rows)) h.blocks
    ∙ ap (λ m. commit_limit s.table.log m (values_of s.table.schema b.rows)) (sym w.counted)))

-- ---- events that append nothing

-- the event with its reply tells of no commit
abbrev pub TellsNoCommit : Event → Reply → Type 0
TellsNoCommit e reply = (xs : List (Event × Reply)) (i : ℕ) → committed_at ((e, reply) ∷ xs) i ≡ committed_at xs i

-- the second cluster has the schema, the log and the quorum of the first, and the same commits
pub record KeepsLog (s u : Cluster) : Type 0 where
  pub schema : u.table.schema ≡ s.table.schema
  pub log : u.table.log ≡ s.table.log
  pub quorum : u.table.quorum ≡ s.table.quorum
  pub commits : (i : ℕ) → committed_at u.events i ≡ committed_at s.events i

-- the step does so where what it stores tells of no commit
pub keeps-stored : (s u : Cluster) (e : Event) (reply : Reply) → (k : Step s e reply u) → k.after.table.schema ≡ s.table.schema → k.after.table.log ≡ s.table.log → k.after.table.quorum ≡ s.table.quorum → k.after.events ≡ s.events → TellsNoCommit e reply → KeepsLog s u
keeps-stored s u e reply k p q m v f =
    record {
      schema = ap (λ (x : Cluster). x.table.schema) k.stored ∙ p;
      log = ap (λ (x : Cluster). x.table.log) k.stored ∙ q;
      quorum = ap (λ (x : Cluster). x.table.quorum) k.stored ∙ m;
      commits = λ i. ap (λ (x : Cluster). committed_at x.events i) k.stored ∙ (f k.after.events i ∙ ap (λ (xs : List (Event × Reply)). committed_at xs i) v);
    }

-- the state is shown still, but for the next numbers
pub shows-next : (s u : Cluster) (e : Event) (reply : Reply) (t : TableState) (next : List (Option ℕ × ℕ)) → IsWhole s → IsNoSwitch e → Step s e reply u → KeepsLog s u → next ≡ u.table.next → Shows s t → Shows u (record t { next = next })
shows-next s u e reply t next w z k q n h =
    record {
      table = record {
        schema = h.table.schema ∙ sym q.schema;
        log = h.table.log ∙ sym q.log;
        next = n;
        quorum = h.table.quorum ∙ sym q.quorum;
        fetching = h.table.fetching ∙ sym (switch-step s u e reply w z k);
        knows = knows-step s u e reply t.known w k h.table.knows;
      };
      blocks = h.blocks ∙ (sym (blocks-same s.table.log s.events u.events (λ i l. q.commits i)) ∙ ap (λ (l : List Entry). blocks_in l u.events) (sym q.log));
    }

-- an event that leaves the table
pub shows-quiet : (s u : Cluster) (e : Event) (reply : Reply) (t : TableState) → IsWhole s → IsNoSwitch e → (k : Step s e reply u) → k.after.table ≡ s.table → k.after.events ≡ s.events → TellsNoCommit e reply → Shows s t → Shows u t
shows-quiet s u e reply t w z k p q f h =
    shows-next s u e reply t t.next w z k (keeps-stored s u e reply k (ap (λ (x : Table). x.schema) p) (ap (λ (x : Table). x.log) p) (ap (λ (x : Table). x.quorum) p) q f) (h.table.next ∙ sym (ap (λ (x : Cluster). x.table.next) k.stored ∙ ap (λ (x : Table). x.next) p)) h
