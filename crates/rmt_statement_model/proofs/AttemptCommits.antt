-- The block of an attempt is committed: it is accepted, or there is no room for it; and what the cluster shows then.
use Rattle.std.proofs.Common.{◌≡◌, ℕ, ◌<◌, inl, inr, Bool, true, false, cond, List, ◌∷◌, length, refl, sym, ap, subst, arith, ◌∙◌, nat_eq}
use Rattle.std.proofs.lemmas.Bool.Decides.{nat_tests}
use Rattle.std.specs.declared.option.Option.{Option}
use Rattle.std.specs.declared.option.Option.TheVariants.{Some, None}
use Rattle.rmt_values.specs.declared.limit.Limit.{Limit}
use Rattle.rmt_entries.specs.declared.entry.Entry.{Entry}
use Rattle.rmt_entries.specs.declared.entry.Entry.TheVariants.{Get}
use Rattle.rmt_model.specs.Lawful.{entry_at}
use Rattle.rmt_model.proofs.Lists.{Each-at}
use Rattle.rmt_events.specs.Views.{Block, Table}
use Rattle.rmt_events.specs.TableCalls.{IsLocked, Commits}
use Rattle.rmt_events.specs.Clusters.{Attempt, Cluster, Accepted, block_of, committed_at, rows_of, blocks_in, accepted, values_of}
use Rattle.rmt_events.specs.Whole.{IsWhole}
use Rattle.rmt_events.specs.Whole as whole
use Rattle.rmt_events.specs.ClusterChanges.{IsAttempt, attempts_without}
use Rattle.rmt_events.specs.InsertEvents.{HasStaged, LosesAttempt, LostFor, NoCommit}
use Rattle.rmt_events.specs.Steps.{Does, Step}
use Rattle.rmt_events.proofs.Moves.{blocks-same}
use Rattle.rmt_statement_model.specs.TableStates.{TableState}
use Rattle.rmt_statement_model.specs.Inserts.{Asked, block_limit}
use Rattle.rmt_model.specs.Quorum.{quorum_after_block}
use Rattle.rmt_names.specs.Names.{block_name}
use Rattle.rmt_statement_model.specs.Shows.{Shows}
use Rattle.rmt_statement_model.specs.Attempts.{IsCommitReply, attempt_of, IsOpen, IsStagedAt, IsAccepted}
use Rattle.rmt_statement_model.proofs.SwitchLaws.{switch-step}
use Rattle.rmt_statement_model.proofs.KnowsLaws.{knows-step}
use Rattle.rmt_statement_model.proofs.Replaced.{numbered-still}
use Rattle.rmt_statement_model.proofs.ShownSteps.{room-shown, keeps-stored, shows-next}
use Rattle.rmt_statement_model.proofs.AttemptStages.{IsReady, one-attempt}
use Rattle.rmt_events.specs.declared.event.Event.{Event}
use Rattle.rmt_events.specs.declared.event.Event.TheVariants as ev
use Rattle.rmt_events.specs.declared.reply.Reply.{Reply}
use Rattle.rmt_events.specs.declared.reply.Reply.TheVariants as rp
use Rattle.rmt_events.specs.declared.step_refused.StepRefused.{StepRefused}
use Rattle.rmt_events.specs.declared.step_refused.StepRefused.TheVariants as rf

-- there is room for the block; its Get takes the next place, and the cluster shows the table with the Get, the block, and the
-- quorum that it asks for
pub record TakesBlock (t : TableState) (a : Asked) (b : Block) (n place : ℕ) (u : Cluster) : Type 0 where
  pub room : block_limit t b ≡ None
  pub placed : place ≡ length t.log
  pub shows : Shows u (record t { log = Get b.partition n b.digest a.writer a.need ∷ t.log; blocks = record { partition = b.partition; number = n; rows = b.rows } ∷ t.blocks; quorum = quorum_after_block (block_name b.partition n) a.need t.quorum })

-- ---- why a commit is refused

-- the attempt that loses is the one of the id
lost : (s u : Cluster) (id : ℕ) (a : Asked) (b : Block) (n : ℕ) (reply : Reply) → IsWhole s → IsOpen s id a b n → (d : LosesAttempt s id reply u) → LostFor s (attempt_of id a b n) d.why
lost s u id a b n reply w o d =
    subst (λ (z : Attempt). LostFor s z d.why) (one-attempt s d.ends.attempt (attempt_of id a b n) w d.ends.is.is_in o.there d.ends.is.id_is) d.cause

-- no quorum keeps it out, and the block's id isn't kept
lost-reply : (s : Cluster) (id : ℕ) (a : Asked) (b : Block) (n : ℕ) (why : StepRefused) → IsOpen s id a b n → LostFor s (attempt_of id a b n) why → IsCommitReply (rp.Refused why)
lost-reply s id a b n (rf.TooFewLive live needed) o c = let l = c.2 in let m = o.quorum.enough in absurd (omega (arith, l, m))
lost-reply s id a b n (rf.QuorumPending part) o c = let p = c.3 in let q = o.quorum.quiet c.1 in absurd (cc)
lost-reply s id a b n (rf.Duplicate part) o c = let e = c.1 in let q = o.unkept in absurd (cc)
lost-reply s id a b n (rf.LimitReached limit value) o c = tt
lost-reply s id a b n why o c = absurd c

-- an attempt of the id is this one
mine : (s : Cluster) (id : ℕ) (a : Asked) (b : Block) (n : ℕ) (z : Attempt) → IsWhole s → IsOpen s id a b n → IsAttempt s id z → z ≡ attempt_of id a b n
mine s id a b n z w o k = one-attempt s z (attempt_of id a b n) w k.is_in o.there k.id_is

-- what is staged and locked is not refused otherwise
refused-commit : (s : Cluster) (id : ℕ) (a : Asked) (b : Block) (n : ℕ) (why : StepRefused) → IsWhole s → IsReady s id a b n → NoCommit s id why → ⊥
refused-commit s id a b n rf.NoAttempt w o c = c (attempt_of id a b n) (record { is_in = o.is_open.there; id_is = refl })
refused-commit s id a b n rf.NotStaged w o c = subst (λ (z : Attempt). HasStaged s z → ⊥) (mine s id a b n c.0 w o.is_open c.1) c.2 (record { replica = o.staged.replica; at = o.staged.at; staged = o.staged.staged })
refused-commit s id a b n (rf.LockGone m) w o c = subst (λ (z : Attempt). IsLocked s.table.locks z.block.partition z.number → ⊥) (mine s id a b n c.0 w o.is_open c.1) c.3.1 o.is_open.locked
refused-commit s id a b n why w o c = c

-- nothing else is answered
pub commit-reply : (s u : Cluster) (id : ℕ) (a : Asked) (b : Block) (n : ℕ) (reply : Reply) → IsWhole s → IsReady s id a b n → Step s (ev.Commit id) reply u → IsCommitReply reply
commit-reply s u id a b n reply w o k = go k.does
  where
    go : Does s (ev.Commit id) reply k.after → IsCommitReply reply
    go (inl d) = subst (λ (y : Reply). IsCommitReply y) (sym d.answer) tt
    go (inr (inl d)) = subst (λ (y : Reply). IsCommitReply y) (sym d.answer) (lost-reply s id a b n d.why o.is_open (lost s k.after id a b n reply w o.is_open d))
    go (inr (inr d)) = absurd (refused-commit s id a b n d.why w o d.cause)

-- ---- the block is accepted

-- the attempt of the id is committed, and the event is stored
record CommitsMine (s : Cluster) (id : ℕ) (a : Asked) (b : Block) (n place : ℕ) (u : Cluster) : Type 0 where
  table : Table
  call : Commits s.table b.partition n b.digest a.writer a.need (values_of s.table.schema b.rows) table
  placed : place ≡ length s.table.log
  change : u ≡ record s { table = table; attempts = attempts_without s.attempts id; events = (ev.Commit id, rp.Entry place) ∷ s.events }

-- the commit is that of this attempt
commits-mine : (s u : Cluster) (id : ℕ) (a : Asked) (b : Block) (n place : ℕ) → IsWhole s → IsOpen s id a b n → Step s (ev.Commit id) (rp.Entry place) u → CommitsMine s id a b n place u
commits-mine s u id a b n place w o k = go k.does
  where
    go : Does s (ev.Commit id) (rp.Entry place) k.after → CommitsMine s id a b n place u
    go (inl d) = record {
      table = d.table;
      call = subst (λ (z : Attempt). Commits s.table z.block.partition z.number z.block.digest z.replica z.need (values_of s.table.schema z.block.rows) d.table) (one-attempt s d.attempt (attempt_of id a b n) w d.is.is_in o.there d.is.id_is) d.call;
      placed = (let q = d.answer in cc);
      change = k.stored ∙ ap (λ (x : Cluster). record x { events = (ev.Commit id, rp.Entry place) ∷ x.events }) d.change;
    }
    go (inr (inl d)) = let e = d.answer in absurd (cc)
    go (inr (inr d)) = let e = d.answer in absurd (cc)

-- a place is itself
same-place : (i j : ℕ) → i ≡ j → nat_eq i j ≡ true
same-place i j e = grind (arith, nat_tests)

-- a lower place is another one
other-place : (i j : ℕ) → j < i → nat_eq i j ≡ false
other-place i j l = grind (arith, nat_tests)

-- the log has the block's Get
log-after : (s u : Cluster) (id : ℕ) (a : Asked) (b : Block) (n place : ℕ) → CommitsMine s id a b n place u → u.table.log ≡ Get b.partition n b.digest a.writer a.need ∷ s.table.log
log-after s u id a b n place c = ap (λ (x : Cluster). x.table.log) c.change ∙ ap (λ (x : Table). x.log) c.call.change

-- the entry is there, and the block is staged still
accepts : (s u : Cluster) (id : ℕ) (a : Asked) (b : Block) (n place : ℕ) → IsStagedAt s a.writer b n → CommitsMine s id a b n place u → IsAccepted u place a b n
accepts s u id a b n place z c =
    record {
      entry = subst (λ (l : List Entry). entry_at l place ≡ Some (Get b.partition n b.digest a.writer a.need)) (sym (log-after s u id a b n place c)) (ap (λ (y : Bool). cond y (Some (Get b.partition n b.digest a.writer a.need)) (entry_at s.table.log place)) (same-place place (length s.table.log) c.placed));
      staged = record { replica = z.replica; at = numbered-still s u a.writer z.replica (ap (λ (x : Cluster). x.replicas) c.change) z.at; staged = z.staged };
    }

-- the blocks have the new one as the newest
blocks-after : (s u : Cluster) (id : ℕ) (a : Asked) (b : Block) (n place : ℕ) → IsWhole s → IsOpen s id a b n → CommitsMine s id a b n place u → accepted u ≡ record { partition = b.partition; number = n; rows = b.rows } ∷ accepted s
blocks-after s u id a b n place w o c =
    ap (λ (l : List Entry). blocks_in l u.events) (log-after s u id a b n place c)
    ∙ (ap (λ (y : Option Block). record { partition = b.partition; number = n; rows = rows_of y } ∷ blocks_in s.table.log u.events) here
    ∙ ap (λ (bs : List Accepted). record { partition = b.partition; number = n; rows = b.rows } ∷ bs) (blocks-same s.table.log s.events u.events before))
  where
    events-are : u.events ≡ (ev.Commit id, rp.Entry place) ∷ s.events
    events-are = ap (λ (x : Cluster). x.events) c.change

    allocated : block_of s.events id ≡ Some b
    allocated = whole.IsOpen.allocated (Each-at (whole.IsOpen s) s.attempts (attempt_of id a b n) w.attempts o.there)

    here : committed_at u.events (length s.table.log) ≡ Some b
    here =
        ap (λ (xs : List (Event × Reply)). committed_at xs (length s.table.log)) events-are
        ∙ (ap (λ (y : Bool). cond y (block_of s.events id) (committed_at s.events (length s.table.log))) (same-place place (length s.table.log) c.placed) ∙ allocated)

    before : (j : ℕ) → j < length s.table.log → committed_at u.events j ≡ committed_at s.events j
    before j l =
        ap (λ (xs : List (Event × Reply)). committed_at xs j) events-are
        ∙ ap (λ (y : Bool). cond y (block_of s.events id) (committed_at s.events j)) (other-place place j (let q = c.placed in omega (arith, l, q)))

-- the table has room for the block, and takes it
takes : (s u : Cluster) (id : ℕ) (a : Asked) (b : Block) (n place : ℕ) → IsWhole s → IsOpen s id a b n → Step s (ev.Commit id) (rp.Entry place) u → CommitsMine s id a b n place u → (t : TableState) → Shows s t → TakesBlock t a b n place u
takes s u id a b n place w o k c t h =
    record {
      room = room-shown s t b w h ∙ c.call.within;
      placed = c.placed ∙ ap (λ (l : List Entry). length l) (sym h.table.log);
      shows = record {
        table = record {
          schema = h.table.schema ∙ sym (ap (λ (x : Cluster). x.table.schema) c.change ∙ ap (λ (x : Table). x.schema) c.call.change);
          log = ap (λ (l : List Entry). Get b.partition n b.digest a.writer a.need ∷ l) h.table.log ∙ sym (log-after s u id a b n place c);
          next = h.table.next ∙ sym (ap (λ (x : Cluster). x.table.next) c.change ∙ ap (λ (x : Table). x.next) c.call.change);
          quorum = ap (quorum_after_block (block_name b.partition n) a.need) h.table.quorum ∙ sym (ap (λ (x : Cluster). x.table.quorum) c.change ∙ ap (λ (x : Table). x.quorum) c.call.change);
          fetching = h.table.fetching ∙ sym (switch-step s u (ev.Commit id) (rp.Entry place) w tt k);
          knows = knows-step s u (ev.Commit id) (rp.Entry place) t.known w k h.table.knows;
        };
        blocks = ap (λ (bs : List Accepted). record { partition = b.partition; number = n; rows = b.rows } ∷ bs) h.blocks ∙ sym (blocks-after s u id a b n place w o c);
      };
    }

-- the block is accepted
pub committed : (s u : Cluster) (id : ℕ) (a : Asked) (b : Block) (n place : ℕ) → IsWhole s → IsReady s id a b n → Step s (ev.Commit id) (rp.Entry place) u
    → IsAccepted u place a b n × (u.table.quorum ≡ quorum_after_block (block_name b.partition n) a.need s.table.quorum) × ((t : TableState) → Shows s t → TakesBlock t a b n place u)
committed s u id a b n place w o k =
    let c = commits-mine s u id a b n place w o.is_open k in
    (accepts s u id a b n place o.staged c, ap (λ (x : Cluster). x.table.quorum) c.change ∙ ap (λ (x : Table). x.quorum) c.call.change, takes s u id a b n place w o.is_open k c)

-- ---- there is no room for the block

-- one more block would pass the limit, and what is shown stays
pub no-room : (s u : Cluster) (id : ℕ) (a : Asked) (b : Block) (n : ℕ) (limit : Limit) (value : ℕ) → IsWhole s → IsReady s id a b n → Step s (ev.Commit id) (rp.Refused (rf.LimitReached limit value)) u → (t : TableState) → Shows s t → (block_limit t b ≡ Some (limit, value)) × Shows u t
no-room s u id a b n limit value w o k t h = go k.does
  where
    go : Does s (ev.Commit id) (rp.Refused (rf.LimitReached limit value)) k.after → (block_limit t b ≡ Some (limit, value)) × Shows u t
    go (inl d) = let e = d.answer in absurd (cc)
    go (inr (inl d)) =
        let e : d.why ≡ rf.LimitReached limit value = let q = d.answer in cc in
        let c = subst (λ (y : StepRefused). LostFor s (attempt_of id a b n) y) e (lost s k.after id a b n (rp.Refused (rf.LimitReached limit value)) w o.is_open d) in
        let q = ap (λ (x : Cluster). x.table) d.ends.change ∙ d.ends.unlocks in (
          room-shown s t b w h ∙ c.2,
          shows-next s u (ev.Commit id) (rp.Refused (rf.LimitReached limit value)) t t.next w tt k
              (keeps-stored s u (ev.Commit id) (rp.Refused (rf.LimitReached limit value)) k (ap (λ (x : Table). x.schema) q) (ap (λ (x : Table). x.log) q) (ap (λ (x : Table). x.quorum) q) (ap (λ (x : Cluster). x.events) d.ends.change) (λ xs i. refl))
              (h.table.next ∙ sym (ap (λ (x : Cluster). x.table.next) k.stored ∙ ap (λ (x : Table). x.next) q)) h,
        )
    go (inr (inr d)) = absurd (refused-commit s id a b n d.why w o d.cause)
