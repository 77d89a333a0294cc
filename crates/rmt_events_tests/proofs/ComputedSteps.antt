-- Steps whose new state is computed from the old one.
use Rattle.std.proofs.Common.{◌≡◌, ℕ, ◌+◌, ◌<◌, inl, inr, true, false, not, nat_eq, ◌∷◌, length, refl, sym, subst, filter, replicate}
use Rattle.std.specs.Arc.{arc_value}
use Rattle.std.specs.declared.option.Option.{Option}
use Rattle.std.specs.declared.option.Option.TheVariants.{None}
use Rattle.rmt_values.specs.declared.checked_mutation.CheckedMutation.{CheckedMutation}
use Rattle.rmt_values.specs.Commands.{CommandFits}
use Rattle.rmt_names.specs.Names.{block_name}
use Rattle.rmt_entries.specs.declared.entry.Entry.TheVariants.{Get, Mutation, DropRange}
use Rattle.rmt_model.specs.Words.{Has}
use Rattle.rmt_model.specs.Lawful.{mutation_count}
use Rattle.rmt_model.specs.Quorum.{quorum_after_block, quorum_after_drop}
use Rattle.rmt_queue.specs.Marks.{grown}
use Rattle.rmt_events.specs.Views.{Block, Replica}
use Rattle.rmt_model.specs.BlockNumbers.{next_number, with_next, next_numbers_after}
use Rattle.rmt_model.specs.EntryLimits.{allocate_limit, commit_limit, mutation_limit, drop_limit}
use Rattle.rmt_events.specs.TableCalls.{with_lock, with_session, locks_without, locks_without_below, window_with, window_without, kept_part, IsLocked}
use Rattle.rmt_events.specs.ReplicaCalls.{IsStaged, staged_with, staged_without}
use Rattle.rmt_events.specs.Clusters.{Attempt, Cluster, without_kinds, with_replica, values_of}
use Rattle.rmt_events.specs.ClusterChanges.{IsNumbered, IsAttempt, attempts_without, renumbered}
use Rattle.rmt_events.specs.TableRefusals.{HasQuorum}
use Rattle.rmt_events.specs.InsertEvents.{HasStaged, BeginsAttempt, LostFor}
use Rattle.rmt_events.specs.Steps.{Step}
use Rattle.rmt_events_tests.specs.WorkedEvents.{Shared}
use Rattle.rmt_events.specs.declared.event.Event.{Event}
use Rattle.rmt_events.specs.declared.reply.Reply.{Reply}
use Rattle.rmt_events.specs.declared.step_refused.StepRefused.{StepRefused}
use Rattle.rmt_events.specs.declared.event.Event.TheVariants as ev
use Rattle.rmt_events.specs.declared.reply.Reply.TheVariants as rp
use Rattle.rmt_events.specs.declared.step_refused.StepRefused.TheVariants as rf

-- one more event
abbrev pub with_event : Cluster → Event → Reply → Cluster
with_event s e r = record s { events = (e, r) ∷ s.events }

-- ---- Allocate

abbrev pub allocated : Cluster → ℕ → Block → Cluster
allocated s k b = record s {
  table = record s.table { next = with_next s.table.next b.partition (next_number s.table.next b.partition + 1); locks = with_lock (record { partition = b.partition; number = next_number s.table.next b.partition; owner = k }) s.table.locks };
  attempts_made = s.attempts_made + 1;
  attempts = record { id = s.attempts_made; replica = k; block = b; number = next_number s.table.next b.partition; need = 0 } ∷ s.attempts;
}

pub allocates : (s : Cluster) (k : ℕ) (shared : Shared) (b : Block) → without_kinds (arc_value shared) ≡ b → Has s.table.sessions k → HasQuorum s.table 0 → kept_part s.table.window b.partition b.digest ≡ None → allocate_limit s.table.next s.table.log b.partition ≡ None
    → Step s (ev.Allocate k shared 0) (rp.Attempt s.attempts_made (next_number s.table.next b.partition)) (with_event (allocated s k b) (ev.Allocate k shared 0) (rp.Attempt s.attempts_made (next_number s.table.next b.partition)))
allocates s k shared b e session quorum unkept within =
    record {
      after = allocated s k b;
      does = inl (subst (λ (x : Block). BeginsAttempt s k x 0 (rp.Attempt s.attempts_made (next_number s.table.next b.partition)) (allocated s k b)) (sym e) (record {
        number = next_number s.table.next b.partition;
        table = record s.table { next = with_next s.table.next b.partition (next_number s.table.next b.partition + 1); locks = with_lock (record { partition = b.partition; number = next_number s.table.next b.partition; owner = k }) s.table.locks };
        quorum = quorum;
        call = record { session = session; unkept = unkept; within = within; number = refl; change = refl };
        answer = refl;
        change = refl;
      }));
      stored = refl;
    }

-- ---- Stage

abbrev pub staged : Cluster → Attempt → Replica → Cluster
staged s a x = record s { replicas = with_replica s.replicas a.replica (record x { staged = staged_with x.staged a.number a.block }) }

pub stages : (s : Cluster) (id : ℕ) (a : Attempt) (x : Replica) → IsAttempt s id a → IsNumbered s a.replica x → x.up ≡ true → Step s (ev.Stage id) rp.Done (with_event (staged s a x) (ev.Stage id) rp.Done)
stages s id a x i n u =
    record {
      after = staged s a x;
      does = inl (record { attempt = a; is = i; at = record { old = x; new = record x { staged = staged_with x.staged a.number a.block }; at = n; up = u; does = refl; change = refl }; answer = refl });
      stored = refl;
    }

-- ---- Commit

abbrev pub committed : Cluster → ℕ → Attempt → Cluster
committed s id a = record s {
  table = record s.table {
    log = Get a.block.partition a.number a.block.digest a.replica a.need ∷ s.table.log;
    locks = locks_without s.table.locks a.block.partition a.number;
    window = window_with s.table.schema.window s.table.window a.block.partition a.number a.block.digest;
    quorum = quorum_after_block (block_name a.block.partition a.number) a.need s.table.quorum;
    values = s.table.values + values_of s.table.schema a.block.rows;
  };
  attempts = attempts_without s.attempts id;
}

pub commits : (s : Cluster) (id : ℕ) (a : Attempt) (x : Replica) → IsAttempt s id a → IsNumbered s a.replica x → IsStaged x a.block.partition a.number a.block → HasQuorum s.table a.need → IsLocked s.table.locks a.block.partition a.number → kept_part s.table.window a.block.partition a.block.digest ≡ None → commit_limit s.table.log s.table.values (values_of s.table.schema a.block.rows) ≡ None
    → Step s (ev.Commit id) (rp.Entry (length s.table.log)) (with_event (committed s id a) (ev.Commit id) (rp.Entry (length s.table.log)))
commits s id a x i n z q l u w =
    record {
      after = committed s id a;
      does = inl (record {
        attempt = a;
        is = i;
        replica = x;
        at = n;
        staged = z;
        table = Cluster.table (committed s id a);
        quorum = q;
        call = record { locked = l; unkept = u; none_pending = q.quiet; within = w; change = refl };
        answer = refl;
        change = refl;
      });
      stored = refl;
    }

pub lock-gone : (s : Cluster) (id : ℕ) (a : Attempt) → IsAttempt s id a → HasStaged s a → (IsLocked s.table.locks a.block.partition a.number → ⊥) → Step s (ev.Commit id) (rp.Refused (rf.LockGone a.number)) (with_event s (ev.Commit id) (rp.Refused (rf.LockGone a.number)))
lock-gone s id a i z g = record { after = s; does = inr (inr (record { why = rf.LockGone a.number; cause = (a, i, z, (refl, g)); answer = refl; unchanged = refl })); stored = refl }

abbrev pub ended : Cluster → ℕ → Attempt → Replica → Cluster
ended s id a x = record s {
  table = record s.table { locks = locks_without s.table.locks a.block.partition a.number };
  replicas = with_replica s.replicas a.replica (record x { staged = staged_without x.staged a.block.partition a.number });
  attempts = attempts_without s.attempts id;
}

pub loses : (s : Cluster) (id : ℕ) (a : Attempt) (x : Replica) (why : StepRefused) → IsAttempt s id a → IsNumbered s a.replica x → IsStaged x a.block.partition a.number a.block → IsLocked s.table.locks a.block.partition a.number → LostFor s a why
    → Step s (ev.Commit id) (rp.Refused why) (with_event (ended s id a x) (ev.Commit id) (rp.Refused why))
loses s id a x why i n z l c =
    record {
      after = ended s id a x;
      does = inr (inl (record {
        ends = record { attempt = a; is = i; table = record s.table { locks = locks_without s.table.locks a.block.partition a.number }; unlocks = refl; replica = x; at = n; new = record x { staged = staged_without x.staged a.block.partition a.number }; unstages = refl; change = refl };
        staged = record { replica = x; at = n; staged = z };
        locked = l;
        why = why;
        cause = c;
        answer = refl;
      }));
      stored = refl;
    }

-- ---- Again

abbrev pub renewed : Cluster → ℕ → Attempt → Cluster
renewed s id a = record s {
  table = record s.table { next = with_next s.table.next a.block.partition (next_number s.table.next a.block.partition + 1); locks = with_lock (record { partition = a.block.partition; number = next_number s.table.next a.block.partition; owner = a.replica }) s.table.locks };
  attempts = renumbered s.attempts id (next_number s.table.next a.block.partition);
}

pub renews : (s : Cluster) (id : ℕ) (a : Attempt) → IsAttempt s id a → (IsLocked s.table.locks a.block.partition a.number → ⊥) → Has s.table.sessions a.replica → HasQuorum s.table a.need → kept_part s.table.window a.block.partition a.block.digest ≡ None → allocate_limit s.table.next s.table.log a.block.partition ≡ None
    → Step s (ev.Again id) (rp.Attempt id (next_number s.table.next a.block.partition)) (with_event (renewed s id a) (ev.Again id) (rp.Attempt id (next_number s.table.next a.block.partition)))
renews s id a i g session quorum unkept within =
    record {
      after = renewed s id a;
      does = inl (record {
        attempt = a;
        is = i;
        gone = g;
        number = next_number s.table.next a.block.partition;
        table = Cluster.table (renewed s id a);
        quorum = quorum;
        call = record { session = session; unkept = unkept; within = within; number = refl; change = refl };
        answer = refl;
        change = refl;
      });
      stored = refl;
    }

-- ---- CreateMutation, DropPartition

abbrev pub with_mutation : Cluster → CheckedMutation → Cluster
with_mutation s command = record s { table = record s.table { log = Mutation (mutation_count s.table.log) s.table.next command ∷ s.table.log; next = next_numbers_after s.table.next } }

pub creates : (s : Cluster) (command : CheckedMutation) → CommandFits s.table.schema command → mutation_limit s.table.next s.table.log ≡ None → Step s (ev.CreateMutation command) (rp.Entry (length s.table.log)) (with_event (with_mutation s command) (ev.CreateMutation command) (rp.Entry (length s.table.log)))
creates s command f w = record { after = with_mutation s command; does = inl (record { at = record { new = Cluster.table (with_mutation s command); does = record { fits = f; within = w; change = refl }; change = refl }; answer = refl }); stored = refl }

abbrev pub dropped : Cluster → Option ℕ → Cluster
dropped s p = record s { table = record s.table { log = DropRange p (next_number s.table.next p) ∷ s.table.log; next = with_next s.table.next p (next_number s.table.next p + 1); locks = locks_without_below s.table.locks p (next_number s.table.next p); window = window_without s.table.window p (next_number s.table.next p); quorum = quorum_after_drop p (next_number s.table.next p) s.table.quorum } }

pub drops : (s : Cluster) (p : Option ℕ) → 0 < next_number s.table.next p → drop_limit s.table.next s.table.log p ≡ None → Step s (ev.DropPartition p) (rp.Entry (length s.table.log)) (with_event (dropped s p) (ev.DropPartition p) (rp.Entry (length s.table.log)))
drops s p e w = record { after = dropped s p; does = inl (next_number s.table.next p, record { at = record { new = Cluster.table (dropped s p); does = record { exists = e; within = w; number = refl; change = refl }; change = refl }; answer = refl }); stored = refl }

-- ---- Pull, Kill, Restart

abbrev pub pulled : Cluster → ℕ → Replica → Cluster
pulled s k x = record s { replicas = with_replica s.replicas k (record x { log = s.table.log; done = grown x.done (length s.table.log) }) }

pub pulls : (s : Cluster) (k : ℕ) (x : Replica) → IsNumbered s k x → x.up ≡ true → Step s (ev.Pull k) (rp.Pulled (length s.table.log)) (with_event (pulled s k x) (ev.Pull k) (rp.Pulled (length s.table.log)))
pulls s k x n u = record { after = pulled s k x; does = inl (record { at = record { old = x; new = record x { log = s.table.log; done = grown x.done (length s.table.log) }; at = n; up = u; does = refl; change = refl }; answer = refl }); stored = refl }

pub down : (s : Cluster) (k : ℕ) (x : Replica) → IsNumbered s k x → x.up ≡ false → Step s (ev.Pull k) (rp.Refused rf.Down) (with_event s (ev.Pull k) (rp.Refused rf.Down))
down s k x n u = record { after = s; does = inr (record { why = rf.Down; cause = record { replica = x; at = n; down = u }; answer = refl; unchanged = refl }); stored = refl }

abbrev pub killed : Cluster → ℕ → Replica → Cluster
killed s k x = record s { table = record s.table { locks = filter (λ z. not (nat_eq z.owner k)) s.table.locks; sessions = filter (λ z. not (nat_eq z k)) s.table.sessions }; replicas = with_replica s.replicas k (record x { up = false }) }

pub kills : (s : Cluster) (k : ℕ) (x : Replica) → IsNumbered s k x → Step s (ev.Kill k) rp.Done (with_event (killed s k x) (ev.Kill k) rp.Done)
kills s k x n = record { after = killed s k x; does = record { old = x; new = record x { up = false }; at = n; dies = refl; table = Cluster.table (killed s k x); closes = refl; answer = refl; change = refl }; stored = refl }

abbrev pub restarted : Cluster → ℕ → Replica → Cluster
restarted s k x = record s {
  table = record s.table { locks = filter (λ z. not (nat_eq z.owner k)) s.table.locks; sessions = with_session k (filter (λ z. not (nat_eq z k)) (filter (λ z. not (nat_eq z k)) s.table.sessions)) };
  replicas = with_replica s.replicas k (record x { up = true; done = replicate (length x.log) false });
}

pub restarts : (s : Cluster) (k : ℕ) (x : Replica) → IsNumbered s k x → Step s (ev.Restart k) rp.Done (with_event (restarted s k x) (ev.Restart k) rp.Done)
restarts s k x n = record { after = restarted s k x; does = record { old = x; new = record x { up = true; done = replicate (length x.log) false }; at = n; wakes = refl; closed = Cluster.table (killed s k x); closes = refl; table = Cluster.table (restarted s k x); opens = refl; answer = refl; change = refl }; stored = refl }

pub no-session : (s : Cluster) (id : ℕ) (a : Attempt) → IsAttempt s id a → (IsLocked s.table.locks a.block.partition a.number → ⊥) → (Has s.table.sessions a.replica → ⊥) → Step s (ev.Again id) (rp.Refused rf.NoSession) (with_event s (ev.Again id) (rp.Refused rf.NoSession))
no-session s id a i g n = record { after = s; does = inr (record { why = rf.NoSession; cause = (a, i, g, n); answer = refl; unchanged = refl }); stored = refl }
