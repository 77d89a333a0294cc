-- What a pull is answered with, and what it leaves that wanted memory.
-- No public source: this program's own.
use Rattle.std.specs.Prelude.{◌≡◌, ℕ, List, IsErr}
use Rattle.std.specs.declared.result.Result.{Result}
use Rattle.std.specs.declared.result.Result.TheVariants.{Ok, Err}
use Rattle.std.specs.declared.alloc.AllocError.{AllocError}
use Rattle.rmt_entries.specs.declared.entry.Entry.{Entry}
use Rattle.rmt_model.specs.Lawful.{IsPrefix}
use Rattle.rmt_replica.specs.declared.replica_error.ReplicaError.{ReplicaError}
use Rattle.rmt_replica.specs.declared.replica_error.ReplicaError.TheVariants as errors
use Rattle.rmt_events.specs.Views.{Replica}
use Rattle.rmt_events.specs.declared.reply.Reply.{Reply}
use Rattle.rmt_events.specs.declared.reply.Reply.TheVariants as rp
use Rattle.rmt_events.specs.declared.step_refused.StepRefused.TheVariants as rf
use Rattle.rmt_events.specs.ReplicaCalls.{Pulls}
use Rattle.rmt_state.specs.States.{StateView, ActsAt}

-- the reply to a pull; none where no memory was left
abbrev pub IsReplyTo : Result ℕ ReplicaError → Result Reply AllocError → Type 0
IsReplyTo (Ok len) reply = reply ≡ Ok (rp.Pulled len)
IsReplyTo (Err errors.Down) reply = reply ≡ Ok (rp.Refused rf.Down)
IsReplyTo (Err errors.Memory) reply = IsErr reply

-- the replica's copy is this log, which is no shorter than it was
pub record PullsTo (log : List Entry) (x y : Replica) : Type 0 where
  pub longer : IsPrefix x.log log
  pub pulls : Pulls x log y

-- a replica that is up has copied some of the log, or nothing
pub record PullsSome (s : StateView) (k : ℕ) (t : StateView) : Type 0 where
  pub log : List Entry
  pub prefix : IsPrefix log s.tree.log
  pub at : ActsAt s k (PullsTo log) t
