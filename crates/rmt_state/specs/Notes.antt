-- The reply to a note. No public clause cites this module.
use Rattle.std.specs.Prelude.{◌≡◌, Bool}
use Rattle.std.specs.declared.result.Result.{Result}
use Rattle.std.specs.declared.result.Result.TheVariants.{Ok, Err}
use Rattle.std.specs.declared.alloc.AllocError.{AllocError}
use Rattle.std.specs.Prelude.{IsErr}
use Rattle.rmt_events.specs.declared.reply.Reply.{Reply}
use Rattle.rmt_events.specs.declared.reply.Reply.TheVariants as rp
use Rattle.rmt_events.specs.declared.step_refused.StepRefused.TheVariants as rf
use Rattle.rmt_replica.specs.declared.replica_error.ReplicaError.{ReplicaError}
use Rattle.rmt_replica.specs.declared.replica_error.ReplicaError.TheVariants as errors

-- whether it is noted, or that the replica is down, or that no memory was left
abbrev pub IsReplyTo : Result Bool ReplicaError → Result Reply AllocError → Type 0
IsReplyTo (Ok noted) reply = reply ≡ Ok (rp.Noted noted)
IsReplyTo (Err errors.Down) reply = reply ≡ Ok (rp.Refused rf.Down)
IsReplyTo (Err errors.Memory) reply = IsErr reply
