-- Why a call on the state did nothing, as an event is answered; out of memory is no answer.
-- No public source: this program's own.
use Rattle.std.specs.Prelude.{◌≡◌, Bool, true, false, IsErr, MatchOption}
use Rattle.std.specs.declared.result.Result.{Result}
use Rattle.std.specs.declared.result.Result.TheVariants.{Ok, Err}
use Rattle.std.specs.declared.alloc.AllocError.{AllocError}
use Rattle.rmt_events.specs.declared.reply.Reply.{Reply}
use Rattle.rmt_events.specs.declared.reply.Reply.TheVariants as rp
use Rattle.std.specs.declared.option.Option.{Option}
use Rattle.std.specs.declared.option.Option.TheVariants.{Some, None}
use Rattle.rmt_table.specs.declared.commit_error.CommitError.{CommitError}
use Rattle.rmt_table.specs.declared.commit_error.CommitError.TheVariants as commit
use Rattle.rmt_events.specs.declared.applied.Applied.{Applied}
use Rattle.rmt_replica.specs.declared.apply_error.ApplyError.{ApplyError}
use Rattle.rmt_replica.specs.declared.apply_error.ApplyError.TheVariants as apply
use Rattle.rmt_events.specs.declared.step_refused.StepRefused.{StepRefused}
use Rattle.rmt_events.specs.declared.step_refused.StepRefused.TheVariants as rf

-- whether the block is refused for good: its lock has gone with the answer
abbrev pub is_final : CommitError → Bool
is_final (commit.LockGone number) = false
is_final commit.Memory = false
is_final (commit.TooFewLive live need) = true
is_final (commit.QuorumPending part) = true
is_final (commit.Duplicate part) = true
is_final (commit.LimitReached limit value) = true

-- why an entry wasn't done
abbrev pub apply_cause : ApplyError → Option StepRefused
apply_cause apply.Down = Some rf.Down
apply_cause apply.FetchesStopped = Some rf.FetchesStopped
apply_cause (apply.NeedsPart part) = Some (rf.NeedsPart part)
apply_cause apply.Memory = None

-- the reply to an entry that a replica looked at; none where no memory was left
abbrev pub IsApplyReply : Result Applied ApplyError → Result Reply AllocError → Type 0
IsApplyReply (Ok d) reply = reply ≡ Ok (rp.Applied d)
IsApplyReply (Err error) reply = MatchOption (apply_cause error) (IsErr reply) (λ why. reply ≡ Ok (rp.Refused why))
