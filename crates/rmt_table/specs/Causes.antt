-- Why a call of the table did nothing, as an event is answered; out of memory is no answer.
-- No public source: the errors and the answers are this program's own.
use Rattle.std.specs.declared.option.Option.{Option}
use Rattle.std.specs.declared.option.Option.TheVariants.{Some, None}
use Rattle.rmt_table.specs.declared.allocate_error.AllocateError.{AllocateError}
use Rattle.rmt_table.specs.declared.allocate_error.AllocateError.TheVariants as allocate
use Rattle.rmt_table.specs.declared.commit_error.CommitError.{CommitError}
use Rattle.rmt_table.specs.declared.commit_error.CommitError.TheVariants as commit
use Rattle.rmt_table.specs.declared.merge_error.MergeError.{MergeError}
use Rattle.rmt_table.specs.declared.merge_error.MergeError.TheVariants as merge
use Rattle.rmt_table.specs.declared.mutate_error.MutateError.{MutateError}
use Rattle.rmt_table.specs.declared.mutate_error.MutateError.TheVariants as mutate
use Rattle.rmt_table.specs.declared.change_error.ChangeError.{ChangeError}
use Rattle.rmt_table.specs.declared.change_error.ChangeError.TheVariants as change
use Rattle.rmt_events.specs.declared.step_refused.StepRefused.{StepRefused}
use Rattle.rmt_events.specs.declared.step_refused.StepRefused.TheVariants as rf

-- why a block gets no number
abbrev pub allocate_cause : AllocateError → Option StepRefused
allocate_cause allocate.NoSession = Some rf.NoSession
allocate_cause (allocate.TooFewLive live need) = Some (rf.TooFewLive live need)
allocate_cause (allocate.QuorumPending part) = Some (rf.QuorumPending part)
allocate_cause (allocate.Duplicate part) = Some (rf.Duplicate part)
allocate_cause (allocate.LimitReached limit value) = Some (rf.LimitReached limit value)
allocate_cause allocate.Memory = None

-- why a block isn't accepted
abbrev pub commit_cause : CommitError → Option StepRefused
commit_cause (commit.LockGone number) = Some (rf.LockGone number)
commit_cause (commit.TooFewLive live need) = Some (rf.TooFewLive live need)
commit_cause (commit.QuorumPending part) = Some (rf.QuorumPending part)
commit_cause (commit.Duplicate part) = Some (rf.Duplicate part)
commit_cause (commit.LimitReached limit value) = Some (rf.LimitReached limit value)
commit_cause commit.Memory = None

-- why a merge isn't in the log
abbrev pub merge_cause : MergeError → Option StepRefused
merge_cause (merge.LogMoved seen found) = Some (rf.LogMoved seen found)
merge_cause (merge.Differ left right) = Some (rf.Differ left right)
merge_cause (merge.InQuorum left right part) = Some (rf.InQuorum left right part)
merge_cause (merge.InFlight number) = Some (rf.InFlight number)
merge_cause (merge.LimitReached limit value) = Some (rf.LimitReached limit value)
merge_cause merge.Memory = None

-- why the mutation of a part isn't in the log
abbrev pub mutate_cause : MutateError → Option StepRefused
mutate_cause (mutate.LogMoved seen found) = Some (rf.LogMoved seen found)
mutate_cause (mutate.LimitReached limit value) = Some (rf.LimitReached limit value)
mutate_cause mutate.Memory = None

-- why a mutation or the drop of a partition isn't in the log
abbrev pub change_cause : ChangeError → Option StepRefused
change_cause (change.LimitReached limit value) = Some (rf.LimitReached limit value)
change_cause change.Memory = None
