-- The replies to merges and mutations of parts that a table was to put in its log; out of memory is no answer.
-- No public source: this program's own.
use Rattle.std.specs.Prelude.{◌≡◌, ℕ, IsErr, MatchOption}
use Rattle.std.specs.declared.result.Result.{Result}
use Rattle.std.specs.declared.result.Result.TheVariants.{Ok, Err}
use Rattle.std.specs.declared.alloc.AllocError.{AllocError}
use Rattle.rmt_row.specs.Token.{Token}
use Rattle.rmt_entries.specs.declared.entry.Entry.{Entry}
use Rattle.rmt_events.specs.declared.reply.Reply.{Reply}
use Rattle.rmt_events.specs.declared.reply.Reply.TheVariants as rp
use Rattle.rmt_table.specs.declared.merge_error.MergeError.{MergeError}
use Rattle.rmt_table.specs.declared.mutate_error.MutateError.{MutateError}
use Rattle.rmt_table.specs.Causes.{merge_cause, mutate_cause}

-- the reply to a merge whose entry was to stand at a place; none where no memory was left
abbrev pub IsMergeReply : ℕ → Result (Token Entry) MergeError → Result Reply AllocError → Type 0
IsMergeReply place (Ok token) reply = reply ≡ Ok (rp.Entry place)
IsMergeReply place (Err error) reply = MatchOption (merge_cause error) (IsErr reply) (λ why. reply ≡ Ok (rp.Refused why))

-- the same of the mutation of a part
abbrev pub IsMutateReply : ℕ → Result (Token Entry) MutateError → Result Reply AllocError → Type 0
IsMutateReply place (Ok token) reply = reply ≡ Ok (rp.Entry place)
IsMutateReply place (Err error) reply = MatchOption (mutate_cause error) (IsErr reply) (λ why. reply ≡ Ok (rp.Refused why))
