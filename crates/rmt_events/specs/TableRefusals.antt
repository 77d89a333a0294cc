-- Why a call of a table is refused, by what the table has. Each cause comes only where those before it don't.
-- ClickHouse documentation, Data Replication: insert blocks and their checksums, insert_quorum; merges and mutations are
-- assigned through the log. ALTER, "Mutations" and "DROP PARTITION". The limits are this program's own.
use Rattle.std.specs.Prelude.{◌≡◌, ◌⊎◌, ℕ, ◌<◌, ◌≤◌, List, [], ◌∷◌, length}
use Rattle.std.specs.declared.option.Option.{Option}
use Rattle.std.specs.declared.option.Option.TheVariants.{Some, None}
use Rattle.rmt_names.specs.Names.{Name, Covers, Spans, merged_name}
use Rattle.rmt_entries.specs.declared.entry.Entry.{Entry}
use Rattle.rmt_model.specs.Words.{Has}
use Rattle.rmt_model.specs.Lawful.{ver}
use Rattle.rmt_model.specs.Quorum.{Pending}
use Rattle.rmt_model.specs.BlockNumbers.{next_number}
use Rattle.rmt_model.specs.EntryLimits.{allocate_limit, commit_limit, worker_limit, mutation_limit, drop_limit}
use Rattle.rmt_events.specs.Views.{Table}
use Rattle.rmt_events.specs.TableCalls.{IsLocked, kept_part}
use Rattle.rmt_events.specs.declared.step_refused.StepRefused.{StepRefused}
use Rattle.rmt_events.specs.declared.step_refused.StepRefused.TheVariants as rf

-- ---- blocks

-- fewer replicas have a session than the block needs
abbrev pub AreTooFew : Table → ℕ → ℕ → ℕ → Type 0
AreTooFew t need live needed = (live ≡ length t.sessions) × (needed ≡ need) × (live < need)

-- the block asks for a quorum, and this part waits for its own
abbrev pub MeetsPending : Table → ℕ → Name → Type 0
MeetsPending t need a = (need ≤ length t.sessions) × (2 ≤ need) × (q : Pending) × (t.quorum.pending ≡ Some q) × (q.part ≡ a)

-- there are enough live replicas for the block, and no part waits where it asks for a quorum
pub record HasQuorum (t : Table) (need : ℕ) : Type 0 where
  pub enough : need ≤ length t.sessions
  pub quiet : 2 ≤ need → t.quorum.pending ≡ None

-- the block's id isn't kept
abbrev pub IsUnkept : Table → Option ℕ → List ℕ → Type 0
IsUnkept t p digest = kept_part t.window p digest ≡ None

-- why a block of replica k gets no number
abbrev pub NoNumber : Table → ℕ → Option ℕ → List ℕ → ℕ → StepRefused → Type 0
NoNumber t k p digest need rf.NoSession = Has t.sessions k → ⊥
NoNumber t k p digest need (rf.TooFewLive live needed) = Has t.sessions k × AreTooFew t need live needed
NoNumber t k p digest need (rf.QuorumPending a) = Has t.sessions k × MeetsPending t need a
NoNumber t k p digest need (rf.Duplicate a) = Has t.sessions k × HasQuorum t need × (kept_part t.window p digest ≡ Some a)
NoNumber t k p digest need (rf.LimitReached limit value) =
    Has t.sessions k × HasQuorum t need × IsUnkept t p digest × (allocate_limit t.next t.log p ≡ Some (limit, value))
NoNumber t k p digest need why = ⊥

-- the lock of the number is gone, and the answer tells that number
abbrev pub LacksLock : Table → Option ℕ → ℕ → ℕ → Type 0
LacksLock t p number told = (told ≡ number) × (IsLocked t.locks p number → ⊥)

-- why a block whose lock is there isn't accepted
abbrev pub NotAccepted : Table → Option ℕ → List ℕ → ℕ → ℕ → StepRefused → Type 0
NotAccepted t p digest need values (rf.TooFewLive live needed) = AreTooFew t need live needed
NotAccepted t p digest need values (rf.QuorumPending a) = MeetsPending t need a
NotAccepted t p digest need values (rf.Duplicate a) = HasQuorum t need × (kept_part t.window p digest ≡ Some a)
NotAccepted t p digest need values (rf.LimitReached limit value) =
    HasQuorum t need × IsUnkept t p digest × (commit_limit t.log t.values values ≡ Some (limit, value))
NotAccepted t p digest need values why = ⊥

-- ---- merges and mutations of parts, chosen from a copy of so many entries

-- the log is longer than the copy
abbrev pub HasMoved : Table → ℕ → ℕ → ℕ → Type 0
HasMoved t len seen found = (seen ≡ len) × (found ≡ length t.log) × (seen < found)

-- one of two names covers the part that waits for its quorum, which is this
abbrev pub HoldPending : Option Pending → Name → Name → Name → Type 0
HoldPending None a b part = ⊥
HoldPending (Some q) a b part = (part ≡ q.part) × (Covers a q.part ⊎ Covers b q.part)

-- two neighbours may be merged: they are of one version, and neither covers the part that waits for its quorum
pub record MayJoin (log : List Entry) (pending : Option Pending) (a b : Name) : Type 0 where
  pub version : ver log a ≡ ver log b
  pub quiet : (part : Name) → HoldPending pending a b part → ⊥

-- the first neighbours among the names that may not be merged, where their versions differ
abbrev pub AreFirstToDiffer : List Entry → Option Pending → List Name → Name → Name → Type 0
AreFirstToDiffer log pending [] left right = ⊥
AreFirstToDiffer log pending (a ∷ []) left right = ⊥
AreFirstToDiffer log pending (a ∷ b ∷ rest) left right =
    ((ver log a ≡ ver log b → ⊥) × (left ≡ a) × (right ≡ b))
    ⊎ (MayJoin log pending a b × AreFirstToDiffer log pending (b ∷ rest) left right)

-- the first neighbours among the names that may not be merged, where they are of one version and one covers the part that
-- waits for its quorum
abbrev pub AreFirstInQuorum : List Entry → Option Pending → List Name → Name → Name → Name → Type 0
AreFirstInQuorum log pending [] left right part = ⊥
AreFirstInQuorum log pending (a ∷ []) left right part = ⊥
AreFirstInQuorum log pending (a ∷ b ∷ rest) left right part =
    ((ver log a ≡ ver log b) × HoldPending pending a b part × (left ≡ a) × (right ≡ b))
    ⊎ (MayJoin log pending a b × AreFirstInQuorum log pending (b ∷ rest) left right part)

-- all neighbours among the names may be merged
abbrev pub AreAlike : List Entry → Option Pending → List Name → Type 0
AreAlike log pending [] = Unit {0}
AreAlike log pending (a ∷ []) = Unit {0}
AreAlike log pending (a ∷ b ∷ rest) = MayJoin log pending a b × AreAlike log pending (b ∷ rest)

-- a lock's number lies in the range of the merged name
abbrev pub IsInFlight : Table → List Name → ℕ → Type 0
IsInFlight t [] n = ⊥
IsInFlight t (a ∷ rest) n = IsLocked t.locks a.partition n × Spans (merged_name a rest) a.partition n

-- why the merge of these names doesn't enter the log
abbrev pub NotMerged : Table → ℕ → List Name → StepRefused → Type 0
NotMerged t len names (rf.LogMoved seen found) = HasMoved t len seen found
NotMerged t len names (rf.Differ left right) = (len ≡ length t.log) × AreFirstToDiffer t.log t.quorum.pending names left right
NotMerged t len names (rf.InQuorum left right part) = (len ≡ length t.log) × AreFirstInQuorum t.log t.quorum.pending names left right part
NotMerged t len names (rf.InFlight n) =
    (len ≡ length t.log) × AreAlike t.log t.quorum.pending names × IsInFlight t names n × ((m : ℕ) → IsInFlight t names m → n ≤ m)
NotMerged t len names (rf.LimitReached limit value) =
    (len ≡ length t.log) × AreAlike t.log t.quorum.pending names × ((n : ℕ) → IsInFlight t names n → ⊥) × (worker_limit t.log ≡ Some (limit, value))
NotMerged t len names why = ⊥

-- why the mutation of a part doesn't enter the log
abbrev pub NotMutated : Table → ℕ → StepRefused → Type 0
NotMutated t len (rf.LogMoved seen found) = HasMoved t len seen found
NotMutated t len (rf.LimitReached limit value) = (len ≡ length t.log) × (worker_limit t.log ≡ Some (limit, value))
NotMutated t len why = ⊥

-- ---- mutations and drops

-- why a mutation doesn't enter the log
abbrev pub NoMutation : Table → StepRefused → Type 0
NoMutation t (rf.LimitReached limit value) = mutation_limit t.next t.log ≡ Some (limit, value)
NoMutation t why = ⊥

-- why the drop of a partition that exists doesn't enter the log
abbrev pub NoDrop : Table → Option ℕ → StepRefused → Type 0
NoDrop t p (rf.LimitReached limit value) = (0 < next_number t.next p) × (drop_limit t.next t.log p ≡ Some (limit, value))
NoDrop t p why = ⊥
