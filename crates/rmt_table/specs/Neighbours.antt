-- Neighbours that a worker would merge, where the part that waits for its quorum is known by its name.
-- No public clause cites this module.
use Rattle.std.specs.Prelude.{◌≡◌, List}
use Rattle.std.specs.declared.option.Option.{Option}
use Rattle.std.specs.Option.{option_map}
use Rattle.rmt_names.specs.Names.{Name}
use Rattle.rmt_entries.specs.declared.entry.Entry.{Entry}
use Rattle.rmt_model.specs.Quorum.{Pending}
use Rattle.rmt_events.specs.TableRefusals.{HoldPending, AreFirstToDiffer, AreFirstInQuorum, AreAlike}
use Rattle.rmt_table.specs.declared.merge_error.MergeError.{MergeError}
use Rattle.rmt_table.specs.declared.merge_error.MergeError.TheVariants as merge

-- the part that waits for its quorum, where one does, is this
abbrev pub IsPartOf : Option Pending → Option Name → Type 0
IsPartOf pending part = option_map (λ q. q.part) pending ≡ part

-- neither of two names covers the part that waits
abbrev pub HoldNone : Option Name → Name → Name → Type 0
HoldNone part left right = (pending : Option Pending) → IsPartOf pending part → (a : Name) → HoldPending pending left right a → ⊥

-- one of them covers it, which is this
abbrev pub HoldPart : Option Name → Name → Name → Name → Type 0
HoldPart part left right a = (pending : Option Pending) → IsPartOf pending part → HoldPending pending left right a

-- all neighbours among the names may be merged
abbrev pub AreJoined : List Entry → Option Name → List Name → Type 0
AreJoined log part names = (pending : Option Pending) → IsPartOf pending part → AreAlike log pending names

-- the first that may not, and why
abbrev pub AreFirstApart : List Entry → Option Name → List Name → MergeError → Type 0
AreFirstApart log part names (merge.Differ left right) = (pending : Option Pending) → IsPartOf pending part → AreFirstToDiffer log pending names left right
AreFirstApart log part names (merge.InQuorum left right a) = (pending : Option Pending) → IsPartOf pending part → AreFirstInQuorum log pending names left right a
AreFirstApart log part names why = ⊥
