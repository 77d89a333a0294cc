-- What a client compares of one entry and of the parts that a replica has. No public clause cites this module.
-- No public source: this program's own.
use Rattle.std.specs.Prelude.{◌≡◌, ◌⊎◌, ℕ, Bool, true, false, List}
use Rattle.std.specs.declared.option.Option.TheVariants.{Some}
use Rattle.rmt_names.specs.Names.{Name}
use Rattle.rmt_entries.specs.Entries.{result_name}
use Rattle.rmt_entries.specs.declared.entry.Entry.{Entry}
use Rattle.rmt_entries.specs.declared.entry.Entry.TheVariants.{Get, Merge, Mutate, Mutation, DropRange}
use Rattle.rmt_model.specs.Words.{Each}
use Rattle.rmt_model.specs.Live.{TakesAway, Dropped, in_drop}
use Rattle.rmt_model.specs.Lawful.{entry_at}
use Rattle.rmt_model.specs.Fair.{CoveredBy}
use Rattle.rmt_queue.specs.Marks.{done_at}
use Rattle.rmt_known.specs.KnownTables.{Known, client_of}
use Rattle.rmt_replica.specs.Replicas.{ReplicaView}

-- whether the entry is a drop that takes the name away
abbrev pub takes : Entry → Name → Bool
takes (Get p n digest source need) a = false
takes (Merge new sources count) a = false
takes (Mutate old new upto count mcount) a = false
takes (Mutation id numbers command) a = false
takes (DropRange p n) a = in_drop p n a

-- the entry takes none of the names away, and what it makes is covered by one of them, or dropped
pub record IsCheckedEntry (log : List Entry) (names : List Name) (e : Entry) : Type 0 where
  pub kept : Each (λ a. TakesAway e a → ⊥) names
  pub answered : (a : Name) → result_name e ≡ Some a → CoveredBy names a ⊎ Dropped log a

-- so it is with the entry at a place
abbrev pub IsCheckedAt : List Entry → List Name → ℕ → Type 0
IsCheckedAt log names i = (e : Entry) → entry_at log i ≡ Some e → IsCheckedEntry log names e

-- the place is known at the replica, which hasn't done it
pub record IsOpen (known : Known) (r : ReplicaView) (i : ℕ) : Type 0 where
  pub marked : (client_of known).known r.number i ≡ true
  pub pending : done_at r.done i ≡ false
