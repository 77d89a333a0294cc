-- What the calls on a replica change, and what always holds of one.
-- ClickHouse documentation, Data Replication: a replica copies the log and does its entries by itself. That they may be done
-- in any order is this program's own.
use Rattle.std.specs.Prelude.{◌≡◌, ◌⊎◌, ◌&&◌, ◌||◌, ℕ, Bool, true, false, not, cond, nat_eq, nat_lt, List, [], ◌∷◌, length, filter, replicate, slice_set}
use Rattle.std.specs.declared.option.Option.{Option}
use Rattle.std.specs.declared.option.Option.TheVariants.{Some}
use Rattle.rmt_values.specs.Rows.{Shape}
use Rattle.rmt_names.specs.Names.{Name, rank, Covers}
use Rattle.rmt_entries.specs.declared.entry.Entry.{Entry}
use Rattle.rmt_entries.specs.declared.entry.Entry.TheVariants.{Get, DropRange}
use Rattle.rmt_model.specs.Words.{Has, Each}
use Rattle.rmt_model.specs.Live.{placed, in_drop, made, Dropped}
use Rattle.rmt_model.specs.Lawful.{Lawful, MakesAt, entry_at}
use Rattle.rmt_model.specs.Fair.{CoveredBy, AreFair, AllMarked}
use Rattle.rmt_model.specs.EntryStates as entries
use Rattle.rmt_model.specs.CopiedParts.{Copied, IsCopied, names_of}
use Rattle.rmt_queue.specs.Marks.{done_at, grown}
use Rattle.rmt_events.specs.Views.{Block, Staged, Replica}

-- ---- what always holds

-- a part that was noted was made in the copy; an active part covers it, or it is dropped
abbrev pub IsKeptNote : Replica → Name → Type 0
IsKeptNote r a = Has (made r.log) a × (CoveredBy (names_of r.parts) a ⊎ Dropped r.log a)

-- the copy is lawful; the active parts were made in it, hold what it says of them, and are fair for what is done; what was
-- noted is covered or dropped
pub record IsStanding (schema : Shape) (r : Replica) : Type 0 where
  pub lawful : Lawful schema r.log
  pub marks : length r.done ≡ length r.log
  pub fair : AreFair r.log (done_at r.done) (names_of r.parts)
  pub parts : Each (λ part. MakesAt r.log part.place part.name × IsCopied schema r.log part) r.parts
  pub notes : Each (IsKeptNote r) r.noted

-- every entry of the copy is done
abbrev pub IsDrained : Replica → Type 0
IsDrained r = AllMarked r.log (done_at r.done)

-- ---- staged blocks

-- whether the block is staged under the number n of p
abbrev pub waits_at : Option ℕ → ℕ → Staged → Bool
waits_at p n z = nat_eq (rank z.block.partition) (rank p) && nat_eq z.number n

-- the staged blocks without those under a number
abbrev pub staged_without : List Staged → Option ℕ → ℕ → List Staged
staged_without zs p n = filter (λ z. not (waits_at p n z)) zs

-- whether a staged block comes before another: by partition, then by number
abbrev pub comes_before : Staged → Staged → Bool
comes_before y z = nat_lt (rank y.block.partition) (rank z.block.partition) || (nat_eq (rank y.block.partition) (rank z.block.partition) && nat_lt y.number z.number)

-- the staged blocks in order with one more
abbrev pub with_block : Staged → List Staged → List Staged
with_block z [] = z ∷ []
with_block z (y ∷ ys) = cond (comes_before y z) (y ∷ with_block z ys) (z ∷ y ∷ ys)

-- the staged blocks with one under a number, in place of what was there
abbrev pub staged_with : List Staged → ℕ → Block → List Staged
staged_with zs n b = with_block (record { number = n; block = b }) (staged_without zs b.partition n)

-- this block is staged under the number n of p
pub record IsStaged (r : Replica) (p : Option ℕ) (n : ℕ) (b : Block) : Type 0 where
  pub is_in : Has r.staged (record { number = n; block = b })
  pub partition : b.partition ≡ p

-- the staged blocks once an entry is done: none under the number of its Get
abbrev pub staged_after : Option Entry → List Staged → List Staged
staged_after (Some (Get p n digest source need)) zs = staged_without zs p n
staged_after entry zs = zs

-- ---- whether an entry is still to be done

-- nothing is left to do for the entry at the place
abbrev pub IsAlready : Replica → ℕ → Type 0
IsAlready r i = entries.IsAlready r.log (done_at r.done) (names_of r.parts) i

-- the entry at the place is still to be done
abbrev pub Waits : Replica → ℕ → Type 0
Waits r i = entries.Waits r.log (done_at r.done) (names_of r.parts) i

-- ---- apply

-- the entry is marked, and its block is no longer staged
abbrev pub with_entry_done : Replica → ℕ → Replica
with_entry_done r i = record r { done = slice_set r.done i true; staged = staged_after (entry_at r.log i) r.staged }

-- the part is in place of those that it covers
pub record Installs (old : List Copied) (part : Copied) (new : List Copied) : Type 0 where
  pub names : names_of new ≡ placed part.name (names_of old)
  pub others : (x : Copied) → Has new x → (x ≡ part) ⊎ Has old x
  pub there : Has new part

-- the parts without those of a drop's range
abbrev pub without_range : Option ℕ → ℕ → List Copied → List Copied
without_range p n parts = filter (λ part. not (in_drop p n part.name)) parts

-- a part covers what the waiting entry makes
pub record Fits (r : Replica) (i : ℕ) (part : Copied) : Type 0 where
  pub waits : Waits r i
  pub name : Name
  pub makes : MakesAt r.log i name
  pub covers : Covers part.name name

-- the entry is done, and nothing was to do
pub record Settles (r : Replica) (i : ℕ) (s : Replica) : Type 0 where
  pub cause : IsAlready r i ⊎ entries.IsDroppedEntry r.log i
  pub change : s ≡ with_entry_done r i

-- a drop is done
pub record DoesDrop (r : Replica) (i : ℕ) (s : Replica) : Type 0 where
  pub partition : Option ℕ
  pub number : ℕ
  pub stands : entry_at r.log i ≡ Some (DropRange partition number)
  pub change : s ≡ record (with_entry_done r i) { parts = without_range partition number r.parts }

-- the entry is done by a part
pub record DoesPart (r : Replica) (i : ℕ) (part : Copied) (s : Replica) : Type 0 where
  pub fits : Fits r i part
  pub installs : Installs r.parts part s.parts
  pub change : s ≡ record (with_entry_done r i) { parts = s.parts }

-- ---- the other calls

-- the copy is the log, and what is new isn't done
abbrev pub Pulls : Replica → List Entry → Replica → Type 0
Pulls r log s = s ≡ record r { log = log; done = grown r.done (length log) }

-- a block is staged under a number
abbrev pub Stages : Replica → ℕ → Block → Replica → Type 0
Stages r n b s = s ≡ record r { staged = staged_with r.staged n b }

-- nothing is staged under a number any more
abbrev pub Unstages : Replica → Option ℕ → ℕ → Replica → Type 0
Unstages r p n s = s ≡ record r { staged = staged_without r.staged p n }

-- the noted parts with one more, where it isn't among them
pub record ListsNote (old : List Name) (a : Name) (new : List Name) : Type 0 where
  pub there : Has new a
  pub kept : (b : Name) → Has old b → Has new b
  pub only : (b : Name) → Has new b → (b ≡ a) ⊎ Has old b

-- an active part covers the part, which is noted
pub record NotesPart (r : Replica) (a : Name) (s : Replica) : Type 0 where
  pub covered : CoveredBy (names_of r.parts) a
  pub lists : ListsNote r.noted a s.noted
  pub change : s ≡ record r { noted = s.noted }

-- the replica is down
abbrev pub GoesDown : Replica → Replica → Type 0
GoesDown r s = s ≡ record r { up = false }

-- the replica is up, and looks at each copied entry again
abbrev pub ComesUp : Replica → Replica → Type 0
ComesUp r s = s ≡ record r { up = true; done = replicate (length r.log) false }
