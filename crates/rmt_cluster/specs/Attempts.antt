-- The attempts of inserts that are open.
-- No public source: that an attempt goes on under another number is this program's own.
use Rattle.std.specs.Prelude.{◌≡◌, ℕ, ◌<◌, List, MatchOption, slice_get}
use Rattle.std.specs.declared.option.Option.{Option}
use Rattle.std.specs.declared.option.Option.TheVariants.{Some}
use Rattle.rmt_model.specs.Words.{Has, Each, Pairwise}
use Rattle.rmt_table.specs.declared.lock.Lock.{Lock}
use Rattle.rmt_events.specs.Views.{Block}
use Rattle.rmt_events.specs.Clusters.{Attempt}

-- the lock is on a number of the block's partition, for its id
pub record HoldsBlock (lock : Lock) (b : Block) : Type 0 where
  pub partition : lock.id.partition ≡ b.partition
  pub digest : lock.id.digest ≡ b.digest

-- how many attempts were made, the open ones, the latest first, and how many more there is room for
pub record OpenAttempts : Type 0 where
  pub made : ℕ
  pub open_ones : List Attempt
  pub room : ℕ

-- the attempts were made in this order, and all of them were made
pub record AreInOrder (made : ℕ) (attempts : List Attempt) : Type 0 where
  pub later : Pairwise (λ a b. a.id < b.id) attempts
  pub made_all : Each (λ a. a.id < made) attempts

-- the open attempt of an id; none where no open one has it
abbrev pub IsFoundBy : List Attempt → ℕ → Option Attempt → Type 0
IsFoundBy attempts id found = MatchOption found ((a : Attempt) → Has attempts a → a.id ≡ id → ⊥) (λ a. Has attempts a × (a.id ≡ id))

-- ---- what only private functions cite

-- an attempt of the id stands at the place
pub record StandsAt (attempts : List Attempt) (id at : ℕ) : Type 0 where
  pub attempt : Attempt
  pub stands : slice_get attempts at ≡ Some attempt
  pub same_id : attempt.id ≡ id

-- the place of the attempt of an id; none where none has it
abbrev pub IsPlaceOf : List Attempt → ℕ → Option ℕ → Type 0
IsPlaceOf attempts id place = MatchOption place ((a : Attempt) → Has attempts a → a.id ≡ id → ⊥) (StandsAt attempts id)
