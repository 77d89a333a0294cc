-- Runs of live names as their places. No public clause cites this module.
use Rattle.std.specs.Prelude.{◌≡◌, ℕ, ◌+◌, ◌≤◌, ◌&&◌, cond, min, nat_eq, List, [], ◌∷◌, length, take, drop}
use Rattle.std.specs.declared.option.Option.{Option}
use Rattle.std.specs.declared.option.Option.TheVariants.{Some, None}
use Rattle.rmt_names.specs.Names.{Name, rank}
use Rattle.rmt_model.specs.Choices.{greatest_level}
use Rattle.rmt_pick.specs.declared.run.Run.{Run}

-- how many names the run has that begins at the first of the names, which is of the version `own`, where that which
-- begins at the second one has `count` names and that one the version `version`
abbrev pub count_before : List Name → ℕ → ℕ → ℕ → ℕ → ℕ
count_before [] own version count most = 0
count_before (a ∷ []) own version count most = 1
count_before (a ∷ b ∷ names) own version count most =
    cond (nat_eq (rank a.partition) (rank b.partition) && nat_eq own version) (min (count + 1) most) 1

-- the names of a run
abbrev pub names_in : List Name → Run → List Name
names_in names run = take run.count (drop run.first names)

-- the run is some of the names, and its level is theirs
pub record IsRun (names : List Name) (run : Run) : Type 0 where
  pub within : run.first + run.count ≤ length names
  pub count : run.count ≡ length (names_in names run)
  pub top : run.top ≡ greatest_level (names_in names run)

-- the run, or none, is of these names, or none
abbrev pub StandsFor : List Name → Option Run → Option (List Name) → Type 0
StandsFor names None best = best ≡ None
StandsFor names (Some run) best = (best ≡ Some (names_in names run)) × IsRun names run
