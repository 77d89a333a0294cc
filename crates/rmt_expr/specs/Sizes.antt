-- Sizes of commands as statements write them.
-- No public source: that the filters of a log are bounded in depth is this program's own.
use Rattle.std.specs.Prelude.{ℕ, ◌+◌, ◌≤◌, max, length}
use Rattle.rmt_values.specs.declared.filter.Filter.{Filter}
use Rattle.rmt_values.specs.declared.filter.Filter.TheOpen.{Filter-F, Test, Both, Either, Not}
use Rattle.rmt_values.specs.declared.filter.Filter.TheFolds.{fold-Filter}
use Rattle.rmt_values.specs.declared.mutation.Mutation.{Mutation}
use Rattle.rmt_values.specs.declared.mutation.Mutation.TheVariants as commands

-- how deep one level nests, from the depths of the filters in it
abbrev pub level_nesting : Filter-F ℕ → ℕ
level_nesting (Test name cmp literal) = 1
level_nesting (Both f g) = max f g + 1
level_nesting (Either f g) = max f g + 1
level_nesting (Not f) = f + 1

-- how deep a filter nests: a single comparison has depth 1
abbrev pub nesting : Filter → ℕ
nesting filter = fold-Filter ℕ level_nesting filter

-- the command is small: its filter nests at most this deep, and an UPDATE sets at least one column
abbrev pub IsSmallCommand : ℕ → Mutation → Type 0
IsSmallCommand depth (commands.Update sets filter) = (1 ≤ length sets) × (nesting filter ≤ depth)
IsSmallCommand depth (commands.Delete filter) = nesting filter ≤ depth
