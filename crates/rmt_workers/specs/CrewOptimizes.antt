-- A client's OPTIMIZE of one partition among workers.
-- ClickHouse documentation, OPTIMIZE: FINAL merges all parts of a partition into one. That the replica is brought up to date then is
-- this program's own.
use Rattle.std.specs.Prelude.{◌≡◌, ℕ, true}
use Rattle.std.specs.declared.option.Option.{Option}
use Rattle.rmt_names.specs.Names.{Name}
use Rattle.rmt_live_names.specs.declared.optimized.Optimized.{Optimized}
use Rattle.rmt_live_names.specs.declared.optimized.Optimized.TheVariants as optimized
use Rattle.rmt_statement_model.specs.TableStates.{TableState, synced}
use Rattle.rmt_statement_model.specs.Optimizes.{CantLater, OptimizesLater}

-- ---- what only private functions cite

-- a partition has one part, and the replica is brought up to date then
pub record OptimizesThen (t : TableState) (r : ℕ) (p : Option ℕ) (name : Name) (u : TableState) : Type 0 where
  pub mid : TableState
  pub optimizes : OptimizesLater true t p name mid
  pub syncs : u ≡ synced r mid

-- what becomes of a partition: one part, or why its parts aren't merged
abbrev pub OptimizesOne : ℕ → Option ℕ → Optimized → TableState → TableState → Type 0
OptimizesOne r p (optimized.Name name) t u = OptimizesThen t r p name u
OptimizesOne r p (optimized.Refused why) t u = CantLater true t p why u
