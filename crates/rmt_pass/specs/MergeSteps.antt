-- A client's OPTIMIZE of one partition: its live parts are merged into one, or aren't.
-- ClickHouse documentation, OPTIMIZE: FINAL merges all parts of a partition into one. That it waits for an insert under way is this
-- program's own.
use Rattle.std.specs.Prelude.{◌≡◌, ℕ, ◌≤◌, List, [], ◌∷◌, length, Result, Ok, Err}
use Rattle.std.specs.declared.option.Option.{Option}
use Rattle.std.specs.declared.option.Option.TheVariants.{Some, None}
use Rattle.std.specs.declared.alloc.AllocError.{AllocError}
use Rattle.rmt_names.specs.Names.{Name}
use Rattle.rmt_entries.specs.declared.entry.Entry.{Entry}
use Rattle.rmt_entries.specs.Entries.{result_name}
use Rattle.rmt_events.specs.TableRefusals.{IsInFlight}
use Rattle.rmt_table_model.specs.Held.{Held}
use Rattle.rmt_table.specs.TableTrees.{table_at}
use Rattle.rmt_table.specs.declared.merge_error.MergeError.{MergeError}
use Rattle.rmt_table.specs.declared.merge_error.MergeError.TheVariants as merge
use Rattle.rmt_reply.specs.declared.refusal.Refusal.TheVariants.{LimitReached, Unmergeable}
use Rattle.rmt_statement_model.specs.TableStates.{TableState}
use Rattle.rmt_statement_model.specs.Optimizes.{live_of, Optimizes, CantOptimize}
use Rattle.rmt_live_names.specs.declared.optimized.Optimized.{Optimized}
use Rattle.rmt_live_names.specs.declared.optimized.Optimized.TheVariants as optimized
use Rattle.rmt_shared.specs.SharedTables.{AppendsMerge}
use Rattle.rmt_shared.specs.ClientCalls.{HasTable}

-- what becomes of the live parts of a partition: one name, or why they aren't merged
abbrev pub OptimizesTo : Option ℕ → Optimized → TableState → TableState → Type 0
OptimizesTo p (optimized.Name name) t u = Optimizes t p name u
OptimizesTo p (optimized.Refused why) t u = (u ≡ t) × CantOptimize t p why

-- an insert under way holds a number among the live parts of a partition of the table at a place
abbrev pub IsHeldUp : List Held → ℕ → Option ℕ → Type 0
IsHeldUp tables k p = HasTable tables k (λ t. (n : ℕ) × IsInFlight (table_at t) (live_of t.log p) n)

-- ---- what only private functions cite

-- the partition has one live name in a log, or a merge of all of them enters the log of the table at a place
abbrev pub MergesAll : List Held → ℕ → List Entry → Option ℕ → Option Name → List Held → Type 0
MergesAll old k log p (Some name) new = (live_of log p ≡ name ∷ []) × (new ≡ old)
MergesAll old k log p None new = (2 ≤ length (live_of log p)) × AppendsMerge old k (live_of log p) new

-- the name that the newest entry of a log makes
abbrev pub newest_name : List Entry → Option Name
newest_name [] = None
newest_name (e ∷ log) = result_name e

-- what becomes of names that weren't merged
abbrev pub IsLeftApart : MergeError → Result (Option Optimized) AllocError → Type 0
IsLeftApart (merge.LogMoved seen found) r = ⊥
IsLeftApart (merge.Differ left right) r = r ≡ Ok (Some (optimized.Refused (Unmergeable left right)))
IsLeftApart (merge.InQuorum left right part) r = r ≡ Ok (Some (optimized.Refused (Unmergeable left right)))
IsLeftApart (merge.InFlight number) r = r ≡ Ok None
IsLeftApart (merge.LimitReached limit value) r = r ≡ Ok (Some (optimized.Refused (LimitReached limit value)))
IsLeftApart merge.Memory r = r ≡ Err record {}
