-- ALTER .. UPDATE and ALTER .. DELETE.
-- ClickHouse documentation, ALTER, "Mutations": a mutation changes the parts that were inserted before it. That it takes a
-- block number in each partition is as in system.mutations (`block_numbers`).
use Rattle.std.specs.Prelude.{◌≡◌, ℕ, ◌∷◌}
use Rattle.std.specs.declared.option.Option.TheVariants.{Some, None}
use Rattle.rmt_values.specs.declared.checked_mutation.CheckedMutation.{CheckedMutation}
use Rattle.rmt_values.specs.declared.limit.Limit.{Limit}
use Rattle.rmt_entries.specs.declared.entry.Entry.TheVariants.{Mutation}
use Rattle.rmt_model.specs.Lawful.{mutation_count}
use Rattle.rmt_model.specs.BlockNumbers.{next_numbers_after}
use Rattle.rmt_model.specs.EntryLimits.{mutation_limit}
use Rattle.rmt_reply.specs.declared.refusal.Refusal.{Refusal}
use Rattle.rmt_reply.specs.declared.refusal.Refusal.TheVariants.{LimitReached}
use Rattle.rmt_statement_model.specs.TableStates.{TableState}

-- the table with a mutation that has the next id and the next number of each partition that exists
abbrev pub with_mutation : TableState → CheckedMutation → TableState
with_mutation t command = record t { log = Mutation (mutation_count t.log) t.next command ∷ t.log; next = next_numbers_after t.next }

-- the mutation is made, and this is its id
pub record Mutates (t : TableState) (command : CheckedMutation) (id : ℕ) (u : TableState) : Type 0 where
  pub room : mutation_limit t.next t.log ≡ None
  pub numbered : id ≡ mutation_count t.log
  pub change : u ≡ with_mutation t command

-- one more mutation would pass a limit; nothing changes
pub record LacksMutation (t : TableState) (refusal : Refusal) (u : TableState) : Type 0 where
  pub limit : Limit
  pub value : ℕ
  pub reached : mutation_limit t.next t.log ≡ Some (limit, value)
  pub reply : refusal ≡ LimitReached limit value
  pub unchanged : u ≡ t
