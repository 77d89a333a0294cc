use Rattle.std.specs.Prelude.{⊤, length, map}
use Rattle.rmt_shared.specs.SharedTables.{named}
use Rattle.rmt_workers.proofs.tests.blocks_reach_another_replica_and_are_merged.Given as goal

abbrev pub ghosts-day : goal.ghosts-day
ghosts-day g a = record { tables = map (λ s. named s.tree) a.carried.states.items; replicas = length a.carried.up.items; offered = λ k b. ⊤; entries_name = a.entries.name; parts = a.entries.parts }
