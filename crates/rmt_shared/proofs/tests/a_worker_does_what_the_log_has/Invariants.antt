use Rattle.std.specs.Prelude.{⊤, [], ◌∷◌, length}
use Rattle.rmt_shared.specs.SharedTables.{named}
use Rattle.rmt_shared.proofs.tests.a_worker_does_what_the_log_has.Given as goal

abbrev pub ghosts-work : goal.ghosts-work
ghosts-work g a = record { tables = named a.table ∷ []; replicas = length a.table.sessions; offered = λ k b. ⊤; entries_name = a.entries.name; parts = a.entries.parts }
