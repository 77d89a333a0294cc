use Rattle.std.proofs.Common.{◌≡◌, ◌<◌, ℕ, suc, true, false, get_or}
use Rattle.rmt_known.specs.KnownTables.{client_of}
use Rattle.rmt_known.proofs.known_table.KnownTable.is_known_at_one.Given as goal

abbrev pub invariant-replicas : goal.invariant-replicas
invariant-replicas l = (n : ℕ) → n < l.k → get_or l.replicas n false ≡ true → (client_of l.self).known (suc n) l.i ≡ false
