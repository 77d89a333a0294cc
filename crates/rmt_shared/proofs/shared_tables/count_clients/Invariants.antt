use Rattle.std.proofs.Common.{◌≡◌, ◌*◌, ◌≤◌, take}
use Rattle.rmt_statement_model.specs.Books.{all_clients}
use Rattle.rmt_shared.specs.SharedTables.{logs_of}
use Rattle.rmt_shared.proofs.shared_tables.count_clients.Given as goal

abbrev pub invariant-tables : goal.invariant-tables
invariant-tables l = (l.count ≡ all_clients (take l.i (logs_of l.tables))) × (l.count ≤ l.i * 4294967296)
