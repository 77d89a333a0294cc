use Rattle.std.proofs.Common.{◌≡◌, length, take}
use Rattle.rmt_statement_model.specs.Books.{ArePrefixesOf}
use Rattle.rmt_shared.specs.SharedTables.{logs_of}
use Rattle.rmt_pass.specs.Passes.{logs_in}
use Rattle.rmt_pass.proofs.pass.are_prefixes.Given as goal

abbrev pub invariant-tables : goal.invariant-tables
invariant-tables g l = (length l.known ≡ length l.tables) × ArePrefixesOf (take l.i (logs_in l.known)) (take l.i (logs_of l.tables))
