use Rattle.rmt_statement_model.specs.Inserts.{asked_at}
use Rattle.rmt_shared.specs.SharedTables.{name_at}
use Rattle.rmt_threaded.proofs.InsertLemmas.{SoFar}
use Rattle.rmt_threaded.proofs.access.Access.insert_all.Given as goal

-- the blocks so far went in
abbrev pub invariant-inserts : goal.invariant-inserts
invariant-inserts g l = SoFar g.N.Naming.offered (name_at g.N.Naming.tables l.table) l.table (asked_at l.replica l.need) l.fn.pass l.pass l.fn.blocks.items l.yielded l.block-iterator.rest.items l.pieces.items
