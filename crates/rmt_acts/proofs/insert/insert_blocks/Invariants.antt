use Rattle.rmt_statement_model.specs.Inserts.{asked_at}
use Rattle.rmt_acts.proofs.InsertActs.{SoFar}
use Rattle.rmt_acts.proofs.insert.insert_blocks.Given as goal

abbrev pub invariant-inserts : goal.invariant-inserts
invariant-inserts l = SoFar l.fn.cluster l.cluster (asked_at l.replica l.need) l.fn.blocks.items l.yielded l.block-iterator.rest.items l.pieces.items
