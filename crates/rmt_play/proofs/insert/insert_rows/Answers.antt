use Rattle.std.proofs.Common.{subst}
use Rattle.rmt_values.specs.Rows.{Shape}
use Rattle.rmt_block.specs.Splits.{IsSplit}
use Rattle.rmt_statement_model.specs.Inserts.{asked_at}
use Rattle.rmt_play.proofs.ActLemmas.{split-fits, inserts-split}
use Rattle.rmt_play.proofs.insert.insert_rows.Goals as goal

pub insert_blocks-requires-clause-fit : goal.insert_blocks-requires-clause-fit
insert_blocks-requires-clause-fit g c =
    let s = g.E.Acting.seen c.args.engine.now in
    split-fits s.shape c.args.rows.rows c.in_ok-blocks.blocks.items (subst (λ (x : Shape). IsSplit x c.args.rows.rows c.in_ok-blocks.blocks.items) c.schema.ensures c.in_ok-blocks.ensures.split) c.requires.fit

pub insert_blocks-requires-clause-offered : goal.insert_blocks-requires-clause-offered
insert_blocks-requires-clause-offered g c =
    c.requires.offered c.in_ok-blocks.blocks.items (subst (λ (x : Shape). IsSplit x c.args.rows.rows c.in_ok-blocks.blocks.items) c.schema.ensures c.in_ok-blocks.ensures.split)

pub returns-clause-inserts : goal.returns-clause-inserts
returns-clause-inserts g c =
    let s = g.E.Acting.seen c.args.engine.now in
    inserts-split s (g.E.Acting.seen c.insert_blocks.new.self) (asked_at c.args.replica c.args.need) c.args.rows.rows c.in_ok-blocks.blocks.items c.in_ok-insertion.insertion.pieces c.in_ok-insertion.insertion.refused
    (subst (λ (x : Shape). IsSplit x c.args.rows.rows c.in_ok-blocks.blocks.items) c.schema.ensures c.in_ok-blocks.ensures.split) c.in_ok-insertion.ensures.inserts
