use Rattle.std.proofs.Common.{◌≡◌, ◌∷◌, arith}
use Rattle.std.proofs.lemmas.Grind.{common_steps}
use Rattle.std.specs.Arc.{arc_value}
use Rattle.rmt_statement_model.specs.Inserts.{asked_at}
use Rattle.rmt_shared.specs.SharedTables.{name_at}
use Rattle.rmt_workers.proofs.StepLemmas.{keeps-both}
use Rattle.rmt_threaded.proofs.InsertLemmas.{so-far-more, so-far-stop}
use Rattle.rmt_threaded.proofs.access.Access.insert_all.Goals as goal

pub returns-in_err-piece-clause-keeps : goal.returns-in_err-piece-clause-keeps
returns-in_err-piece-clause-keeps g c = keeps-both c.args.pass.now c.inserts.pass c.insert.new.pass c.args.table c.inserts.invariant.keeps c.in_err-piece.ensures.err

pub inserts-preserved : goal.inserts-preserved
inserts-preserved g c =
    let step : c.inserts.block-iterator.rest.items ≡ c.in-Some.block ∷ c.next.new.self.rest.items = grind (arith, common_steps) in
    so-far-more g.N.Naming.offered (name_at g.N.Naming.tables c.args.table) c.args.table (asked_at c.args.replica c.args.need) c.args.pass.now c.inserts.pass c.insert.new.pass c.args.blocks.items c.inserts.yielded c.inserts.block-iterator.rest.items c.next.new.self.rest.items
    (arc_value c.in_ok-shared.shared) c.in-Some.block c.inserts.pieces.items c.push.new.self.items c.in-Ok.piece c.in_ok-piece.field-0 c.inserts.invariant step c.in_ok-shared.ensures.ok c.in-Ok.is c.in_ok-push-in-Ok.ensures.items c.in_ok-piece.ensures.done

pub returns-in_err-push-in-Ok-clause-keeps : goal.returns-in_err-push-in-Ok-clause-keeps
returns-in_err-push-in-Ok-clause-keeps g c = keeps-both c.args.pass.now c.inserts.pass c.insert.new.pass c.args.table c.inserts.invariant.keeps c.in_ok-piece.ensures.done.keeps

pub returns-in-Err-clause-inserts : goal.returns-in-Err-clause-inserts
returns-in-Err-clause-inserts g c =
    let step : c.inserts.block-iterator.rest.items ≡ c.in-Some.block ∷ c.next.new.self.rest.items = grind (arith, common_steps) in
    so-far-stop g.N.Naming.offered (name_at g.N.Naming.tables c.args.table) c.args.table (asked_at c.args.replica c.args.need) c.args.pass.now c.inserts.pass c.insert.new.pass c.args.blocks.items c.inserts.yielded c.inserts.block-iterator.rest.items c.next.new.self.rest.items
    (arc_value c.in_ok-shared.shared) c.in-Some.block c.inserts.pieces.items c.new-pieces-in-Err.result c.in-Err.refusal c.in_ok-piece.field-0 c.inserts.invariant step c.in_ok-shared.ensures.ok c.in-Err.is c.new-pieces-in-Err.ensures c.in_ok-piece.ensures.done

pub returns-in-Err-clause-keeps : goal.returns-in-Err-clause-keeps
returns-in-Err-clause-keeps g c = keeps-both c.args.pass.now c.inserts.pass c.insert.new.pass c.args.table c.inserts.invariant.keeps c.in_ok-piece.ensures.done.keeps
