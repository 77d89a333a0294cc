use Rattle.std.proofs.Common.{◌≡◌, [], ◌∷◌, ◌++◌, false, List, map, arith, sym, subst}
use Rattle.std.proofs.lemmas.Grind.{common_steps}
use Rattle.std.specs.declared.option.Option.TheVariants.{Some, None}
use Rattle.rmt_events.specs.Clusters.{without_kinds}
use Rattle.rmt_reply.specs.declared.piece.Piece.{Piece}
use Rattle.rmt_statement_model.specs.TableStates.{TableState}
use Rattle.rmt_statement_model.specs.Inserts.{InsertsAll, asked_at}
use Rattle.rmt_statement_model.specs.Shows.{Shows, Leads, ups}
use Rattle.rmt_acts.specs.StatementEvents.{InsertEvents}
use Rattle.rmt_acts.specs.Inserting.{BlockEvents, ComesTo}
use Rattle.rmt_acts.specs.declared.outcome.Outcome.{Outcome}
use Rattle.rmt_acts.proofs.EventLists.{after-last, after-refused, at-err, reaches-piece, reaches-then, stops-between, stops-later}
use Rattle.rmt_acts.proofs.InsertActs.{SoFar, so-far-more, so-far-stop, so-far-end}
use Rattle.rmt_acts.proofs.insert.insert_blocks.Goals as goal

pub inserts-preserved : goal.inserts-preserved
inserts-preserved c =
    let step : c.inserts.block-iterator.rest.items ≡ c.in-Some.block ∷ c.next.new.self.rest.items = grind (arith, common_steps) in
    let came = λ (t : TableState) (h : Shows c.inserts.cluster t). subst (λ (x : Outcome). Leads c.insert_block.new.cluster (ComesTo (ups c.inserts.cluster) t (asked_at c.args.replica c.args.need) (without_kinds c.in-Some.block) x)) c.in-Inserted.is (c.in_ok-piece.ensures.inserts t h) in
    subst (SoFar c.args.cluster.now c.insert_block.new.cluster (asked_at c.args.replica c.args.need) c.args.blocks.items (c.inserts.yielded ++ c.in-Some.block ∷ []) c.next.new.self.rest.items) (sym c.in_ok-push-in-Inserted.ensures.items)
    (so-far-more c.args.cluster.now c.inserts.cluster c.insert_block.new.cluster (asked_at c.args.replica c.args.need) c.args.blocks.items c.inserts.yielded c.inserts.block-iterator.rest.items c.next.new.self.rest.items
    c.in-Some.block c.inserts.pieces.items c.in-Inserted.piece c.inserts.invariant step came (subst (λ (x : Outcome). BlockEvents c.inserts.cluster (asked_at c.args.replica c.args.need) x c.insert_block.new.cluster) c.in-Inserted.is c.in_ok-piece.ensures.events) c.in_ok-piece.ensures.idle c.in_ok-piece.ensures.keeps.ups c.insert_block.ensures.keeps.table.schema c.insert_block.ensures.keeps.table.replicas)

pub returns-in-Refused-clause-inserts : goal.returns-in-Refused-clause-inserts
returns-in-Refused-clause-inserts c t h =
    let step : c.inserts.block-iterator.rest.items ≡ c.in-Some.block ∷ c.next.new.self.rest.items = grind (arith, common_steps) in
    let came = λ (v : TableState) (k : Shows c.inserts.cluster v). subst (λ (x : Outcome). Leads c.insert_block.new.cluster (ComesTo (ups c.inserts.cluster) v (asked_at c.args.replica c.args.need) (without_kinds c.in-Some.block) x)) c.in-Refused.is (c.in_ok-piece.ensures.inserts v k) in
    subst (λ (ps : List Piece). Leads c.insert_block.new.cluster (InsertsAll false (ups c.args.cluster.now) t (asked_at c.args.replica c.args.need) (map without_kinds c.args.blocks.items) ps (Some c.in-Refused.refusal))) (sym c.new-pieces-in-Refused.ensures)
    (so-far-stop c.args.cluster.now c.inserts.cluster c.insert_block.new.cluster (asked_at c.args.replica c.args.need) c.args.blocks.items c.inserts.yielded c.inserts.block-iterator.rest.items c.next.new.self.rest.items
    c.in-Some.block c.inserts.pieces.items c.in-Refused.refusal c.inserts.invariant step came t h)

pub returns-in-Refused-clause-events : goal.returns-in-Refused-clause-events
returns-in-Refused-clause-events c =
    subst (λ (ps : List Piece). InsertEvents c.args.cluster.now (asked_at c.args.replica c.args.need) ps (Some c.in-Refused.refusal) c.insert_block.new.cluster) (sym c.new-pieces-in-Refused.ensures)
    (after-refused c.args.cluster.now c.inserts.cluster c.insert_block.new.cluster (asked_at c.args.replica c.args.need) c.inserts.pieces.items c.in-Refused.refusal c.inserts.invariant.events
    (subst (λ (x : Outcome). BlockEvents c.inserts.cluster (asked_at c.args.replica c.args.need) x c.insert_block.new.cluster) c.in-Refused.is c.in_ok-piece.ensures.events))

pub returns-clause-events : goal.returns-clause-events
returns-clause-events c =
    subst (λ (ps : List Piece). InsertEvents c.args.cluster.now (asked_at c.args.replica c.args.need) ps None c.inserts.cluster) (sym c.new-pieces-2.ensures)
    (after-last c.args.cluster.now c.inserts.cluster (asked_at c.args.replica c.args.need) c.inserts.pieces.items c.inserts.invariant.events)

pub returns-in_err-piece-clause-err : goal.returns-in_err-piece-clause-err
returns-in_err-piece-clause-err c =
    at-err c.from_residual.result _ (stops-later c.args.cluster.now c.inserts.cluster c.insert_block.new.cluster c.inserts.invariant.reaches c.in_err-piece.ensures.err)

pub returns-in_err-push-in-Inserted-clause-err : goal.returns-in_err-push-in-Inserted-clause-err
returns-in_err-push-in-Inserted-clause-err c =
    at-err c.from_residual-in_err-push-in-Inserted.result _
    (stops-between c.args.cluster.now c.insert_block.new.cluster (reaches-then c.args.cluster.now c.inserts.cluster c.insert_block.new.cluster c.inserts.invariant.reaches
    (reaches-piece c.inserts.cluster c.insert_block.new.cluster (asked_at c.args.replica c.args.need) c.in-Inserted.piece
    (subst (λ (x : Outcome). BlockEvents c.inserts.cluster (asked_at c.args.replica c.args.need) x c.insert_block.new.cluster) c.in-Inserted.is c.in_ok-piece.ensures.events))))

pub returns-clause-inserts : goal.returns-clause-inserts
returns-clause-inserts c t h =
    let none : c.inserts.block-iterator.rest.items ≡ [] = grind (arith, common_steps) in
    subst (λ (ps : List Piece). Leads c.inserts.cluster (InsertsAll false (ups c.args.cluster.now) t (asked_at c.args.replica c.args.need) (map without_kinds c.args.blocks.items) ps None)) (sym c.new-pieces-2.ensures)
    (so-far-end c.args.cluster.now c.inserts.cluster (asked_at c.args.replica c.args.need) c.args.blocks.items c.inserts.yielded c.inserts.block-iterator.rest.items c.inserts.pieces.items c.inserts.invariant none t h)
