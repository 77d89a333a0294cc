use Rattle.std.proofs.Common.{ℕ, Bool, List, sym, ap, subst}
use Rattle.std.specs.Arc.{arc_value}
use Rattle.std.specs.declared.option.Option.{Option}
use Rattle.std.specs.declared.result.Result.TheVariants.{Ok}
use Rattle.rmt_names.specs.Names.{Name}
use Rattle.rmt_reply.specs.declared.piece.Piece.TheVariants as pieces
use Rattle.rmt_events.specs.Clusters.{without_kinds}
use Rattle.rmt_statement_model.specs.Inserts.{asked_at}
use Rattle.rmt_pass.specs.Passes.{client_at, up_in}
use Rattle.rmt_block.specs.Blocks.{BlockView}
use Rattle.rmt_clients.specs.Clients.{Client}
use Rattle.rmt_pass.specs.InsertSteps.{HoldsNumber}
use Rattle.rmt_pass.specs.declared.committed.Committed.{Committed}
use Rattle.rmt_workers.specs.CrewInserts.{CommitsLater, InsertsFrom, IsGathered}
use Rattle.rmt_workers.proofs.StepLemmas.{keeps-both, keeps-up}
use Rattle.rmt_workers.proofs.InsertLemmas.{gathered-keeps, goes-in-met, goes-in-unmet, no-room-from}
use Rattle.rmt_workers.proofs.crew.Crew.insert_numbered.Goals as goal

pub returns-in_err-unmet-in-Entry-clause-keeps : goal.returns-in_err-unmet-in-Entry-clause-keeps
returns-in_err-unmet-in-Entry-clause-keeps g c =
    keeps-both c.args.pass.now c.commit.new.pass c.gather.new.pass c.args.table c.commit.ensures.keeps c.in_err-unmet-in-Entry.ensures.err

pub returns-in-None-clause-done : goal.returns-in-None-clause-done
returns-in-None-clause-done g c = λ before h.
    let done-so : (at : Client) → HoldsNumber (up_in c.args.pass.now.up) (asked_at c.args.lock.now.replica c.args.need) (without_kinds (arc_value c.args.block)) c.args.lock.now at (client_at c.args.pass.now c.args.table) → CommitsLater (g.N.Naming.offered c.args.table) (up_in c.args.pass.now.up) (asked_at c.args.lock.now.replica c.args.need) (without_kinds (arc_value c.args.block)) at c.in_ok-place.field-0 (client_at c.commit.new.pass c.args.table) =
    subst (λ (x : BlockView). (at : Client) → HoldsNumber (up_in c.args.pass.now.up) (asked_at c.args.lock.now.replica c.args.need) (without_kinds x) c.args.lock.now at (client_at c.args.pass.now c.args.table) → CommitsLater (g.N.Naming.offered c.args.table) (up_in c.args.pass.now.up) (asked_at c.args.lock.now.replica c.args.need) (without_kinds x) at c.in_ok-place.field-0 (client_at c.commit.new.pass c.args.table)) c.deref.ensures c.in_ok-place.ensures.done in
    subst (λ (a : Name). InsertsFrom (g.N.Naming.offered c.args.table) (up_in c.args.pass.now.up) (asked_at c.args.lock.now.replica c.args.need) (without_kinds (arc_value c.args.block)) before (Ok (pieces.Part a)) (client_at c.gather.new.pass c.args.table)) (sym c.block_name.ensures)
    (goes-in-met g.N.Naming.offered (up_in c.args.pass.now.up) c.args.lock.now.replica c.args.need (without_kinds (arc_value c.args.block)) c.args.lock.now before (client_at c.args.pass.now c.args.table) c.commit.new.pass c.gather.new.pass c.args.table c.in-Entry.place h
    (sym (ap (λ (ups : List Bool). up_in ups) (keeps-up c.args.pass.now c.args.table c.commit.new.pass c.commit.ensures.keeps)))
    (subst (λ (x : Committed). CommitsLater (g.N.Naming.offered c.args.table) (up_in c.args.pass.now.up) (asked_at c.args.lock.now.replica c.args.need) (without_kinds (arc_value c.args.block)) before x (client_at c.commit.new.pass c.args.table)) c.in-Entry.is (done-so before h))
    (subst (λ (x : Option ℕ). IsGathered g.N.Naming.offered c.commit.new.pass c.args.table c.args.lock.now.replica c.in-Entry.place c.args.need x c.gather.new.pass) c.in-None.is c.in_ok-unmet-in-Entry.ensures.ok))

pub returns-in-None-clause-keeps : goal.returns-in-None-clause-keeps
returns-in-None-clause-keeps g c =
    keeps-both c.args.pass.now c.commit.new.pass c.gather.new.pass c.args.table c.commit.ensures.keeps
    (gathered-keeps g.N.Naming.offered c.commit.new.pass c.gather.new.pass c.args.table c.args.lock.now.replica c.in-Entry.place c.args.need c.in_ok-unmet-in-Entry.unmet c.in_ok-unmet-in-Entry.ensures.ok)

pub returns-in-Entry-clause-done : goal.returns-in-Entry-clause-done
returns-in-Entry-clause-done g c = λ before h.
    let done-so : (at : Client) → HoldsNumber (up_in c.args.pass.now.up) (asked_at c.args.lock.now.replica c.args.need) (without_kinds (arc_value c.args.block)) c.args.lock.now at (client_at c.args.pass.now c.args.table) → CommitsLater (g.N.Naming.offered c.args.table) (up_in c.args.pass.now.up) (asked_at c.args.lock.now.replica c.args.need) (without_kinds (arc_value c.args.block)) at c.in_ok-place.field-0 (client_at c.commit.new.pass c.args.table) =
    subst (λ (x : BlockView). (at : Client) → HoldsNumber (up_in c.args.pass.now.up) (asked_at c.args.lock.now.replica c.args.need) (without_kinds x) c.args.lock.now at (client_at c.args.pass.now c.args.table) → CommitsLater (g.N.Naming.offered c.args.table) (up_in c.args.pass.now.up) (asked_at c.args.lock.now.replica c.args.need) (without_kinds x) at c.in_ok-place.field-0 (client_at c.commit.new.pass c.args.table)) c.deref.ensures c.in_ok-place.ensures.done in
    goes-in-unmet g.N.Naming.offered (up_in c.args.pass.now.up) c.args.lock.now.replica c.args.need (without_kinds (arc_value c.args.block)) c.args.lock.now before (client_at c.args.pass.now c.args.table) c.commit.new.pass c.gather.new.pass c.args.table c.in-Entry.place h
    (sym (ap (λ (ups : List Bool). up_in ups) (keeps-up c.args.pass.now c.args.table c.commit.new.pass c.commit.ensures.keeps)))
    (subst (λ (x : Committed). CommitsLater (g.N.Naming.offered c.args.table) (up_in c.args.pass.now.up) (asked_at c.args.lock.now.replica c.args.need) (without_kinds (arc_value c.args.block)) before x (client_at c.commit.new.pass c.args.table)) c.in-Entry.is (done-so before h))
    c.in-Some.have
    (subst (λ (x : Option ℕ). IsGathered g.N.Naming.offered c.commit.new.pass c.args.table c.args.lock.now.replica c.in-Entry.place c.args.need x c.gather.new.pass) c.in-Some.is c.in_ok-unmet-in-Entry.ensures.ok)

pub returns-in-Entry-clause-keeps : goal.returns-in-Entry-clause-keeps
returns-in-Entry-clause-keeps g c =
    keeps-both c.args.pass.now c.commit.new.pass c.gather.new.pass c.args.table c.commit.ensures.keeps
    (gathered-keeps g.N.Naming.offered c.commit.new.pass c.gather.new.pass c.args.table c.args.lock.now.replica c.in-Entry.place c.args.need c.in_ok-unmet-in-Entry.unmet c.in_ok-unmet-in-Entry.ensures.ok)

pub returns-in-Full-clause-done : goal.returns-in-Full-clause-done
returns-in-Full-clause-done g c = λ before h.
    let done-so : (at : Client) → HoldsNumber (up_in c.args.pass.now.up) (asked_at c.args.lock.now.replica c.args.need) (without_kinds (arc_value c.args.block)) c.args.lock.now at (client_at c.args.pass.now c.args.table) → CommitsLater (g.N.Naming.offered c.args.table) (up_in c.args.pass.now.up) (asked_at c.args.lock.now.replica c.args.need) (without_kinds (arc_value c.args.block)) at c.in_ok-place.field-0 (client_at c.commit.new.pass c.args.table) =
    subst (λ (x : BlockView). (at : Client) → HoldsNumber (up_in c.args.pass.now.up) (asked_at c.args.lock.now.replica c.args.need) (without_kinds x) c.args.lock.now at (client_at c.args.pass.now c.args.table) → CommitsLater (g.N.Naming.offered c.args.table) (up_in c.args.pass.now.up) (asked_at c.args.lock.now.replica c.args.need) (without_kinds x) at c.in_ok-place.field-0 (client_at c.commit.new.pass c.args.table)) c.deref.ensures c.in_ok-place.ensures.done in
    no-room-from (g.N.Naming.offered c.args.table) (up_in c.args.pass.now.up) (asked_at c.args.lock.now.replica c.args.need) (without_kinds (arc_value c.args.block)) before (client_at c.commit.new.pass c.args.table) c.in-Full.limit c.in-Full.value
    (subst (λ (x : Committed). CommitsLater (g.N.Naming.offered c.args.table) (up_in c.args.pass.now.up) (asked_at c.args.lock.now.replica c.args.need) (without_kinds (arc_value c.args.block)) before x (client_at c.commit.new.pass c.args.table)) c.in-Full.is (done-so before h))
