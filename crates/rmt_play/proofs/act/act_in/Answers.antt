use Rattle.std.proofs.Common.{◌≡◌, ◌∙◌, ap, subst, sym}
use Rattle.std.specs.Prelude.{IfOk}
use Rattle.rmt_statements.specs.declared.act.Act.{Act}
use Rattle.rmt_statements.specs.declared.act.Act.TheVariants as acts
use Rattle.rmt_statements.specs.declared.mode.Mode.TheVariants as modes
use Rattle.rmt_sql_acts.specs.Acts.{HasSmallCommand}
use Rattle.rmt_play.specs.ActRefusals.{syncs_first}
use Rattle.rmt_play.specs.ActSteps.{ExecutesIn}
use Rattle.rmt_play.specs.Offered.{OffersAct}
use Rattle.rmt_play.proofs.CommandLemmas.{on-line}
use Rattle.rmt_play.proofs.act.act_in.Goals as goal

pub returns-in-Sync-clause-executes : goal.returns-in-Sync-clause-executes
returns-in-Sync-clause-executes g c =
    let s = g.E.Acting.seen c.args.engine.now in
    let u = g.E.Acting.seen c.sync_in.new.engine in
    let e : c.args.act.now ≡ acts.Select c.in-Select.table c.in-Select.query modes.Sync = c.in-Select.is ∙ ap (acts.Select c.in-Select.table c.in-Select.query) c.in-Sync.is in
    subst (λ (a : Act). IfOk c.sync_in.result (λ line. ExecutesIn s c.args.replica a line u)) (sym e) c.sync_in.ensures.executes

pub returns-in-Plain-clause-executes : goal.returns-in-Plain-clause-executes
returns-in-Plain-clause-executes g c =
    let s = g.E.Acting.seen c.args.engine.now in
    let u = g.E.Acting.seen c.read_in.new.engine in
    let e : c.args.act.now ≡ acts.Select c.in-Select.table c.in-Select.query modes.Plain = c.in-Select.is ∙ ap (acts.Select c.in-Select.table c.in-Select.query) c.in-Plain.is in
    subst (λ (a : Act). IfOk c.read_in.result (λ line. ExecutesIn s c.args.replica a line u)) (sym e) c.read_in.ensures.executes

pub returns-in-Insert-clause-executes : goal.returns-in-Insert-clause-executes
returns-in-Insert-clause-executes g c =
    let s = g.E.Acting.seen c.args.engine.now in
    let u = g.E.Acting.seen c.insert_in.new.engine in
    subst (λ (a : Act). IfOk c.insert_in.result (λ line. ExecutesIn s c.args.replica a line u)) (sym c.in-Insert.is)
    c.insert_in.ensures.executes

pub returns-in-Explain-clause-executes : goal.returns-in-Explain-clause-executes
returns-in-Explain-clause-executes g c =
    let s = g.E.Acting.seen c.args.engine.now in
    let u = g.E.Acting.seen c.explain_in.new.engine in
    subst (λ (a : Act). IfOk c.explain_in.result (λ line. ExecutesIn s c.args.replica a line u)) (sym c.in-Explain.is)
    c.explain_in.ensures.executes

pub returns-in-Mutate-clause-executes : goal.returns-in-Mutate-clause-executes
returns-in-Mutate-clause-executes g c =
    let s = g.E.Acting.seen c.args.engine.now in
    let u = g.E.Acting.seen c.alter_in.new.engine in
    subst (λ (a : Act). IfOk c.alter_in.result (λ line. ExecutesIn s c.args.replica a line u)) (sym c.in-Mutate.is)
    (on-line c.alter_in.result _ _ (λ line f. f c.in-Mutate.table c.args.replica) c.alter_in.ensures.executes)

pub returns-in-DropPartition-clause-executes : goal.returns-in-DropPartition-clause-executes
returns-in-DropPartition-clause-executes g c =
    let s = g.E.Acting.seen c.args.engine.now in
    let u = g.E.Acting.seen c.drop_in.new.engine in
    subst (λ (a : Act). IfOk c.drop_in.result (λ line. ExecutesIn s c.args.replica a line u)) (sym c.in-DropPartition.is)
    (on-line c.drop_in.result _ _ (λ line f. f c.in-DropPartition.table) c.drop_in.ensures.executes)

pub returns-in-Optimize-clause-executes : goal.returns-in-Optimize-clause-executes
returns-in-Optimize-clause-executes g c =
    let s = g.E.Acting.seen c.args.engine.now in
    let u = g.E.Acting.seen c.optimize_in.new.engine in
    subst (λ (a : Act). IfOk c.optimize_in.result (λ line. ExecutesIn s c.args.replica a line u)) (sym c.in-Optimize.is)
    (on-line c.optimize_in.result _ _ (λ line f. f c.in-Optimize.table) c.optimize_in.ensures.executes)

pub returns-in-ShowParts-clause-executes : goal.returns-in-ShowParts-clause-executes
returns-in-ShowParts-clause-executes g c =
    let s = g.E.Acting.seen c.args.engine.now in
    let u = g.E.Acting.seen c.show_in.new.engine in
    subst (λ (a : Act). IfOk c.show_in.result (λ line. ExecutesIn s c.args.replica a line u)) (sym c.in-ShowParts.is)
    (on-line c.show_in.result _ _ (λ line f. f c.in-ShowParts.table) c.show_in.ensures.executes)

pub returns-in-CheckTable-clause-executes : goal.returns-in-CheckTable-clause-executes
returns-in-CheckTable-clause-executes g c =
    let s = g.E.Acting.seen c.args.engine.now in
    let u = g.E.Acting.seen c.check_in.new.engine in
    subst (λ (a : Act). IfOk c.check_in.result (λ line. ExecutesIn s c.args.replica a line u)) (sym c.in-CheckTable.is)
    (on-line c.check_in.result _ _ (λ line f. f c.in-CheckTable.table) c.check_in.ensures.executes)

pub returns-in-WaitMutation-clause-executes : goal.returns-in-WaitMutation-clause-executes
returns-in-WaitMutation-clause-executes g c =
    let s = g.E.Acting.seen c.args.engine.now in
    let u = g.E.Acting.seen c.wait_in.new.engine in
    subst (λ (a : Act). IfOk c.wait_in.result (λ line. ExecutesIn s c.args.replica a line u)) (sym c.in-WaitMutation.is)
    (on-line c.wait_in.result _ _ (λ line f. f c.in-WaitMutation.table) c.wait_in.ensures.executes)

pub returns-in-SyncReplica-clause-executes : goal.returns-in-SyncReplica-clause-executes
returns-in-SyncReplica-clause-executes g c =
    let s = g.E.Acting.seen c.args.engine.now in
    let u = g.E.Acting.seen c.drain_in.new.engine in
    subst (λ (a : Act). IfOk c.drain_in.result (λ line. ExecutesIn s c.args.replica a line u)) (sym c.in-SyncReplica.is)
    (on-line c.drain_in.result _ _ (λ line f. f c.in-SyncReplica.table) c.drain_in.ensures.executes)

pub returns-in-RestartReplica-clause-executes : goal.returns-in-RestartReplica-clause-executes
returns-in-RestartReplica-clause-executes g c =
    let s = g.E.Acting.seen c.args.engine.now in
    let u = g.E.Acting.seen c.restart_in.new.engine in
    subst (λ (a : Act). IfOk c.restart_in.result (λ line. ExecutesIn s c.args.replica a line u)) (sym c.in-RestartReplica.is)
    (on-line c.restart_in.result _ _ (λ line f. f c.in-RestartReplica.table) c.restart_in.ensures.executes)

pub returns-in-StopFetches-clause-executes : goal.returns-in-StopFetches-clause-executes
returns-in-StopFetches-clause-executes g c =
    let s = g.E.Acting.seen c.args.engine.now in
    let u = g.E.Acting.seen c.switch_in.new.engine in
    subst (λ (a : Act). IfOk c.switch_in.result (λ line. ExecutesIn s c.args.replica a line u)) (sym c.in-StopFetches.is)
    (on-line c.switch_in.result _ _ (λ line f. f c.in-StopFetches.table) c.switch_in.ensures.executes)

pub returns-in-StartFetches-clause-executes : goal.returns-in-StartFetches-clause-executes
returns-in-StartFetches-clause-executes g c =
    let s = g.E.Acting.seen c.args.engine.now in
    let u = g.E.Acting.seen c.switch_in-in-StartFetches.new.engine in
    subst (λ (a : Act). IfOk c.switch_in-in-StartFetches.result (λ line. ExecutesIn s c.args.replica a line u)) (sym c.in-StartFetches.is)
    (on-line c.switch_in-in-StartFetches.result _ _ (λ line f. f c.in-StartFetches.table) c.switch_in-in-StartFetches.ensures.executes)

pub insert_in-requires-clause-offered : goal.insert_in-requires-clause-offered
insert_in-requires-clause-offered g c = subst (λ (a : Act). OffersAct g.E.Acting.offers a) c.in-Insert.is c.requires.offered

pub alter_in-requires-clause-small : goal.alter_in-requires-clause-small
alter_in-requires-clause-small g c = subst HasSmallCommand c.in-Mutate.is c.requires.small

-- an act that brings its replica up to date may do so
pub sync_in-requires-clause-fetches : goal.sync_in-requires-clause-fetches
sync_in-requires-clause-fetches g c =
    let e : c.args.act.now ≡ acts.Select c.in-Select.table c.in-Select.query modes.Sync = c.in-Select.is ∙ ap (acts.Select c.in-Select.table c.in-Select.query) c.in-Sync.is in
    c.requires.fetches (ap syncs_first e)

pub optimize_in-requires-clause-fetches : goal.optimize_in-requires-clause-fetches
optimize_in-requires-clause-fetches g c = c.requires.fetches (ap syncs_first c.in-Optimize.is)

pub wait_in-requires-clause-fetches : goal.wait_in-requires-clause-fetches
wait_in-requires-clause-fetches g c = c.requires.fetches (ap syncs_first c.in-WaitMutation.is)

pub drain_in-requires-clause-fetches : goal.drain_in-requires-clause-fetches
drain_in-requires-clause-fetches g c = c.requires.fetches (ap syncs_first c.in-SyncReplica.is)
