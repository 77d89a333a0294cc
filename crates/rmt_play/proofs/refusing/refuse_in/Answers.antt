use Rattle.std.proofs.Common.{subst}
use Rattle.std.specs.declared.option.Option.{Option}
use Rattle.rmt_values.specs.Rows.{Shape}
use Rattle.rmt_reply.specs.declared.refusal.Refusal.{Refusal}
use Rattle.rmt_play.specs.PlayerSteps.{IsOwnRefusal}
use Rattle.rmt_play.proofs.RefusedActs.{own-refused, replica-refused}
use Rattle.rmt_play.proofs.refusing.refuse_in.Goals as goal

pub returns-in-Some : goal.returns-in-Some
returns-in-Some g c =
    let s = g.E.Acting.seen c.args.engine.now in
    own-refused s c.args.replica c.args.act.now c.args.held c.in-Some.refusal c.requires.held
    (subst (λ (o : Option Refusal). IsOwnRefusal s.shape c.args.act.now o) c.in-Some.is (subst (λ (x : Shape). IsOwnRefusal x c.args.act.now c.in_ok-refusal.field-0) c.schema.ensures c.in_ok-refusal.ensures))

pub returns-in-None : goal.returns-in-None
returns-in-None g c =
    let s = g.E.Acting.seen c.args.engine.now in
    replica-refused s c.args.replica c.args.act.now c.args.held c.requires.held
    (subst (λ (o : Option Refusal). IsOwnRefusal s.shape c.args.act.now o) c.in-None.is (subst (λ (x : Shape). IsOwnRefusal x c.args.act.now c.in_ok-refusal.field-0) c.schema.ensures c.in_ok-refusal.ensures))
