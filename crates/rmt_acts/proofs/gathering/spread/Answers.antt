use Rattle.std.proofs.Common.{Bool, ◌∙◌, [], ◌∷◌, ap, arith, refl, sym, subst, ℕ}
use Rattle.rmt_events.specs.declared.event.Event.TheVariants as ev
use Rattle.rmt_statement_model.specs.Inserts.{asked_at}
use Rattle.rmt_statement_model.specs.Shows.{ups}
use Rattle.rmt_acts.specs.StatementEvents.{GathersWhere}
use Rattle.rmt_acts.proofs.EventLists.{at-err, reaches-made, stops-later}
use Rattle.rmt_acts.proofs.GatherActs.{a-quorum, no-quorum, get-pending, spread-alone, spread-gathered}
use Rattle.rmt_acts.proofs.gathering.spread.Goals as goal

pub returns-then-need-lt2-clause-shows : goal.returns-then-need-lt2-clause-shows
returns-then-need-lt2-clause-shows c = spread-alone c.args.cluster.now c.do_get.new.cluster c.args.need c.args.replica c.args.entry (ups c.args.cluster.now) c.if-need-lt2.true c.in_ok-do_get.ensures.does

pub returns-then-need-lt2-clause-events : goal.returns-then-need-lt2-clause-events
returns-then-need-lt2-clause-events c = record {
  mid = c.do_get.new.cluster;
  makes = c.in_ok-do_get.ensures.events;
  gathers = subst (λ (b : Bool). GathersWhere b c.do_get.new.cluster c.args.replica c.args.entry c.do_get.new.cluster) (sym (no-quorum c.args.need c.if-need-lt2.true)) refl;
}

pub gather-requires-clause-knows : goal.gather-requires-clause-knows
gather-requires-clause-knows c =
    let l = c.if-need-lt2.false in
    get-pending c.args.cluster.now c.do_get.new.cluster (asked_at c.args.replica c.args.need) c.args.entry c.drained_replicas_agree.ensures.whole (omega (arith, l)) c.requires.there c.in_ok-do_get.ensures.does

pub returns-in_err-gather-clause-err : goal.returns-in_err-gather-clause-err
returns-in_err-gather-clause-err c =
    at-err c.from_residual-in_err-gather.result _
    (stops-later c.args.cluster.now c.do_get.new.cluster c.gather.new.cluster (reaches-made c.args.cluster.now c.do_get.new.cluster (ev.Pull c.args.replica ∷ ev.Apply c.args.replica c.args.entry ∷ []) c.in_ok-do_get.ensures.events) c.in_err-gather.ensures.err)

pub returns-clause-shows : goal.returns-clause-shows
returns-clause-shows c =
    let l = c.if-need-lt2.false in
    spread-gathered c.args.cluster.now c.do_get.new.cluster c.gather.new.cluster c.args.need c.args.replica c.args.entry (omega (arith, l)) c.in_ok-do_get.ensures.keeps.ups c.in_ok-do_get.ensures.does c.in_ok-gather.ensures.gathers

pub returns-clause-idle : goal.returns-clause-idle
returns-clause-idle c = record {
  up = ap (λ (f : ℕ → Bool). f c.args.replica) (c.in_ok-gather.ensures.gathers.ups_are ∙ c.in_ok-do_get.ensures.keeps.ups) ∙ c.requires.idle.up;
  free = c.in_ok-gather.ensures.gathers.free;
}

pub returns-clause-events : goal.returns-clause-events
returns-clause-events c =
    let l = c.if-need-lt2.false in
    record {
      mid = c.do_get.new.cluster;
      makes = c.in_ok-do_get.ensures.events;
      gathers = subst (λ (b : Bool). GathersWhere b c.do_get.new.cluster c.args.replica c.args.entry c.gather.new.cluster) (sym (a-quorum c.args.need (omega (arith, l)))) c.in_ok-gather.ensures.gathers.events;
    }
