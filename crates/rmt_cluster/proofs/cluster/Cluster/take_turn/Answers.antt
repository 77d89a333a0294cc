use Rattle.std.proofs.Common.{inl, refl, subst}
use Rattle.rmt_events.specs.Draws.{TurnsTo}
use Rattle.rmt_events.specs.declared.event.Event.{Event}
use Rattle.rmt_cluster.specs.Runs.{StopsTurn}
use Rattle.rmt_state.proofs.StateLemmas.{at-err}
use Rattle.rmt_cluster.proofs.cluster.Cluster.take_turn.Goals as goal

pub turn_by-requires : goal.turn_by-requires
turn_by-requires c = record { may = c.in_ok-event.ensures.may }

pub returns-in_err-event-clause-err : goal.returns-in_err-event-clause-err
returns-in_err-event-clause-err c = at-err c.from_residual.result _ (inl (inl refl))

pub returns-clause-ok : goal.returns-clause-ok
returns-clause-ok c =
    record {
      turns = subst (λ (e : Event). TurnsTo c.args.self.now e c.turn_by.new.self) c.in_ok-event.ensures.event c.in_ok-turn_by.ensures.ok;
      state = c.in_ok-event.ensures.state;
    }

pub returns-in_err-turn_by-clause-err : goal.returns-in_err-turn_by-clause-err
returns-in_err-turn_by-clause-err c =
    at-err c.from_residual-in_err-turn_by.result _ (subst (λ (e : Event). StopsTurn c.args.self.now e c.turn_by.new.self) c.in_ok-event.ensures.event c.in_err-turn_by.ensures.err)
