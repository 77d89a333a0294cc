use Rattle.std.proofs.Common.{◌≡◌, ◌∙◌, ℕ, subst, arith}
use Rattle.rmt_events.specs.Draws.{Runs}
use Rattle.rmt_state.proofs.StateLemmas.{at-err}
use Rattle.rmt_cluster.proofs.RunLemmas.{one-more}
use Rattle.rmt_cluster.proofs.cluster.Cluster.run.Goals as goal

pub returns-in_err-state-clause-err : goal.returns-in_err-state-clause-err
returns-in_err-state-clause-err c =
    let test = c.turns-test.true in
    at-err c.from_residual.result _ (record {
      made = c.turns._turn;
      few = omega (arith, test);
      mid = c.turns.self;
      state = c.turns.state;
      runs = c.turns.invariant.0;
      stops = c.in_err-state.ensures.err;
    })

pub turns-preserved : goal.turns-preserved
turns-preserved c =
    let i = c.turns.invariant in (
      one-more c.args.self.now c.args.seed c.turns._turn c.turns.self c.turns.state c.take_turn.new.self c.in_ok-state.state i.0 c.in_ok-state.ensures.ok,
      c.in_ok-state.ensures.below,
      c.take_turn.ensures.keeps.schema ∙ i.2,
      c.take_turn.ensures.keeps.replicas ∙ i.3,
    )

pub returns-clause-ok : goal.returns-clause-ok
returns-clause-ok c =
    let test = c.turns-test.false in
    let end = c.turns.auto._turn-end in
    let all : c.turns._turn ≡ c.args.turns = omega (arith, test, end) in
    (c.turns.state, subst (λ (n : ℕ). Runs c.args.self.now c.args.seed n c.turns.self c.turns.state) all c.turns.invariant.0)
