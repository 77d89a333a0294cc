use Rattle.std.proofs.Common.{◌+◌, ◌∙◌, ap, arith, refl, false, get_or}
use Rattle.std.specs.Arc.{arc_value}
use Rattle.rmt_values.specs.Rows.{Shape}
use Rattle.rmt_state.specs.NewStates.{empty_replica}
use Rattle.rmt_state.proofs.NewLemmas.{replica-next}
use Rattle.rmt_state.proofs.state.new.new_replicas.Goals as goal

pub replicas-preserved : goal.replicas-preserved
replicas-preserved c =
    let i = c.replicas.invariant in
    let number = i.counted in
    let b = get_or c.args.up.now c.replicas.is_up-index false in
    record {
      counted = omega (arith, number);
      made = replica-next (arc_value c.args.schema.now) c.args.up.now c.replicas.is_up-index (c.replicas.number + 1) b c.replicas.replicas.items c.push.new.self.items c.new.result c.replicas-test.true (omega (arith, number)) refl i.made
          (c.new.ensures ∙ ap (λ (s : Shape). empty_replica s (c.replicas.number + 1) b) c.in_ok-schema.ensures) c.in_ok-push.ensures.items;
    }
