use Rattle.std.specs.Arc.{arc_value}
use Rattle.rmt_state.proofs.NewLemmas.{MakesFirst}
use Rattle.rmt_state.proofs.state.new.new_replicas.Given as goal

abbrev pub invariant-replicas : goal.invariant-replicas
invariant-replicas l = MakesFirst (arc_value l.schema) l.up l.is_up-index l.number l.replicas.items
