use Rattle.rmt_state.proofs.NewLemmas.{OpensFirst}
use Rattle.rmt_state.proofs.state.new.open_sessions.Given as goal

abbrev pub invariant-sessions : goal.invariant-sessions
invariant-sessions l = OpensFirst l.fn.tree.schema l.up l.is_up-index l.number l.tree
