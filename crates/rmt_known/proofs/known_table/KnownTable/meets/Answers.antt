use Rattle.std.proofs.Common.{sym, subst, ◌∙◌}
use Rattle.rmt_known.specs.KnownTables.{Known, GoesOnFromKnown}
use Rattle.rmt_known.specs.contracts.known_table.KnownTable as it
use Rattle.rmt_known.proofs.QuorumLemmas.{goes-on}
use Rattle.rmt_known.proofs.known_table.KnownTable.meets.Goals as goal

pub returns-clause-yes : goal.returns-clause-yes
returns-clause-yes c = λ t. subst (λ (k : Known). GoesOnFromKnown k c.args.tree.now) c.self.view_is (goes-on (it.the_view c.self.inside) c.args.tree.now c.is_sound.ensures c.self.invariant.waiting (c.meet.ensures.of c.if-not-meet.false).prefix (sym c.next_numbers.ensures ∙ (sym (c.are_same.ensures.0 c.if-not-are_same.false) ∙ c.deref.ensures.value)) c.quorum_state.result.now c.quorum_state.ensures (c.goes_on.ensures.0 t))
