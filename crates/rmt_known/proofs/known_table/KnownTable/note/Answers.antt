use Rattle.std.proofs.Common.{sym, subst}
use Rattle.rmt_model.specs.Quorum.{Quorum}
use Rattle.rmt_clients.specs.Clients.{IsWaiting}
use Rattle.rmt_known.proofs.QuorumLemmas.{note-waits}
use Rattle.rmt_known.proofs.known_table.KnownTable.note.Goals as goal

pub invariant_of-self : goal.invariant_of-self
invariant_of-self c = record {
  replicas = c.self.invariant.replicas;
  waiting = subst (λ (q : Quorum). IsWaiting q.pending) (sym c.note.ensures) (note-waits c.args.replica c.self.inside.quorum c.self.invariant.waiting);
}
