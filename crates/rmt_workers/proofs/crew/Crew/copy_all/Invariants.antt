use Rattle.std.proofs.Common.{true}
use Rattle.rmt_statement_model.specs.QuorumCopies.{CopiesTo}
use Rattle.rmt_pass.specs.Passes.{PassView, up_in}
use Rattle.rmt_workers.specs.CrewInserts.{TakesInto}
use Rattle.rmt_workers.proofs.crew.Crew.copy_all.Given as goal

abbrev pub invariant-replicas : goal.invariant-replicas
invariant-replicas g l =
    (first : PassView)
    → TakesInto g.N.Naming.offered first l.table (λ t u. CopiesTo true (up_in first.up) l.writer l.place 0 t u) l.initial.pass
    → TakesInto g.N.Naming.offered first l.table (λ t u. CopiesTo true (up_in first.up) l.writer l.place l.before t u) l.pass
