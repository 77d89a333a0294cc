use Rattle.std.proofs.Common.{◌≡◌, ℕ, List, sym, ap, subst, ◌∙◌}
use Rattle.std.specs.Prelude.{MatchOption}
use Rattle.rmt_table_model.specs.Held.{Held}
use Rattle.rmt_statement_model.specs.ActOutcomes.{ReadsQuorum}
use Rattle.rmt_shared.specs.SharedReplicas.{SharedReplicaView}
use Rattle.rmt_pass.specs.Passes.{IsCurrent, TakesStep}
use Rattle.rmt_workers.proofs.StepLemmas.{may-take, sees-current}
use Rattle.rmt_workers.proofs.crew.Crew.try_quorum_snapshot.Goals as goal

pub read_in_quorum-requires-clause-current : goal.read_in_quorum-requires-clause-current
read_in_quorum-requires-clause-current g c =
    subst (λ (ts : List Held). IsCurrent c.see.new.pass c.args.table ts) (sym c.deref-tables.ensures)
    (sees-current c.args.pass.now c.args.table c.in_ok-tables_guard.tables_guard.value c.see.new.pass c.in_ok-tables_guard.ensures.ok)

pub returns-clause-reads : goal.returns-clause-reads
returns-clause-reads g c =
    let number : c.deref-here.result.now.replica.number ≡ c.args.replica = ap (λ (s : SharedReplicaView). s.replica.number) c.deref-here.ensures ∙ c.lock_known-guard.ensures.at.its_number in
    may-take g.N.Naming.offered c.args.pass.now c.see.new.pass c.read_in_quorum.new.self c.args.table c.in_ok-tables_guard.tables_guard.value (λ x. ReadsQuorum c.args.replica x) c.in_ok-found.found c.in_ok-tables_guard.ensures.ok
    (subst (λ (r : ℕ). MatchOption c.in_ok-found.found (c.read_in_quorum.new.self ≡ c.see.new.pass) (λ x. TakesStep g.N.Naming.offered c.see.new.pass c.args.table (ReadsQuorum r x) c.read_in_quorum.new.self)) number c.in_ok-found.ensures.ok)
