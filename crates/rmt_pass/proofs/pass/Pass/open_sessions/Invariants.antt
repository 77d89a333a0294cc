use Rattle.std.proofs.Common.{◌≤◌}
use Rattle.rmt_shared.specs.ClientCalls.{HasTable}
use Rattle.rmt_pass.specs.Passes.{IsCurrent, KeepsOthers}
use Rattle.rmt_pass.proofs.SwitchLemmas.{AreSet}
use Rattle.rmt_pass.proofs.pass.Pass.open_sessions.Given as goal

abbrev pub invariant-replicas : goal.invariant-replicas
invariant-replicas g l = record {
  current : IsCurrent l.self l.table l.tables;
  others : KeepsOthers l.initial.tables l.table l.tables;
  first : 1 ≤ l.replica;
  sessions : HasTable l.tables l.table (AreSet l.self.up l.replica);
}
