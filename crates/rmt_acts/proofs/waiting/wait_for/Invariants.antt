use Rattle.std.proofs.Common.{drop}
use Rattle.rmt_acts.proofs.WaitActs.{IsWaiting}
use Rattle.rmt_acts.proofs.waiting.wait_for.Given as goal

-- the parts so far wait no more
abbrev pub invariant-parts : goal.invariant-parts
invariant-parts l = IsWaiting l.fn.cluster l.replica l.id l.place (drop l.part-index l.part-items) l.cluster
