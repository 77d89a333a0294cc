use Rattle.std.proofs.Common.{refl}
use Rattle.rmt_replica.proofs.StagedViews.{found, missing}
use Rattle.rmt_replica.proofs.laws.staged_blocks_are_seen.Goals as goal

pub returns-clause-there : goal.returns-clause-there
returns-clause-there c r p n b s q =
    let f = found (record { partition = p; number = n }) r.staged b s.waiting.own q in
    record { is_in = f.0; partition = f.1 }

pub returns-clause-nowhere : goal.returns-clause-nowhere
returns-clause-nowhere c r p n s q b i = missing (record { partition = p; number = n }) r.staged s.waiting.own q (record { number = n; block = b }) i.is_in i.partition refl
