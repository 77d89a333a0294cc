use Rattle.rmt_supply.proofs.BlockHolders.{HoldNothingBelow}
use Rattle.rmt_supply.proofs.holders.fetched_part.Given as goal

abbrev pub invariant-holders : goal.invariant-holders
invariant-holders l = HoldNothingBelow l.replicas l.at l.j l.get l.name l.len
