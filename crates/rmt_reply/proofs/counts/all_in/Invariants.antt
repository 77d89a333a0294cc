use Rattle.std.proofs.Common.{◌≡◌, ◌≤◌, ◌*◌, ◌^◌, map, take}
use Rattle.rmt_reply.specs.Printed.{sum_of}
use Rattle.rmt_reply.proofs.counts.all_in.Given as goal

abbrev pub invariant-parts : goal.invariant-parts
invariant-parts l = (l.all ≡ sum_of (map (λ g. g.2) (take l.one-index l.parts))) × (l.all ≤ l.one-index * 2 ^ 64)
