use Rattle.std.proofs.Common.{◌≡◌, drop}
use Rattle.rmt_names.proofs.MergeLemmas.{SameMerge}
use Rattle.rmt_names.proofs.merging.merged.Given as goal

abbrev pub invariant-sources : goal.invariant-sources
invariant-sources l = SameMerge l.initial.new l.rest l.new (drop l.next-index l.rest)
