use Rattle.std.proofs.Common.{◌≡◌, take}
use Rattle.rmt_event_log.proofs.commands.copy_sets.Given as goal

-- those so far were copied
abbrev pub invariant-sets : goal.invariant-sets
invariant-sets l = l.copied.items ≡ take l.set-index l.sets
