use Rattle.std.proofs.Common.{◌≡◌, ◌++◌, take}
use Rattle.rmt_reply.specs.Printed.{names_text}
use Rattle.rmt_reply.proofs.texts.push_parts.Given as goal

abbrev pub invariant-names : goal.invariant-names
invariant-names l = l.out.items ≡ l.fn.out.items ++ names_text (take l.name-index l.names)
