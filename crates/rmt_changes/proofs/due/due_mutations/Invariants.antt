use Rattle.std.proofs.Common.{◌≡◌, filter, take}
use Rattle.rmt_entries.specs.declared.entry.Entry.{Entry}
use Rattle.rmt_row.specs.Token.{Token}
use Rattle.rmt_changes.specs.Changes.{in_range, mutates}
use Rattle.rmt_changes.proofs.due.due_mutations.Given as goal

abbrev pub invariant-tokens : goal.invariant-tokens
invariant-tokens l =
    l.due.items ≡ filter (λ (t : Token Entry). mutates l.partition (in_range l.low l.high) t.value) (take l.token-index l.tokens)
