use Rattle.std.proofs.Common.{◌≡◌, drop}
use Rattle.rmt_names.specs.Names.{Name}
use Rattle.rmt_model.specs.Words.{Each}
use Rattle.rmt_table.proofs.choices.are_of.Given as goal

-- the names so far are of the partition
abbrev pub invariant-names : goal.invariant-names
invariant-names l = Each (λ (c : Name). c.partition ≡ l.partition) (drop l.name-index l.names) → Each (λ (c : Name). c.partition ≡ l.partition) l.names
