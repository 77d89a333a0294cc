use Rattle.std.proofs.Common.{◌≡◌, take}
use Rattle.rmt_table_model.specs.Numbers.{Nexts, Holders}
use Rattle.rmt_table_model.specs.Inserts.{HasNumbers}
use Rattle.rmt_inserts.proofs.DropLemmas.{unlocks}
use Rattle.rmt_inserts.proofs.drops.unlock_ops.Given as goal

abbrev pub invariant-names : goal.invariant-names
invariant-names l = (next : Nexts) (holders : Holders) → HasNumbers l.tree next holders → l.ops.items ≡ unlocks l.partition l.below (take l.name-index l.name-items)
