use Rattle.std.proofs.Common.{◌≡◌, ℕ, ◌<◌, slice_get}
use Rattle.std.specs.declared.option.Option.TheVariants.{Some}
use Rattle.rmt_replica.proofs.replica.note.is_listed.Given as goal

abbrev pub invariant-names : goal.invariant-names
invariant-names l = (i : ℕ) → i < l.other-index → slice_get l.names i ≡ Some l.name → ⊥
