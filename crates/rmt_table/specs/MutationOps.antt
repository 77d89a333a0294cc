-- The operations that append a mutation.
-- No public clause cites this module.
use Rattle.std.specs.Prelude.{ℕ, true, false, List, [], ◌∷◌, ◌++◌}
use Rattle.std.specs.Fmt.{decimal}
use Rattle.std.specs.declared.option.Option.{Option}
use Rattle.std.specs.declared.option.Option.TheVariants.{None}
use Rattle.rmt_values.specs.declared.checked_mutation.CheckedMutation.{CheckedMutation}
use Rattle.rmt_tree.specs.declared.op.Op.{Op}
use Rattle.rmt_tree.specs.declared.op.Op.TheVariants as op
use Rattle.rmt_znodes.specs.declared.znode.Znode.TheVariants.{MutationNode}
use Rattle.rmt_znodes.specs.Znodes.{znode_path, entry_path}
use Rattle.rmt_entries.specs.EntryBytes.{entry_bytes}
use Rattle.rmt_entries.specs.declared.entry.Entry.{Entry}
use Rattle.rmt_entries.specs.declared.entry.Entry.TheVariants.{Mutation}
use Rattle.rmt_table_model.specs.Nodes.{numbers_ops}

-- the ops that make the znode of the mutation of this id, and write its entry, which goes to this place
abbrev pub mutation_tail : ℕ → ℕ → Entry → List Op
mutation_tail id place e = op.Create (znode_path (MutationNode id)) (decimal place) false None ∷ op.Create entry_path (entry_bytes e) true None ∷ []

-- the ops of the mutation of this id, which takes these numbers, and whose entry goes to this place
abbrev pub mutation_ops : ℕ → ℕ → List (Option ℕ × ℕ) → CheckedMutation → List Op
mutation_ops id place numbers command = numbers_ops numbers ++ mutation_tail id place (Mutation id numbers command)
