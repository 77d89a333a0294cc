use Rattle.std.proofs.Common.{rules, codes, refl, sym, subst, ◌∙◌}
use Rattle.rmt_paths.specs.Paths.{IsName}
use Rattle.rmt_znodes.proofs.PathLemmas.{IsName-partition}
use Rattle.rmt_znodes.proofs.branch.partition_path.Goals as goal

pub child-requires : goal.child-requires
child-requires c = subst IsName (sym (c.as_bytes.ensures.value ∙ c.in_ok-text.ensures)) (IsName-partition c.args.partition c.is_partition.ensures)

pub returns : goal.returns
returns c = let a = c.in_ok-top_path.ensures (codes "block_numbers") (record { some = search rules; whole = refl }) refl in search rules
