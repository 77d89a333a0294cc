use Rattle.std.proofs.Common.{rules, codes, refl, sym, subst, ◌∙◌}
use Rattle.rmt_paths.specs.Paths.{IsName}
use Rattle.rmt_znodes.proofs.PathLemmas.{IsName-id}
use Rattle.rmt_znodes.proofs.branch.block_path.Goals as goal

pub child-requires : goal.child-requires
child-requires c = subst IsName (sym (c.as_bytes.ensures ∙ c.in_ok-text.ensures)) (IsName-id c.args.partition c.args.digest c.is_id.ensures)

pub returns : goal.returns
returns c = let a = c.in_ok-top_path.ensures (codes "blocks") (record { some = search rules; whole = refl }) refl in search rules
