use Rattle.std.proofs.Common.{rules, codes, refl, arith, sym, subst, ◌∙◌}
use Rattle.rmt_paths.specs.Paths.{IsName}
use Rattle.rmt_znodes.proofs.PathLemmas.{IsName-decimal}
use Rattle.rmt_znodes.proofs.branch.replica_path.Goals as goal

pub child-requires : goal.child-requires
child-requires c = subst IsName (sym (c.as_bytes.ensures.value ∙ c.in_ok-text.ensures.ok)) (IsName-decimal c.args.replica (omega arith))

pub returns : goal.returns
returns c = let a = c.in_ok-top_path.ensures (codes "replicas") (record { some = search rules; whole = refl }) refl in search rules
