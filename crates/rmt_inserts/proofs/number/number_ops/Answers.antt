use Rattle.std.proofs.Common.{◌≡◌, ◌∙◌, ap, [], true, None}
use Rattle.std.specs.Option.{unwrap_or}
use Rattle.rmt_tree.specs.declared.op.Op.TheVariants as op
use Rattle.rmt_znodes.specs.declared.znode.Znode.TheVariants.{Lock}
use Rattle.rmt_znodes.specs.Znodes.{znode_path, lock_path}
use Rattle.rmt_inserts.proofs.ReadLemmas.{ok-as, two-ops}
use Rattle.rmt_inserts.proofs.number.number_ops.Goals as goal

pub returns : goal.returns
returns c = λ next holders number has e.
    let n = c.in_ok-next_number.ensures next holders has ∙ e in
    let m : c.unwrap_or-number.result ≡ number = c.unwrap_or-number.ensures ∙ ap (λ o. unwrap_or o 0) n in
    let a : c.create_sequential.result ≡ op.Create (lock_path c.args.partition) [] true None = cc (c.in_ok-path.ensures, c.create_sequential.ensures, c.empty.ensures) in
    let b : c.delete.result ≡ op.Delete (znode_path (Lock c.args.partition number)) None = c.delete.ensures ∙ ap (λ p. op.Delete p None) (c.in_ok-lock.ensures.path ∙ ap (λ k. znode_path (Lock c.args.partition k)) m) in
    ok-as c.with_op-2.result (λ v. v.items) _ _ c.with_op-2.ensures (two-ops _ _ _ _ _ _ c.new.ensures.items c.in_ok-ops.ensures a b)
