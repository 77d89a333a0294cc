use Rattle.std.proofs.Common.{codes, refl, arith}
use Rattle.rmt_znodes.specs.declared.znode.Znode.TheVariants.{Log, Blocks, Order, Numbers, Mutations, Quorum, Replicas}
use Rattle.rmt_znodes.proofs.PathLemmas.{top-znode}
use Rattle.rmt_znodes.proofs.znode.Znode.path.Goals as goal

pub returns-in-Log-clause-path : goal.returns-in-Log-clause-path
returns-in-Log-clause-path c = top-znode c.top_path.result (codes "log") Log c.args.self.now c.in-Log.is refl (record { some = omega arith; whole = refl }) c.top_path.ensures

pub returns-in-Blocks-clause-path : goal.returns-in-Blocks-clause-path
returns-in-Blocks-clause-path c = top-znode c.top_path-in-Blocks.result (codes "blocks") Blocks c.args.self.now c.in-Blocks.is refl (record { some = omega arith; whole = refl }) c.top_path-in-Blocks.ensures

pub returns-in-Order-clause-path : goal.returns-in-Order-clause-path
returns-in-Order-clause-path c = top-znode c.top_path-in-Order.result (codes "blocks_order") Order c.args.self.now c.in-Order.is refl (record { some = omega arith; whole = refl }) c.top_path-in-Order.ensures

pub returns-in-Numbers-clause-path : goal.returns-in-Numbers-clause-path
returns-in-Numbers-clause-path c = top-znode c.top_path-in-Numbers.result (codes "block_numbers") Numbers c.args.self.now c.in-Numbers.is refl (record { some = omega arith; whole = refl }) c.top_path-in-Numbers.ensures

pub returns-in-Mutations-clause-path : goal.returns-in-Mutations-clause-path
returns-in-Mutations-clause-path c = top-znode c.top_path-in-Mutations.result (codes "mutations") Mutations c.args.self.now c.in-Mutations.is refl (record { some = omega arith; whole = refl }) c.top_path-in-Mutations.ensures

pub returns-in-Quorum-clause-path : goal.returns-in-Quorum-clause-path
returns-in-Quorum-clause-path c = top-znode c.top_path-in-Quorum.result (codes "quorum") Quorum c.args.self.now c.in-Quorum.is refl (record { some = omega arith; whole = refl }) c.top_path-in-Quorum.ensures

pub returns-in-Replicas-clause-path : goal.returns-in-Replicas-clause-path
returns-in-Replicas-clause-path c = top-znode c.top_path-in-Replicas.result (codes "replicas") Replicas c.args.self.now c.in-Replicas.is refl (record { some = omega arith; whole = refl }) c.top_path-in-Replicas.ensures
