use Rattle.std.proofs.Common.{◌≡◌, ◌∙◌, false, is_some, length, sym, ap, subst, arith}
use Rattle.std.specs.Option.{option_map}
use Rattle.rmt_tree.specs.Trees.{node_at, children}
use Rattle.rmt_znodes.specs.declared.znode.Znode.TheVariants.{Numbers}
use Rattle.rmt_znodes.specs.Znodes.{znode_path}
use Rattle.rmt_inserts.proofs.DropLemmas.{children-some, children-none}
use Rattle.rmt_inserts.proofs.LimitLemmas.{names-count, none-exist, few-partitions, many-partitions}
use Rattle.rmt_inserts.proofs.number.partition_limit.Goals as goal

pub returns-in_default : goal.returns-in_default
returns-in_default c = λ next holders has.
    let n = children-none c.args.tree.now c.in_ok-path.path (sym (ap (option_map (λ ns. ns.items)) c.in_default.is) ∙ c.in_ok-names.ensures) in
    let e = none-exist c.args.tree.now next holders has c.sound.ensures (subst (λ q. is_some (node_at c.args.tree.now q) ≡ false) c.in_ok-path.ensures.path n) in
    few-partitions c.args.tree.now next holders has 0 (sym e) (omega arith)

pub returns-then-count-lt1024 : goal.returns-then-count-lt1024
returns-then-count-lt1024 c = λ next holders has.
    let n : c.in-Some.names.items ≡ children c.args.tree.now (znode_path Numbers) = children-some c.args.tree.now c.in_ok-path.path _ _ c.in_ok-names.ensures (ap (option_map (λ ns. ns.items)) c.in-Some.is) ∙ ap (children c.args.tree.now) c.in_ok-path.ensures.path in
    let k : c.len-count.result ≡ length next = c.len-count.ensures ∙ c.in-Some.names.ok.0 ∙ ap length n ∙ names-count c.args.tree.now next holders has in
    few-partitions c.args.tree.now next holders has c.len-count.result k c.if-count-lt1024.true

pub returns : goal.returns
returns c = λ next holders has.
    let n : c.in-Some.names.items ≡ children c.args.tree.now (znode_path Numbers) = children-some c.args.tree.now c.in_ok-path.path _ _ c.in_ok-names.ensures (ap (option_map (λ ns. ns.items)) c.in-Some.is) ∙ ap (children c.args.tree.now) c.in_ok-path.ensures.path in
    let k : c.len-count.result ≡ length next = c.len-count.ensures ∙ c.in-Some.names.ok.0 ∙ ap length n ∙ names-count c.args.tree.now next holders has in
    many-partitions c.args.tree.now next holders has c.len-count.result k c.if-count-lt1024.false
