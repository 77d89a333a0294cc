use Rattle.std.proofs.Common.{◌≡◌, ◌∙◌, ◌+◌, ◌-◌, ◌∷◌, drop, take, length, sym, subst, arith}
use Rattle.std.proofs.lemmas.Grind.{common_steps}
use Rattle.std.proofs.lemmas.List.{drop_more, drop_all}
use Rattle.rmt_table.proofs.Differing.{apart-begins, apart-next, apart-none}
use Rattle.rmt_events.specs.TableRefusals.{AreAlike}
use Rattle.rmt_table.proofs.table_tree.merge.first_apart.Goals as goal

pub names-init : goal.names-init
names-init c = λ pending is. apart-begins c.args.copy.now.log pending c.first-item.result _

pub names-preserved : goal.names-preserved
names-preserved c = λ pending is.
    let rest = take (length c.args.names.now - 1) (drop 1 c.args.names.now) in
    let more : drop c.names.right-index rest ≡ c.right-item.result ∷ drop (c.names.right-index + 1) rest = grind (arith, common_steps, drop_more rest c.names.right-index c.right-item.result) in
    apart-next c.args.copy.now.log pending c.first-item.result rest c.names.left c.right-item.result _ _ (c.names.invariant pending is) more (record { version = sym c.ver.ensures ∙ c.if-ver.false ∙ c.ver-in-names.ensures; quiet = λ part h. c.in_default-held.ensures pending is part h })

pub returns : goal.returns
returns c = λ pending is.
    let rest = take (length c.args.names.now - 1) (drop 1 c.args.names.now) in
    let whole : c.first-item.result ∷ rest ≡ c.args.names.now = grind (arith, common_steps) in
    subst (AreAlike c.args.copy.now.log pending) whole (apart-none c.args.copy.now.log pending c.first-item.result rest c.names.left _ (c.names.invariant pending is) (drop_all c.names.right-index rest c.names-test.false))
