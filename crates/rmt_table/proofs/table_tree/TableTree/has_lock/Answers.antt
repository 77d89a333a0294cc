use Rattle.std.proofs.Common.{◌≡◌, ◌∙◌, Bool, true, false, not, sym, refl}
use Rattle.rmt_table.proofs.Unlocked.{lock-told}
use Rattle.rmt_table.specs.contracts.table_tree.TableTree.{the_view}
use Rattle.rmt_table.proofs.table_tree.TableTree.has_lock.Goals as goal

twice : (b : Bool) → b ≡ not (not b)
twice true = refl
twice false = refl

pub returns : goal.returns
returns c =
    lock-told (the_view c.self.inside) c.self.inside.log.tokens _ c.self.invariant c.args.self.now c.self.view_is c.args.lock.now.id.partition c.args.lock.now.number c.path.ensures.in_range c.in_ok-path.path c.in_ok-path.ensures.path c.get.result c.get.ensures (not c.is_some.result) (sym c.is_some.ensures ∙ twice c.is_some.result)
    c.is_some.result refl
