use Rattle.std.proofs.Common.{◌≡◌, ◌-◌, arith, length}
use Rattle.std.specs.Prelude.{slice_get}
use Rattle.std.specs.declared.option.Option.TheVariants.{Some, None}
use Rattle.rmt_tree.proofs.WalkLemmas.{walked_there}
use Rattle.rmt_tree.proofs.LinkLemmas.{above_there, last-is, IsTaken-removed, AreLinked-filled, Takes-filled}
use Rattle.rmt_tree.proofs.linking.clear_key.Goals as goal

pub remove_leaf-requires-clause-there : goal.remove_leaf-requires-clause-there
remove_leaf-requires-clause-there c = walked_there c.args.links.now c.requires.linked c.args.place.now (Some c.args.key) c.requires.there

pub remove_leaf-requires-clause-above : goal.remove_leaf-requires-clause-above
remove_leaf-requires-clause-above c = above_there c.args.links.now c.args.place.now c.args.key c.requires.linked c.requires.there

pub fill-requires : goal.fill-requires
fill-requires c = walked_there c.args.links.now c.requires.linked c.args.place.now (Some c.args.key) c.requires.there

pub returns-then-is_leaf-clause-linked : goal.returns-then-is_leaf-clause-linked
returns-then-is_leaf-clause-linked c =
    let last : slice_get c.args.place.now (length c.args.place.now - 1) ≡ Some c.unwrap-name.result.now = grind (arith, c.last.ensures.value, c.unwrap-name.ensures, c.names.ensures) in
    (IsTaken-removed c.args.links.now c.remove_leaf.new.links c.args.place.now c.unwrap-name.result.now c.args.key c.requires.linked c.requires.there (last-is c.args.place.now c.unwrap-name.result.now last) (c.is_leaf.ensures.leaf c.if-is_leaf.true) c.remove_leaf.ensures).linked

pub returns-then-is_leaf-clause-takes : goal.returns-then-is_leaf-clause-takes
returns-then-is_leaf-clause-takes c =
    let last : slice_get c.args.place.now (length c.args.place.now - 1) ≡ Some c.unwrap-name.result.now = grind (arith, c.last.ensures.value, c.unwrap-name.ensures, c.names.ensures) in
    (IsTaken-removed c.args.links.now c.remove_leaf.new.links c.args.place.now c.unwrap-name.result.now c.args.key c.requires.linked c.requires.there (last-is c.args.place.now c.unwrap-name.result.now last) (c.is_leaf.ensures.leaf c.if-is_leaf.true) c.remove_leaf.ensures).takes

pub returns-then-is_leaf-clause-gone : goal.returns-then-is_leaf-clause-gone
returns-then-is_leaf-clause-gone c = λ _.
    let last : slice_get c.args.place.now (length c.args.place.now - 1) ≡ Some c.unwrap-name.result.now = grind (arith, c.last.ensures.value, c.unwrap-name.ensures, c.names.ensures) in
    (IsTaken-removed c.args.links.now c.remove_leaf.new.links c.args.place.now c.unwrap-name.result.now c.args.key c.requires.linked c.requires.there (last-is c.args.place.now c.unwrap-name.result.now last) (c.is_leaf.ensures.leaf c.if-is_leaf.true) c.remove_leaf.ensures).gone

pub returns-else-is_leaf-clause-linked : goal.returns-else-is_leaf-clause-linked
returns-else-is_leaf-clause-linked c = AreLinked-filled c.args.links.now c.fill.new.links (Some c.args.key) None c.fill.ensures c.requires.linked

pub returns-else-is_leaf-clause-takes : goal.returns-else-is_leaf-clause-takes
returns-else-is_leaf-clause-takes c = Takes-filled c.args.links.now c.fill.new.links (Some c.args.key) c.args.place.now c.requires.linked c.fill.ensures c.requires.there
