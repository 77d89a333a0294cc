use Rattle.std.proofs.Common.{◌≡◌, ℕ, true, false, ◌∷◌, [], refl, sym, subst}
use Rattle.std.specs.declared.option.Option.{Option}
use Rattle.std.specs.declared.option.Option.TheVariants.{Some, None}
use Rattle.rmt_tree.specs.Trees.{TreeView, is_open}
use Rattle.rmt_tree.specs.Ops.{after}
use Rattle.rmt_tree.specs.declared.op.Op.{Op}
use Rattle.rmt_tree.specs.declared.op.Op.TheVariants as op
use Rattle.rmt_znodes.specs.declared.znode.Znode.{Znode}
use Rattle.rmt_znodes.specs.Znodes.{znode_path, IsZnode}
use Rattle.rmt_znodes.specs.ZnodeStates.{ZnodeState, ZnodeStates, Limits, Makes, above, with_state, without_state, raised}
use Rattle.rmt_znodes.proofs.ZnodeStateLemmas.{HasAbove, MayOwn, Does, with_counted, above-znode, creates, creates-numbered, sets, deletes, makes-none, makes-more, ends}
use Rattle.rmt_znodes.proofs.laws.an_operation_changes_its_znode.Goals as goal

one : (t : TreeView) (o : Op) (states : ZnodeStates) (limits : Limits) → Does t o states limits → Makes t (o ∷ []) states limits
one t o states limits d = makes-more t o [] states states limits limits d (makes-none (after t o) states limits d.nodes)

owns : (t : TreeView) (owner : Option ℕ) → ((s : ℕ) → owner ≡ Some s → is_open t s ≡ true) → MayOwn t owner
owns t None h = tt
owns t (Some s) h = h s refl

pub returns-clause-creates : goal.returns-clause-creates
returns-clause-creates c = λ t states limits x y f value owner m h a there free none may.
    one t (op.Create (znode_path x) value false owner) (with_state x (record { value = value; counter = 0; owner = owner }) states) limits
    (creates t states limits m x h value owner (owns t owner may) (subst (HasAbove states) (sym a) (above-znode x y h a, (f, there, free))) none)

pub returns-clause-numbers : goal.returns-clause-numbers
returns-clause-numbers c = λ t states limits p x y f value owner m h k up number there free room none may.
    one t (op.Create p value true owner) (with_state x (record { value = value; counter = 0; owner = owner }) (with_counted y f states)) limits
    (creates-numbered t states limits m p x y f h k value owner (owns t owner may) up there free number room none)

pub returns-clause-sets : goal.returns-clause-sets
returns-clause-sets c = λ t states limits x f value m h there room.
    one t (op.Set (znode_path x) value None) (with_state x (record f { value = value }) states) (raised x limits)
    (sets t states limits m x f h value there room)

pub returns-clause-deletes : goal.returns-clause-deletes
returns-clause-deletes c = λ t states limits x f m h leaf there.
    one t (op.Delete (znode_path x) None) (without_state x states) limits (deletes t states limits m x f h leaf there)

pub returns-clause-ends : goal.returns-clause-ends
returns-clause-ends c = λ t states limits s m. ends t states limits s m
