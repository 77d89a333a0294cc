-- What the operations of a new table are, one after the other.
use Rattle.std.proofs.Common.{◌≡◌, ℕ, zero, suc, ◌+◌, ◌-◌, ◌<◌, ◌≤◌, false, List, [], ◌∷◌, ◌++◌, sym, ap, arith, ◌∙◌, append_assoc}
use Rattle.std.proofs.lemmas.List.{append-nil}
use Rattle.std.specs.Fmt.{decimal}
use Rattle.std.specs.declared.option.Option.TheVariants.{None}
use Rattle.rmt_tree.specs.declared.op.Op.{Op}
use Rattle.rmt_tree.specs.declared.op.Op.TheVariants as op
use Rattle.rmt_znodes.specs.declared.znode.Znode.TheVariants.{Replica, LogPointer}
use Rattle.rmt_znodes.specs.Znodes.{znode_path}
use Rattle.rmt_table_model.specs.Nodes.{replica_ops, replicas_ops}

-- one more behind what is there
pub then-one : {A : Type 0} (xs done ys : List A) (x : A) → ys ≡ xs ++ x ∷ [] → xs ≡ done → ys ≡ done ++ x ∷ []
then-one {A} xs done ys x e d = e ∙ ap (λ (l : List A). l ++ x ∷ []) d

-- two more
pub then-two : {A : Type 0} (xs ys zs : List A) (x y : A) → ys ≡ xs ++ x ∷ [] → zs ≡ ys ++ y ∷ [] → zs ≡ xs ++ x ∷ y ∷ []
then-two {A} xs ys zs x y e f = f ∙ ap (λ (l : List A). l ++ y ∷ []) e ∙ append_assoc xs (x ∷ []) (y ∷ [])

-- the operations of the replica r, counted from 1
pub replica-is : (r : ℕ) (value : List ℕ) (made : Op) → 1 ≤ r → value ≡ decimal 0 → made ≡ op.Create (znode_path (LogPointer r)) value false None
    → ◌≡◌ {A = List Op} (op.Create (znode_path (Replica r)) [] false None ∷ made ∷ []) (replica_ops (r - 1))
replica-is zero value made l v m = absurd (omega (arith, l))
replica-is (suc r) value made l v m =
    let q : suc r - 1 ≡ r = omega arith in
    ap (λ (x : Op). op.Create (znode_path (Replica (suc r))) [] false None ∷ x ∷ []) (m ∙ ap (λ (w : List ℕ). op.Create (znode_path (LogPointer (suc r))) w false None) v)
    ∙ ap replica_ops (sym q)

-- the operations of one more replica, and of those that are left
pub one-more : (made count : ℕ) (ops more all : List Op) → made < count → ops ++ replicas_ops made (count - made) ≡ all → more ≡ ops ++ replica_ops (made + 1 - 1) → more ++ replicas_ops (made + 1) (count - (made + 1)) ≡ all
one-more made count ops more all l e m =
    let n : count - made ≡ suc (count - (made + 1)) = omega (arith, l) in
    let k : made + 1 - 1 ≡ made = omega arith in
    let j : made + 1 ≡ suc made = omega arith in
    ap (λ (xs : List Op). xs ++ replicas_ops (made + 1) (count - (made + 1))) (m ∙ ap (λ (i : ℕ). ops ++ replica_ops i) k)
    ∙ append_assoc ops (replica_ops made) (replicas_ops (made + 1) (count - (made + 1)))
    ∙ ap (λ (i : ℕ). ops ++ (replica_ops made ++ replicas_ops i (count - (made + 1)))) j
    ∙ ap (λ (i : ℕ). ops ++ replicas_ops made i) (sym n)
    ∙ e

-- none is left
pub none-more : (made count : ℕ) (ops all : List Op) → made ≤ count → count ≤ made → ops ++ replicas_ops made (count - made) ≡ all → ops ≡ all
none-more made count ops all l k e =
    let n : count - made ≡ 0 = omega (arith, l, k) in
    let q : ops ++ [] ≡ all = ap (λ (m : ℕ). ops ++ replicas_ops made m) (sym n) ∙ e in
    sym (append-nil ops) ∙ q
