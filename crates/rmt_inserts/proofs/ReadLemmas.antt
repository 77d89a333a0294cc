-- What a tree's nodes tell of the numbers and of the kept ids.
use Rattle.std.proofs.Common.{◌≡◌, ℕ, ◌≤◌, ◌<◌, ◌^◌, List, [], ◌∷◌, ◌++◌, refl, sym, ap, arith, ◌∙◌, Result, Ok, Err, IfOk}
use Rattle.std.specs.Option.{option_map}
use Rattle.std.specs.declared.option.Option.{Option}
use Rattle.std.specs.declared.option.Option.TheVariants.{Some, None}
use Rattle.std.specs.Result.{OkIff, result_ok}
use Rattle.std.proofs.lemmas.Result.{Ok-from_Ok_iff}
use Rattle.rmt_paths.specs.Paths.{Names}
use Rattle.rmt_tree.specs.Trees.{Node, TreeView, node_at}
use Rattle.rmt_tree.specs.declared.op.Op.{Op}
use Rattle.rmt_znodes.specs.declared.znode.Znode.TheVariants.{Partition}
use Rattle.rmt_znodes.specs.Znodes.{znode_path, IsPartition}
use Rattle.rmt_znodes.specs.ZnodeStates.{ZnodeState, state_of}
use Rattle.rmt_table_model.specs.Numbers.{Nexts, Holders, next_of}
use Rattle.rmt_table_model.specs.Inserts.{HasNumbers}
use Rattle.rmt_table_model.specs.Nodes.{counting}
use Rattle.rmt_table_model.proofs.NumberLemmas.{next-has}

-- the node of a partition counts its numbers
pub next-read : (t : TreeView) (next : Nexts) (holders : Holders) → HasNumbers t next holders → (p : Option ℕ) → IsPartition p → option_map (λ n. n.counter) (node_at t (znode_path (Partition p))) ≡ next_of next p
next-read t next holders has p part = go (node_at t (znode_path (Partition p))) (next_of next p) (has.nodes.nodes (Partition p) part)
  where
    go : (o : Option Node) (m : Option ℕ) → option_map state_of o ≡ option_map counting m → option_map (λ (n : Node). n.counter) o ≡ m
    go None None e = refl
    go None (Some m) e = absurd (cc)
    go (Some n) None e = absurd (cc)
    go (Some n) (Some m) e = let f : state_of n ≡ counting m = cc in ap (λ (x : ZnodeState). Some x.counter) f

pub next-most : (t : TreeView) (next : Nexts) (holders : Holders) → HasNumbers t next holders → (p : Option ℕ) (m : ℕ) → next_of next p ≡ Some m → m ≤ 65536
next-most t next holders has p m e = has.numbers p m (next-has next p m e)

-- a counter that fits
pub counter-is : (t : TreeView) (next : Nexts) (holders : Holders) → HasNumbers t next holders → (p : Option ℕ) → IsPartition p → (q : Names) → q ≡ znode_path (Partition p)
    → (m : ℕ) → Some m ≡ option_map (λ n. n.counter) (node_at t q) → {E : Type 0} (r : Result ℕ E) → OkIff r (m < 2 ^ 32) m → result_ok r ≡ next_of next p
counter-is t next holders has p part q path m e r h =
    let k : Some m ≡ next_of next p = e ∙ ap (λ (w : Names). option_map (λ n. n.counter) (node_at t w)) path ∙ next-read t next holders has p part in
    let l = next-most t next holders has p m (sym k) in
    fits r h (omega (arith, l)) ∙ k
  where
    fits : {E : Type 0} (r : Result ℕ E) → OkIff r (m < 2 ^ 32) m → m < 2 ^ 32 → result_ok r ≡ Some m
    fits r h l = ap result_ok (Ok-from_Ok_iff r (m < 2 ^ 32) m h l)

pub counter-none : (t : TreeView) (next : Nexts) (holders : Holders) → HasNumbers t next holders → (p : Option ℕ) → IsPartition p → (q : Names) → q ≡ znode_path (Partition p)
    → None ≡ option_map (λ n. n.counter) (node_at t q) → None ≡ next_of next p
counter-none t next holders has p part q path e = e ∙ ap (λ (w : Names). option_map (λ n. n.counter) (node_at t w)) path ∙ next-read t next holders has p part

-- ---- lists of operations

pub ok-as : {A E : Type 0} (r : Result A E) (f : A → List Op) (xs ys : List Op) → IfOk r (λ all. f all ≡ xs) → xs ≡ ys → IfOk r (λ all. f all ≡ ys)
ok-as (Ok a) f xs ys h e = h ∙ e
ok-as (Err x) f xs ys h e = tt

pub two-ops : (xs ns : List Op) (a b c d : Op) → ns ≡ [] → xs ≡ ns ++ a ∷ [] → a ≡ c → b ≡ d → xs ++ b ∷ [] ≡ c ∷ d ∷ []
two-ops xs ns a b c d n e p q = ap (λ (zs : List Op). zs ++ b ∷ []) (e ∙ ap (λ (zs : List Op). zs ++ a ∷ []) n) ∙ (let w : a ∷ b ∷ [] ≡ c ∷ d ∷ [] = cc in w)
