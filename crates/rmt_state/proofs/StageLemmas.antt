-- Blocks that are staged at a replica of a state, as a cluster sees them.
use Rattle.std.proofs.Common.{◌≡◌, ℕ, zero, suc, ◌+◌, ◌<◌, inl, inr, Bor, false, ◌↔◌, List, [], ◌∷◌, map, refl, sym, ap, subst, arith, ◌∙◌}
use Rattle.std.specs.Prelude.{slice_get, slice_set, OnOk, OnErr, IsTrue}
use Rattle.std.specs.Option.{is_some, option_map, option_copied}
use Rattle.std.specs.declared.option.Option.{Option}
use Rattle.std.specs.declared.option.Option.TheVariants.{Some, None}
use Rattle.std.specs.declared.result.Result.{Result}
use Rattle.std.specs.declared.result.Result.TheVariants.{Ok, Err}
use Rattle.rmt_block.specs.Blocks.{BlockView}
use Rattle.rmt_model.specs.Words.{Has}
use Rattle.rmt_table_model.specs.Held.{Held}
use Rattle.rmt_replica.specs.StagedBlocks.{staged_at, with_staged, without}
use Rattle.rmt_replica.specs.Replicas.{ReplicaView, IsStandingReplica}
use Rattle.rmt_replica.specs.Answers as own
use Rattle.rmt_replica.specs.declared.supply.Supply.{Supply}
use Rattle.rmt_events.specs.declared.applied.Applied.{Applied}
use Rattle.rmt_events.specs.declared.applied.Applied.TheVariants as came
use Rattle.rmt_replica.specs.declared.apply_error.ApplyError.{ApplyError}
use Rattle.rmt_replica.specs.declared.replica_error.ReplicaError.{ReplicaError}
use Rattle.rmt_replica.specs.declared.replica_error.ReplicaError.TheVariants as errors
use Rattle.rmt_replica.specs.SeenReplica.{shown}
use Rattle.rmt_replica.proofs.StagedViews.{found, missing}
use Rattle.rmt_replica.proofs.CallViews.{stages-seen, unstages-seen}
use Rattle.rmt_events.specs.Views.{Replica}
use Rattle.rmt_events.specs.Clusters.{with_replica, without_kinds}
use Rattle.rmt_events.specs.ReplicaCalls.{Stages, Unstages}
use Rattle.rmt_events.specs.ClusterChanges.{IsNumbered}
use Rattle.rmt_state.specs.States.{StateView, AreNumbered, IsState, cluster_of, ActsAt, IsDownIn, ChangesAt, HasSomeBlockAt}
use Rattle.rmt_state.proofs.StateLemmas.{some-same, goes-on-same, numbered-at, replicas-set}
use Rattle.rmt_state.proofs.SessionLemmas.{changed-state}
use Rattle.rmt_state.proofs.PullLemmas.{changed-at, down-in, down-told}

-- ---- a block is staged, or let go

-- what a call leaves of a replica that has other staged blocks, or is as it was
pub record KeepsCopy (x y : ReplicaView) : Type 0 where
  pub number : y.number ≡ x.number
  pub schema : y.schema ≡ x.schema
  pub log : y.log ≡ x.log
  pub cells : y.cells ≡ x.cells

pub staged-keeps : (r : Result (Unit {0}) ReplicaError) (x y : ReplicaView) (n : ℕ) (b : BlockView) → OnOk r (y ≡ record x { staged = with_staged x.staged (record { partition = b.partition; number = n }) b }) → OnErr r (y ≡ x) → KeepsCopy x y
staged-keeps (Ok u) x y n b p e = record { number = ap (λ (z : ReplicaView). z.number) p; schema = ap (λ (z : ReplicaView). z.schema) p; log = ap (λ (z : ReplicaView). z.log) p; cells = ap (λ (z : ReplicaView). z.cells) p }
staged-keeps (Err q) x y n b p e = record { number = ap (λ (z : ReplicaView). z.number) e; schema = ap (λ (z : ReplicaView). z.schema) e; log = ap (λ (z : ReplicaView). z.log) e; cells = ap (λ (z : ReplicaView). z.cells) e }

pub state-kept : (tree : Held) (rs : List ReplicaView) (i : ℕ) (x y : ReplicaView) → IsState (record { tree = tree; replicas = rs }) → slice_get rs i ≡ Some x → KeepsCopy x y → IsState (record { tree = tree; replicas = slice_set rs i y })
state-kept tree rs i x y s e k = changed-state tree tree rs i x y s (goes-on-same tree tree refl) e k.number k.schema k.log k.cells

same-copy : (x y z : ReplicaView) → z ≡ y → KeepsCopy x y → KeepsCopy x z
same-copy x y z e k = subst (KeepsCopy x) (sym e) k

pub change-keeps : (x y : ReplicaView) (i : ℕ) (supply : Supply) (r : Result Applied ApplyError) → own.IsChange x i supply r y → KeepsCopy x y
change-keeps x y i supply (Err e) c = same-copy x x y c (record { number = refl; schema = refl; log = refl; cells = refl })
change-keeps x y i supply (Ok came.Already) c = same-copy x (own.settled x i) y c (record { number = refl; schema = refl; log = refl; cells = refl })
change-keeps x y i supply (Ok came.Dropped) c = same-copy x (own.settled x i) y c (record { number = refl; schema = refl; log = refl; cells = refl })
change-keeps x y i supply (Ok came.Installed) c = same-copy x (record (own.settled x i) { parts = y.parts }) y c.others (record { number = refl; schema = refl; log = refl; cells = refl })

pub stages-at : (r : Result (Unit {0}) ReplicaError) (s : StateView) (k i n : ℕ) (x y : ReplicaView) (b : BlockView) → IsState s → k ≡ 1 + i → slice_get s.replicas i ≡ Some x → IsStandingReplica x → (r ≡ Err errors.Down) ↔ (x.up ≡ false)
    → OnOk r (y ≡ record x { staged = with_staged x.staged (record { partition = b.partition; number = n }) b }) → OnOk r (ActsAt s k (λ a c. Stages a n (without_kinds b) c) (record s { replicas = slice_set s.replicas i y }))
stages-at (Ok u) s k i n x y b w q e t d p =
    subst (λ m. ActsAt s m (λ a c. Stages a n (without_kinds b) c) (record s { replicas = slice_set s.replicas i y })) (sym q)
    (changed-at s (record s { replicas = slice_set s.replicas i y }) i x y (λ a c. Stages a n (without_kinds b) c) w e (down-told (Ok u) x.up d) (ap shown p ∙ stages-seen x n b t.waiting) refl refl)
stages-at (Err z) s k i n x y b w q e t d p = tt

pub down-at : (r : Result (Unit {0}) ReplicaError) (s : StateView) (k i : ℕ) (x : ReplicaView) → IsState s → k ≡ 1 + i → slice_get s.replicas i ≡ Some x → (r ≡ Err errors.Down) ↔ (x.up ≡ false) → r ≡ Err errors.Down → IsDownIn s k
down-at r s k i x w q e d f = subst (IsDownIn s) (sym q) (down-in s i x w e (d.0 f))

pub unstages-at : (s : StateView) (k i n : ℕ) (p : Option ℕ) (x y : ReplicaView) → IsState s → k ≡ 1 + i → slice_get s.replicas i ≡ Some x → IsStandingReplica x → y ≡ record x { staged = without x.staged (record { partition = p; number = n }) }
    → ChangesAt s k (λ a c. Unstages a p n c) (record s { replicas = slice_set s.replicas i y })
unstages-at s k i n p x y w q e t d = record {
  old = shown x;
  new = shown y;
  at = λ made attempts events. subst (λ m. IsNumbered (cluster_of s made attempts events) m (shown x)) (sym q) (numbered-at s i x made attempts events w e);
  does = ap shown d ∙ unstages-seen x p n t.waiting;
  change = replicas-set s i x y w e ∙ ap (λ m. with_replica (map shown s.replicas) m (shown y)) (sym q);
  table = refl;
}

-- ---- whether a block is staged

-- all replicas are numbered from the first number on
later : (tree : Held) (k : ℕ) (rs : List ReplicaView) (r : Replica) → AreNumbered tree k rs → Has (map shown rs) r → r.number < k → ⊥
later tree k [] r n h l = h
later tree k (y ∷ rs) r n (inl q) l = let a = n.0.numbered in let b = ap (λ (z : Replica). z.number) q in omega (arith, a, b, l)
later tree k (y ∷ rs) r n (inr h) l = later tree (k + 1) rs r n.1 h (omega (arith, l))

-- a replica of the number of a place is the one there
pub one-numbered : (tree : Held) (k : ℕ) (rs : List ReplicaView) (i : ℕ) (x : ReplicaView) (r : Replica) → AreNumbered tree k rs → slice_get rs i ≡ Some x → Has (map shown rs) r → r.number ≡ k + i → r ≡ shown x
one-numbered tree k [] i x r n e h m = absurd h
one-numbered tree k (y ∷ rs) zero x r n e (inl q) m = sym q ∙ ap shown (some-same y x e)
one-numbered tree k (y ∷ rs) zero x r n e (inr h) m = absurd (later tree (k + 1) rs r n.1 h (let q : r.number ≡ k = omega (arith, m) in omega (arith, q)))
one-numbered tree k (y ∷ rs) (suc i) x r n e (inl q) m = let a = n.0.numbered in let b = ap (λ (z : Replica). z.number) q in absurd (omega (arith, a, b, m))
one-numbered tree k (y ∷ rs) (suc i) x r n e (inr h) m = one-numbered tree (k + 1) rs i x r n.1 e h (omega (arith, m))

-- the block that is found is staged there
there : (s : StateView) (k i n : ℕ) (p : Option ℕ) (x : ReplicaView) (b : BlockView) → IsState s → k ≡ 1 + i → slice_get s.replicas i ≡ Some x → IsStandingReplica x → staged_at x.staged (record { partition = p; number = n }) ≡ Some b → HasSomeBlockAt s k p n
there s k i n p x b w q e t f =
    let g = found (record { partition = p; number = n }) x.staged b t.waiting.own f in (
      without_kinds b,
      record {
        replica = shown x;
        at = λ made attempts events. subst (λ m. IsNumbered (cluster_of s made attempts events) m (shown x)) (sym q) (numbered-at s i x made attempts events w e);
        staged = record { is_in = g.0; partition = g.1 };
      },
    )

nowhere : (s : StateView) (k i n : ℕ) (p : Option ℕ) (x : ReplicaView) → IsState s → k ≡ 1 + i → slice_get s.replicas i ≡ Some x → IsStandingReplica x → staged_at x.staged (record { partition = p; number = n }) ≡ None → HasSomeBlockAt s k p n → ⊥
nowhere s k i n p x w q e t f h =
    let a = h.1.at 0 [] [] in
    let r : h.1.replica ≡ shown x = one-numbered s.tree 1 s.replicas i x h.1.replica w.numbered e a.is_in (a.number ∙ q) in
    let z = subst (λ (v : Replica). Has v.staged (record { number = n; block = h.0 })) r h.1.staged.is_in in
    missing (record { partition = p; number = n }) x.staged t.waiting.own f (record { number = n; block = h.0 }) z h.1.staged.partition refl

pub some-block : {A : Type 0} (o : Option A) (f : A → BlockView) (s : StateView) (k i n : ℕ) (p : Option ℕ) (x : ReplicaView) → IsState s → k ≡ 1 + i → slice_get s.replicas i ≡ Some x → IsStandingReplica x → option_map f o ≡ staged_at x.staged (record { partition = p; number = n })
    → IsTrue (is_some o) ↔ HasSomeBlockAt s k p n
some-block (Some a) f s k i n p x w q e t g = (λ u. there s k i n p x (f a) w q e t (sym g), λ h. refl)
some-block None f s k i n p x w q e t g = (λ u. absurd (cc), λ h. absurd (nowhere s k i n p x w q e t (sym g) h))

pub is-some-copied : {T : Type 0} (o : Option (Bor T)) → is_some (option_copied o) ≡ is_some o
is-some-copied None = refl
is-some-copied (Some x) = refl
