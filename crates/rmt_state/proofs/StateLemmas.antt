-- Replicas in the order of their numbers, beside their table.
use Rattle.std.proofs.Common.{◌≡◌, ℕ, zero, suc, ◌+◌, ◌*◌, ◌-◌, ◌<◌, ◌≤◌, inl, inr, Bool, true, false, cond, List, [], ◌∷◌, ◌++◌, length, map, refl, sym, ap, subst, arith, ◌∙◌, nat_eq}
use Rattle.std.proofs.lemmas.Bool.Decides.{nat_tests}
use Rattle.std.specs.Prelude.{slice_get, slice_set}
use Rattle.std.specs.Prelude.{IfOk, OnErr}
use Rattle.std.specs.declared.option.Option.{Option}
use Rattle.std.specs.declared.result.Result.{Result}
use Rattle.std.specs.declared.result.Result.TheVariants.{Ok, Err}
use Rattle.std.specs.declared.option.Option.TheVariants.{Some}
use Rattle.rmt_entries.specs.declared.entry.Entry.{Entry}
use Rattle.rmt_model.specs.Words.{Has}
use Rattle.rmt_model.specs.Lawful.{IsPrefix}
use Rattle.rmt_table_model.specs.Held.{Held}
use Rattle.rmt_table.specs.TableTrees.{IsReplica}
use Rattle.rmt_history.specs.Copies.{IsLogOf}
use Rattle.rmt_replica.specs.Replicas.{ReplicaView, copy_of}
use Rattle.rmt_replica.specs.SeenReplica.{shown}
use Rattle.rmt_events.specs.Views.{Replica}
use Rattle.rmt_events.specs.Clusters.{Attempt, with_replica}
use Rattle.rmt_events.specs.ClusterChanges.{IsNumbered}
use Rattle.rmt_events.specs.declared.event.Event.{Event}
use Rattle.rmt_events.specs.declared.reply.Reply.{Reply}
use Rattle.rmt_state.specs.States.{StateView, Belongs, AreNumbered, IsWorkerAt, IsState, numbers_given, cluster_of}

-- ---- logs

pub prefix-self : (log : List Entry) → IsPrefix log log
prefix-self log = record { gained = []; is = refl }

append-same : (xs ys zs : List Entry) → (xs ++ ys) ++ zs ≡ xs ++ (ys ++ zs)
append-same [] ys zs = refl
append-same (x ∷ xs) ys zs = ap (λ (l : List Entry). x ∷ l) (append-same xs ys zs)

pub prefix-trans : (a b c : List Entry) → IsPrefix a b → IsPrefix b c → IsPrefix a c
prefix-trans a b c p q = record { gained = q.gained ++ p.gained; is = q.is ∙ (ap (λ (l : List Entry). q.gained ++ l) p.is ∙ sym (append-same q.gained p.gained a)) }

-- ---- places

pub some-same : {A : Type 0} (x y : A) → ◌≡◌ {A = Option A} (Some x) (Some y) → x ≡ y
some-same x y e = cc

pub at-err : {A E : Type 0} (r : Result A E) (P : Type 0) → P → OnErr r P
at-err (Ok a) P p = tt
at-err (Err e) P p = p

pub at-place : (tree : Held) (k : ℕ) (rs : List ReplicaView) (i : ℕ) (x : ReplicaView) → AreNumbered tree k rs → slice_get rs i ≡ Some x → Belongs tree (k + i) x
at-place tree k [] i x n e = absurd (cc)
at-place tree k (r ∷ rs) zero x n e = subst (λ m. Belongs tree m x) (let q : k ≡ k + 0 = omega arith in q) (subst (Belongs tree k) (some-same r x e) n.0)
at-place tree k (r ∷ rs) (suc i) x n e = subst (λ m. Belongs tree m x) (let q : k + 1 + i ≡ k + suc i = omega arith in q) (at-place tree (k + 1) rs i x n.1 e)

pub set-place : (tree : Held) (k : ℕ) (rs : List ReplicaView) (i : ℕ) (y : ReplicaView) → AreNumbered tree k rs → Belongs tree (k + i) y → AreNumbered tree k (slice_set rs i y)
set-place tree k [] i y n b = tt
set-place tree k (r ∷ rs) zero y n b = (subst (λ m. Belongs tree m y) (let q : k + 0 ≡ k = omega arith in q) b, n.1)
set-place tree k (r ∷ rs) (suc i) y n b = (n.0, set-place tree (k + 1) rs i y n.1 (subst (λ m. Belongs tree m y) (let q : k + suc i ≡ k + 1 + i = omega arith in q) b))

set-length : (rs : List ReplicaView) (i : ℕ) (y : ReplicaView) → length (slice_set rs i y) ≡ length rs
set-length [] i y = refl
set-length (r ∷ rs) zero y = refl
set-length (r ∷ rs) (suc i) y = ap suc (set-length rs i y)

-- the table has as many replicas as before, and its cells
pub record KeepsTable (old new : Held) : Type 0 where
  pub sessions : length new.sessions ≡ length old.sessions
  pub row : new.row ≡ old.row

-- the table after a call: its log is no shorter, and its schema, its replicas and its cells are as they were
pub record GoesOn (old new : Held) : Type 0 where
  pub schema : new.schema ≡ old.schema
  pub log : IsPrefix old.log new.log
  pub table : KeepsTable old new

pub belongs-on : (old new : Held) (k : ℕ) (r : ReplicaView) → GoesOn old new → Belongs old k r → Belongs new k r
belongs-on old new k r g b = record {
  numbered = b.numbered;
  copy = record {
    schema = b.copy.schema ∙ sym g.schema;
    prefix = prefix-trans r.log old.log new.log b.copy.prefix g.log;
    cells = subst (λ (row : List ℕ). IsLogOf row (copy_of r)) (sym g.table.row) b.copy.cells;
  };
}

numbered-on : (old new : Held) (k : ℕ) (rs : List ReplicaView) → GoesOn old new → AreNumbered old k rs → AreNumbered new k rs
numbered-on old new k [] g n = tt
numbered-on old new k (r ∷ rs) g n = (belongs-on old new k r g n.0, numbered-on old new (k + 1) rs g n.1)

pub state-on : (old new : Held) (rs : List ReplicaView) → GoesOn old new → IsState (record { tree = old; replicas = rs }) → IsState (record { tree = new; replicas = rs })
state-on old new rs g s = record { all = s.all ∙ sym g.table.sessions; numbered = numbered-on old new 1 rs g s.numbered }

pub goes-on-same : (old new : Held) → new ≡ old → GoesOn old new
goes-on-same old new e = subst (GoesOn old) (sym e) (record { schema = refl; log = prefix-self old.log; table = record { sessions = refl; row = refl } })

-- after a call on the table that goes on where it is done, and else changes nothing
pub state-after : {A E : Type 0} (r : Result A E) (P : A → Type 0) (old new : Held) (rs : List ReplicaView) → IsState (record { tree = old; replicas = rs }) → ((a : A) → P a → GoesOn old new) → IfOk r P → OnErr r (new ≡ old) → IsState (record { tree = new; replicas = rs })
state-after (Ok a) P old new rs s f p e = state-on old new rs (f a p) s
state-after (Err x) P old new rs s f p e = state-on old new rs (goes-on-same old new e) s

pub state-set : (tree : Held) (rs : List ReplicaView) (i : ℕ) (y : ReplicaView) → IsState (record { tree = tree; replicas = rs }) → Belongs tree (1 + i) y → IsState (record { tree = tree; replicas = slice_set rs i y })
state-set tree rs i y s b = record { all = set-length rs i y ∙ s.all; numbered = set-place tree 1 rs i y s.numbered b }

-- ---- as a cluster

has-shown : (rs : List ReplicaView) (i : ℕ) (x : ReplicaView) → slice_get rs i ≡ Some x → Has (map shown rs) (shown x)
has-shown [] i x e = absurd (cc)
has-shown (r ∷ rs) zero x e = inl (ap shown (some-same r x e))
has-shown (r ∷ rs) (suc i) x e = inr (has-shown rs i x e)

pub numbered-at : (s : StateView) (i : ℕ) (x : ReplicaView) (made : ℕ) (attempts : List Attempt) (events : List (Event × Reply)) → IsState s → slice_get s.replicas i ≡ Some x → IsNumbered (cluster_of s made attempts events) (1 + i) (shown x)
numbered-at s i x made attempts events w e = record { is_in = has-shown s.replicas i x e; number = Belongs.numbered (at-place s.tree 1 s.replicas i x w.numbered e) }

-- the replica of a number
pub worker-shown : (s : StateView) (k : ℕ) (r : ReplicaView) (made : ℕ) (attempts : List Attempt) (events : List (Event × Reply)) → IsWorkerAt s k r → IsNumbered (cluster_of s made attempts events) k (shown r)
worker-shown s k r made attempts events w = record { is_in = Has-mapped s.replicas w.is_in; number = w.numbered }
  where
    Has-mapped : (rs : List ReplicaView) → Has rs r → Has (map shown rs) (shown r)
    Has-mapped [] h = absurd h
    Has-mapped (x ∷ rs) (inl e) = inl (ap shown e)
    Has-mapped (x ∷ rs) (inr h) = inr (Has-mapped rs h)

-- to set a place is to set the replica of its number
set-shown : (tree : Held) (k : ℕ) (rs : List ReplicaView) (i : ℕ) (x y : ReplicaView) → AreNumbered tree k rs → slice_get rs i ≡ Some x → map shown (slice_set rs i y) ≡ with_replica (map shown rs) (k + i) (shown y)
set-shown tree k [] i x y n e = absurd (cc)
set-shown tree k (r ∷ rs) zero x y n e =
    let q = n.0.numbered in
    let t : nat_eq r.number (k + 0) ≡ true = grind (arith, nat_tests) in
    sym (ap (λ (b : Bool). cond b (shown y ∷ map shown rs) (shown r ∷ with_replica (map shown rs) (k + 0) (shown y))) t)
set-shown tree k (r ∷ rs) (suc i) x y n e =
    let q = n.0.numbered in
    let t : nat_eq r.number (k + suc i) ≡ false = grind (arith, nat_tests) in
    let f : with_replica (map shown rs) (k + 1 + i) (shown y) ≡ with_replica (map shown rs) (k + suc i) (shown y) = ap (λ m. with_replica (map shown rs) m (shown y)) (let q : k + 1 + i ≡ k + suc i = omega arith in q) in
    ap (λ (vs : List Replica). shown r ∷ vs) (set-shown tree (k + 1) rs i x y n.1 e ∙ f) ∙ sym (ap (λ (b : Bool). cond b (shown y ∷ map shown rs) (shown r ∷ with_replica (map shown rs) (k + suc i) (shown y))) t)

pub replicas-set : (s : StateView) (i : ℕ) (x y : ReplicaView) → IsState s → slice_get s.replicas i ≡ Some x → map shown (slice_set s.replicas i y) ≡ with_replica (map shown s.replicas) (1 + i) (shown y)
replicas-set s i x y w e = set-shown s.tree 1 s.replicas i x y w.numbered e

-- a replica's place, by its number
pub place-of : (s : StateView) (k : ℕ) → IsState s → IsReplica s.tree k → (k ≡ 1 + (k - 1)) × (k - 1 < length s.replicas)
place-of s k w r = let f = r.first in let l = r.last in let a = w.all in (omega (arith, f), omega (arith, f, l, a))

-- ---- numbers given

pub given-few : (xs : List (Option ℕ × ℕ)) → ((p : Option ℕ) (n : ℕ) → Has xs (p, n) → n ≤ 65536) → numbers_given xs ≤ length xs * 65536
given-few [] f = omega arith
given-few (x ∷ xs) f = let a = f x.0 x.1 (inl refl) in let i = given-few xs (λ p n h. f p n (inr h)) in omega (arith, a, i)
