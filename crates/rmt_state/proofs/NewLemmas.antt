-- A new table with its replicas.
use Rattle.std.proofs.Common.{◌≡◌, ℕ, suc, ◌+◌, ◌<◌, ◌≤◌, inl, inr, Bool, true, false, cond, not, List, [], ◌∷◌, ◌++◌, length, map, take, get_or, filter, refl, sym, ap, subst, arith, ◌∙◌, nat_eq, nat_lt}
use Rattle.std.proofs.lemmas.Bool.Decides.{nat_tests}
use Rattle.std.proofs.lemmas.List.{take_more, append-nil, length-take-le}
use Rattle.rmt_values.specs.Rows.{Shape}
use Rattle.rmt_model.specs.Words.{Has, Each, Pairwise}
use Rattle.rmt_history.proofs.ListLemmas.{take-none}
use Rattle.rmt_table_model.specs.Held.{Held}
use Rattle.rmt_table.specs.TableTrees.{table_at}
use Rattle.rmt_replica.specs.Replicas.{ReplicaView}
use Rattle.rmt_replica.specs.SeenReplica.{shown}
use Rattle.rmt_events.specs.Views.{Replica, Table}
use Rattle.rmt_events.specs.TableCalls.{Opens, with_session}
use Rattle.rmt_events.specs.Whole.{IsWhole}
use Rattle.rmt_events.specs.Starts.{new_replica, new_table, new_cluster, AreNew}
use Rattle.rmt_events.proofs.Started.{whole-start}
use Rattle.rmt_state.specs.States.{StateView, AreNumbered, IsState, cluster_of}
use Rattle.rmt_state.specs.NewStates.{IsNewState, numbers_up, empty_replica, empty_replicas}

-- ---- as a cluster

pub new-cluster : (schema : Shape) (up : List Bool) (s : StateView) → IsNewState schema up s → cluster_of s 0 [] [] ≡ new_cluster schema (table_at s.tree).sessions (map shown s.replicas)
new-cluster schema up s n = ap (λ (t : Table). record (cluster_of s 0 [] []) { table = t }) n.table

pub new-is-whole : (schema : Shape) (up : List Bool) (s : StateView) → IsNewState schema up s → IsWhole (cluster_of s 0 [] [])
new-is-whole schema up s n = subst IsWhole (sym (new-cluster schema up s n)) (whole-start schema (table_at s.tree).sessions (map shown s.replicas) n.replicas)

-- ---- one more replica

numbers-more : (k m : ℕ) (up : List Bool) (b : Bool) → m ≡ k + length up → numbers_up k (up ++ b ∷ []) ≡ numbers_up k up ++ numbers_up m (b ∷ [])
numbers-more k m [] b e = ap (λ (j : ℕ). numbers_up j (b ∷ [])) (let q : k ≡ m = omega (arith, e) in q)
numbers-more k m (true ∷ up) b e = ap (λ (l : List ℕ). k ∷ l) (numbers-more (k + 1) m up b (omega (arith, e)))
numbers-more k m (false ∷ up) b e = numbers-more (k + 1) m up b (omega (arith, e))

replicas-more : (schema : Shape) (k m : ℕ) (up : List Bool) (b : Bool) → m ≡ k + length up → empty_replicas schema k (up ++ b ∷ []) ≡ empty_replicas schema k up ++ empty_replica schema m b ∷ []
replicas-more schema k m [] b e = ap (λ (j : ℕ). empty_replica schema j b ∷ []) (let q : k ≡ m = omega (arith, e) in q)
replicas-more schema k m (c ∷ up) b e = ap (λ (l : List ReplicaView). empty_replica schema k c ∷ l) (replicas-more schema (k + 1) m up b (omega (arith, e)))

-- the session of a replica after all others
session-last : (k m : ℕ) (up : List Bool) → k + length up ≤ m → with_session m (filter (λ s. not (nat_eq s m)) (numbers_up k up)) ≡ numbers_up k up ++ m ∷ []
session-last k m [] h = refl
session-last k m (false ∷ up) h = session-last (k + 1) m up (omega (arith, h))
session-last k m (true ∷ up) h =
    let others : List ℕ = filter (λ s. not (nat_eq s m)) (numbers_up (k + 1) up) in
    let e : nat_eq k m ≡ false = grind (arith, nat_tests) in
    let t : nat_lt k m ≡ true = grind (arith, nat_tests) in
    ap (λ (b : Bool). with_session m (cond (not b) (k ∷ others) others)) e
    ∙ ap (λ (b : Bool). cond b (k ∷ with_session m others) (m ∷ k ∷ others)) t
    ∙ ap (λ (l : List ℕ). k ∷ l) (session-last (k + 1) m up (omega (arith, h)))

-- one more place of which the numbers were read
numbers-next : (up : List Bool) (i r : ℕ) (b : Bool) → i < length up → r ≡ i + 1 → get_or up i false ≡ b → numbers_up 1 (take (i + 1) up) ≡ numbers_up 1 (take i up) ++ numbers_up r (b ∷ [])
numbers-next up i r b h e q =
    let n = length-take-le i up (omega (arith, h)) in
    ap (numbers_up 1) (take_more up i false h ∙ ap (λ (x : Bool). take i up ++ x ∷ []) q) ∙ numbers-more 1 r (take i up) b (omega (arith, n, e))

pub session-next : (schema : Shape) (up : List Bool) (i r : ℕ) (old new : Held) → i < length up → r ≡ i + 1 → get_or up i false ≡ true → table_at old ≡ new_table schema (numbers_up 1 (take i up)) → Opens (table_at old) r (table_at new) → table_at new ≡ new_table schema (numbers_up 1 (take (i + 1) up))
session-next schema up i r old new h e q t c =
    let n = length-take-le i up (omega (arith, h)) in
    c
    ∙ ap (λ (u : Table). record u { sessions = with_session r (filter (λ s. not (nat_eq s r)) u.sessions) }) t
    ∙ ap (new_table schema) (session-last 1 r (take i up) (omega (arith, n, e)) ∙ sym (numbers-next up i r true h e q))

pub no-session-next : (schema : Shape) (up : List Bool) (i : ℕ) (old : Held) → i < length up → get_or up i false ≡ false → table_at old ≡ new_table schema (numbers_up 1 (take i up)) → table_at old ≡ new_table schema (numbers_up 1 (take (i + 1) up))
no-session-next schema up i old h q t = t ∙ ap (new_table schema) (sym (numbers-next up i (i + 1) false h refl q ∙ append-nil (numbers_up 1 (take i up))))

pub replica-next : (schema : Shape) (up : List Bool) (i r : ℕ) (b : Bool) (xs ys : List ReplicaView) (x : ReplicaView) → i < length up → r ≡ i + 1 → get_or up i false ≡ b → xs ≡ empty_replicas schema 1 (take i up) → x ≡ empty_replica schema r b → ys ≡ xs ++ x ∷ [] → ys ≡ empty_replicas schema 1 (take (i + 1) up)
replica-next schema up i r b xs ys x h e q t y c =
    let n = length-take-le i up (omega (arith, h)) in
    c
    ∙ ap (λ (l : List ReplicaView). l ++ x ∷ []) t
    ∙ ap (λ (z : ReplicaView). empty_replicas schema 1 (take i up) ++ z ∷ []) y
    ∙ sym (ap (empty_replicas schema 1) (take_more up i false h ∙ ap (λ (z : Bool). take i up ++ z ∷ []) q) ∙ replicas-more schema 1 r (take i up) b (omega (arith, n, e)))

-- the sessions of the first i replicas were started, where they are up
pub record OpensFirst (schema : Shape) (up : List Bool) (i number : ℕ) (tree : Held) : Type 0 where
  pub counted : number ≡ i
  pub sessions : table_at tree ≡ new_table schema (numbers_up 1 (take i up))
  pub replicas : length tree.sessions ≡ length up

-- the first i replicas were made
pub record MakesFirst (schema : Shape) (up : List Bool) (i number : ℕ) (replicas : List ReplicaView) : Type 0 where
  pub counted : number ≡ i
  pub made : replicas ≡ empty_replicas schema 1 (take i up)

-- ---- all of them

empty-length : (schema : Shape) (k : ℕ) (up : List Bool) → length (empty_replicas schema k up) ≡ length up
empty-length schema k [] = refl
empty-length schema k (b ∷ up) = ap suc (empty-length schema (k + 1) up)

empty-up : (schema : Shape) (k : ℕ) (up : List Bool) → map (λ (r : ReplicaView). r.up) (empty_replicas schema k up) ≡ up
empty-up schema k [] = refl
empty-up schema k (b ∷ up) = ap (λ (l : List Bool). b ∷ l) (empty-up schema (k + 1) up)

empty-numbered : (tree : Held) (k : ℕ) (up : List Bool) → AreNumbered tree k (empty_replicas tree.schema k up)
empty-numbered tree k [] = tt
empty-numbered tree k (b ∷ up) = (record { numbered = refl; copy = record { schema = refl; prefix = record { gained = tree.log; is = sym (append-nil tree.log) }; cells = sym (take-none tree.row) } }, empty-numbered tree (k + 1) up)

numbers-from : (k n : ℕ) (up : List Bool) → Has (numbers_up k up) n → k ≤ n
numbers-from k n [] h = absurd h
numbers-from k n (true ∷ up) (inl e) = omega (arith, e)
numbers-from k n (true ∷ up) (inr h) = let l = numbers-from (k + 1) n up h in omega (arith, l)
numbers-from k n (false ∷ up) h = let l = numbers-from (k + 1) n up h in omega (arith, l)

replicas-from : (schema : Shape) (j k : ℕ) (up : List Bool) → j < k → Each (λ (y : Replica). j < y.number) (map shown (empty_replicas schema k up))
replicas-from schema j k [] h = tt
replicas-from schema j k (b ∷ up) h = (h, replicas-from schema j (k + 1) up (omega (arith, h)))

empty-rising : (schema : Shape) (k : ℕ) (up : List Bool) → Pairwise (λ x y. x.number < y.number) (map shown (empty_replicas schema k up))
empty-rising schema k [] = tt
empty-rising schema k (b ∷ up) = (replicas-from schema k (k + 1) up (omega arith), empty-rising schema (k + 1) up)

-- the replica has nothing, and is one of these numbers where it is up
record IsEmpty (numbers : List ℕ) (k : ℕ) (x : Replica) : Type 0 where
  from : k ≤ x.number
  empty : x ≡ new_replica x.number x.up
  is_in : x.up ≡ true → Has numbers x.number
  is_up : Has numbers x.number → x.up ≡ true

empty-first : (k : ℕ) (b : Bool) (up : List Bool) → IsEmpty (numbers_up k (b ∷ up)) k (new_replica k b)
empty-first k true up = record { from = omega arith; empty = refl; is_in = λ e. inl refl; is_up = λ h. refl }
empty-first k false up = record { from = omega arith; empty = refl; is_in = λ e. absurd (cc); is_up = λ h. let l = numbers-from (k + 1) k up h in absurd (omega (arith, l)) }

empty-rest : (k : ℕ) (b : Bool) (up : List Bool) (x : Replica) → IsEmpty (numbers_up (k + 1) up) (k + 1) x → IsEmpty (numbers_up k (b ∷ up)) k x
empty-rest k false up x r = let f = r.from in record { from = omega (arith, f); empty = r.empty; is_in = r.is_in; is_up = r.is_up }
empty-rest k true up x r = let f = r.from in record { from = omega (arith, f); empty = r.empty; is_in = λ e. inr (r.is_in e); is_up = go }
  where
    go : Has (k ∷ numbers_up (k + 1) up) x.number → x.up ≡ true
    go (inl e) = let f = r.from in absurd (omega (arith, f, e))
    go (inr h) = r.is_up h

empty-each : (schema : Shape) (k : ℕ) (up : List Bool) (x : Replica) → Has (map shown (empty_replicas schema k up)) x → IsEmpty (numbers_up k up) k x
empty-each schema k [] x h = absurd h
empty-each schema k (b ∷ up) x (inl e) = subst (IsEmpty (numbers_up k (b ∷ up)) k) e (empty-first k b up)
empty-each schema k (b ∷ up) x (inr h) = empty-rest k b up x (empty-each schema (k + 1) up x h)

empty-are-new : (schema : Shape) (up : List Bool) → AreNew (numbers_up 1 up) (map shown (empty_replicas schema 1 up))
empty-are-new schema up = record {
  rising = empty-rising schema 1 up;
  each = λ x h. let e = empty-each schema 1 up x h in (e.empty, e.is_in, e.is_up);
}

-- a new table, then the sessions of the replicas that are up, and these replicas
module _ (schema : Shape) (up : List Bool) (first tree : Held) (rs : List ReplicaView) (f : table_at first ≡ new_table schema []) (t : table_at tree ≡ new_table first.schema (numbers_up 1 up)) (r : rs ≡ empty_replicas schema 1 up) where
  opened : table_at tree ≡ new_table schema (numbers_up 1 up)
  opened = t ∙ ap (λ (u : Table). new_table u.schema (numbers_up 1 up)) f

  pub new-standing : length tree.sessions ≡ length up → IsState (record { tree = tree; replicas = rs })
  new-standing n = subst (λ (l : List ReplicaView). IsState (record { tree = tree; replicas = l })) (sym r) (record {
    all = empty-length schema 1 up ∙ sym n;
    numbered = subst (λ (h : Shape). AreNumbered tree 1 (empty_replicas h 1 up)) (ap (λ (u : Table). u.schema) opened) (empty-numbered tree 1 up);
  })

  pub new-state : length tree.sessions ≡ length up → IsNewState schema up (record { tree = tree; replicas = rs })
  new-state n =
      let s : numbers_up 1 up ≡ (table_at tree).sessions = sym (ap (λ (u : Table). u.sessions) opened) in
      record {
        numbered = new-standing n;
        table = opened ∙ ap (new_table schema) s;
        replicas = subst (λ (l : List ReplicaView). AreNew (table_at tree).sessions (map shown l)) (sym r) (subst (λ (l : List ℕ). AreNew l (map shown (empty_replicas schema 1 up))) s (empty-are-new schema up));
        up_ones = ap (map (λ (x : ReplicaView). x.up)) r ∙ empty-up schema 1 up;
        empty = r;
      }
