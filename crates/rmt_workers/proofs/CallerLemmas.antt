-- What a caller needs before the first crew begins: a new table is at rest.
use Rattle.std.proofs.Common.{◌≡◌, inl, inr, ℕ, zero, suc, ◌+◌, ◌<◌, ◌≤◌, Bool, true, false, List, [], ◌∷◌, length, map, get_or, replicate, refl, sym, ap, subst, arith, ◌∙◌}
use Rattle.std.specs.List.Sorted.{IsStrictlySortedBy}
use Rattle.std.specs.Map.{keys_of}
use Rattle.rmt_values.specs.Rows.{Shape}
use Rattle.rmt_block.specs.Blocks.{BlockView}
use Rattle.rmt_model.specs.Words.{Each, Has}
use Rattle.rmt_model.specs.Lawful.{Lawful}
use Rattle.rmt_entries.specs.declared.entry.Entry.{Entry}
use Rattle.rmt_events.specs.Views.{Block, Replica, Table}
use Rattle.rmt_events.specs.Starts.{AreNew, new_table}
use Rattle.rmt_clients.specs.Clients.{AreAccepted}
use Rattle.rmt_table_model.specs.Held.{Held}
use Rattle.rmt_table.specs.TableTrees.{table_at}
use Rattle.rmt_replica.specs.Replicas.{ReplicaView}
use Rattle.rmt_replica.specs.SeenReplica.{shown}
use Rattle.rmt_replica.specs.StagedBlocks.{number_cmp}
use Rattle.rmt_state.specs.States.{StateView}
use Rattle.rmt_state.specs.NewStates.{IsNewState, empty_replica, empty_replicas}
use Rattle.rmt_known.specs.KnownTables.{Known, fetching_at, new_known}
use Rattle.rmt_pass.specs.Passes.{up_in}
use Rattle.rmt_pass.specs.DrainSteps.{HasSession}
use Rattle.rmt_pass.proofs.SwitchLemmas.{are-open}
use Rattle.rmt_workers.specs.Closing.{IsAtRest, IsAtRestReplica}

as-many : {A : Type 0} (n : ℕ) (x : A) → length (replicate n x) ≡ n
as-many zero x = refl
as-many (suc n) x = ap suc (as-many n x)

as-many-replicas : (schema : Shape) (k : ℕ) (up : List Bool) → length (empty_replicas schema k up) ≡ length up
as-many-replicas schema k [] = refl
as-many-replicas schema k (b ∷ up) = ap suc (as-many-replicas schema (k + 1) up)

each-same : {A : Type 0} (n m : ℕ) (x : A) → get_or (replicate n x) m x ≡ x
each-same zero m x = refl
each-same (suc n) zero x = refl
each-same (suc n) (suc m) x = each-same n m x

all-fetch : (n r : ℕ) → fetching_at (replicate n true) r ≡ true
all-fetch n zero = refl
all-fetch n (suc r) = each-same n r true

-- no numbers are in order
none-staged : IsStrictlySortedBy number_cmp (keys_of {X = BlockView} [])
unfolding IsStrictlySortedBy
none-staged = tt

-- a replica that has nothing is at rest
empty-rests : (O : Block → Type 0) (up : List Bool) (schema : Shape) (n : ℕ) (tree : Held) (k : ℕ) (b : Bool) → b ≡ up_in up k → IsAtRestReplica O up (new_known schema n) tree (empty_replica schema k b)
empty-rests O up schema n tree k b e = record {
  standing = record {
    lawful = tt;
    marks = refl;
    fair = record { apart = tt; made_here = tt; kept = tt; answered = λ a m. absurd m };
    made = tt;
    waiting = record { rising = none-staged; own = tt };
    notes = tt;
  };
  ups = e;
  fetches = sym (all-fetch n k);
  has_known = record { kept = tt; answered = λ a m. absurd m };
  few = omega arith;
  row = record { copy = refl; parts = tt };
  blocks = record { staged = tt; parts = tt };
  fitting = tt;
}

-- so are all of them: k is how many come before
all-rest : (O : Block → Type 0) (all : List Bool) (schema : Shape) (n : ℕ) (tree : Held) (k : ℕ) (up : List Bool) → ((i : ℕ) → i < length up → get_or up i false ≡ get_or all (k + i) false) → Each (IsAtRestReplica O all (new_known schema n) tree) (empty_replicas schema (suc k) up)
all-rest O all schema n tree k [] f = tt
all-rest O all schema n tree k (b ∷ up) f = (
  empty-rests O all schema n tree (suc k) b (f 0 (omega arith) ∙ ap (λ (i : ℕ). get_or all i false) (let q : k + 0 ≡ k = omega arith in q)),
  subst (λ (i : ℕ). Each (IsAtRestReplica O all (new_known schema n) tree) (empty_replicas schema i up)) (let q : suc (suc k) ≡ suc k + 1 = omega arith in q)
      (all-rest O all schema n tree (suc k) up (λ i l. f (suc i) (omega (arith, l)) ∙ ap (λ (j : ℕ). get_or all j false) (let q : k + suc i ≡ suc k + i = omega arith in q))),
)

-- the replica of a number is among them
is-among : (schema : Shape) (k : ℕ) (up : List Bool) (i : ℕ) → i < length up → Has (map shown (empty_replicas schema k up)) (shown (empty_replica schema (k + i) (get_or up i false)))
is-among schema k [] i l = absurd (omega (arith, l))
is-among schema k (b ∷ up) zero l = inl (ap (λ (n : ℕ). shown (empty_replica schema n b)) (let q : k ≡ k + 0 = omega arith in q))
is-among schema k (b ∷ up) (suc i) l = inr (subst (λ (n : ℕ). Has (map shown (empty_replicas schema (k + 1) up)) (shown (empty_replica schema n (get_or up i false)))) (let q : k + 1 + i ≡ k + suc i = omega arith in q) (is-among schema (k + 1) up i (omega (arith, l))))

-- a new table is at rest, and nothing is known of it
pub new-at-rest : (O : Block → Type 0) (schema : Shape) (up : List Bool) (known : Known) (s : StateView) → IsNewState schema up s → length up ≤ 8 → known ≡ new_known schema (length up) → IsAtRest O up known s
new-at-rest O schema up known s new few is = subst (λ (k : Known). IsAtRest O up k s) (sym is) at-rest
  where
    schema-is : s.tree.schema ≡ schema
    schema-is = ap (λ (t : Table). t.schema) new.table

    log-is : s.tree.log ≡ []
    log-is = ap (λ (t : Table). t.log) new.table

    values-is : s.tree.values ≡ 0
    values-is = ap (λ (t : Table). t.values) new.table

    all : length s.replicas ≡ length up
    all = ap (λ (rs : List ReplicaView). length rs) new.empty ∙ as-many-replicas schema 1 up

    among : (i : ℕ) → i < length up → Has (map shown s.replicas) (shown (empty_replica schema (1 + i) (get_or up i false)))
    among i l = subst (λ (rs : List ReplicaView). Has (map shown rs) (shown (empty_replica schema (1 + i) (get_or up i false)))) (sym new.empty) (is-among schema 1 up i l)

    session : (i : ℕ) → i < length up → (b : Bool) → get_or up i false ≡ b → HasSession s.tree (1 + i) b
    session i l true e = (new.replicas.each (shown (empty_replica schema (1 + i) (get_or up i false))) (among i l)).1 e
    session i l false e = λ has. let t : get_or up i false ≡ true = (new.replicas.each (shown (empty_replica schema (1 + i) (get_or up i false))) (among i l)).2 has in let q : true ≡ false = sym t ∙ e in absurd (cc)

    set : (j : ℕ) → 1 ≤ j → j < length up + 1 → HasSession s.tree j (up_in up j)
    set zero l m = absurd (omega (arith, l))
    set (suc i) l m = subst (λ (n : ℕ). HasSession s.tree n (up_in up (suc i))) (let q : 1 + i ≡ suc i = omega arith in q) (session i (omega (arith, m)) (get_or up i false) refl)

    count : length s.tree.sessions ≡ length up
    count = sym new.numbered.all ∙ all

    at-rest : IsAtRest O up (new_known schema (length up)) s
    at-rest = record {
      state = new.numbered;
      lawful = subst (λ (l : List Entry). Lawful s.tree.schema l) (sym log-is) tt;
      of = record {
        copy = record { schema = sym schema-is; row = refl };
        few = omega arith;
        fetching = as-many (length up) true;
        marks = as-many (length up) [];
      };
      sees = record {
        schema = sym schema-is;
        log = sym log-is;
        next = sym (ap (λ (t : Table). t.next) new.table);
        quorum = sym (ap (λ (t : Table). t.quorum) new.table);
      };
      sessions = are-open up s.tree (length up + 1) set refl count (omega (arith, count, few));
      all = all;
      blocks = record { blocks = []; accepted = subst (λ (l : List Entry). AreAccepted O l []) (sym log-is) tt; counted = values-is };
      replicas = subst (λ (rs : List ReplicaView). Each (IsAtRestReplica O up (new_known schema (length up)) s.tree) rs) (sym new.empty) (all-rest O up schema (length up) s.tree 0 up (λ i l. ap (λ (j : ℕ). get_or up j false) (let q : i ≡ 0 + i = omega arith in q)));
    }
