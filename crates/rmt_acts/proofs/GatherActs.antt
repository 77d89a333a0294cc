-- A quorum is gathered: who is asked for a copy, and what the cluster shows after each.
use Rattle.std.proofs.Common.{◌≡◌, ℕ, zero, suc, ◌+◌, ◌-◌, ◌<◌, ◌≤◌, ◌∙◌, ◌&&◌, inl, inr, Bool, true, false, not, nat_eq, nat_le, List, [], ◌∷◌, length, map, filter, refl, sym, ap, subst, arith}
use Rattle.std.proofs.lemmas.Bool.Decides.{nat_tests}
use Rattle.std.proofs.lemmas.List.{length-map}
use Rattle.std.proofs.lemmas.Option.{slice_get-map}
use Rattle.std.specs.Prelude.{slice_get}
use Rattle.std.specs.Option.{option_map}
use Rattle.std.specs.Option.{is_some}
use Rattle.std.specs.declared.option.Option.{Option}
use Rattle.std.specs.declared.option.Option.TheVariants.{Some, None}
use Rattle.rmt_entries.specs.declared.entry.Entry.{Entry}
use Rattle.rmt_entries.specs.declared.entry.Entry.TheVariants.{Get}
use Rattle.rmt_model.specs.Lawful.{entry_at}
use Rattle.rmt_names.specs.Names.{Name}
use Rattle.rmt_model.specs.Words.{Has, Each, Pairwise}
use Rattle.rmt_model.specs.Quorum.{Pending, Quorum, quorum_after_note}
use Rattle.rmt_model.proofs.Lists.{Each-at, Has-filter, Has-kept, Pairwise-filter}
use Rattle.rmt_table_model.specs.Held.{Held}
use Rattle.rmt_table_model.specs.Tables.{session_of}
use Rattle.rmt_table.specs.TableTrees.{table_at}
use Rattle.rmt_table.specs.SeenTable.{opened_from}
use Rattle.rmt_table.proofs.Orders.{same-lists}
use Rattle.rmt_table.proofs.SessionLemmas.{opened-from, opened-rising, numbers-order}
use Rattle.rmt_replica.specs.Replicas.{ReplicaView}
use Rattle.rmt_replica.specs.SeenReplica.{shown}
use Rattle.rmt_events.specs.Views.{Replica, Table}
use Rattle.rmt_events.specs.Clusters.{Cluster}
use Rattle.rmt_events.specs.Whole.{Follows, HasReplica, IsWhole}
use Rattle.rmt_events.specs.ClusterChanges.{IsNumbered}
use Rattle.rmt_events.specs.Steps.{Step}
use Rattle.rmt_events.proofs.WholeSteps.{whole-step}
use Rattle.rmt_events.specs.declared.event.Event.TheVariants as ev
use Rattle.rmt_events.specs.declared.event.Event.{Event}
use Rattle.rmt_state.specs.States.{StateView, AreNumbered, IsState, IsNumber}
use Rattle.rmt_state.proofs.StateLemmas.{at-place}
use Rattle.rmt_history.proofs.ListLemmas.{get-has}
use Rattle.rmt_cluster.proofs.ReadingLemmas.{has-replica}
use Rattle.rmt_statement_model.specs.TableStates.{TableState, learned}
use Rattle.rmt_statement_model.specs.QuorumCopies.{replica_numbers, count_live, is_waiting, is_asked, copied}
use Rattle.rmt_statement_model.specs.Gathered.{copied_to, gathered, gathered_for}
use Rattle.rmt_statement_model.specs.Inserts.{Asked}
use Rattle.rmt_statement_model.specs.Shows.{HoldsNone, IsIdle, Shows, fetching_of, up_at, ups}
use Rattle.rmt_statement_model.specs.Attempts.{HasPending}
use Rattle.rmt_statement_model.proofs.UpLaws.{up-of, ups-step}
use Rattle.rmt_statement_model.proofs.SwitchLaws.{fetching-told}
use Rattle.rmt_statement_model.proofs.LockSteps.{none-held}
use Rattle.rmt_statement_model.proofs.LostSourceLaws.{up-there}
use Rattle.rmt_statement_model.proofs.StillLive.{some-shown}
use Rattle.rmt_statement_model.proofs.CopyRows.{learned-here, note-shows, note-pending, copies, copies-pending, copied-next}
use Rattle.rmt_acts.specs.StatementEvents.{Makes, CopiesWhere}
use Rattle.rmt_acts.specs.Inserting.{HasGet, MayCopy, Gathered, TellsNoted, TellsWaiting}

-- ---- the replicas that are up are those that have a session

-- the numbers from one on
abbrev numbers : ℕ → ℕ → List ℕ
numbers k zero = []
numbers k (suc n) = k ∷ numbers (k + 1) n

numbers-above : (k j n : ℕ) → k < j → Each (λ i. k < i) (numbers j n)
numbers-above k j zero l = tt
numbers-above k j (suc n) l = (l, numbers-above k (j + 1) n (omega (arith, l)))

numbers-rising : (k n : ℕ) → Pairwise ◌<◌ (numbers k n)
numbers-rising k zero = tt
numbers-rising k (suc n) = (numbers-above k (k + 1) n (omega arith), numbers-rising (k + 1) n)

numbers-has : (k n i : ℕ) → k ≤ i → i < k + n → Has (numbers k n) i
numbers-has k zero i l m = absurd (omega (arith, l, m))
numbers-has k (suc n) i l m = go (nat_eq i k) refl (λ q. numbers-has (k + 1) n i q (omega (arith, m)))
  where
    go : (b : Bool) → nat_eq i k ≡ b → (k + 1 ≤ i → Has (numbers (k + 1) n) i) → Has (k ∷ numbers (k + 1) n) i
    go true e f = inl (let q : k ≡ i = grind (arith, nat_tests) in q)
    go false e f = inr (f (let q : k + 1 ≤ i = grind (arith, nat_tests) in q))

eight : replica_numbers ≡ numbers 1 8
eight = refl

-- a session is there at its place
session-below : (os : List (Option ℕ)) (r s : ℕ) → session_of os r ≡ Some s → r < length os
session-below [] r s e = absurd (cc)
session-below (o ∷ os) zero s e = omega arith
session-below (o ∷ os) (suc r) s e = let l = session-below os r s e in omega (arith, l)

pub live-counted : (s : Cluster) (st : StateView) → IsWhole s → table_at st.tree ≡ s.table → map shown st.replicas ≡ s.replicas → IsState st → length st.tree.sessions ≤ 8 → length s.table.sessions ≡ count_live (ups s)
live-counted s st w table replicas state few = ap (λ (xs : List ℕ). length xs) (sym sessions ∙ same)
  where
    sessions : opened_from 1 st.tree.sessions ≡ s.table.sessions
    sessions = ap (λ (t : Table). t.sessions) table

    forth : (k : ℕ) → Has (opened_from 1 st.tree.sessions) k → Has (filter (ups s) replica_numbers) k
    forth k h =
        let x = opened-from st.tree.sessions 1 k h in
        let l = session-below st.tree.sessions x.replica x.session x.opened in
        let n = x.number in
        let all = state.all in
        let here : IsNumber k (length st.replicas) = record { first = omega (arith, n); last = omega (arith, n, l, all) } in
        let y = subst (λ (xs : List Replica). HasReplica xs k) replicas (has-replica st k state here) in
        let f = Each-at (Follows s) s.replicas y.replica w.follow y.is_in in
        let up = (Follows.session f).1 (subst (λ j. Has s.table.sessions j) (sym y.numbered) (subst (λ (xs : List ℕ). Has xs k) sessions h)) in
        let told : ups s k ≡ true = ap (λ j. up_at s.replicas j) (sym y.numbered) ∙ (up-of s.replicas y.replica w.rising y.is_in ∙ up) in
        Has-kept (ups s) replica_numbers k (numbers-has 1 8 k (omega (arith, n)) (omega (arith, n, l, few))) told

    back : (k : ℕ) → Has (filter (ups s) replica_numbers) k → Has (opened_from 1 st.tree.sessions) k
    back k h =
        let y = up-there s.replicas k (Has-filter (ups s) replica_numbers k h).1 in
        let f = Each-at (Follows s) s.replicas y.replica w.follow y.is_in in
        subst (λ (xs : List ℕ). Has xs k) (sym sessions) (subst (λ j. Has s.table.sessions j) y.number ((Follows.session f).0 y.up))

    same : opened_from 1 st.tree.sessions ≡ filter (ups s) replica_numbers
    same = same-lists ◌<◌ numbers-order (opened_from 1 st.tree.sessions) (filter (ups s) replica_numbers) (opened-rising st.tree.sessions 1) (Pairwise-filter ◌<◌ (ups s) replica_numbers (numbers-rising 1 8)) forth back

-- ---- who is asked

-- a replica among those that are numbered from one on has one of their numbers
numbered-within : (tree : Held) (j : ℕ) (rs : List ReplicaView) (y : Replica) → AreNumbered tree j rs → Has (map shown rs) y → (j ≤ y.number) × (y.number < j + length rs)
numbered-within tree j [] y n h = absurd h
numbered-within tree j (r ∷ rs) y n (inl e) = let k = ap (λ (z : Replica). z.number) e in let m = n.0.numbered in (omega (arith, k, m), omega (arith, k, m))
numbered-within tree j (r ∷ rs) y n (inr h) = let x = numbered-within tree (j + 1) rs y n.1 h in let a = x.0 in let b = x.1 in (omega (arith, a), omega (arith, b))

-- a replica that is up is one of those
pub up-here : (s : Cluster) (st : StateView) (k : ℕ) → map shown st.replicas ≡ s.replicas → IsState st → ups s k ≡ true → IsNumber k (length s.replicas)
up-here s st k e state up =
    let y = up-there s.replicas k up in
    let x = numbered-within st.tree 1 st.replicas y.replica state.numbered (subst (λ (xs : List Replica). Has xs y.replica) (sym e) y.is_in) in
    let n = y.number in
    let l = sym (length-map st.replicas shown) ∙ ap length e in
    let a = x.0 in
    let b = x.1 in
    record { first = omega (arith, n, a); last = omega (arith, n, b, l) }

-- the replica at a place has the number behind it
pub there-numbered : (s : Cluster) (st : StateView) (i : ℕ) (r : ReplicaView) → map shown st.replicas ≡ s.replicas → IsState st → slice_get st.replicas i ≡ Some r → IsNumbered s (1 + i) (shown r)
there-numbered s st i r e state there =
    let b = at-place st.tree 1 st.replicas i r state.numbered there in
    record {
      is_in = subst (λ (xs : List Replica). Has xs (shown r)) e (get-has (map shown st.replicas) i (shown r) (slice_get-map shown st.replicas i ∙ ap (λ (o : Option ReplicaView). option_map shown o) there));
      number = b.numbered;
    }

-- where there is none, none is up
past-end : {A : Type 0} (xs : List A) (i : ℕ) → slice_get xs i ≡ None → length xs ≤ i
past-end [] i e = omega arith
past-end (x ∷ xs) zero e = absurd (cc)
past-end (x ∷ xs) (suc i) e = let l = past-end xs i e in omega (arith, l)

pub none-up : (s : Cluster) (st : StateView) (i : ℕ) → map shown st.replicas ≡ s.replicas → IsState st → slice_get st.replicas i ≡ None → ups s (1 + i) ≡ false
none-up s st i e state none = go (ups s (1 + i)) refl
  where
    go : (b : Bool) → ups s (1 + i) ≡ b → b ≡ false
    go false q = refl
    go true q =
        let h = up-here s st (1 + i) e state q in
        let l = h.last in
        let n = past-end st.replicas i none in
        let m = sym (length-map st.replicas shown) ∙ ap length e in
        absurd (omega (arith, l, n, m))

-- a part waits where its name is told
pub waits-told : (s : Cluster) (st : StateView) (name : Option Name) → table_at st.tree ≡ s.table → name ≡ option_map (λ (q : Pending). q.part) st.tree.quorum.pending → is_some name ≡ true → is_waiting s.table.quorum.pending ≡ true
waits-told s st name table e some = ap (λ (t : Table). is_waiting t.quorum.pending) (sym table) ∙ go st.tree.quorum.pending (sym (ap (λ (o : Option Name). is_some o) e) ∙ some)
  where
    go : (o : Option Pending) → is_some (option_map (λ (q : Pending). q.part) o) ≡ true → is_waiting o ≡ true
    go None n = absurd (cc)
    go (Some q) n = refl

-- a replica that is there is asked where it is up and may fetch
pub asked-there : (s : Cluster) (r k : ℕ) (x : Replica) → IsWhole s → IsNumbered s k x → is_waiting s.table.quorum.pending ≡ true → (k ≡ r → ⊥) → is_asked s.table.quorum.pending (ups s) (fetching_of s) r k ≡ (x.up && x.fetches)
asked-there s r k x w at waits other =
    let no : nat_eq k r ≡ false = unequal (nat_eq k r) refl in
    rw (waits, no) (ap (λ (b : Bool). b && fetching_of s k) (ap (λ j. up_at s.replicas j) (sym at.number) ∙ up-of s.replicas x w.rising at.is_in) ∙ ap (λ (b : Bool). x.up && b) (fetching-told s k x w at))
  where
    unequal : (b : Bool) → nat_eq k r ≡ b → b ≡ false
    unequal false e = refl
    unequal true e = absurd (other (let q : k ≡ r = grind (arith, nat_tests) in q))

-- one that isn't up isn't
pub asked-nowhere : (s : Cluster) (r k : ℕ) → ups s k ≡ false → is_asked s.table.quorum.pending (ups s) (fetching_of s) r k ≡ false
asked-nowhere s r k e = go (is_waiting s.table.quorum.pending) (not (nat_eq k r)) (ups s k) e
  where
    go : (a b c : Bool) → c ≡ false → a && (b && (c && fetching_of s k)) ≡ false
    go a b true q = absurd (cc)
    go false b false q = refl
    go true false false q = refl
    go true true false q = refl

-- what is told of the replica at a place
pub asked-told : (s : Cluster) (st : StateView) (r k i : ℕ) (x : ReplicaView) → IsWhole s → map shown st.replicas ≡ s.replicas → IsState st → 1 ≤ k → i ≡ k - 1 → slice_get st.replicas i ≡ Some x → is_waiting s.table.quorum.pending ≡ true → (k ≡ r → ⊥)
    → is_asked s.table.quorum.pending (ups s) (fetching_of s) r k ≡ (x.up && x.fetches)
asked-told s st r k i x w e state l j there waits other =
    let same : 1 + i ≡ k = omega (arith, l, j) in
    asked-there s r k (shown x) w (subst (λ n. IsNumbered s n (shown x)) same (there-numbered s st i x e state there)) waits other

-- as a call finds it
pub asked-by : (s : Cluster) (st : StateView) (tree : Held) (rs : List ReplicaView) (name : Option Name) (r k from : ℕ) (x : ReplicaView) → IsWhole s → table_at st.tree ≡ s.table → map shown st.replicas ≡ s.replicas → IsState st
    → tree ≡ st.tree → name ≡ option_map (λ (q : Pending). q.part) tree.quorum.pending → is_some name ≡ true → rs ≡ st.replicas → 1 ≤ k → from ≡ k → slice_get rs (from - 1) ≡ Some x → (k ≡ r → ⊥)
    → is_asked s.table.quorum.pending (ups s) (fetching_of s) r k ≡ (x.up && x.fetches)
asked-by s st tree rs name r k from x w table e state t n some re l f there other =
    asked-told s st r k (from - 1) x w e state l (ap (λ i. i - 1) f) (subst (λ (xs : List ReplicaView). slice_get xs (from - 1) ≡ Some x) re there)
    (waits-told s st name table (subst (λ (h : Held). name ≡ option_map (λ (q : Pending). q.part) h.quorum.pending) t n) some) other

-- of one that isn't there
pub asked-none : (s : Cluster) (st : StateView) (r k i : ℕ) → map shown st.replicas ≡ s.replicas → IsState st → 1 ≤ k → i ≡ k - 1 → slice_get st.replicas i ≡ None → is_asked s.table.quorum.pending (ups s) (fetching_of s) r k ≡ false
asked-none s st r k i e state l j none =
    let same : 1 + i ≡ k = omega (arith, l, j) in
    asked-nowhere s r k (subst (λ n. ups s n ≡ false) same (none-up s st i e state none))

-- ---- one copy

-- the step of one event
pub one-step : (s u : Cluster) (e : Event) → (f : Makes s (e ∷ []) u) → Step s e f.1 u
one-step s u e f = subst (λ (x : Cluster). Step s e f.1 x) (sym f.3) f.2

pub copies-made : (s m c u : Cluster) (place r k : ℕ) → IsWhole s → MayCopy s place r k → Makes s (ev.Pull k ∷ []) m → Makes m (ev.Apply k place ∷ []) c → Makes c (ev.Note k ∷ []) u → (t : TableState) → Shows s t → Shows u (copied place k t)
copies-made s m c u place r k w y a b d =
    copies s m c u place r k a.1 b.1 d.1 w y.up y.fetches y.from y.knows (one-step s m (ev.Pull k) a) (one-step m c (ev.Apply k place) b) (one-step c u (ev.Note k) d)

pub copies-known : (s m c u : Cluster) (place r k : ℕ) → IsWhole s → MayCopy s place r k → Makes s (ev.Pull k ∷ []) m → Makes m (ev.Apply k place ∷ []) c → Makes c (ev.Note k ∷ []) u → HasPending u place r
copies-known s m c u place r k w y a b d = copies-pending s u place r k (copies-made s m c u place r k w y a b d) y.knows

pub copies-ups : (s m c u : Cluster) (place k : ℕ) → IsWhole s → Makes s (ev.Pull k ∷ []) m → Makes m (ev.Apply k place ∷ []) c → Makes c (ev.Note k ∷ []) u → ups u ≡ ups s
copies-ups s m c u place k w a b d =
    let wm = whole-step s m (ev.Pull k) a.1 w (one-step s m (ev.Pull k) a) in
    let wc = whole-step m c (ev.Apply k place) b.1 wm (one-step m c (ev.Apply k place) b) in
    ups-step c u (ev.Note k) d.1 wc tt (one-step c u (ev.Note k) d) ∙ (ups-step m c (ev.Apply k place) b.1 wm tt (one-step m c (ev.Apply k place) b) ∙ ups-step s m (ev.Pull k) a.1 w tt (one-step s m (ev.Pull k) a))

-- ---- the writer, and one replica after the other

-- after a note of the writer
pub gathers-first : (s u : Cluster) (r place : ℕ) → IsWhole s → IsIdle s r → HasPending s place r → Makes s (ev.Note r ∷ []) u → u.table.schema ≡ s.table.schema → length u.replicas ≡ length s.replicas → Gathered s r place 0 u
gathers-first s u r place w i p f schema replicas =
    let k = one-step s u (ev.Note r) f in
    let shown = note-shows s u place r f.1 w i.up p k in
    record {
      shows = shown;
      knows = note-pending s u place r r shown p;
      events = f;
      ups_are = ups-step s u (ev.Note r) f.1 w tt k;
      free = none-held s u (ev.Note r) f.1 tt k i.free;
      schema = schema;
      replicas = replicas;
    }

-- one that is asked
pub gathers-next : (s m u : Cluster) (r place n : ℕ) → Gathered s r place n m → is_asked m.table.quorum.pending (ups m) (fetching_of m) r (suc n) ≡ true
    → ((t : TableState) → Shows m t → Shows u (copied place (suc n) t)) → Makes m (ev.Pull (suc n) ∷ ev.Apply (suc n) place ∷ ev.Note (suc n) ∷ []) u → ups u ≡ ups m → HoldsNone u → u.table.schema ≡ m.table.schema → length u.replicas ≡ length m.replicas
    → Gathered s r place (suc n) u
gathers-next s m u r place n g q f e up free schema replicas = record {
  shows = λ t h. copied-next m u (record t { quorum = quorum_after_note r t.quorum }) (ups s) r place n true (g.shows t h) g.ups_are q (f (copied_to (ups s) r place n (record t { quorum = quorum_after_note r t.quorum })) (g.shows t h));
  knows = copies-pending m u place r (suc n) f g.knows;
  events = (m, g.events, subst (λ (b : Bool). CopiesWhere b m place (suc n) u) (sym q) e);
  ups_are = up ∙ g.ups_are;
  free = free;
  schema = schema ∙ g.schema;
  replicas = replicas ∙ g.replicas;
}

-- one that isn't
pub gathers-past : (s m : Cluster) (r place n : ℕ) → Gathered s r place n m → is_asked m.table.quorum.pending (ups m) (fetching_of m) r (suc n) ≡ false → Gathered s r place (suc n) m
gathers-past s m r place n g q = record {
  shows = λ t h. copied-next m m (record t { quorum = quorum_after_note r t.quorum }) (ups s) r place n false (g.shows t h) g.ups_are q (g.shows t h);
  knows = g.knows;
  events = (m, g.events, subst (λ (b : Bool). CopiesWhere b m place (suc n) m) (sym q) refl);
  ups_are = g.ups_are;
  free = g.free;
  schema = g.schema;
  replicas = g.replicas;
}

-- one that is asked may copy
asked-is : (w : Option Pending) (up fetching : ℕ → Bool) (r k : ℕ) → is_asked w up fetching r k ≡ true → (up k ≡ true) × (fetching k ≡ true)
asked-is w up fetching r k e = go (is_waiting w) (not (nat_eq k r)) (up k) (fetching k) refl refl e
  where
    go : (a b c d : Bool) → up k ≡ c → fetching k ≡ d → a && (b && (c && d)) ≡ true → (up k ≡ true) × (fetching k ≡ true)
    go true true true true p q h = (p, q)
    go true true true false p q h = absurd (cc)
    go true true false d p q h = absurd (cc)
    go true false c d p q h = absurd (cc)
    go false b c d p q h = absurd (cc)

pub may-copy : (s m : Cluster) (r place n j : ℕ) → ups s r ≡ true → Gathered s r place n m → is_asked m.table.quorum.pending (ups m) (fetching_of m) r j ≡ true → MayCopy m place r j
may-copy s m r place n j up g q =
    let a = asked-is m.table.quorum.pending (ups m) (fetching_of m) r j q in
    record { up = a.0; fetches = a.1; from = ap (λ (f : ℕ → Bool). f r) g.ups_are ∙ up; knows = g.knows }

-- the same of the number behind one
pub gathers-on : (s m u : Cluster) (r place n j : ℕ) → j ≡ suc n → Gathered s r place n m → is_asked m.table.quorum.pending (ups m) (fetching_of m) r j ≡ true
    → ((t : TableState) → Shows m t → Shows u (copied place j t)) → Makes m (ev.Pull j ∷ ev.Apply j place ∷ ev.Note j ∷ []) u → ups u ≡ ups m → HoldsNone u → u.table.schema ≡ m.table.schema → length u.replicas ≡ length m.replicas
    → Gathered s r place j u
gathers-on s m u r place n j e = subst (λ i. Gathered s r place n m → is_asked m.table.quorum.pending (ups m) (fetching_of m) r i ≡ true
    → ((t : TableState) → Shows m t → Shows u (copied place i t)) → Makes m (ev.Pull i ∷ ev.Apply i place ∷ ev.Note i ∷ []) u → ups u ≡ ups m → HoldsNone u → u.table.schema ≡ m.table.schema → length u.replicas ≡ length m.replicas
    → Gathered s r place i u) (sym e) (gathers-next s m u r place n)

pub gathers-by : (s m : Cluster) (r place n j : ℕ) → j ≡ suc n → Gathered s r place n m → is_asked m.table.quorum.pending (ups m) (fetching_of m) r j ≡ false → Gathered s r place j m
gathers-by s m r place n j e = subst (λ i. Gathered s r place n m → is_asked m.table.quorum.pending (ups m) (fetching_of m) r i ≡ false → Gathered s r place i m) (sym e) (gathers-past s m r place n)

-- ---- the Get of a block

-- fewer than 2 ask for no quorum
pub no-quorum : (need : ℕ) → need < 2 → nat_le 2 need ≡ false
no-quorum need l = grind (arith, nat_tests)

pub a-quorum : (need : ℕ) → 2 ≤ need → nat_le 2 need ≡ true
a-quorum need l = grind (arith, nat_tests)

-- what is shown where none is asked for
pub spread-alone : (s u : Cluster) (need r place : ℕ) (up : ℕ → Bool) → need < 2 → ((t : TableState) → Shows s t → Shows u (record t { known = learned t.known r place })) → (t : TableState) → Shows s t → Shows u (gathered_for need up r place (record t { known = learned t.known r place }))
spread-alone s u need r place up l f t h = rw (no-quorum need l) (f t h)

-- where one is
pub spread-gathered : (s m u : Cluster) (need r place : ℕ) → 2 ≤ need → ups m ≡ ups s → ((t : TableState) → Shows s t → Shows m (record t { known = learned t.known r place })) → Gathered m r place 8 u
    → (t : TableState) → Shows s t → Shows u (gathered_for need (ups s) r place (record t { known = learned t.known r place }))
spread-gathered s m u need r place l e f g t h =
    rw (a-quorum need l)
    (subst (λ (up : ℕ → Bool). Shows u (gathered up r place (record t { known = learned t.known r place }))) e (g.shows (record t { known = learned t.known r place }) (f t h)))

-- once it is done the writer knows its part, which alone may wait
pub get-pending : (s u : Cluster) (a : Asked) (place : ℕ) → IsWhole s → 2 ≤ a.need → HasGet s place a → ((t : TableState) → Shows s t → Shows u (record t { known = learned t.known a.writer place })) → HasPending u place a.writer
get-pending s u a place w asked g f = go (some-shown s w).0 (some-shown s w).1
  where
    go : (t : TableState) → Shows s t → HasPending u place a.writer
    go t h = record {
      state = record t { known = learned t.known a.writer place };
      shows = f t h;
      knows = record {
        partition = g.block.partition;
        number = g.number;
        digest = g.block.digest;
        source = a.writer;
        need = a.need;
        entry = subst (λ (log : List Entry). entry_at log place ≡ Some (Get g.block.partition g.number g.block.digest a.writer a.need)) (sym h.table.log) g.is.entry;
        known = learned-here t.known a.writer place;
        named = λ q e. g.waits asked q (sym (ap (λ (z : Quorum). z.pending) h.table.quorum) ∙ e);
      };
    }

-- what is told of its quorum
pub waiting-known : (need : ℕ) (u : Cluster) (have : Option ℕ) → 2 ≤ need → TellsNoted u.table.quorum.pending have → TellsWaiting need u have
waiting-known need u have asked t = go u.table.quorum.pending refl have t
  where
    go : (o : Option Pending) → u.table.quorum.pending ≡ o → (h : Option ℕ) → TellsNoted o h → TellsWaiting need u h
    go None e h n = subst (TellsWaiting need u) (sym n) (λ l. e)
    go (Some q) e h n = subst (TellsWaiting need u) (sym n) (asked, q, e, refl)
