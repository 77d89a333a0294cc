-- Each call on a table is shown as the cluster's call.
use Rattle.std.proofs.Common.{◌≡◌, ℕ, ◌+◌, ◌<◌, inl, inr, ◌&&◌, Bool, true, false, not, cond, List, ◌∷◌, length, refl, sym, ap, subst, arith, ◌∙◌, nat_eq, nat_lt, filter, get_or, set}
use Rattle.std.proofs.lemmas.Bool.Decides.{nat_tests}
use Rattle.std.proofs.lemmas.List.{get_or-set_same, get_or-set_other}
use Rattle.std.specs.Option.{option_map}
use Rattle.std.specs.declared.option.Option.{Option}
use Rattle.std.specs.declared.option.Option.TheVariants.{Some, None}
use Rattle.rmt_values.specs.declared.checked_mutation.CheckedMutation.{CheckedMutation}
use Rattle.rmt_names.specs.Names.{Name, rank, Spans, merged_name}
use Rattle.rmt_model.specs.Words.{Has}
use Rattle.rmt_model.specs.Lawful.{block_count, mutations_through}
use Rattle.rmt_model.proofs.Lists.{Each-all, Has-filter, Has-kept, Pairwise-filter, rank-injective}
use Rattle.rmt_model.specs.BlockNumbers.{next_number, with_next}
use Rattle.rmt_model.specs.EntryLimits.{client_count}
use Rattle.rmt_table_model.specs.Numbers.{Nexts, Holders, locked, owner_but}
use Rattle.rmt_table_model.specs.Kept.{Placed, in_order, with_id}
use Rattle.rmt_table_model.specs.Tables as tables
use Rattle.rmt_table_model.specs.Tables.{TableView, session_of}
use Rattle.rmt_table_model.specs.Changes.{after_allocate, after_commit, after_abandon, after_mutation, after_drop, after_merge, after_mutate, after_open, after_close, after_pull, after_note, MayAllocate, MayCommit, MayMutate, MayDrop, MayMerge, MayMutateOne, MayOpen}
use Rattle.rmt_table_model.proofs.NumberLemmas.{number-is, next-has, locked-from, unlocked_by-from}
use Rattle.rmt_table_model.proofs.SoundLemmas.{above-all, meets-merge, meets-mutate, sound-allocate, sound-commit, sound-abandon, sound-mutation, sound-drop, sound-open, sound-close}
use Rattle.rmt_events.specs.Views.{Lock, Table}
use Rattle.rmt_events.specs.TableCalls.{with_lock, with_session, IsLocked, holds_number, kept_part, Allocates, Commits, Unlocks, AreQuiet, AssignsMerge, AssignsMutate, CreatesMutation, DropsPartition, Closes, Opens, Notes}
use Rattle.rmt_events.proofs.TableSteps.{lock-from, lock-new, lock-old, session-from, session-new, session-old}
use Rattle.rmt_table.specs.SeenTable.{locks_in, opened_from, shown, Holds, Precedes}
use Rattle.rmt_table.proofs.Orders.{same-lists}
use Rattle.rmt_table.proofs.LockLemmas.{locks-from, locks-has, locks-rising, locks-are, lock-rising}
use Rattle.rmt_table.proofs.SessionLemmas.{HasSession, opened-from, opened-has, opened-rising, numbers-order, session-rising}
use Rattle.rmt_table.proofs.NumberLemmas.{taken-same, kept-same, allocate-within, commit-within, drop-within, mutation-within, worker-within}

abbrev locks_of : TableView → List Lock
locks_of v = locks_in v.holders v.sessions v.next

-- ---- locks

-- the same holders and sessions show the same locks
same-locks : (v w : TableView) → tables.IsSound v → tables.IsSound w → w.holders ≡ v.holders → w.sessions ≡ v.sessions → locks_of w ≡ locks_of v
same-locks v w s t h o = locks-are w t (locks_of v) (locks-rising v s)
    (λ k i. let x = locks-from v s k i in record { session = x.session; replica = x.replica; held = ap (λ (f : Holders). f k.partition k.number) h ∙ x.held; opened = ap (λ (os : List (Option ℕ)). session_of os x.replica) o ∙ x.opened; owner = x.owner })
    (λ k x. locks-has v s k (record { session = x.session; replica = x.replica; held = ap (λ (f : Holders). f k.partition k.number) (sym h) ∙ x.held; opened = ap (λ (os : List (Option ℕ)). session_of os x.replica) (sym o) ∙ x.opened; owner = x.owner }))

-- the holders without some show the locks without them
fewer-locks : (v w : TableView) (t : Lock → Bool) → tables.IsSound v → tables.IsSound w → ((k : Lock) → w.holders k.partition k.number ≡ cond (t k) None (v.holders k.partition k.number)) → w.sessions ≡ v.sessions
    → locks_of w ≡ filter (λ k. not (t k)) (locks_of v)
fewer-locks v w t s u h o = locks-are w u (filter (λ k. not (t k)) (locks_of v)) (Pairwise-filter Precedes (λ k. not (t k)) (locks_of v) (locks-rising v s)) forth back
  where
    forth : (k : Lock) → Has (filter (λ k. not (t k)) (locks_of v)) k → Holds w k
    forth k i =
        let f = Has-filter (λ k. not (t k)) (locks_of v) k i in
        let x = locks-from v s k f.0 in
        record { session = x.session; replica = x.replica; held = h k ∙ (ap (λ (b : Bool). cond b None (v.holders k.partition k.number)) (off (t k) f.1) ∙ x.held); opened = ap (λ (os : List (Option ℕ)). session_of os x.replica) o ∙ x.opened; owner = x.owner }
      where
        off : (b : Bool) → not b ≡ true → b ≡ false
        off true e = absurd (cc)
        off false e = refl

    back : (k : Lock) → Holds w k → Has (filter (λ k. not (t k)) (locks_of v)) k
    back k x = go (t k) refl (sym (h k) ∙ x.held)
      where
        go : (b : Bool) → t k ≡ b → cond b None (v.holders k.partition k.number) ≡ Some x.session → Has (filter (λ k. not (t k)) (locks_of v)) k
        go true e q = absurd (cc)
        go false e q = Has-kept (λ k. not (t k)) (locks_of v) k
            (locks-has v s k (record { session = x.session; replica = x.replica; held = q; opened = ap (λ (os : List (Option ℕ)). session_of os x.replica) (sym o) ∙ x.opened; owner = x.owner }))
            (ap not e)

-- a held number is locked
pub shown-locked : (v : TableView) (p : Option ℕ) (n s : ℕ) → tables.IsSound v → v.holders p n ≡ Some s → IsLocked (locks_of v) p n
shown-locked v p n s sound e = let o = sound.held p n s e in record {
  lock = record { partition = p; number = n; owner = o.0 + 1 };
  is_in = locks-has v sound (record { partition = p; number = n; owner = o.0 + 1 }) (record { session = s; replica = o.0; held = e; opened = o.1; owner = refl });
  partition = refl;
  number = refl;
}

-- and what is locked is held
pub locked-shown : (v : TableView) (p : Option ℕ) (n : ℕ) → tables.IsSound v → IsLocked (locks_of v) p n → (s : ℕ) × (v.holders p n ≡ Some s)
locked-shown v p n sound l = let w = locks-from v sound l.lock l.is_in in (w.session, ap (λ (q : Option ℕ). v.holders q n) (sym l.partition) ∙ (ap (v.holders (Lock.partition l.lock)) (sym l.number) ∙ w.held))

-- ---- ids

unkept-shown : (v : TableView) (p : Option ℕ) (digest : List ℕ) → with_id p digest (in_order v.schema.window v.log) ≡ None → kept_part (Table.window (shown v)) p digest ≡ None
unkept-shown v p digest e = kept-same v.schema.window v.log p digest ∙ ap (option_map (λ (k : Placed). k.kept.part)) e

-- ---- allocate

pub allocate-bridge : (v : TableView) → tables.IsSound v → (r s : ℕ) (p : Option ℕ) (digest : List ℕ) → session_of v.sessions r ≡ Some s → MayAllocate p s v → client_count v.log < 32768 → with_id p digest (in_order v.schema.window v.log) ≡ None
    → Allocates (shown v) (r + 1) p digest (next_number v.next p) (shown (after_allocate p s v))
allocate-bridge v sound r s p digest opened m clients unkept = record {
  session = opened-has v.sessions 1 (r + 1) r s (omega arith) opened;
  unkept = unkept-shown v p digest unkept;
  within = allocate-within v.next v.log p sound.nexts m.partitions m.numbers clients;
  number = refl;
  change =
      ap (λ (ns : Nexts). record (shown v) { next = ns; locks = locks_of w }) (taken-same v.next p (next_number v.next p + 1) sound.nexts refl)
      ∙ ap (λ (ls : List Lock). record (shown v) { next = with_next v.next p (next_number v.next p + 1); locks = ls }) locks;
}
  where
    w : TableView
    w = after_allocate p s v

    lock : Lock
    lock = record { partition = p; number = next_number v.next p; owner = r + 1 }

    older : (k : Lock) → Holds v k → k.partition ≡ p → k.number ≡ next_number v.next p → ⊥
    older k x a b = let l = above-all v sound k.partition k.number (inr (x.session, x.held)) in let c = ap (next_number v.next) a in absurd (omega (arith, l, b, c))

    forth : (k : Lock) → Has (with_lock lock (locks_of v)) k → Holds w k
    forth k i = elim (lock-from lock (locks_of v) k i) [
      | inl e ↦ subst (Holds w) e (record { session = s; replica = r; held = here; opened = opened; owner = refl })
      | inr j ↦ (let x = locks-from v sound k j in record { session = x.session; replica = x.replica; held = there k x (nat_eq (rank k.partition) (rank p) && nat_eq k.number (next_number v.next p)) refl; opened = x.opened; owner = x.owner })
    ]
      where
        here : locked v.holders p (next_number v.next p) s p (next_number v.next p) ≡ Some s
        here = ap (λ (b : Bool). cond b (Some s) (v.holders p (next_number v.next p))) (let b : (nat_eq (rank p) (rank p) && nat_eq (next_number v.next p) (next_number v.next p)) ≡ true = grind (arith, nat_tests) in b)

        there : (k : Lock) (x : Holds v k) (b : Bool) → (nat_eq (rank k.partition) (rank p) && nat_eq k.number (next_number v.next p)) ≡ b → locked v.holders p (next_number v.next p) s k.partition k.number ≡ Some x.session
        there k x true e = absurd (older k x (rank-injective k.partition p (grind (arith, nat_tests))) (grind (arith, nat_tests)))
        there k x false e = ap (λ (b : Bool). cond b (Some s) (v.holders k.partition k.number)) e ∙ x.held

    back : (k : Lock) → Holds w k → Has (with_lock lock (locks_of v)) k
    back k x = elim (locked-from v.holders p (next_number v.next p) s k.partition k.number x.session x.held) [
      | inl e ↦ (
          let q : r ≡ x.replica = sound.own r x.replica s opened (x.opened ∙ ap Some (sym e.2)) in
          let o : r + 1 ≡ k.owner = (let u = x.owner in omega (arith, q, u)) in
          let same : lock ≡ k =
          ap (λ (c : Option ℕ). record { partition = c; number = next_number v.next p; owner = r + 1 }) e.0
          ∙ (ap (λ (i : ℕ). record { partition = k.partition; number = i; owner = r + 1 }) e.1 ∙ ap (λ (i : ℕ). record { partition = k.partition; number = k.number; owner = i }) o) in
          subst (Has (with_lock lock (locks_of v))) same (lock-new lock (locks_of v)))
      | inr e ↦ lock-old lock (locks_of v) k (locks-has v sound k (record { session = x.session; replica = x.replica; held = e; opened = x.opened; owner = x.owner }))
    ]

    locks : locks_of w ≡ with_lock lock (locks_of v)
    locks = locks-are w (sound-allocate v sound p s m) (with_lock lock (locks_of v)) (lock-rising lock (locks_of v) (locks-rising v sound) (λ k i. older k (locks-from v sound k i))) forth back

-- ---- commit

pub commit-bridge : (v : TableView) → tables.IsSound v → (p : Option ℕ) (n : ℕ) (digest : List ℕ) (source need values : ℕ) → MayCommit p n digest need values v
    → Commits (shown v) p n digest source need values (shown (after_commit p n digest source need values v))
commit-bridge v sound p n digest source need values m = record {
  locked = shown-locked v p n (m.is_locked).0 sound (m.is_locked).1;
  unkept = unkept-shown v p digest m.not_kept;
  none_pending = m.none_pending;
  within = commit-within v.log v.values values m.client_entries m.values;
  change = ap (λ (ls : List Lock). record (shown (after_commit p n digest source need values v)) { locks = ls })
      (fewer-locks v (after_commit p n digest source need values v) (holds_number p n) sound (sound-commit v sound p n digest source need values m) (λ k. refl) refl);
}

pub abandon-bridge : (v : TableView) → tables.IsSound v → (p : Option ℕ) (n : ℕ) → Unlocks (shown v) p n (shown (after_abandon p n v))
abandon-bridge v sound p n =
    ap (λ (ls : List Lock). record (shown v) { locks = ls }) (fewer-locks v (after_abandon p n v) (holds_number p n) sound (sound-abandon v sound p n) (λ k. refl) refl)

-- ---- a drop, a mutation

pub drop-bridge : (v : TableView) → tables.IsSound v → (p : Option ℕ) → MayDrop p v → DropsPartition (shown v) p (next_number v.next p) (shown (after_drop p v))
drop-bridge v sound p m = record {
  exists =
      let h = next-has v.next p m.number m.exists in
      let b = sound.nexts.begun p m.number h in
      let q = number-is v.next p m.number sound.nexts h in
      omega (arith, b, q);
  within = drop-within v.next v.log p (let h = next-has v.next p m.number m.exists in let q = number-is v.next p m.number sound.nexts h in let l = m.numbers in omega (arith, q, l)) m.client_entries;
  number = refl;
  change =
      ap (λ (ns : Nexts). record (shown (after_drop p v)) { next = ns }) (taken-same v.next p (next_number v.next p + 1) sound.nexts refl)
      ∙ ap (λ (ls : List Lock). record (shown (after_drop p v)) { next = with_next v.next p (next_number v.next p + 1); locks = ls })
      (fewer-locks v (after_drop p v) (λ k. nat_eq (rank k.partition) (rank p) && nat_lt k.number (next_number v.next p)) sound (sound-drop v sound p m) (λ k. refl) refl);
}

pub mutation-bridge : (v : TableView) → tables.IsSound v → (command : CheckedMutation) → MayMutate command v → CreatesMutation (shown v) command (shown (after_mutation command v))
mutation-bridge v sound command m = record {
  fits = m.fits;
  within = mutation-within v.next v.log m.mutations m.numbers m.client_entries;
  change =
      ap (λ (ls : List Lock). record (shown (after_mutation command v)) { locks = ls }) (same-locks v (after_mutation command v) sound (sound-mutation v sound command m) refl refl);
}

-- ---- a worker's entries

pub merge-bridge : (v : TableView) → tables.IsSound v → (a b : Name) (rest : List Name) → MayMerge a b rest v → AreQuiet v.quorum.pending (a ∷ b ∷ rest)
    → AssignsMerge (shown v) (merged_name a (b ∷ rest)) (a ∷ b ∷ rest) (block_count v.log (merged_name a (b ∷ rest))) (shown (after_merge a (b ∷ rest) v))
merge-bridge v sound a b rest m quiet = record {
  meets = meets-merge v a b rest m;
  free = Each-all (λ k. Spans (merged_name a (b ∷ rest)) k.partition k.number → ⊥) (locks_of v) (λ k i x.
      let w = locks-from v sound k i in
      m.none_in_flight k.number (w.session, ap (λ (q : Option ℕ). v.holders q k.number) (Spans.partition x) ∙ w.held) (Spans.low x) (Spans.high x));
  quiet = quiet;
  within = worker-within v.log m.worker_entries;
  change = refl;
}

pub mutate-bridge : (v : TableView) (old : Name) (number upto : ℕ) → MayMutateOne old number upto v
    → AssignsMutate (shown v) old (record old { mutation = number }) upto (block_count v.log old) (mutations_through v.log upto) (shown (after_mutate old number upto v))
mutate-bridge v old number upto m = record { meets = meets-mutate v old number upto m; within = worker-within v.log m.worker_entries; change = refl }

-- ---- a pull isn't seen, a note is

pub pull-bridge : (v : TableView) (r : ℕ) → shown (after_pull r v) ≡ shown v
pull-bridge v r = refl

pub note-bridge : (v : TableView) (r : ℕ) → Notes (shown v) r (shown (after_note r v))
note-bridge v r = refl

-- ---- sessions

set-other : (xs : List (Option ℕ)) (r t : ℕ) (o : Option ℕ) → (t ≡ r → ⊥) → session_of (set xs r o) t ≡ session_of xs t
set-other xs r t o f = get_or-set_other xs r t o None (λ e. f (grind (arith, nat_tests)))

set-here : (xs : List (Option ℕ)) (r t : ℕ) (o : Option ℕ) → t ≡ r → r < length xs → session_of (set xs r o) t ≡ o
set-here xs r t o e l = ap (λ (j : ℕ). get_or (set xs r o) j None) e ∙ get_or-set_same xs r o None l

pub close-bridge : (v : TableView) → tables.IsSound v → (r s : ℕ) → r < length v.sessions → session_of v.sessions r ≡ Some s → Closes (shown v) (r + 1) (shown (after_close r s v))
close-bridge v sound r s here was =
    ap (λ (ls : List Lock). record (shown (after_close r s v)) { locks = ls }) locks
    ∙ ap (λ (ss : List ℕ). record (shown v) { locks = filter (λ k. not (nat_eq k.owner (r + 1))) (locks_of v); sessions = ss }) sessions
  where
    w : TableView
    w = after_close r s v

    apart : (t i : ℕ) → session_of (set v.sessions r None) t ≡ Some i → t ≡ r → ⊥
    apart t i e q = let x : ◌≡◌ {A = Option ℕ} None (Some i) = sym (set-here v.sessions r t None q here) ∙ e in cc

    stays : (t : ℕ) → not (nat_eq (t + 1) (r + 1)) ≡ true → t ≡ r → ⊥
    stays t e q = absurd (grind (arith, nat_tests))

    forth : (k : Lock) → Has (filter (λ k. not (nat_eq k.owner (r + 1))) (locks_of v)) k → Holds w k
    forth k i =
        let f = Has-filter (λ k. not (nat_eq k.owner (r + 1))) (locks_of v) k i in
        let x = locks-from v sound k f.0 in
        let other : x.replica ≡ r → ⊥ = λ q. stays x.replica (ap (λ (j : ℕ). not (nat_eq j (r + 1))) (sym x.owner) ∙ f.1) q in
        record {
          session = x.session;
          replica = x.replica;
          held = ap (owner_but s) x.held ∙ left x.session x.replica x.opened other (nat_eq x.session s) refl;
          opened = set-other v.sessions r x.replica None other ∙ x.opened;
          owner = x.owner;
        }
      where
        left : (i t : ℕ) → session_of v.sessions t ≡ Some i → (t ≡ r → ⊥) → (b : Bool) → nat_eq i s ≡ b → cond b None (Some i) ≡ Some i
        left i t o f true e = absurd (f (sound.own t r s (o ∙ ap Some (let q : i ≡ s = grind (arith, nat_tests) in q)) was))
        left i t o f false e = refl

    back : (k : Lock) → Holds w k → Has (filter (λ k. not (nat_eq k.owner (r + 1))) (locks_of v)) k
    back k x =
        let other = apart x.replica x.session x.opened in
        let o = unlocked_by-from v.holders s k.partition k.number x.session x.held in
        Has-kept (λ k. not (nat_eq k.owner (r + 1))) (locks_of v) k
        (locks-has v sound k (record { session = x.session; replica = x.replica; held = o.0; opened = sym (set-other v.sessions r x.replica None other) ∙ x.opened; owner = x.owner }))
        (off x.replica k.owner x.owner other (nat_eq k.owner (r + 1)) refl)
      where
        off : (t i : ℕ) → i ≡ t + 1 → (t ≡ r → ⊥) → (b : Bool) → nat_eq i (r + 1) ≡ b → not (nat_eq i (r + 1)) ≡ true
        off t i e f true q = absurd (f (grind (arith, nat_tests)))
        off t i e f false q = ap not q

    locks : locks_of w ≡ filter (λ k. not (nat_eq k.owner (r + 1))) (locks_of v)
    locks = locks-are w (sound-close v sound r s here was) (filter (λ k. not (nat_eq k.owner (r + 1))) (locks_of v)) (Pairwise-filter Precedes (λ k. not (nat_eq k.owner (r + 1))) (locks_of v) (locks-rising v sound)) forth back

    sessions : opened_from 1 (set v.sessions r None) ≡ filter (λ i. not (nat_eq i (r + 1))) (opened_from 1 v.sessions)
    sessions = same-lists ◌<◌ numbers-order (opened_from 1 (set v.sessions r None)) (filter (λ i. not (nat_eq i (r + 1))) (opened_from 1 v.sessions))
        (opened-rising (set v.sessions r None) 1) (Pairwise-filter ◌<◌ (λ i. not (nat_eq i (r + 1))) (opened_from 1 v.sessions) (opened-rising v.sessions 1))
        (λ i h. let x = opened-from (set v.sessions r None) 1 i h in
        let other = apart x.replica x.session x.opened in
        Has-kept (λ j. not (nat_eq j (r + 1))) (opened_from 1 v.sessions) i (opened-has v.sessions 1 i x.replica x.session x.number (sym (set-other v.sessions r x.replica None other) ∙ x.opened))
        (off x.replica i x.number other (nat_eq i (r + 1)) refl))
        (λ i h. let f = Has-filter (λ j. not (nat_eq j (r + 1))) (opened_from 1 v.sessions) i h in
        let x = opened-from v.sessions 1 i f.0 in
        opened-has (set v.sessions r None) 1 i x.replica x.session x.number (set-other v.sessions r x.replica None (on x.replica i x.number f.1) ∙ x.opened))
      where
        off : (t i : ℕ) → i ≡ 1 + t → (t ≡ r → ⊥) → (b : Bool) → nat_eq i (r + 1) ≡ b → not (nat_eq i (r + 1)) ≡ true
        off t i e f true q = absurd (f (grind (arith, nat_tests)))
        off t i e f false q = ap not q

        on : (t i : ℕ) → i ≡ 1 + t → not (nat_eq i (r + 1)) ≡ true → t ≡ r → ⊥
        on t i e f q = absurd (grind (arith, nat_tests))

pub open-bridge : (v : TableView) → tables.IsSound v → (r s : ℕ) → session_of v.sessions r ≡ None → MayOpen r s v → Opens (shown v) (r + 1) (shown (after_open r s v))
open-bridge v sound r s none m =
    ap (λ (ls : List Lock). record (shown (after_open r s v)) { locks = ls }) locks
    ∙ ap (λ (ss : List ℕ). record (shown v) { sessions = ss }) sessions
  where
    w : TableView
    w = after_open r s v

    old-other : (t i : ℕ) → session_of v.sessions t ≡ Some i → t ≡ r → ⊥
    old-other t i e q = let x : ◌≡◌ {A = Option ℕ} None (Some i) = sym none ∙ (ap (session_of v.sessions) (sym q) ∙ e) in cc

    new-other : (k : Lock) → (x : Holds w k) → x.replica ≡ r → ⊥
    new-other k x q =
        let y : ◌≡◌ {A = Option ℕ} (Some s) (Some x.session) = sym (set-here v.sessions r x.replica (Some s) q m.is_here) ∙ x.opened in
        let z : s ≡ x.session = cc in
        absurd (m.is_new (subst (tables.IsOpen v.sessions) (sym z) (sound.held k.partition k.number x.session x.held)))

    locks : locks_of w ≡ locks_of v
    locks = locks-are w (sound-open v sound r s none m) (locks_of v) (locks-rising v sound)
        (λ k i. let x = locks-from v sound k i in record { session = x.session; replica = x.replica; held = x.held; opened = set-other v.sessions r x.replica (Some s) (old-other x.replica x.session x.opened) ∙ x.opened; owner = x.owner })
        (λ k x. locks-has v sound k (record { session = x.session; replica = x.replica; held = x.held; opened = sym (set-other v.sessions r x.replica (Some s) (new-other k x)) ∙ x.opened; owner = x.owner }))

    others : List ℕ
    others = filter (λ i. not (nat_eq i (r + 1))) (opened_from 1 v.sessions)

    sessions : opened_from 1 (set v.sessions r (Some s)) ≡ with_session (r + 1) others
    sessions = same-lists ◌<◌ numbers-order (opened_from 1 (set v.sessions r (Some s))) (with_session (r + 1) others)
        (opened-rising (set v.sessions r (Some s)) 1)
        (session-rising (r + 1) others (Pairwise-filter ◌<◌ (λ i. not (nat_eq i (r + 1))) (opened_from 1 v.sessions) (opened-rising v.sessions 1)) (λ h. let f = (Has-filter (λ i. not (nat_eq i (r + 1))) (opened_from 1 v.sessions) (r + 1) h).1 in absurd (grind (arith, nat_tests))))
        (λ i h. let x = opened-from (set v.sessions r (Some s)) 1 i h in forth i x (nat_eq x.replica r) refl)
        (λ i h. elim (session-from (r + 1) others i h) [
          | inl e ↦ opened-has (set v.sessions r (Some s)) 1 i r s (omega (arith, e)) (set-here v.sessions r r (Some s) refl m.is_here)
          | inr j ↦ (
              let f = Has-filter (λ i. not (nat_eq i (r + 1))) (opened_from 1 v.sessions) i j in
              let x = opened-from v.sessions 1 i f.0 in
              opened-has (set v.sessions r (Some s)) 1 i x.replica x.session x.number (set-other v.sessions r x.replica (Some s) (old-other x.replica x.session x.opened) ∙ x.opened))
        ])
      where
        forth : (i : ℕ) (x : HasSession (set v.sessions r (Some s)) 1 i) (b : Bool) → nat_eq x.replica r ≡ b → Has (with_session (r + 1) others) i
        forth i x true q = subst (Has (with_session (r + 1) others)) (let n = x.number in let e : x.replica ≡ r = grind (arith, nat_tests) in let z : r + 1 ≡ i = omega (arith, n, e) in z) (session-new (r + 1) others)
        forth i x false q =
            let other : x.replica ≡ r → ⊥ = λ e. absurd (grind (arith, nat_tests)) in
            session-old (r + 1) others i (Has-kept (λ j. not (nat_eq j (r + 1))) (opened_from 1 v.sessions) i
            (opened-has v.sessions 1 i x.replica x.session x.number (sym (set-other v.sessions r x.replica (Some s) other) ∙ x.opened))
            (let n = x.number in let z : nat_eq i (r + 1) ≡ false = grind (arith, nat_tests) in ap not z))
