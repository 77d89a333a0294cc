-- Each call on a table leaves it sound.
use Rattle.std.proofs.Common.{◌≡◌, ℕ, ◌+◌, ◌<◌, ◌≤◌, ◌⊎◌, inl, inr, ◌&&◌, Bool, true, false, not, cond, List, [], ◌∷◌, refl, sym, ap, subst, arith, nat_eq, nat_le, nat_lt, filter}
use Rattle.std.proofs.lemmas.Bool.Decides.{nat_tests}
use Rattle.std.specs.declared.option.Option.{Option}
use Rattle.std.specs.declared.option.Option.TheVariants.{Some, None}
use Rattle.rmt_values.specs.declared.checked_mutation.CheckedMutation.{CheckedMutation}
use Rattle.rmt_values.specs.declared.limit.Limit.{Limit}
use Rattle.rmt_values.specs.declared.limit.Limit.TheVariants as limits
use Rattle.rmt_names.specs.Names.{Name, rank, Spans, block_name}
use Rattle.rmt_entries.specs.declared.entry.Entry.TheVariants.{Get, Merge, Mutate, Mutation, DropRange}
use Rattle.rmt_model.specs.Words.{Has, Each}
use Rattle.rmt_model.specs.Lawful.{Meets, AboveUsed, IsFresh, IsMutation, mutation_count}
use Rattle.rmt_model.proofs.Lists.{Each-at, Each-all, Has-filter, rank-injective}
use Rattle.rmt_model.proofs.Drops.{fresh}
use Rattle.rmt_model.specs.Quorum.{quorum_after_block, quorum_after_drop, quorum_after_note}
use Rattle.rmt_model.proofs.QuorumLemmas.{quorum-stays, quorum-block, quorum-drop, quorum-note}
use Rattle.rmt_events.specs.Views.{Lock, Table}
use Rattle.rmt_model.specs.BlockNumbers.{next_number, with_next, next_numbers_after}
use Rattle.rmt_model.specs.EntryLimits.{client_count, commit_limit}
use Rattle.rmt_events.specs.TableCalls.{precedes, with_lock, with_session, IsLocked, holds_number, locks_without, locks_without_below, window_with, window_without, with_entry, Allocates, Commits, Unlocks, AssignsMerge, AssignsMutate, CreatesMutation, DropsPartition, Closes, Opens, Notes}
use Rattle.rmt_events.specs.Sound.{IsFree, IsSoundTable}
use Rattle.rmt_events.proofs.Numbers.{next-with, next-other, taken-with, ordered-with, next-advanced, next-past, ordered-advanced, taken-advanced, has-next, next-has}
use Rattle.rmt_events.proofs.Fresh.{fresh-get, fresh-merge, fresh-mutate, fresh-mutation, fresh-drop}

-- a number that was taken was taken also once a partition's next number has risen
pub still-below : (xs : List (Option ℕ × ℕ)) (p q : Option ℕ) (n m : ℕ) → next_number xs p ≤ n → m < next_number xs q → m < next_number (with_next xs p n) q
still-below xs p q n m l k = go (nat_eq (rank p) (rank q)) refl
  where
    go : (b : Bool) → nat_eq (rank p) (rank q) ≡ b → m < next_number (with_next xs p n) q
    go true e =
        let r : p ≡ q = rank-injective p q (grind (arith, nat_tests)) in
        subst (λ (o : Option ℕ). m < next_number (with_next xs p n) o) r (let f = next-with xs p n in let g = subst (λ (o : Option ℕ). m < next_number xs o) (sym r) k in omega (arith, f, g, l))
    go false e = let f = next-other xs p q n (λ r. let s : rank p ≡ rank q = ap rank r in absurd (grind (arith, nat_tests))) in omega (arith, f, k)

-- numbers that are used lie below the next one
pub above-used : (t : Table) → IsSoundTable t → (p : Option ℕ) → AboveUsed t.log p (next_number t.next p)
above-used t s p m u = s.used p m u

free-more : (old new : Table) (k : Lock) → ((p : Option ℕ) (m : ℕ) → m < next_number old.next p → m < next_number new.next p) → (IsFresh old.log k.partition k.number → IsFresh new.log k.partition k.number) → IsFree old k → IsFree new k
free-more old new k f g h = record { below = f k.partition k.number h.below; fresh = g h.fresh }

-- ---- lists in order

-- one more lock is the new one, or was there
pub lock-from : (k : Lock) (xs : List Lock) (x : Lock) → Has (with_lock k xs) x → (k ≡ x) ⊎ Has xs x
lock-from k [] x (inl e) = inl e
lock-from k [] x (inr h) = absurd h
lock-from k (y ∷ ys) x h = go (precedes y k) h (lock-from k ys x)
  where
    go : (b : Bool) → Has (cond b (y ∷ with_lock k ys) (k ∷ y ∷ ys)) x → (Has (with_lock k ys) x → (k ≡ x) ⊎ Has ys x) → (k ≡ x) ⊎ Has (y ∷ ys) x
    go true (inl e) f = inr (inl e)
    go true (inr i) f = elim (f i) [ inl e ↦ inl e | inr j ↦ inr (inr j) ]
    go false (inl e) f = inl e
    go false (inr i) f = inr i

pub lock-new : (k : Lock) (xs : List Lock) → Has (with_lock k xs) k
lock-new k [] = inl refl
lock-new k (y ∷ ys) = go (precedes y k) (lock-new k ys)
  where
    go : (b : Bool) → Has (with_lock k ys) k → Has (cond b (y ∷ with_lock k ys) (k ∷ y ∷ ys)) k
    go true h = inr h
    go false h = inl refl

pub lock-old : (k : Lock) (xs : List Lock) (x : Lock) → Has xs x → Has (with_lock k xs) x
lock-old k [] x h = absurd h
lock-old k (y ∷ ys) x h = go (precedes y k) h (lock-old k ys x)
  where
    go : (b : Bool) → Has (y ∷ ys) x → (Has ys x → Has (with_lock k ys) x) → Has (cond b (y ∷ with_lock k ys) (k ∷ y ∷ ys)) x
    go true (inl e) f = inl e
    go true (inr i) f = inr (f i)
    go false i f = inr i

-- the same of sessions
pub session-from : (r : ℕ) (xs : List ℕ) (x : ℕ) → Has (with_session r xs) x → (r ≡ x) ⊎ Has xs x
session-from r [] x (inl e) = inl e
session-from r [] x (inr h) = absurd h
session-from r (y ∷ ys) x h = go (nat_lt y r) h (session-from r ys x)
  where
    go : (b : Bool) → Has (cond b (y ∷ with_session r ys) (r ∷ y ∷ ys)) x → (Has (with_session r ys) x → (r ≡ x) ⊎ Has ys x) → (r ≡ x) ⊎ Has (y ∷ ys) x
    go true (inl e) f = inr (inl e)
    go true (inr i) f = elim (f i) [ inl e ↦ inl e | inr j ↦ inr (inr j) ]
    go false (inl e) f = inl e
    go false (inr i) f = inr i

pub session-new : (r : ℕ) (xs : List ℕ) → Has (with_session r xs) r
session-new r [] = inl refl
session-new r (y ∷ ys) = go (nat_lt y r) (session-new r ys)
  where
    go : (b : Bool) → Has (with_session r ys) r → Has (cond b (y ∷ with_session r ys) (r ∷ y ∷ ys)) r
    go true h = inr h
    go false h = inl refl

pub session-old : (r : ℕ) (xs : List ℕ) (x : ℕ) → Has xs x → Has (with_session r xs) x
session-old r [] x h = absurd h
session-old r (y ∷ ys) x h = go (nat_lt y r) h (session-old r ys x)
  where
    go : (b : Bool) → Has (y ∷ ys) x → (Has ys x → Has (with_session r ys) x) → Has (cond b (y ∷ with_session r ys) (r ∷ y ∷ ys)) x
    go true (inl e) f = inl e
    go true (inr i) f = inr (f i)
    go false i f = inr i

-- ---- allocate

allocated : (t : Table) (r n : ℕ) (p : Option ℕ) → IsSoundTable t → n ≡ next_number t.next p
    → IsSoundTable (record t { next = with_next t.next p (n + 1); locks = with_lock (record { partition = p; number = n; owner = r }) t.locks })
allocated t r n p s e =
    record {
      lawful = s.lawful;
      ordered = ordered-with t.next p (n + 1) s.ordered;
      taken = taken-with t.next p (n + 1) (omega arith) s.taken;
      used = λ q m u. below q m (s.used q m u);
      locks = Each-all (IsFree new) (with_lock held t.locks) (λ k h. elim (lock-from held t.locks k h) [
        | inl q ↦ subst (IsFree new) q first
        | inr i ↦ free-more t new k below (λ f. f) (Each-at (IsFree t) t.locks k s.locks i)
      ]);
      window = s.window;
      quorum = s.quorum;
      values = s.values;
    }
  where
    new : Table
    new = record t { next = with_next t.next p (n + 1); locks = with_lock (record { partition = p; number = n; owner = r }) t.locks }

    held : Lock
    held = record { partition = p; number = n; owner = r }

    first : IsFree new held
    first = record { below = let f = next-with t.next p (n + 1) in omega (arith, f); fresh = fresh t.schema t.log p n s.lawful (λ m u. let l = s.used p m u in omega (arith, l, e)) }

    below : (q : Option ℕ) (m : ℕ) → m < next_number t.next q → m < next_number (with_next t.next p (n + 1)) q
    below q m l = still-below t.next p q (n + 1) m (omega (arith, e)) l

pub sound-allocates : (t u : Table) (r n : ℕ) (p : Option ℕ) (digest : List ℕ) → IsSoundTable t → Allocates t r p digest n u → IsSoundTable u
sound-allocates t u r n p digest s c = subst IsSoundTable (sym c.change) (allocated t r n p s c.number)

-- ---- locks that go

pub sound-fewer : (t : Table) (test : Lock → Bool) → IsSoundTable t → IsSoundTable (record t { locks = filter test t.locks })
sound-fewer t test s =
    record {
      lawful = s.lawful;
      ordered = s.ordered;
      taken = s.taken;
      used = s.used;
      locks = Each-all (IsFree new) (filter test t.locks) (λ k h. free-more t new k (λ q m l. l) (λ f. f) (Each-at (IsFree t) t.locks k s.locks (Has-filter test t.locks k h).0));
      window = s.window;
      quorum = s.quorum;
      values = s.values;
    }
  where
    new : Table
    new = record t { locks = filter test t.locks }

pub sound-unlocks : (t u : Table) (p : Option ℕ) (n : ℕ) → IsSoundTable t → Unlocks t p n u → IsSoundTable u
sound-unlocks t u p n s c = subst IsSoundTable (sym c) (sound-fewer t (λ k. not (holds_number p n k)) s)

sound-sessions : (t : Table) (open_ones : List ℕ) → IsSoundTable t → IsSoundTable (record t { sessions = open_ones })
sound-sessions t open_ones s = record { lawful = s.lawful; ordered = s.ordered; taken = s.taken; used = s.used; locks = Each-all (IsFree new) t.locks (λ k h. free-more t new k (λ q m l. l) (λ f. f) (Each-at (IsFree t) t.locks k s.locks h)); window = s.window; quorum = s.quorum; values = s.values }
  where
    new : Table
    new = record t { sessions = open_ones }

pub sound-closes : (t u : Table) (r : ℕ) → IsSoundTable t → Closes t r u → IsSoundTable u
sound-closes t u r s c =
    subst IsSoundTable (sym c) (sound-sessions (record t { locks = filter (λ k. not (nat_eq k.owner r)) t.locks }) (filter (λ x. not (nat_eq x r)) t.sessions) (sound-fewer t (λ k. not (nat_eq k.owner r)) s))

pub sound-opens : (t u : Table) (r : ℕ) → IsSoundTable t → Opens t r u → IsSoundTable u
sound-opens t u r s c = subst IsSoundTable (sym c) (sound-sessions t (with_session r (filter (λ x. not (nat_eq x r)) t.sessions)) s)

-- ---- commit

-- the lock that holds a number is none of those that are left
pub not-left : (p : Option ℕ) (n : ℕ) (k : Lock) → not (holds_number p n k) ≡ true → (p ≡ k.partition) × (n ≡ k.number) → ⊥
not-left p n k e h = let r : rank p ≡ rank k.partition = ap rank h.0 in let m = h.1 in absurd (grind (arith, nat_tests))

pub lock-fresh : (t : Table) (p : Option ℕ) (n : ℕ) → IsSoundTable t → IsLocked t.locks p n → IsFresh t.log p n
lock-fresh t p n s l =
    subst (λ (o : Option ℕ). IsFresh t.log o n) l.partition (subst (λ m. IsFresh t.log (Lock.partition l.lock) m) l.number (IsFree.fresh (Each-at (IsFree t) t.locks l.lock s.locks l.is_in)))

lock-below : (t : Table) (p : Option ℕ) (n : ℕ) → IsSoundTable t → IsLocked t.locks p n → n < next_number t.next p
lock-below t p n s l =
    subst (λ (o : Option ℕ). n < next_number t.next o) l.partition (subst (λ m. m < next_number t.next (Lock.partition l.lock)) l.number (IsFree.below (Each-at (IsFree t) t.locks l.lock s.locks l.is_in)))

few-values : (t : Table) (values : ℕ) → commit_limit t.log t.values values ≡ None → t.values + values ≤ 8388608
few-values t values h = go (nat_le 32768 (client_count t.log)) (nat_lt 8388608 (t.values + values)) refl h
  where
    go : (a b : Bool) → nat_lt 8388608 (t.values + values) ≡ b → cond {A = Option (Limit × ℕ)} a (Some (limits.ClientEntries, client_count t.log)) (cond {A = Option (Limit × ℕ)} b (Some (limits.Values, t.values)) None) ≡ None → t.values + values ≤ 8388608
    go true b e q = absurd (cc)
    go false true e q = absurd (cc)
    go false false e q = grind (arith, nat_tests)

committed : (t : Table) (p : Option ℕ) (n : ℕ) (digest : List ℕ) (r need values : ℕ) → IsSoundTable t → IsLocked t.locks p n → (2 ≤ need → t.quorum.pending ≡ None) → t.values + values ≤ 8388608
    → IsSoundTable (record t { log = Get p n digest r need ∷ t.log; locks = locks_without t.locks p n; window = window_with t.schema.window t.window p n digest; quorum = quorum_after_block (block_name p n) need t.quorum; values = t.values + values })
committed t p n digest r need values s l quiet few =
    record {
      lawful = (s.lawful, lock-fresh t p n s l);
      ordered = s.ordered;
      taken = s.taken;
      used = λ q m u. elim u [
        | inl e ↦ subst (λ (o : Option ℕ). m < next_number t.next o) e.0 (subst (λ i. i < next_number t.next p) e.1 (lock-below t p n s l))
        | inr k ↦ s.used q m k
      ];
      locks = Each-all (IsFree new) (locks_without t.locks p n) (λ k h. free k (Has-filter (λ x. not (holds_number p n x)) t.locks k h));
      window = ap (λ w. window_with t.schema.window w p n digest) s.window;
      quorum = quorum-block t.schema p n digest r need t.log t.quorum (s.lawful, lock-fresh t p n s l) quiet s.quorum;
      values = few;
    }
  where
    new : Table
    new = record t { log = Get p n digest r need ∷ t.log; locks = locks_without t.locks p n; window = window_with t.schema.window t.window p n digest; quorum = quorum_after_block (block_name p n) need t.quorum; values = t.values + values }

    free : (k : Lock) → Has t.locks k × (not (holds_number p n k) ≡ true) → IsFree new k
    free k h = free-more t new k (λ q m i. i) (fresh-get t.log k.partition p k.number n digest r need (not-left p n k h.1)) (Each-at (IsFree t) t.locks k s.locks h.0)

pub sound-commits : (t u : Table) (p : Option ℕ) (n : ℕ) (digest : List ℕ) (r need values : ℕ) → IsSoundTable t → Commits t p n digest r need values u → IsSoundTable u
sound-commits t u p n digest r need values s c = subst IsSoundTable (sym c.change) (committed t p n digest r need values s c.locked c.none_pending (few-values t values c.within))

-- ---- worker entries

merged : (t : Table) (name : Name) (olds : List Name) (count : ℕ) → IsSoundTable t → Meets t.schema t.log (Merge name olds count) → Each (λ k. Spans name k.partition k.number → ⊥) t.locks → IsSoundTable (with_entry (Merge name olds count) t)
merged t name olds count s m free =
    record {
      lawful = (s.lawful, m);
      ordered = s.ordered;
      taken = s.taken;
      used = λ q k u. elim u [ inl e ↦ absurd e | inr h ↦ s.used q k h ];
      locks = Each-all (IsFree new) t.locks (λ k h. free-more t new k (λ q i l. l) (fresh-merge t.log k.partition k.number name olds count (Each-at (λ x. Spans name x.partition x.number → ⊥) t.locks k free h)) (Each-at (IsFree t) t.locks k s.locks h));
      window = s.window;
      quorum = quorum-stays (Merge name olds count) t.log t.quorum refl (λ a k. k) s.quorum;
      values = s.values;
    }
  where
    new : Table
    new = with_entry (Merge name olds count) t

pub sound-merges : (t u : Table) (name : Name) (olds : List Name) (count : ℕ) → IsSoundTable t → AssignsMerge t name olds count u → IsSoundTable u
sound-merges t u name olds count s c = subst IsSoundTable (sym c.change) (merged t name olds count s c.meets c.free)

mutated : (t : Table) (old name : Name) (upto count mcount : ℕ) → IsSoundTable t → Meets t.schema t.log (Mutate old name upto count mcount) → IsSoundTable (with_entry (Mutate old name upto count mcount) t)
mutated t old name upto count mcount s m =
    record {
      lawful = (s.lawful, m);
      ordered = s.ordered;
      taken = s.taken;
      used = λ q k u. elim u [ inl e ↦ absurd e | inr h ↦ s.used q k h ];
      locks = Each-all (IsFree new) t.locks (λ k h. free-more t new k (λ q i l. l) (fresh-mutate t.log k.partition k.number old name upto count mcount m) (Each-at (IsFree t) t.locks k s.locks h));
      window = s.window;
      quorum = quorum-stays (Mutate old name upto count mcount) t.log t.quorum refl (λ a k. k) s.quorum;
      values = s.values;
    }
  where
    new : Table
    new = with_entry (Mutate old name upto count mcount) t

pub sound-mutates : (t u : Table) (old name : Name) (upto count mcount : ℕ) → IsSoundTable t → AssignsMutate t old name upto count mcount u → IsSoundTable u
sound-mutates t u old name upto count mcount s c = subst IsSoundTable (sym c.change) (mutated t old name upto count mcount s c.meets)

-- ---- a mutation

pub mutation-lawful : (t : Table) (command : CheckedMutation) → IsSoundTable t → CreatesMutation t command (record t { log = Mutation (mutation_count t.log) t.next command ∷ t.log; next = next_numbers_after t.next }) → IsMutation t.schema t.log (mutation_count t.log) t.next command
mutation-lawful t command s c =
    record {
      numbered = refl;
      rising = s.ordered;
      everywhere = λ p n u. let l = s.used p n u in (next_number t.next p, has-next t.next p (omega (arith, l)));
      above = Each-all (λ x. (1 ≤ x.1) × AboveUsed t.log x.0 x.1) t.next (λ x h. (Each-at (λ y. 1 ≤ y.1) t.next x s.taken h, λ m u. let l = s.used x.0 m u in let e = next-has t.next x.0 x.1 s.ordered h in omega (arith, l, e)));
      fits = c.fits;
    }

pub sound-mutation : (t u : Table) (command : CheckedMutation) → IsSoundTable t → CreatesMutation t command u → IsSoundTable u
sound-mutation t u command s c =
    subst IsSoundTable (sym c.change) (record {
      lawful = (s.lawful, mutation-lawful t command s (record { fits = c.fits; within = c.within; change = refl }));
      ordered = ordered-advanced t.next s.ordered;
      taken = taken-advanced t.next;
      used = λ p n k. elim k [
        | inl h ↦ (let e = next-has t.next p n s.ordered h in let l = Each-at (λ y. 1 ≤ y.1) t.next (p, n) s.taken h in let f = next-past t.next p (omega (arith, e, l)) in omega (arith, e, f))
        | inr h ↦ (let l = s.used p n h in let f = next-advanced t.next p in omega (arith, l, f))
      ];
      locks = Each-all (IsFree new) t.locks (λ k h. free k (Each-at (IsFree t) t.locks k s.locks h));
      window = s.window;
      quorum = quorum-stays (Mutation (mutation_count t.log) t.next command) t.log t.quorum refl (λ a k. k) s.quorum;
      values = s.values;
    })
  where
    new : Table
    new = record t { log = Mutation (mutation_count t.log) t.next command ∷ t.log; next = next_numbers_after t.next }

    free : (k : Lock) → IsFree t k → IsFree new k
    free k h =
        free-more t new k (λ p m l. let f = next-advanced t.next p in omega (arith, l, f))
        (fresh-mutation t.log k.partition k.number (mutation_count t.log) t.next command (λ i. let e = next-has t.next k.partition k.number s.ordered i in let l = h.below in absurd (omega (arith, e, l)))) h

-- ---- a drop

dropped : (t : Table) (p : Option ℕ) (n : ℕ) → IsSoundTable t → n ≡ next_number t.next p
    → IsSoundTable (record t { log = DropRange p n ∷ t.log; next = with_next t.next p (n + 1); locks = locks_without_below t.locks p n; window = window_without t.window p n; quorum = quorum_after_drop p n t.quorum })
dropped t p n s e =
    record {
      lawful = (s.lawful, λ m u. let l = s.used p m u in omega (arith, l, e));
      ordered = ordered-with t.next p (n + 1) s.ordered;
      taken = taken-with t.next p (n + 1) (omega arith) s.taken;
      used = λ q m u. elim u [
        | inl h ↦ subst (λ (o : Option ℕ). m < next_number (with_next t.next p (n + 1)) o) h.0 (let f = next-with t.next p (n + 1) in let g = h.1 in omega (arith, f, g))
        | inr h ↦ below q m (s.used q m h)
      ];
      locks = Each-all (IsFree new) (locks_without_below t.locks p n) (λ k h. free k (Has-filter (λ x. not (nat_eq (rank x.partition) (rank p) && nat_lt x.number n)) t.locks k h));
      window = ap (λ w. window_without w p n) s.window;
      quorum = quorum-drop t.schema p n t.log (s.lawful, λ m u. let l = s.used p m u in omega (arith, l, e)) t.quorum s.quorum;
      values = s.values;
    }
  where
    new : Table
    new = record t { log = DropRange p n ∷ t.log; next = with_next t.next p (n + 1); locks = locks_without_below t.locks p n; window = window_without t.window p n; quorum = quorum_after_drop p n t.quorum }

    below : (q : Option ℕ) (m : ℕ) → m < next_number t.next q → m < next_number (with_next t.next p (n + 1)) q
    below q m l = still-below t.next p q (n + 1) m (omega (arith, e)) l

    -- a lock of the partition lies below its next number, so it went
    none-left : (k : Lock) → not (nat_eq (rank k.partition) (rank p) && nat_lt k.number n) ≡ true → k.number < next_number t.next k.partition → p ≡ k.partition → ⊥
    none-left k f l r =
        let q : rank k.partition ≡ rank p = ap rank (sym r) in
        let g = subst (λ (o : Option ℕ). k.number < next_number t.next o) (sym r) l in
        let h : k.number < n = omega (arith, g, e) in
        absurd (grind (arith, nat_tests))

    free : (k : Lock) → Has t.locks k × (not (nat_eq (rank k.partition) (rank p) && nat_lt k.number n) ≡ true) → IsFree new k
    free k h =
        let f = Each-at (IsFree t) t.locks k s.locks h.0 in
        free-more t new k below (fresh-drop t.log k.partition p k.number n (λ r. absurd (none-left k h.1 (IsFree.below f) r))) f

pub sound-drops : (t u : Table) (p : Option ℕ) (n : ℕ) → IsSoundTable t → DropsPartition t p n u → IsSoundTable u
sound-drops t u p n s c = subst IsSoundTable (sym c.change) (dropped t p n s c.number)

-- ---- a note

pub sound-notes : (t u : Table) (r : ℕ) → IsSoundTable t → Notes t r u → IsSoundTable u
sound-notes t u r s c = subst IsSoundTable (sym c) (record {
  lawful = s.lawful;
  ordered = s.ordered;
  taken = s.taken;
  used = s.used;
  locks = Each-all (IsFree new) t.locks (λ k h. free-more t new k (λ q m l. l) (λ f. f) (Each-at (IsFree t) t.locks k s.locks h));
  window = s.window;
  quorum = quorum-note t.log r t.quorum s.quorum;
  values = s.values;
})
  where
    new : Table
    new = record t { quorum = quorum_after_note r t.quorum }
