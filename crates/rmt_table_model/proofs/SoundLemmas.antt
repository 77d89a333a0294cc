-- Each call keeps a table sound.
use Rattle.std.proofs.Common.{◌≡◌, ◌≢◌, ℕ, ◌+◌, ◌<◌, ◌≤◌, ◌⊎◌, inl, inr, Bool, true, false, cond, List, ◌∷◌, length, refl, sym, ap, subst, arith, ◌∙◌, nat_eq, nat_lt, get_or, set, not}
use Rattle.std.proofs.lemmas.Bool.Decides.{nat_tests}
use Rattle.std.proofs.lemmas.List.Sums.{sum_by-cons}
use Rattle.std.proofs.lemmas.List.{get_or-set_same, get_or-set_other, set_past}
use Rattle.std.specs.declared.option.Option.{Option}
use Rattle.std.specs.declared.option.Option.TheVariants.{Some, None}
use Rattle.rmt_model.specs.EntryLimits.{is_client, client_count, worker_count}
use Rattle.rmt_model.specs.BlockNumbers.{next_number}
use Rattle.rmt_values.specs.declared.checked_mutation.CheckedMutation.{CheckedMutation}
use Rattle.rmt_names.specs.Names.{Name, merged_name}
use Rattle.rmt_entries.specs.declared.entry.Entry.{Entry}
use Rattle.rmt_entries.specs.declared.entry.Entry.TheVariants.{Get, Merge, Mutate, Mutation, DropRange}
use Rattle.rmt_model.specs.Lawful.{Used, Uses, AboveUsed, IsFresh, Meets, is_mutation, mutation_count, mutations_through, block_count}
use Rattle.rmt_model.proofs.Lists.{Each-all}
use Rattle.rmt_model.proofs.Drops.{fresh}
use Rattle.rmt_znodes.specs.Znodes.{IsPartition}
use Rattle.rmt_table_model.specs.Numbers.{Holders, IsLocked, IsPast, taken, unlocked}
use Rattle.rmt_model.specs.Quorum.{IsQuorum}
use Rattle.rmt_table_model.specs.Tables.{TableView, IsSound, IsOpen, session_of}
use Rattle.rmt_table_model.specs.Changes.{after_allocate, after_commit, after_abandon, after_mutation, after_drop, after_merge, after_mutate, after_open, after_close, after_pull, after_note, MayAllocate, MayCommit, MayMutate, MayDrop, MayMerge, MayMutateOne, MayOpen}
use Rattle.rmt_table_model.proofs.FreshLemmas.{fresh-get, fresh-merge, fresh-mutate, fresh-mutation, fresh-drop}
use Rattle.rmt_table_model.proofs.NumberLemmas.{number-is, next-has, taken-length, each-length, past-number, taken-from, taken-nexts, taken-past, taken-given, each-more, each-from, each-nexts, each-past, locked-from, unlocked-from, unlocked_below-from, unlocked_by-from}
use Rattle.rmt_table_model.specs.Kept.{is_get, in_order}
use Rattle.rmt_table_model.proofs.KeptLemmas.{kept-get, kept-stays, kept-drop}
use Rattle.rmt_model.proofs.QuorumLemmas.{quorum-stays, quorum-block, quorum-drop, quorum-note}

-- ---- counts

clients-next : (e : Entry) (log : List Entry) → client_count (e ∷ log) ≡ cond (is_client e) 1 0 + client_count log
clients-next e log = sum_by-cons (λ x. cond (is_client x) 1 0) e log

workers-next : (e : Entry) (log : List Entry) → worker_count (e ∷ log) ≡ cond (not (is_client e)) 1 0 + worker_count log
workers-next e log = sum_by-cons (λ x. cond (not (is_client x)) 1 0) e log

mutations-next : (e : Entry) (log : List Entry) → mutation_count (e ∷ log) ≡ cond (is_mutation e) 1 0 + mutation_count log
mutations-next e log = sum_by-cons (λ x. cond (is_mutation x) 1 0) e log

-- an entry of no worker and no mutation that a client may add
clients-within : (e : Entry) (log : List Entry) → is_client e ≡ true → client_count log < 32768 → client_count (e ∷ log) ≤ 32768
clients-within e log t l = let w = clients-next e log ∙ ap (λ (b : Bool). cond b 1 0 + client_count log) t in omega (arith, w, l)

clients-same : (e : Entry) (log : List Entry) → is_client e ≡ false → client_count log ≤ 32768 → client_count (e ∷ log) ≤ 32768
clients-same e log t l = let w = clients-next e log ∙ ap (λ (b : Bool). cond b 1 0 + client_count log) t in omega (arith, w, l)

workers-within : (e : Entry) (log : List Entry) → not (is_client e) ≡ true → worker_count log < 32768 → worker_count (e ∷ log) ≤ 32768
workers-within e log t l = let w = workers-next e log ∙ ap (λ (b : Bool). cond b 1 0 + worker_count log) t in omega (arith, w, l)

workers-same : (e : Entry) (log : List Entry) → not (is_client e) ≡ false → worker_count log ≤ 32768 → worker_count (e ∷ log) ≤ 32768
workers-same e log t l = let w = workers-next e log ∙ ap (λ (b : Bool). cond b 1 0 + worker_count log) t in omega (arith, w, l)

mutations-within : (e : Entry) (log : List Entry) → is_mutation e ≡ true → mutation_count log < 1024 → mutation_count (e ∷ log) ≤ 1024
mutations-within e log t l = let w = mutations-next e log ∙ ap (λ (b : Bool). cond b 1 0 + mutation_count log) t in omega (arith, w, l)

mutations-same : (e : Entry) (log : List Entry) → is_mutation e ≡ false → mutation_count log ≤ 1024 → mutation_count (e ∷ log) ≤ 1024
mutations-same e log t l = let w = mutations-next e log ∙ ap (λ (b : Bool). cond b 1 0 + mutation_count log) t in omega (arith, w, l)

-- the next number of a partition is above all that are used or locked in it
pub above-all : (v : TableView) → IsSound v → (p : Option ℕ) (n : ℕ) → Used v.log p n ⊎ IsLocked v.holders p n → n < next_number v.next p
above-all v s p n h = past-number v.next p n s.nexts (s.given p n h)

pub above-used : (v : TableView) → IsSound v → (p : Option ℕ) → AboveUsed v.log p (next_number v.next p)
above-used v s p m u = above-all v s p m (inl u)

-- ---- each kind of entry goes on lawfully

-- a block whose number is locked
pub meets-get : (v : TableView) → IsSound v → (p : Option ℕ) (n : ℕ) (digest : List ℕ) (source need : ℕ) → IsLocked v.holders p n → Meets v.schema v.log (Get p n digest source need)
meets-get v s p n digest source need h = s.free p n h

-- a merge of neighbours of one partition and one version
pub meets-merge : (v : TableView) (a b : Name) (rest : List Name) → MayMerge a b rest v → Meets v.schema v.log (Merge (merged_name a (b ∷ rest)) (a ∷ b ∷ rest) (block_count v.log (merged_name a (b ∷ rest))))
meets-merge v a b rest m = record { neighbours = m.neighbours; partition = m.partition; version = m.version; name = refl; counted = refl }

-- a mutation of a live part
pub meets-mutate : (v : TableView) (old : Name) (number upto : ℕ) → MayMutateOne old number upto v → Meets v.schema v.log (Mutate old (record old { mutation = number }) upto (block_count v.log old) (mutations_through v.log upto))
meets-mutate v old number upto m = record { number = number; is_live = m.is_live; at = m.at; pending = m.pending; name = refl; counted = refl; mutations = refl }

-- a mutation with the next number of each partition
pub meets-mutation : (v : TableView) → IsSound v → (command : CheckedMutation) → MayMutate command v → Meets v.schema v.log (Mutation (mutation_count v.log) v.next command)
meets-mutation v s command m = record {
  numbered = refl;
  rising = s.nexts.rising;
  everywhere = λ p n u. let r = s.given p n (inl u) in (r.0, r.1);
  above = Each-all (λ x. (1 ≤ x.1) × AboveUsed v.log x.0 x.1) v.next (λ x h. (s.nexts.begun x.0 x.1 h, λ k u. let q = number-is v.next x.0 x.1 s.nexts h in let w = above-used v s x.0 k u in omega (arith, q, w)));
  fits = m.fits;
}

-- a drop with the next number of its partition
pub meets-drop : (v : TableView) → IsSound v → (p : Option ℕ) → Meets v.schema v.log (DropRange p (next_number v.next p))
meets-drop v s p = above-used v s p

-- ---- each call keeps a table sound

pub sound-allocate : (v : TableView) → IsSound v → (p : Option ℕ) (n : ℕ) → MayAllocate p n v → IsSound (after_allocate p n v)
sound-allocate v s p n m = record {
  lawful = s.lawful;
  nexts = taken-nexts v.next p s.nexts;
  given = λ q k h. elim h [
    | inl u ↦ taken-past v.next p q k s.nexts (s.given q k (inl u))
    | inr l ↦ elim (locked-from v.holders p (next_number v.next p) n q k l.0 l.1) [
      | inl e ↦ subst (λ (x : Option ℕ). IsPast (taken v.next p) x k) e.0 (subst (IsPast (taken v.next p) p) e.1 (taken-given v.next p s.nexts))
      | inr o ↦ taken-past v.next p q k s.nexts (s.given q k (inr (l.0, o)))
    ]
  ];
  free = λ q k l. elim (locked-from v.holders p (next_number v.next p) n q k l.0 l.1) [
    | inl e ↦ subst (λ (x : Option ℕ). IsFresh v.log x k) e.0 (subst (IsFresh v.log p) e.1 (fresh v.schema v.log p (next_number v.next p) s.lawful (above-used v s p)))
    | inr o ↦ s.free q k (l.0, o)
  ];
  held = λ q k t l. elim (locked-from v.holders p (next_number v.next p) n q k t l) [
    | inl e ↦ subst (IsOpen v.sessions) e.2 m.is_open
    | inr o ↦ s.held q k t o
  ];
  own = s.own;
  pulled = s.pulled;
  quorum = s.quorum;
  kept = s.kept;
  partitions = λ q k h. elim (taken-from v.next p q k s.nexts h) [ inl e ↦ subst IsPartition e.0 m.is_partition | inr o ↦ s.partitions q k o.0 ];
  within = record {
    partitions = taken-length v.next p 1024 s.nexts s.within.partitions m.partitions;
    numbers = λ q k h. elim (taken-from v.next p q k s.nexts h) [ inl e ↦ let w = e.1 in let u = m.numbers in omega (arith, w, u) | inr o ↦ s.within.numbers q k o.0 ];
    mutations = s.within.mutations;
    client_entries = s.within.client_entries;
    worker_entries = s.within.worker_entries;
    values = s.within.values;
  };
}

-- a lock less
sound-unlocked : (v : TableView) → IsSound v → (h : Holders) → ((q : Option ℕ) (k t : ℕ) → h q k ≡ Some t → v.holders q k ≡ Some t) → IsSound (record v { holders = h })
sound-unlocked v s h f = record {
  lawful = s.lawful;
  nexts = s.nexts;
  given = λ q k l. elim l [ inl u ↦ s.given q k (inl u) | inr i ↦ s.given q k (inr (i.0, f q k i.0 i.1)) ];
  free = λ q k i. s.free q k (i.0, f q k i.0 i.1);
  held = λ q k t i. s.held q k t (f q k t i);
  own = s.own;
  pulled = s.pulled;
  quorum = s.quorum;
  kept = s.kept;
  partitions = s.partitions;
  within = record {
    partitions = s.within.partitions;
    numbers = s.within.numbers;
    mutations = s.within.mutations;
    client_entries = s.within.client_entries;
    worker_entries = s.within.worker_entries;
    values = s.within.values;
  };
}

pub sound-abandon : (v : TableView) → IsSound v → (p : Option ℕ) (n : ℕ) → IsSound (after_abandon p n v)
sound-abandon v s p n = sound-unlocked v s (unlocked v.holders p n) (λ q k t i. (unlocked-from v.holders p n q k t i).0)

pub sound-commit : (v : TableView) → IsSound v → (p : Option ℕ) (n : ℕ) (digest : List ℕ) (source need values : ℕ) → MayCommit p n digest need values v → IsSound (after_commit p n digest source need values v)
sound-commit v s p n digest source need values m = record {
  lawful = (s.lawful, meets-get v s p n digest source need m.is_locked);
  nexts = s.nexts;
  given = λ q k l. elim l [
    | inl u ↦ elim u [
      | inl e ↦ subst (λ (x : Option ℕ). IsPast v.next x k) e.0 (subst (IsPast v.next p) e.1 (s.given p n (inr m.is_locked)))
      | inr w ↦ s.given q k (inl w)
    ]
    | inr i ↦ s.given q k (inr (i.0, (unlocked-from v.holders p n q k i.0 i.1).0))
  ];
  free = λ q k i. let o = unlocked-from v.holders p n q k i.0 i.1 in fresh-get v.log p n digest source need q k (s.free q k (i.0, o.0)) o.1;
  held = λ q k t i. s.held q k t (unlocked-from v.holders p n q k t i).0;
  own = s.own;
  pulled = λ r. let w = s.pulled r in omega (arith, w);
  quorum = quorum-block v.schema p n digest source need v.log v.quorum (s.lawful, s.free p n m.is_locked) m.none_pending s.quorum;
  kept = kept-get v.schema.window v.log p n digest source need s.kept m.id m.not_kept;
  partitions = s.partitions;
  within = record {
    partitions = s.within.partitions;
    numbers = s.within.numbers;
    mutations = mutations-same (Get p n digest source need) v.log refl s.within.mutations;
    client_entries = clients-within (Get p n digest source need) v.log refl m.client_entries;
    worker_entries = workers-same (Get p n digest source need) v.log refl s.within.worker_entries;
    values = m.values;
  };
}

pub sound-mutation : (v : TableView) → IsSound v → (command : CheckedMutation) → MayMutate command v → IsSound (after_mutation command v)
sound-mutation v s command m = record {
  lawful = (s.lawful, meets-mutation v s command m);
  nexts = each-nexts v.next s.nexts;
  given = λ q k l. elim l [
    | inl u ↦ elim u [ inl h ↦ (k + 1, each-more v.next q k h, omega arith) | inr w ↦ each-past v.next q k (s.given q k (inl w)) ]
    | inr i ↦ each-past v.next q k (s.given q k (inr i))
  ];
  free = λ q k i. fresh-mutation v.log (mutation_count v.log) v.next command q k (s.free q k i) (λ h. let e = number-is v.next q k s.nexts h in let w = above-all v s q k (inr i) in omega (arith, e, w));
  held = s.held;
  own = s.own;
  pulled = λ r. let w = s.pulled r in omega (arith, w);
  quorum = quorum-stays (Mutation (mutation_count v.log) v.next command) v.log v.quorum refl (λ a t. t) s.quorum;
  kept = kept-stays v.schema.window (Mutation (mutation_count v.log) v.next command) v.log refl refl s.kept;
  partitions = λ q k h. let r = each-from v.next q k h in s.partitions q r.0 r.1;
  within = record {
    partitions = let w = each-length v.next in let u = s.within.partitions in omega (arith, w, u);
    numbers = λ q k h. let r = each-from v.next q k h in let w = m.numbers q r.0 r.1 in let u = r.2 in omega (arith, w, u);
    mutations = mutations-within (Mutation (mutation_count v.log) v.next command) v.log refl m.mutations;
    client_entries = clients-within (Mutation (mutation_count v.log) v.next command) v.log refl m.client_entries;
    worker_entries = workers-same (Mutation (mutation_count v.log) v.next command) v.log refl s.within.worker_entries;
    values = s.within.values;
  };
}

pub sound-drop : (v : TableView) → IsSound v → (p : Option ℕ) → MayDrop p v → IsSound (after_drop p v)
sound-drop v s p m = record {
  lawful = (s.lawful, meets-drop v s p);
  nexts = taken-nexts v.next p s.nexts;
  given = λ q k l. elim l [
    | inl u ↦ elim u [
      | inl e ↦ subst (λ (x : Option ℕ). IsPast (taken v.next p) x k) e.0 (subst (IsPast (taken v.next p) p) e.1 (taken-given v.next p s.nexts))
      | inr w ↦ taken-past v.next p q k s.nexts (s.given q k (inl w))
    ]
    | inr i ↦ taken-past v.next p q k s.nexts (s.given q k (inr (i.0, (unlocked_below-from v.holders p (next_number v.next p) q k i.0 i.1).0)))
  ];
  free = λ q k i.
      let o = unlocked_below-from v.holders p (next_number v.next p) q k i.0 i.1 in
      let w = above-all v s q k (inr (i.0, o.0)) in
      fresh-drop v.log p (next_number v.next p) q k (s.free q k (i.0, o.0)) (λ e. let g = o.1 e in let h : next_number v.next p ≡ next_number v.next q = ap (next_number v.next) e in absurd (omega (arith, g, w, h)));
  held = λ q k t i. s.held q k t (unlocked_below-from v.holders p (next_number v.next p) q k t i).0;
  own = s.own;
  pulled = λ r. let w = s.pulled r in omega (arith, w);
  quorum = quorum-drop v.schema p (next_number v.next p) v.log (s.lawful, meets-drop v s p) v.quorum s.quorum;
  kept = kept-drop v.schema.window p (next_number v.next p) v.log s.kept;
  partitions = λ q k h. elim (taken-from v.next p q k s.nexts h) [ inl e ↦ subst IsPartition e.0 (s.partitions p m.number (next-has v.next p m.number m.exists)) | inr o ↦ s.partitions q k o.0 ];
  within = record {
    partitions = taken-length v.next p 1024 s.nexts s.within.partitions (λ e. let w : ◌≡◌ {A = Option ℕ} None (Some m.number) = sym e ∙ m.exists in absurd (cc));
    numbers = λ q k h. elim (taken-from v.next p q k s.nexts h) [
      | inl e ↦ let w = e.1 in let u = m.numbers in let z = number-is v.next p m.number s.nexts (next-has v.next p m.number m.exists) in omega (arith, w, u, z)
      | inr o ↦ s.within.numbers q k o.0
    ];
    mutations = mutations-same (DropRange p (next_number v.next p)) v.log refl s.within.mutations;
    client_entries = clients-within (DropRange p (next_number v.next p)) v.log refl m.client_entries;
    worker_entries = workers-same (DropRange p (next_number v.next p)) v.log refl s.within.worker_entries;
    values = s.within.values;
  };
}

-- an entry of a worker that uses no number, drops nothing, and leaves each locked number free
sound-worker : (v : TableView) → IsSound v → (e : Entry) → Meets v.schema v.log e → ((p : Option ℕ) (n : ℕ) → Uses e p n → ⊥) → ((p : Option ℕ) (n : ℕ) → IsLocked v.holders p n → IsFresh (e ∷ v.log) p n) → IsQuorum (e ∷ v.log) v.quorum → is_client e ≡ false → not (is_client e) ≡ true → is_mutation e ≡ false → is_get e ≡ false → in_order v.schema.window (e ∷ v.log) ≡ in_order v.schema.window v.log → worker_count v.log < 32768 → IsSound (record v { log = e ∷ v.log })
sound-worker v s e meets unused free quorum c w u g o room = record {
  lawful = (s.lawful, meets);
  nexts = s.nexts;
  given = λ q k l. elim l [
    | inl h ↦ elim h [ inl i ↦ absurd (unused q k i) | inr i ↦ s.given q k (inl i) ]
    | inr i ↦ s.given q k (inr i)
  ];
  free = free;
  held = s.held;
  own = s.own;
  pulled = λ r. let z = s.pulled r in omega (arith, z);
  quorum = quorum;
  kept = kept-stays v.schema.window e v.log g o s.kept;
  partitions = s.partitions;
  within = record {
    partitions = s.within.partitions;
    numbers = s.within.numbers;
    mutations = mutations-same e v.log u s.within.mutations;
    client_entries = clients-same e v.log c s.within.client_entries;
    worker_entries = workers-within e v.log w room;
    values = s.within.values;
  };
}

pub sound-merge : (v : TableView) → IsSound v → (a b : Name) (rest : List Name) → MayMerge a b rest v → IsSound (after_merge a (b ∷ rest) v)
sound-merge v s a b rest m = sound-worker v s e (meets-merge v a b rest m) (λ p n u. u) free (quorum-stays e v.log v.quorum refl (λ x t. t) s.quorum) refl refl refl refl refl m.worker_entries
  where
    e : Entry
    e = Merge (merged_name a (b ∷ rest)) (a ∷ b ∷ rest) (block_count v.log (merged_name a (b ∷ rest)))

    free : (p : Option ℕ) (n : ℕ) → IsLocked v.holders p n → IsFresh (Merge (merged_name a (b ∷ rest)) (a ∷ b ∷ rest) (block_count v.log (merged_name a (b ∷ rest))) ∷ v.log) p n
    free p n i = fresh-merge v.log (merged_name a (b ∷ rest)) (a ∷ b ∷ rest) (block_count v.log (merged_name a (b ∷ rest))) p n (s.free p n i)
        (λ h. m.none_in_flight n (subst (λ (q : Option ℕ). IsLocked v.holders q n) (sym h.partition) i) h.low h.high)

pub sound-mutate : (v : TableView) → IsSound v → (old : Name) (number upto : ℕ) → MayMutateOne old number upto v → IsSound (after_mutate old number upto v)
sound-mutate v s old number upto m =
    sound-worker v s e (meets-mutate v old number upto m) (λ p n u. u) (λ p n i. fresh-mutate v.log old number upto (block_count v.log old) (mutations_through v.log upto) p n (s.free p n i) m.is_live) (quorum-stays e v.log v.quorum refl (λ x t. t) s.quorum) refl refl refl refl refl m.worker_entries
  where
    e : Entry
    e = Mutate old (record old { mutation = number }) upto (block_count v.log old) (mutations_through v.log upto)

pub sound-pull : (v : TableView) → IsSound v → (r : ℕ) → IsSound (after_pull r v)
sound-pull v s r = record {
  lawful = s.lawful;
  nexts = s.nexts;
  given = s.given;
  free = s.free;
  held = s.held;
  own = s.own;
  quorum = s.quorum;
  kept = s.kept;
  partitions = s.partitions;
  pulled = each;
  within = record {
    partitions = s.within.partitions;
    numbers = s.within.numbers;
    mutations = s.within.mutations;
    client_entries = s.within.client_entries;
    worker_entries = s.within.worker_entries;
    values = s.within.values;
  };
}
  where
    each : (t : ℕ) → get_or (set v.pulled r (length v.log)) t 0 ≤ length v.log
    each t = go (nat_eq t r) refl (nat_lt r (length v.pulled)) refl
      where
        go : (b : Bool) → nat_eq t r ≡ b → (c : Bool) → nat_lt r (length v.pulled) ≡ c → get_or (set v.pulled r (length v.log)) t 0 ≤ length v.log
        go false h c k = let q = get_or-set_other v.pulled r t (length v.log) 0 (λ e. grind (arith, nat_tests)) in let w = s.pulled t in omega (arith, q, w)
        go true h true k = let e : t ≡ r = grind (arith, nat_tests) in let q = ap (λ (j : ℕ). get_or (set v.pulled r (length v.log)) j 0) e ∙ get_or-set_same v.pulled r (length v.log) 0 (grind (arith, nat_tests)) in omega (arith, q)
        go true h false k = let q = ap (λ (xs : List ℕ). get_or xs t 0) (set_past v.pulled r (length v.log) (grind (arith, nat_tests))) in let w = s.pulled t in omega (arith, q, w)

pub sound-note : (v : TableView) → IsSound v → (r : ℕ) → IsSound (after_note r v)
sound-note v s r = record {
  lawful = s.lawful;
  nexts = s.nexts;
  given = s.given;
  free = s.free;
  held = s.held;
  own = s.own;
  pulled = s.pulled;
  kept = s.kept;
  partitions = s.partitions;
  quorum = quorum-note v.log r v.quorum s.quorum;
  within = record {
    partitions = s.within.partitions;
    numbers = s.within.numbers;
    mutations = s.within.mutations;
    client_entries = s.within.client_entries;
    worker_entries = s.within.worker_entries;
    values = s.within.values;
  };
}

-- ---- sessions

set-other : (xs : List (Option ℕ)) (r t : ℕ) (o : Option ℕ) → nat_eq t r ≡ false → session_of (set xs r o) t ≡ session_of xs t
set-other xs r t o h = get_or-set_other xs r t o None (λ e. grind (arith, nat_tests))

set-here : (xs : List (Option ℕ)) (r t : ℕ) (o : Option ℕ) → nat_eq t r ≡ true → r < length xs → session_of (set xs r o) t ≡ o
set-here xs r t o h l = let e : t ≡ r = grind (arith, nat_tests) in ap (λ (j : ℕ). get_or (set xs r o) j None) e ∙ get_or-set_same xs r o None l

pub sound-open : (v : TableView) → IsSound v → (r n : ℕ) → session_of v.sessions r ≡ None → MayOpen r n v → IsSound (after_open r n v)
sound-open v s r n none m = record {
  lawful = s.lawful;
  nexts = s.nexts;
  given = s.given;
  free = s.free;
  pulled = s.pulled;
  quorum = s.quorum;
  kept = s.kept;
  partitions = s.partitions;
  held = λ q k t i. kept t (s.held q k t i);
  own = λ a b t i j. apart a b t (split a t i) (split b t j);
  within = record {
    partitions = s.within.partitions;
    numbers = s.within.numbers;
    mutations = s.within.mutations;
    client_entries = s.within.client_entries;
    worker_entries = s.within.worker_entries;
    values = s.within.values;
  };
}
  where
    kept : (t : ℕ) → IsOpen v.sessions t → IsOpen (set v.sessions r (Some n)) t
    kept t o = (o.0, go (nat_eq o.0 r) refl)
      where
        go : (b : Bool) → nat_eq o.0 r ≡ b → session_of (set v.sessions r (Some n)) o.0 ≡ Some t
        go true h = let e : o.0 ≡ r = grind (arith, nat_tests) in let q : ◌≡◌ {A = Option ℕ} None (Some t) = sym none ∙ ap (session_of v.sessions) (sym e) ∙ o.1 in absurd (cc)
        go false h = set-other v.sessions r o.0 (Some n) h ∙ o.1

    split : (a t : ℕ) → session_of (set v.sessions r (Some n)) a ≡ Some t → ((a ≡ r) × (n ≡ t)) ⊎ (session_of v.sessions a ≡ Some t)
    split a t i = go (nat_eq a r) refl
      where
        go : (b : Bool) → nat_eq a r ≡ b → ((a ≡ r) × (n ≡ t)) ⊎ (session_of v.sessions a ≡ Some t)
        go true h = let q : ◌≡◌ {A = Option ℕ} (Some n) (Some t) = sym (set-here v.sessions r a (Some n) h m.is_here) ∙ i in inl (grind (arith, nat_tests), cc)
        go false h = inr (sym (set-other v.sessions r a (Some n) h) ∙ i)

    apart : (a b t : ℕ) → ((a ≡ r) × (n ≡ t)) ⊎ (session_of v.sessions a ≡ Some t) → ((b ≡ r) × (n ≡ t)) ⊎ (session_of v.sessions b ≡ Some t) → a ≡ b
    apart a b t (inl i) (inl j) = i.0 ∙ sym j.0
    apart a b t (inl i) (inr j) = absurd (m.is_new (b, j ∙ ap Some (sym i.1)))
    apart a b t (inr i) (inl j) = absurd (m.is_new (a, i ∙ ap Some (sym j.1)))
    apart a b t (inr i) (inr j) = s.own a b t i j

pub sound-close : (v : TableView) → IsSound v → (r n : ℕ) → r < length v.sessions → session_of v.sessions r ≡ Some n → IsSound (after_close r n v)
sound-close v s r n here was = record {
  lawful = s.lawful;
  nexts = s.nexts;
  pulled = s.pulled;
  quorum = s.quorum;
  kept = s.kept;
  partitions = s.partitions;
  given = λ q k l. elim l [ inl u ↦ s.given q k (inl u) | inr i ↦ s.given q k (inr (i.0, (unlocked_by-from v.holders n q k i.0 i.1).0)) ];
  free = λ q k i. s.free q k (i.0, (unlocked_by-from v.holders n q k i.0 i.1).0);
  held = λ q k t i. let o = unlocked_by-from v.holders n q k t i in kept t o.1 (s.held q k t o.0);
  own = λ a b t i j. s.own a b t (older a t i) (older b t j);
  within = record {
    partitions = s.within.partitions;
    numbers = s.within.numbers;
    mutations = s.within.mutations;
    client_entries = s.within.client_entries;
    worker_entries = s.within.worker_entries;
    values = s.within.values;
  };
}
  where
    kept : (t : ℕ) → t ≢ n → IsOpen v.sessions t → IsOpen (set v.sessions r None) t
    kept t other o = (o.0, go (nat_eq o.0 r) refl)
      where
        go : (b : Bool) → nat_eq o.0 r ≡ b → session_of (set v.sessions r None) o.0 ≡ Some t
        go true h = let e : o.0 ≡ r = grind (arith, nat_tests) in let q : ◌≡◌ {A = Option ℕ} (Some n) (Some t) = sym was ∙ ap (session_of v.sessions) (sym e) ∙ o.1 in let w : t ≡ n = cc in absurd (other w)
        go false h = set-other v.sessions r o.0 None h ∙ o.1

    older : (a t : ℕ) → session_of (set v.sessions r None) a ≡ Some t → session_of v.sessions a ≡ Some t
    older a t i = go (nat_eq a r) refl
      where
        go : (b : Bool) → nat_eq a r ≡ b → session_of v.sessions a ≡ Some t
        go true h = let q : ◌≡◌ {A = Option ℕ} None (Some t) = sym (set-here v.sessions r a None h here) ∙ i in absurd (cc)
        go false h = sym (set-other v.sessions r a None h) ∙ i
