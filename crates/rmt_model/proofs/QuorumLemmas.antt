-- What is so of the quorum after each entry and each note.
use Rattle.std.proofs.Common.{◌≡◌, ℕ, suc, ◌<◌, ◌≤◌, ◌⊎◌, inl, inr, Bool, true, false, cond, List, [], ◌∷◌, length, refl, sym, ap, subst, arith, ◌∙◌, nat_eq, nat_lt, nat_le}
use Rattle.std.proofs.lemmas.Bool.Decides.{nat_tests}
use Rattle.std.specs.declared.option.Option.{Option}
use Rattle.std.specs.declared.option.Option.TheVariants.{Some, None}
use Rattle.rmt_values.specs.Rows.{Shape}
use Rattle.rmt_names.specs.Names.{Name, rank, block_name}
use Rattle.rmt_entries.specs.declared.entry.Entry.{Entry}
use Rattle.rmt_entries.specs.declared.entry.Entry.TheVariants.{Get, Merge, Mutate, Mutation, DropRange}
use Rattle.rmt_model.specs.Words.{Has, Pairwise}
use Rattle.rmt_model.specs.Live.{made, made_with, TakesAway, Dropped}
use Rattle.rmt_model.specs.Lawful.{Used, Lawful}
use Rattle.rmt_model.proofs.Lists.{Each-at, Each-all, rank-injective}
use Rattle.rmt_model.proofs.Drops.{dropped-made}
use Rattle.rmt_model.proofs.VersionLaws.{made-used}
use Rattle.rmt_model.specs.Quorum.{QuorumBlock, Pending, Quorum, quorum_blocks, IsPending, IsLast, IsNewest, IsQuorum, is_dropped_by, pending_after_drop, last_after_drop, quorum_after_drop, quorum_after_block, noted_with, noted_by, quorum_after_note}
use Rattle.rmt_entries.specs.Entries.{result_name}
use Rattle.rmt_model.specs.Laws.{Supersedes}
use Rattle.rmt_model.proofs.LiveLaws.{later-covers}

-- no name is made twice
not-twice : (schema : Shape) (x : Entry) (log : List Entry) (a : Name) → Lawful schema (x ∷ log) → result_name x ≡ Some a → Has (made log) a → ⊥
not-twice schema x log a l m h =
    let p = subst (λ (o : Option Name). Pairwise Supersedes (made_with o (made log))) m (later-covers schema (x ∷ log) l) in
    (Each-at (Supersedes a) (made log) a p.0 h).differ refl

-- each part that was asked for was made
pub asked-made : (log : List Entry) (x : QuorumBlock) → Has (quorum_blocks log) x → Has (made log) x.part
asked-made [] x h = absurd h
asked-made (Get p n digest source need ∷ log) x h = go (nat_le 2 need) h (asked-made log x)
  where
    go : (b : Bool) → Has (cond b (record { part = block_name p n; need = need } ∷ quorum_blocks log) (quorum_blocks log)) x → (Has (quorum_blocks log) x → Has (made log) x.part) → Has (made (Get p n digest source need ∷ log)) x.part
    go true (inl e) f = inl (ap (λ (y : QuorumBlock). y.part) e)
    go true (inr k) f = inr (f k)
    go false k f = inr (f k)
asked-made (Merge new sources count ∷ log) x h = inr (asked-made log x h)
asked-made (Mutate old new upto count mcount ∷ log) x h = inr (asked-made log x h)
asked-made (Mutation id numbers command ∷ log) x h = asked-made log x h
asked-made (DropRange p n ∷ log) x h = asked-made log x h

-- the last part whose quorum was met is one of those that aren't pending
last-among : (log : List Entry) (others : List QuorumBlock) (a : Name) → IsLast log others (Some a) → (x : QuorumBlock) × Has others x × (x.part ≡ a) × (Dropped log a → ⊥)
last-among log [] a h = absurd h
last-among log (x ∷ others) a (inl h) = (x, inl refl, h.0, h.1)
last-among log (x ∷ others) a (inr h) = let r = last-among log others a h.1 in (r.0, inr r.1, r.2, r.3)

-- it stays the last one in a longer log that doesn't drop it
last-stays : (e : Entry) (log : List Entry) (others : List QuorumBlock) (a : Name) → (TakesAway e a → ⊥) → IsLast log others (Some a) → IsLast (e ∷ log) others (Some a)
last-stays e log [] a out h = absurd h
last-stays e log (x ∷ others) a out (inl h) = inl (h.0, λ d. elim d [ inl k ↦ h.1 k | inr k ↦ out k.1 ])
last-stays e log (x ∷ others) a out (inr h) = inr (inl h.0, last-stays e log others a out h.1)

newest-stays : (e : Entry) (log : List Entry) (others : List QuorumBlock) (last : Option Name) → IsNewest log others last → IsNewest (e ∷ log) others last
newest-stays e log [] last h = tt
newest-stays e log (x ∷ others) last h = λ out. h (λ d. out (inl d))

pending-stays : (e : Entry) (log : List Entry) (pending : Option Pending) (others : List QuorumBlock) → quorum_blocks (e ∷ log) ≡ quorum_blocks log → ((a : Name) → TakesAway e a → ⊥) → IsPending log pending others → IsPending (e ∷ log) pending others
pending-stays e log None others s out h = s ∙ h
pending-stays e log (Some q) others s out h = (s ∙ h.0, λ d. elim d [ inl k ↦ h.1 k | inr k ↦ out q.part k.1 ], h.2, h.3)

last-kept : (e : Entry) (log : List Entry) (last : Option Name) (others : List QuorumBlock) → ((a : Name) → TakesAway e a → ⊥) → IsLast log others last → IsLast (e ∷ log) others last
last-kept e log None others out h = tt
last-kept e log (Some a) others out h = last-stays e log others a (out a) h

-- an entry that asks for no quorum and drops nothing
pub quorum-stays : (e : Entry) (log : List Entry) (q : Quorum) → quorum_blocks (e ∷ log) ≡ quorum_blocks log → ((a : Name) → TakesAway e a → ⊥) → IsQuorum log q → IsQuorum (e ∷ log) q
quorum-stays e log q s out h = record {
  others = h.others;
  pending = pending-stays e log q.pending h.others s out h.pending;
  last = last-kept e log q.last h.others out h.last;
  newest = newest-stays e log h.others q.last h.newest;
}

-- a block: where it asks for a quorum none is pending before it, and its part is pending after it
pub quorum-block : (schema : Shape) (p : Option ℕ) (n : ℕ) (digest : List ℕ) (source need : ℕ) (log : List Entry) (q : Quorum) → Lawful schema (Get p n digest source need ∷ log) → (2 ≤ need → q.pending ≡ None) → IsQuorum log q → IsQuorum (Get p n digest source need ∷ log) (quorum_after_block (block_name p n) need q)
quorum-block schema p n digest source need log q l none h = go (nat_le 2 need) refl
  where
    e : Entry
    e = Get p n digest source need

    undropped : Dropped (Get p n digest source need ∷ log) (block_name p n) → ⊥
    undropped (inl d) = not-twice schema (Get p n digest source need) log (block_name p n) l refl (dropped-made log (block_name p n) d)
    undropped (inr k) = k.1

    before : q.pending ≡ None → quorum_blocks log ≡ h.others
    before z = subst (λ (o : Option Pending). IsPending log o h.others) z h.pending

    go : (b : Bool) → nat_le 2 need ≡ b → IsQuorum (Get p n digest source need ∷ log) (record { pending = cond b (Some (record { part = block_name p n; need = need; noted = [] })) q.pending; last = q.last })
    go true t = record {
      others = h.others;
      pending = (
        ap (λ (b : Bool). cond b (record { part = block_name p n; need = need } ∷ quorum_blocks log) (quorum_blocks log)) t ∙ ap (λ (xs : List QuorumBlock). record { part = block_name p n; need = need } ∷ xs) (before (none (grind (arith, nat_tests)))),
        undropped,
        grind (arith, nat_tests),
        tt,
      );
      last = last-kept (Get p n digest source need) log q.last h.others (λ a t. t) h.last;
      newest = newest-stays (Get p n digest source need) log h.others q.last h.newest;
    }
    go false t = quorum-stays (Get p n digest source need) log q (ap (λ (b : Bool). cond b (record { part = block_name p n; need = need } ∷ quorum_blocks log) (quorum_blocks log)) t) (λ a t. t) h

-- ---- a drop

dropped-by : (p : Option ℕ) (n : ℕ) (a : Name) → is_dropped_by p n a ≡ true → TakesAway (DropRange p n) a
dropped-by p n a t = (rank-injective p a.partition (grind (arith, nat_tests)), grind (arith, nat_tests))

not-dropped-by : (schema : Shape) (p : Option ℕ) (n : ℕ) (log : List Entry) (a : Name) → Lawful schema (DropRange p n ∷ log) → Has (made log) a → is_dropped_by p n a ≡ false → TakesAway (DropRange p n) a → ⊥
not-dropped-by schema p n log a l m t d =
    let u = l.1 a.max (subst (λ (q : Option ℕ). Used log q a.max) (sym d.0) (made-used schema log a l.0 m)) in
    let r : rank p ≡ rank a.partition = ap rank d.0 in
    grind (arith, nat_tests)

module _ (schema : Shape) (p : Option ℕ) (n : ℕ) (log : List Entry) (l : Lawful schema (DropRange p n ∷ log)) where
  -- the last one after the drop, among others of the log
  last-dropped : (others : List QuorumBlock) (last : Option Name) → ((x : QuorumBlock) → Has others x → Has (quorum_blocks log) x) → IsLast log others last → IsNewest log others last → IsLast (DropRange p n ∷ log) others (last_after_drop p n last) × IsNewest (DropRange p n ∷ log) others (last_after_drop p n last)
  last-dropped others None among h k = (tt, newest-stays (DropRange p n) log others None k)
  last-dropped others (Some a) among h k = go (is_dropped_by p n a) refl
    where
      found : (x : QuorumBlock) × Has others x × (x.part ≡ a) × (Dropped log a → ⊥)
      found = last-among log others a h

      a-made : Has (made log) a
      a-made = subst (λ (y : Name). Has (made log) y) found.2 (asked-made log found.0 (among found.0 found.1))

      cleared : (xs : List QuorumBlock) → is_dropped_by p n a ≡ true → IsNewest log xs (Some a) → IsNewest (DropRange p n ∷ log) xs None
      cleared [] t k = tt
      cleared (x ∷ xs) t k = λ out. let e : Some a ≡ Some x.part = k (λ d. out (inl d)) in let i : a ≡ x.part = cc in absurd (out (inr (subst (λ (y : Name). Has (made log) y) i a-made, subst (TakesAway (DropRange p n)) i (dropped-by p n a t))))

      go : (b : Bool) → is_dropped_by p n a ≡ b → IsLast (DropRange p n ∷ log) others (cond b None (Some a)) × IsNewest (DropRange p n ∷ log) others (cond b None (Some a))
      go true t = (tt, cleared others t k)
      go false t = (last-stays (DropRange p n) log others a (not-dropped-by schema p n log a l a-made t) h, newest-stays (DropRange p n) log others (Some a) k)

  dropped-first : (x : QuorumBlock) (others : List QuorumBlock) (last : Option Name) → Dropped (DropRange p n ∷ log) x.part → IsLast (DropRange p n ∷ log) others last → IsLast (DropRange p n ∷ log) (x ∷ others) last
  dropped-first x others None d h = tt
  dropped-first x others (Some a) d h = inr (d, h)

  pub quorum-drop : (q : Quorum) → IsQuorum log q → IsQuorum (DropRange p n ∷ log) (quorum_after_drop p n q)
  quorum-drop q h = by_pending q.pending h.pending
    where
      by_pending : (o : Option Pending) → IsPending log o h.others → IsQuorum (DropRange p n ∷ log) (record { pending = pending_after_drop p n o; last = last_after_drop p n q.last })
      by_pending None k =
          let s = last-dropped h.others q.last (λ x m. subst (λ (xs : List QuorumBlock). Has xs x) (sym k) m) h.last h.newest in
          record { others = h.others; pending = k; last = s.0; newest = s.1 }
      by_pending (Some o) k = go (is_dropped_by p n o.part) refl
        where
          s : IsLast (DropRange p n ∷ log) h.others (last_after_drop p n q.last) × IsNewest (DropRange p n ∷ log) h.others (last_after_drop p n q.last)
          s = last-dropped h.others q.last (λ x m. subst (λ (xs : List QuorumBlock). Has xs x) (sym k.0) (inr m)) h.last h.newest

          o-made : Has (made log) o.part
          o-made = asked-made log (record { part = o.part; need = o.need }) (subst (λ (xs : List QuorumBlock). Has xs (record { part = o.part; need = o.need })) (sym k.0) (inl refl))

          go : (b : Bool) → is_dropped_by p n o.part ≡ b → IsQuorum (DropRange p n ∷ log) (record { pending = cond b None (Some o); last = last_after_drop p n q.last })
          go true t =
              let d : Dropped (DropRange p n ∷ log) o.part = inr (o-made, dropped-by p n o.part t) in
              record {
                others = record { part = o.part; need = o.need } ∷ h.others;
                pending = k.0;
                last = dropped-first (record { part = o.part; need = o.need }) h.others (last_after_drop p n q.last) d s.0;
                newest = λ out. absurd (out d);
              }
          go false t = record {
            others = h.others;
            pending = (k.0, λ d. elim d [ inl v ↦ k.1 v | inr v ↦ not-dropped-by schema p n log o.part l o-made t v.1 ], k.2, k.3);
            last = s.0;
            newest = s.1;
          }

-- ---- a note

noted-from : (r : ℕ) (xs : List ℕ) (y : ℕ) → Has (noted_with r xs) y → (r ≡ y) ⊎ Has xs y
noted-from r [] y (inl e) = inl e
noted-from r [] y (inr h) = absurd h
noted-from r (x ∷ xs) y h = go (nat_lt x r) (nat_eq x r) h (noted-from r xs y)
  where
    go : (b c : Bool) → Has (cond b (x ∷ noted_with r xs) (cond c (x ∷ xs) (r ∷ x ∷ xs))) y → (Has (noted_with r xs) y → (r ≡ y) ⊎ Has xs y) → (r ≡ y) ⊎ Has (x ∷ xs) y
    go true c (inl e) f = inr (inl e)
    go true c (inr k) f = elim (f k) [ inl e ↦ inl e | inr m ↦ inr (inr m) ]
    go false true k f = inr k
    go false false (inl e) f = inl e
    go false false (inr k) f = inr k

pub noted-rising : (r : ℕ) (xs : List ℕ) → Pairwise ◌<◌ xs → Pairwise ◌<◌ (noted_with r xs)
noted-rising r [] w = (tt, tt)
noted-rising r (x ∷ xs) w = go (nat_lt x r) refl (nat_eq x r) refl (noted-rising r xs w.1)
  where
    go : (b : Bool) → nat_lt x r ≡ b → (c : Bool) → nat_eq x r ≡ c → Pairwise ◌<◌ (noted_with r xs) → Pairwise ◌<◌ (cond b (x ∷ noted_with r xs) (cond c (x ∷ xs) (r ∷ x ∷ xs)))
    go true t c u f = (Each-all (λ y. x < y) (noted_with r xs) (λ y m. elim (noted-from r xs y m) [ inl e ↦ let q : r ≡ y = e in let g : x < r = grind (arith, nat_tests) in omega (arith, q, g) | inr k ↦ Each-at (λ z. x < z) xs y w.0 k ]), f)
    go false t true u f = w
    go false t false u f =
        let g : r < x = grind (arith, nat_tests) in
        (Each-all (λ y. r < y) (x ∷ xs) (λ y m. elim m [ inl e ↦ let q : x ≡ y = e in omega (arith, q, g) | inr k ↦ let v : x < y = Each-at (λ z. x < z) xs y w.0 k in omega (arith, v, g) ]), w)

pub quorum-note : (log : List Entry) (r : ℕ) (q : Quorum) → IsQuorum log q → IsQuorum log (quorum_after_note r q)
quorum-note log r q h = by_pending q.pending h.pending
  where
    by_pending : (o : Option Pending) → IsPending log o h.others → IsQuorum log (noted_by r q o)
    by_pending None k = h
    by_pending (Some o) k = go (nat_lt (length (noted_with r o.noted)) o.need) refl
      where
        go : (b : Bool) → nat_lt (length (noted_with r o.noted)) o.need ≡ b → IsQuorum log (cond b (record { pending = Some (record { part = o.part; need = o.need; noted = noted_with r o.noted }); last = q.last }) (record { pending = None; last = Some o.part }))
        go true t = record { others = h.others; pending = (k.0, k.1, grind (arith, nat_tests), noted-rising r o.noted k.3); last = h.last; newest = h.newest }
        go false t = record { others = record { part = o.part; need = o.need } ∷ h.others; pending = k.0; last = inl (refl, k.1); newest = λ out. refl }

-- one more replica
pub noted-length : (r : ℕ) (xs : List ℕ) → (Has xs r → ⊥) → length (noted_with r xs) ≡ suc (length xs)
noted-length r [] f = refl
noted-length r (x ∷ xs) f = go (nat_lt x r) (nat_eq x r) refl (noted-length r xs (λ h. f (inr h)))
  where
    go : (b c : Bool) → nat_eq x r ≡ c → length (noted_with r xs) ≡ suc (length xs) → length (cond b (x ∷ noted_with r xs) (cond c (x ∷ xs) (r ∷ x ∷ xs))) ≡ suc (length (x ∷ xs))
    go true c e h = omega (arith, h)
    go false true e h = absurd (f (inl (grind (arith, nat_tests))))
    go false false e h = refl
