-- The events of inserts, and those of sessions, leave all whole.
use Rattle.std.proofs.Common.{◌≡◌, ℕ, ◌+◌, ◌<◌, ◌⊎◌, inl, inr, Bool, true, false, not, cond, List, [], ◌∷◌, length, refl, sym, ap, subst, arith, ◌∙◌, nat_eq, nat_le, filter}
use Rattle.std.proofs.lemmas.Bool.Decides.{nat_tests}
use Rattle.std.specs.declared.option.Option.{Option}
use Rattle.std.specs.declared.option.Option.TheVariants.{Some}
use Rattle.rmt_values.specs.Rows.{Shape}
use Rattle.rmt_entries.specs.declared.entry.Entry.{Entry}
use Rattle.rmt_entries.specs.declared.entry.Entry.TheVariants.{Get}
use Rattle.rmt_model.specs.Words.{Has, Each, Pairwise}
use Rattle.rmt_model.specs.Lawful.{Used, entry_at, IsPrefix}
use Rattle.rmt_model.proofs.Lists.{Each-at, Each-all, Has-filter, Pairwise-filter}
use Rattle.rmt_model.proofs.LiveLaws.{Pairwise-cases}
use Rattle.rmt_model.proofs.Drops.{some-same, entry-cases, entry-below, entry-has}
use Rattle.rmt_events.specs.Views.{Block, Staged, Replica, Lock, Table}
use Rattle.rmt_model.specs.BlockNumbers.{next_number}
use Rattle.rmt_events.specs.TableCalls.{locks_without}
use Rattle.rmt_events.specs.Sound.{IsSoundTable}
use Rattle.rmt_events.specs.ReplicaCalls.{IsStaged, Stages, comes_before, with_block, staged_without}
use Rattle.rmt_events.specs.Clusters.{Attempt, Cluster, block_of, committed_at, values_of, values_in, Accepted, accepted, blocks_in, rows_of, with_replica}
use Rattle.rmt_events.specs.Whole.{HasItsBlocks, IsRightlyStaged, IsKeptAt, Follows, IsOpen, IsCommitted, HasReplica, HoldDifferentNumbers, IsWhole}
use Rattle.rmt_events.specs.ClusterChanges.{attempts_without, renumbered, cluster_with}
use Rattle.rmt_events.specs.InsertEvents.{BeginsAttempt, RenewsAttempt, StagesAttempt, AcceptsBlock, EndsAttempt}
use Rattle.rmt_names.specs.Names.{block_name}
use Rattle.rmt_model.specs.Quorum.{quorum_blocks}
use Rattle.rmt_events.proofs.Notes.{noted-same, notes-on, notes-quiet, pending-opened, block-asked}
use Rattle.rmt_events.proofs.Numbers.{next-with}
use Rattle.rmt_events.proofs.TableSteps.{still-below, sound-allocates, sound-commits, sound-fewer}
use Rattle.rmt_events.proofs.Moves.{blocks-same, count-kept, goes-on-refl, goes-on-more, GrowsTo, Suits, follows-moved, suits-same, open-moved, same-numbered, whole-replaced}
use Rattle.rmt_events.proofs.ReplicaSteps.{stands-stages, stands-unstages}
use Rattle.rmt_events.proofs.WholeReplica.{IsGetAt, still-waits, follower}
use Rattle.rmt_events.specs.declared.event.Event.{Event}
use Rattle.rmt_events.specs.declared.reply.Reply.{Reply}
use Rattle.rmt_events.specs.declared.event.Event.TheVariants as ev
use Rattle.rmt_events.specs.declared.reply.Reply.TheVariants as rp

-- ---- a try begins

-- the event offers the block to the try that it begins
pub record OffersBlock (v : Event) (b : Block) : Type 0 where
  pub offers : (rest : List (Event × Reply)) (k n a : ℕ) → block_of ((v, rp.Attempt k n) ∷ rest) a ≡ cond (nat_eq k a) (Some b) (block_of rest a)
  pub commits : (rest : List (Event × Reply)) (k n i : ℕ) → committed_at ((v, rp.Attempt k n) ∷ rest) i ≡ committed_at rest i

-- the number of a new try is above all that wait, are used or are held
pub whole-tries : (s t : Cluster) (v : Event) (k : ℕ) (b : Block) (need : ℕ) (reply : Reply) → OffersBlock v b → IsWhole s → BeginsAttempt s k b need reply t → IsWhole (record t { events = (v, reply) ∷ t.events })
whole-tries s t v k b need reply o w e =
    subst (λ (r : Reply). IsWhole (record t { events = (v, r) ∷ t.events })) (sym e.answer)
    (subst (λ (m : Cluster). IsWhole (record m { events = (v, rp.Attempt s.attempts_made e.number) ∷ m.events })) (sym e.change) (record {
      table = sound-allocates s.table e.table k e.number b.partition b.digest w.table e.call;
      rising = w.rising;
      follow = Each-all (Follows new) s.replicas (λ x h. follows-moved s new x (suits x (Each-at (Follows s) s.replicas x w.follow h)) (Each-at (Follows s) s.replicas x w.follow h));
      committed = λ i p n source m digest q. let g = w.committed i p n source m digest (subst (λ (l : List Entry). entry_at l i ≡ Some (Get p n digest source m)) log-is q) in (record { block = IsCommitted.block g.0; is = o.commits s.events s.attempts_made e.number i ∙ IsCommitted.is g.0; partition = IsCommitted.partition g.0; same_id = IsCommitted.same_id g.0 }, g.1);
      attempts = (first, Each-all (IsOpen new) s.attempts (λ a h. rest a (Each-at (IsOpen s) s.attempts a w.attempts h)));
      apart = (Each-all (HoldDifferentNumbers attempt) s.attempts (λ a h. others a (Each-at (IsOpen s) s.attempts a w.attempts h)), w.apart);
      counted = count-kept s new (ap (λ (u : Table). u.values) e.call.change) (ap (λ (u : Table). u.schema) e.call.change) (ap (λ (l : List Entry). blocks_in l new.events) log-is ∙ blocks-same s.table.log s.events new.events (λ i l. o.commits s.events s.attempts_made e.number i)) w.counted;
      notes = notes-quiet s.table e.table s.replicas s.replicas (ap (λ (u : Table). u.quorum) e.call.change) log-is (noted-same s.replicas) w.notes;
    }))
  where
    attempt : Attempt
    attempt = record { id = s.attempts_made; replica = k; block = b; number = e.number; need = need }

    new : Cluster
    new = record s { table = e.table; attempts_made = s.attempts_made + 1; attempts = record { id = s.attempts_made; replica = k; block = b; number = e.number; need = need } ∷ s.attempts; events = (v, rp.Attempt s.attempts_made e.number) ∷ s.events }

    log-is : e.table.log ≡ s.table.log
    log-is = ap (λ (u : Table). u.log) e.call.change

    next-on : (p : Option ℕ) (m : ℕ) → m < next_number s.table.next p → m < next_number e.table.next p
    next-on p m l = subst (λ (u : Table). m < next_number u.next p) (sym e.call.change) (still-below s.table.next b.partition p (e.number + 1) m (let q = e.call.number in omega (arith, q)) l)

    grows : GrowsTo s new
    grows = record {
      schema = ap (λ (u : Table). u.schema) e.call.change;
      log = subst (λ (l : List Entry). IsPrefix s.table.log l) (sym log-is) (goes-on-refl s.table.log);
      next = next-on;
      blocks = λ i x l q. o.commits s.events s.attempts_made e.number i ∙ q;
    }

    suits : (x : Replica) → Follows s x → Suits s new x
    suits x f = record {
      grows = grows;
      opened = λ h. subst (λ (u : Table). Has u.sessions x.number) (sym e.call.change) h;
      closed = λ h. subst (λ (u : Table). Has u.sessions x.number) e.call.change h;
      gets = λ p n m digest h. inl (subst (λ (l : List Entry). Has l (Get p n digest x.number m)) log-is h);
      staged = λ z h. record {
        gets = λ i source m digest q. inl (subst (λ (l : List Entry). entry_at l i ≡ Some (Get z.block.partition z.number digest source m)) log-is q);
        attempts = λ a i p n. elim i [ inl q ↦ absurd (taken z a q p n (IsRightlyStaged.below (Each-at (IsRightlyStaged s) x.staged z f.waiting h))) | inr g ↦ inl g ];
      };
    }
      where
        taken : (z : Staged) (a : Attempt) → attempt ≡ a → a.block.partition ≡ z.block.partition → a.number ≡ z.number → z.number < next_number s.table.next z.block.partition → ⊥
        taken z a q p n l =
            let u : e.number ≡ z.number = ap (λ (y : Attempt). y.number) q ∙ n in
            let v : b.partition ≡ z.block.partition = ap (λ (y : Attempt). y.block.partition) q ∙ p in
            let g = subst (λ (o : Option ℕ). z.number < next_number s.table.next o) (sym v) l in
            let d = e.call.number in
            absurd (omega (arith, u, g, d))

    same-id : (i j : ℕ) → i ≡ j → nat_eq i j ≡ true
    same-id i j q = grind (arith, nat_tests)

    other-id : (i j : ℕ) → j < i → nat_eq i j ≡ false
    other-id i j q = grind (arith, nat_tests)

    first : IsOpen new attempt
    first = record {
      counted = omega arith;
      allocated = o.offers s.events s.attempts_made e.number s.attempts_made ∙ ap (λ (y : Bool). cond y (Some b) (block_of s.events s.attempts_made)) (same-id s.attempts_made s.attempts_made refl);
      below = subst (λ (u : Table). e.number < next_number u.next b.partition) (sym e.call.change) (let q = next-with s.table.next b.partition (e.number + 1) in omega (arith, q));
      unused = λ u. let l = IsSoundTable.used w.table b.partition e.number (subst (λ (l : List Entry). Used l b.partition e.number) log-is u) in let q = e.call.number in absurd (omega (arith, l, q));
    }

    rest : (a : Attempt) → IsOpen s a → IsOpen new a
    rest a u = open-moved s new a (omega arith) (λ q. o.offers s.events s.attempts_made e.number a.id ∙ (ap (λ (y : Bool). cond y (Some b) (block_of s.events a.id)) (other-id s.attempts_made a.id u.counted) ∙ q)) grows (λ m. subst (λ (l : List Entry). Used l a.block.partition a.number) log-is m) u

    others : (a : Attempt) → IsOpen s a → HoldDifferentNumbers attempt a
    others a o = (
      λ q. let l = o.counted in absurd (omega (arith, l, q)),
      λ p q. let l = subst (λ (x : Option ℕ). a.number < next_number s.table.next x) (sym p) o.below in let g = e.call.number in absurd (omega (arith, l, q, g)),
    )

-- ---- fewer tries

pub whole-fewer : (s : Cluster) (id : ℕ) → IsWhole s → IsWhole (record s { attempts = attempts_without s.attempts id })
whole-fewer s id w =
    record {
      table = w.table;
      rising = w.rising;
      follow = Each-all (Follows new) s.replicas (λ x h. follows-moved s new x (suits-same s new x refl refl (λ a i. (Has-filter stays s.attempts a i).0)) (Each-at (Follows s) s.replicas x w.follow h));
      committed = λ i p n source m digest q. let g = w.committed i p n source m digest q in (record { block = IsCommitted.block g.0; is = IsCommitted.is g.0; partition = IsCommitted.partition g.0; same_id = IsCommitted.same_id g.0 }, g.1);
      attempts = Each-all (IsOpen new) (attempts_without s.attempts id) (λ a h. let o = Each-at (IsOpen s) s.attempts a w.attempts (Has-filter stays s.attempts a h).0 in record { counted = o.counted; allocated = o.allocated; below = o.below; unused = o.unused });
      apart = Pairwise-filter HoldDifferentNumbers stays s.attempts w.apart;
      counted = w.counted;
      notes = w.notes;
    }
  where
    stays : Attempt → Bool
    stays a = not (nat_eq a.id id)

    new : Cluster
    new = record s { attempts = attempts_without s.attempts id }

-- ---- a try gets another number

not-dropped-try : (id : ℕ) (a : Attempt) → not (nat_eq a.id id) ≡ true → a.id ≡ id → ⊥
not-dropped-try id a e q = absurd (grind (arith, nat_tests))

-- no two open tries have one id
same-id : (xs : List Attempt) (x y : Attempt) → Pairwise HoldDifferentNumbers xs → Has xs x → Has xs y → x.id ≡ y.id → x ≡ y
same-id xs x y r h k e = elim (Pairwise-cases HoldDifferentNumbers xs x y r h k) [
  | inl q ↦ q
  | inr o ↦ elim o [ inl u ↦ absurd (u.0 e) | inr u ↦ absurd (u.0 (sym e)) ]
]

-- the tries with another number for one: each was there, or is that one
renumbered-from : (xs : List Attempt) (id n : ℕ) (a : Attempt) → Has (renumbered xs id n) a → Has xs a ⊎ ((b : Attempt) × Has xs b × (b.id ≡ id) × (record b { number = n } ≡ a))
renumbered-from [] id n a h = absurd h
renumbered-from (x ∷ xs) id n a h = go (nat_eq x.id id) refl h (renumbered-from xs id n a)
  where
    go : (c : Bool) → nat_eq x.id id ≡ c → Has (cond c (record x { number = n } ∷ xs) (x ∷ renumbered xs id n)) a → (Has (renumbered xs id n) a → Has xs a ⊎ ((b : Attempt) × Has xs b × (b.id ≡ id) × (record b { number = n } ≡ a)))
        → Has (x ∷ xs) a ⊎ ((b : Attempt) × Has (x ∷ xs) b × (b.id ≡ id) × (record b { number = n } ≡ a))
    go true q (inl e) f = inr (x, inl refl, (let i : x.id ≡ id = grind (arith, nat_tests) in i), e)
    go true q (inr k) f = inl (inr k)
    go false q (inl e) f = inl (inl e)
    go false q (inr k) f = elim (f k) [ inl m ↦ inl (inr m) | inr m ↦ inr (m.0, inr m.1, m.2, m.3) ]

renumbered-apart : (xs : List Attempt) (id n : ℕ) → ((a b : Attempt) → Has xs a → Has xs b → a.id ≡ id → a.block.partition ≡ b.block.partition → n ≡ b.number → ⊥) → Pairwise HoldDifferentNumbers xs → Pairwise HoldDifferentNumbers (renumbered xs id n)
renumbered-apart [] id n fresh r = tt
renumbered-apart (x ∷ xs) id n fresh r = go (nat_eq x.id id) refl (renumbered-apart xs id n (λ a b h k. fresh a b (inr h) (inr k)) r.1)
  where
    old : (b : Attempt) → Has xs b → HoldDifferentNumbers x b
    old b h = Each-at (HoldDifferentNumbers x) xs b r.0 h

    first : (b : Attempt) → x.id ≡ id → Has xs b → HoldDifferentNumbers (record x { number = n }) b
    first b i h = ((old b h).0, λ p m. fresh x b (inl refl) (inr h) i p m)

    later : (b : Attempt) → Has xs b → b.id ≡ id → HoldDifferentNumbers x (record b { number = n })
    later b h i = ((old b h).0, λ p m. fresh b x (inr h) (inl refl) i (sym p) (sym m))

    go : (c : Bool) → nat_eq x.id id ≡ c → Pairwise HoldDifferentNumbers (renumbered xs id n) → Pairwise HoldDifferentNumbers (cond c (record x { number = n } ∷ xs) (x ∷ renumbered xs id n))
    go true q f = (Each-all (HoldDifferentNumbers (record x { number = n })) xs (λ b h. first b (let i : x.id ≡ id = grind (arith, nat_tests) in i) h), r.1)
    go false q f = (
      Each-all (HoldDifferentNumbers x) (renumbered xs id n) (λ y h. elim (renumbered-from xs id n y h) [
        | inl k ↦ old y k
        | inr k ↦ subst (HoldDifferentNumbers x) k.3 (later k.0 k.1 k.2)
      ]),
      f,
    )

pub whole-again : (s t : Cluster) (id : ℕ) (reply : Reply) → IsWhole s → RenewsAttempt s id reply t → IsWhole t
whole-again s t id reply w e =
    subst IsWhole (sym e.change) (record {
      table = sound-allocates s.table e.table e.attempt.replica e.number e.attempt.block.partition e.attempt.block.digest w.table e.call;
      rising = w.rising;
      follow = Each-all (Follows new) s.replicas (λ x h. follows-moved s new x (suits x (Each-at (Follows s) s.replicas x w.follow h)) (Each-at (Follows s) s.replicas x w.follow h));
      committed = λ i p n source m digest q. let g = w.committed i p n source m digest (subst (λ (l : List Entry). entry_at l i ≡ Some (Get p n digest source m)) log-is q) in (record { block = IsCommitted.block g.0; is = IsCommitted.is g.0; partition = IsCommitted.partition g.0; same_id = IsCommitted.same_id g.0 }, g.1);
      attempts = Each-all (IsOpen new) (renumbered s.attempts id e.number) (λ a h. elim (from a h) [
        | inl k ↦ rest a (Each-at (IsOpen s) s.attempts a w.attempts k)
        | inr q ↦ subst (IsOpen new) q (first (Each-at (IsOpen s) s.attempts e.attempt w.attempts e.is.is_in))
      ]);
      apart = renumbered-apart s.attempts id e.number others w.apart;
      counted = count-kept s new (ap (λ (u : Table). u.values) e.call.change) (ap (λ (u : Table). u.schema) e.call.change) (ap (λ (l : List Entry). blocks_in l s.events) log-is) w.counted;
      notes = notes-quiet s.table e.table s.replicas s.replicas (ap (λ (u : Table). u.quorum) e.call.change) log-is (noted-same s.replicas) w.notes;
    })
  where
    attempt : Attempt
    attempt = record e.attempt { number = e.number }

    new : Cluster
    new = record s { table = e.table; attempts = renumbered s.attempts id e.number }

    the-one : (b : Attempt) → Has s.attempts b → b.id ≡ id → b ≡ e.attempt
    the-one b h i = same-id s.attempts b e.attempt w.apart h e.is.is_in (i ∙ sym e.is.id_is)

    from : (a : Attempt) → Has (renumbered s.attempts id e.number) a → Has s.attempts a ⊎ (attempt ≡ a)
    from a h = elim (renumbered-from s.attempts id e.number a h) [
      | inl k ↦ inl k
      | inr k ↦ inr (ap (λ (b : Attempt). record b { number = e.number }) (sym (the-one k.0 k.1 k.2)) ∙ k.3)
    ]

    log-is : e.table.log ≡ s.table.log
    log-is = ap (λ (u : Table). u.log) e.call.change

    next-on : (p : Option ℕ) (m : ℕ) → m < next_number s.table.next p → m < next_number e.table.next p
    next-on p m l = subst (λ (u : Table). m < next_number u.next p) (sym e.call.change) (still-below s.table.next e.attempt.block.partition p (e.number + 1) m (let q = e.call.number in omega (arith, q)) l)

    grows : GrowsTo s new
    grows = record {
      schema = ap (λ (u : Table). u.schema) e.call.change;
      log = subst (λ (l : List Entry). IsPrefix s.table.log l) (sym log-is) (goes-on-refl s.table.log);
      next = next-on;
      blocks = λ i x l q. q;
    }

    suits : (x : Replica) → Follows s x → Suits s new x
    suits x f = record {
      grows = grows;
      opened = λ h. subst (λ (u : Table). Has u.sessions x.number) (sym e.call.change) h;
      closed = λ h. subst (λ (u : Table). Has u.sessions x.number) e.call.change h;
      gets = λ p n m digest h. inl (subst (λ (l : List Entry). Has l (Get p n digest x.number m)) log-is h);
      staged = λ z h. record {
        gets = λ i source m digest q. inl (subst (λ (l : List Entry). entry_at l i ≡ Some (Get z.block.partition z.number digest source m)) log-is q);
        attempts = λ a i p n. elim (from a i) [ inl g ↦ inl g | inr q ↦ absurd (taken z a q p n (IsRightlyStaged.below (Each-at (IsRightlyStaged s) x.staged z f.waiting h))) ];
      };
    }
      where
        taken : (z : Staged) (a : Attempt) → attempt ≡ a → a.block.partition ≡ z.block.partition → a.number ≡ z.number → z.number < next_number s.table.next z.block.partition → ⊥
        taken z a q p n l =
            let u : e.number ≡ z.number = ap (λ (y : Attempt). y.number) q ∙ n in
            let v : e.attempt.block.partition ≡ z.block.partition = ap (λ (y : Attempt). y.block.partition) q ∙ p in
            let g = subst (λ (o : Option ℕ). z.number < next_number s.table.next o) (sym v) l in
            let d = e.call.number in
            absurd (omega (arith, u, g, d))

    first : IsOpen s e.attempt → IsOpen new attempt
    first o = record {
      counted = o.counted;
      allocated = o.allocated;
      below = subst (λ (u : Table). e.number < next_number u.next e.attempt.block.partition) (sym e.call.change) (let q = next-with s.table.next e.attempt.block.partition (e.number + 1) in omega (arith, q));
      unused = λ u. let l = IsSoundTable.used w.table e.attempt.block.partition e.number (subst (λ (l : List Entry). Used l e.attempt.block.partition e.number) log-is u) in let q = e.call.number in absurd (omega (arith, l, q));
    }

    rest : (a : Attempt) → IsOpen s a → IsOpen new a
    rest a o = open-moved s new a (omega arith) (λ q. q) grows (λ u. subst (λ (l : List Entry). Used l a.block.partition a.number) log-is u) o

    others : (a b : Attempt) → Has s.attempts a → Has s.attempts b → a.id ≡ id → a.block.partition ≡ b.block.partition → e.number ≡ b.number → ⊥
    others a b h k i p q =
        let o = Each-at (IsOpen s) s.attempts b w.attempts k in
        let p' : e.attempt.block.partition ≡ b.block.partition = ap (λ (y : Attempt). y.block.partition) (sym (the-one a h i)) ∙ p in
        let l = subst (λ (x : Option ℕ). b.number < next_number s.table.next x) (sym p') o.below in
        let g = e.call.number in
        absurd (omega (arith, l, q, g))

-- ---- a block is staged, or is staged no more

get-used : (log : List Entry) (p : Option ℕ) (n source need : ℕ) (digest : List ℕ) → Has log (Get p n digest source need) → Used log p n
get-used [] p n source need digest h = absurd h
get-used (e ∷ log) p n source need digest (inl q) = subst (λ (x : Entry). Used (x ∷ log) p n) (sym q) (inl (refl, refl))
get-used (e ∷ log) p n source need digest (inr h) = inr (get-used log p n source need digest h)

-- one more block is the new one, or was there
block-from : (z : Staged) (ys : List Staged) (x : Staged) → Has (with_block z ys) x → (z ≡ x) ⊎ Has ys x
block-from z [] x (inl e) = inl e
block-from z [] x (inr h) = absurd h
block-from z (y ∷ ys) x h = go (comes_before y z) h (block-from z ys x)
  where
    go : (b : Bool) → Has (cond b (y ∷ with_block z ys) (z ∷ y ∷ ys)) x → (Has (with_block z ys) x → (z ≡ x) ⊎ Has ys x) → (z ≡ x) ⊎ Has (y ∷ ys) x
    go true (inl e) f = inr (inl e)
    go true (inr i) f = elim (f i) [ inl e ↦ inl e | inr j ↦ inr (inr j) ]
    go false (inl e) f = inl e
    go false (inr i) f = inr i

block-old : (z : Staged) (ys : List Staged) (x : Staged) → Has ys x → Has (with_block z ys) x
block-old z [] x h = absurd h
block-old z (y ∷ ys) x h = go (comes_before y z) h (block-old z ys x)
  where
    go : (b : Bool) → Has (y ∷ ys) x → (Has ys x → Has (with_block z ys) x) → Has (cond b (y ∷ with_block z ys) (z ∷ y ∷ ys)) x
    go true (inl e) f = inl e
    go true (inr i) f = inr (f i)
    go false i f = inr i

kept-unstaged : (x : Replica) (more : Staged → List Staged → List Staged) (z : Staged) (p q : Option ℕ) (n m : ℕ) (digest : List ℕ) → ((zs : List Staged) (y : Staged) → Has zs y → Has (more z zs) y) → IsKeptAt x p n digest → (q ≡ p → m ≡ n → ⊥) → IsKeptAt (record x { staged = more z (staged_without x.staged q m) }) p n digest
kept-unstaged x more z p q n m digest f (inl k) d = elim (still-waits (Some (Get q m [] 0 0)) x.staged (record { number = n; block = k.block }) (IsStaged.is_in k.staged)) [
  | inl h ↦ inl (record { block = k.block; staged = record { is_in = f (staged_without x.staged q m) (record { number = n; block = k.block }) h; partition = IsStaged.partition k.staged }; same_id = k.same_id })
  | inr g ↦ absurd (is-other g)
]
  where
    is-other : IsGetAt (Some (Get q m [] 0 0)) k.block.partition n → ⊥
    is-other g =
        let e = some-same (Get q m [] 0 0) (Get k.block.partition n g.digest g.source g.need) g.is in
        let a : q ≡ k.block.partition = cc in
        let b : m ≡ n = cc in
        d (a ∙ IsStaged.partition k.staged) b
kept-unstaged x more z p q n m digest f (inr k) d = inr k

-- two open tries that hold one number are one
one-try : (s : Cluster) (a b : Attempt) → IsWhole s → Has s.attempts a → Has s.attempts b → a.block.partition ≡ b.block.partition → a.number ≡ b.number → a ≡ b
one-try s a b w h k p n = elim (Pairwise-cases HoldDifferentNumbers s.attempts a b w.apart h k) [
  | inl e ↦ e
  | inr o ↦ elim o [ inl u ↦ absurd (u.1 p n) | inr u ↦ absurd (u.1 (sym p) (sym n)) ]
]

follows-stages : (s : Cluster) (x y : Replica) (a : Attempt) → IsWhole s → Follows s x → Has s.attempts a → Stages x a.number a.block y → Follows s y
follows-stages s x y a w f h e =
    record {
      stands = stands-stages s.table.schema x y a.number a.block f.stands e;
      prefix = subst (λ (z : Replica). IsPrefix z.log s.table.log) (sym e) f.prefix;
      session = subst (λ (z : Replica). (z.up ≡ true → Has s.table.sessions z.number) × (Has s.table.sessions z.number → z.up ≡ true)) (sym e) f.session;
      sources = subst (λ (z : Replica). (p : Option ℕ) (n need : ℕ) (digest : List ℕ) → Has s.table.log (Get p n digest z.number need) → IsKeptAt z p n digest) (sym e) (λ p n need digest g. kept-unstaged x with_block (record { number = a.number; block = a.block }) p a.block.partition n a.number digest (λ zs y k. block-old (record { number = a.number; block = a.block }) zs y k) (f.sources p n need digest g) (λ q r. used p n need digest g q r));
      blocks = subst (λ (z : Replica). Each (HasItsBlocks s) z.parts) (sym e) f.blocks;
      waiting = subst (λ (z : Replica). Each (IsRightlyStaged s) z.staged) (sym e) (Each-all (IsRightlyStaged s) (with_block (record { number = a.number; block = a.block }) (staged_without x.staged a.block.partition a.number)) (λ z g. elim (block-from (record { number = a.number; block = a.block }) (staged_without x.staged a.block.partition a.number) z g) [
        | inl q ↦ subst (IsRightlyStaged s) q newest
        | inr i ↦ Each-at (IsRightlyStaged s) x.staged z f.waiting (Has-filter _ x.staged z i).0
      ]));
    }
  where
    o : IsOpen s a
    o = Each-at (IsOpen s) s.attempts a w.attempts h

    used : (p : Option ℕ) (n need : ℕ) (digest : List ℕ) → Has s.table.log (Get p n digest x.number need) → a.block.partition ≡ p → a.number ≡ n → ⊥
    used p n need digest g q r = o.unused (subst (λ (i : Option ℕ). Used s.table.log i a.number) (sym q) (subst (λ i. Used s.table.log p i) (sym r) (get-used s.table.log p n x.number need digest g)))

    newest : IsRightlyStaged s (record { number = a.number; block = a.block })
    newest = record {
      below = o.below;
      of_get = λ i source need digest q. absurd (o.unused (get-used s.table.log a.block.partition a.number source need digest (entry-has s.table.log i (Get a.block.partition a.number digest source need) q)));
      of_try = λ b k p n. ap (λ (i : Attempt). i.block) (one-try s a b w h k (sym p) (sym n));
    }

pub whole-stages : (s t : Cluster) (id : ℕ) (reply : Reply) → IsWhole s → StagesAttempt s id reply t → IsWhole t
whole-stages s t id reply w e =
    let r = e.at in
    subst IsWhole (sym r.change) (whole-replaced s e.attempt.replica r.old r.new w r.at (ap (λ (z : Replica). z.number) r.does) (λ a h. subst (λ (z : Replica). Has z.noted a) (sym r.does) h) (follows-stages s r.old r.new e.attempt w (follower s e.attempt.replica r.old w r.at) e.is.is_in r.does))

-- ---- a try ends

whole-unlocked : (s : Cluster) (test : Lock → Bool) → IsWhole s → IsWhole (record s { table = record s.table { locks = filter test s.table.locks } })
whole-unlocked s test w =
    record {
      table = sound-fewer s.table test w.table;
      rising = w.rising;
      follow = Each-all (Follows new) s.replicas (λ x h. follows-moved s new x (suits x) (Each-at (Follows s) s.replicas x w.follow h));
      committed = λ i p n source m digest q. let g = w.committed i p n source m digest q in (record { block = IsCommitted.block g.0; is = IsCommitted.is g.0; partition = IsCommitted.partition g.0; same_id = IsCommitted.same_id g.0 }, g.1);
      attempts = Each-all (IsOpen new) s.attempts (λ a h. let o = Each-at (IsOpen s) s.attempts a w.attempts h in record { counted = o.counted; allocated = o.allocated; below = o.below; unused = o.unused });
      apart = w.apart;
      counted = w.counted;
      notes = record { pending = w.notes.pending; last = w.notes.last };
    }
  where
    new : Cluster
    new = record s { table = record s.table { locks = filter test s.table.locks } }

    suits : (x : Replica) → Suits s new x
    suits x = record {
      grows = record { schema = refl; log = goes-on-refl s.table.log; next = λ p m l. l; blocks = λ i b l q. q };
      opened = λ h. h;
      closed = λ h. h;
      gets = λ p n need digest h. inl h;
      staged = λ z h. record { gets = λ i source need digest q. inl q; attempts = λ a k p n. inl k };
    }

follows-unstages : (s : Cluster) (x : Replica) (a : Attempt) → IsWhole s → Follows s x → Has s.attempts a → Follows s (record x { staged = staged_without x.staged a.block.partition a.number })
follows-unstages s x a w f h =
    record {
      stands = stands-unstages s.table.schema x (record x { staged = staged_without x.staged a.block.partition a.number }) a.block.partition a.number f.stands refl;
      prefix = f.prefix;
      session = f.session;
      sources = λ p n need digest g. kept-unstaged x (λ z zs. zs) (record { number = a.number; block = a.block }) p a.block.partition n a.number digest (λ zs y k. k) (f.sources p n need digest g) (λ q r. used p n need digest g q r);
      blocks = f.blocks;
      waiting = Each-all (IsRightlyStaged s) (staged_without x.staged a.block.partition a.number) (λ z g. Each-at (IsRightlyStaged s) x.staged z f.waiting (Has-filter _ x.staged z g).0);
    }
  where
    used : (p : Option ℕ) (n need : ℕ) (digest : List ℕ) → Has s.table.log (Get p n digest x.number need) → a.block.partition ≡ p → a.number ≡ n → ⊥
    used p n need digest g q r = IsOpen.unused (Each-at (IsOpen s) s.attempts a w.attempts h) (subst (λ (i : Option ℕ). Used s.table.log i a.number) (sym q) (subst (λ i. Used s.table.log p i) (sym r) (get-used s.table.log p n x.number need digest g)))

pub whole-ends : (s t : Cluster) (id : ℕ) → IsWhole s → EndsAttempt s id t → IsWhole t
whole-ends s t id w e =
    subst IsWhole (sym same) (whole-fewer (cluster_with locked e.attempt.replica y) id (whole-replaced locked e.attempt.replica e.replica y v (record { is_in = e.at.is_in; number = e.at.number }) refl (λ a h. h) (follows-unstages locked e.replica e.attempt v (follower locked e.attempt.replica e.replica v (record { is_in = e.at.is_in; number = e.at.number })) e.is.is_in)))
  where
    locked : Cluster
    locked = record s { table = record s.table { locks = locks_without s.table.locks e.attempt.block.partition e.attempt.number } }

    same : t ≡ record s {
      table = record s.table { locks = locks_without s.table.locks e.attempt.block.partition e.attempt.number };
      replicas = with_replica s.replicas e.attempt.replica (record e.replica { staged = staged_without e.replica.staged e.attempt.block.partition e.attempt.number });
      attempts = attempts_without s.attempts id;
    }
    same =
        e.change
        ∙ (ap (λ (u : Table). record s { table = u; replicas = with_replica s.replicas e.attempt.replica e.new; attempts = attempts_without s.attempts id }) e.unlocks
        ∙ ap (λ (x : Replica). record s { table = record s.table { locks = locks_without s.table.locks e.attempt.block.partition e.attempt.number }; replicas = with_replica s.replicas e.attempt.replica x; attempts = attempts_without s.attempts id }) e.unstages)

    v : IsWhole locked
    v = whole-unlocked s _ w

    y : Replica
    y = record e.replica { staged = staged_without e.replica.staged e.attempt.block.partition e.attempt.number }

-- ---- a block is accepted

-- replicas of one number are one
pub one-replica : (s : Cluster) (x y : Replica) → IsWhole s → Has s.replicas x → Has s.replicas y → x.number ≡ y.number → x ≡ y
one-replica = same-numbered

pub whole-accepts : (s t : Cluster) (id : ℕ) (reply : Reply) → IsWhole s → AcceptsBlock s id reply t → IsWhole (record t { events = (ev.Commit id, reply) ∷ t.events })
whole-accepts s t id reply w e =
    subst (λ (r : Reply). IsWhole (record t { events = (ev.Commit id, r) ∷ t.events })) (sym e.answer)
    (subst (λ (m : Cluster). IsWhole (record m { events = (ev.Commit id, rp.Entry (length s.table.log)) ∷ m.events })) (sym e.change) (record {
      table = sound-commits s.table e.table a.block.partition a.number a.block.digest a.replica a.need (values_of s.table.schema a.block.rows) w.table e.call;
      rising = w.rising;
      follow = Each-all (Follows new) s.replicas (λ x h. follows-moved s new x (suits x h (Each-at (Follows s) s.replicas x w.follow h)) (Each-at (Follows s) s.replicas x w.follow h));
      committed = λ i p n source need digest q. elim (cases i p n source need digest q) [
        | inl k ↦ newest i p n source need digest k.0 k.1
        | inr k ↦ older i p digest source (w.committed i p n source need digest k) (entry-below s.table.log i (Get p n digest source need) k)
      ];
      attempts = Each-all (IsOpen new) (attempts_without s.attempts id) (λ b h. rest b (Has-filter stays s.attempts b h).0 (Has-filter stays s.attempts b h).1);
      apart = Pairwise-filter HoldDifferentNumbers stays s.attempts w.apart;
      counted = count;
      notes = notes-on s.table e.table s.replicas s.replicas
          (λ q i. pending-opened (nat_le 2 a.need) (block_name a.block.partition a.number) a.need s.table.quorum.pending q (ap (λ (u : Table). u.quorum.pending) (sym e.call.change) ∙ i))
          (λ b i. ap (λ (u : Table). u.quorum.last) (sym e.call.change) ∙ i)
          (λ b h. subst (λ (l : List Entry). Has (quorum_blocks l) b) (sym log-is) (block-asked (nat_le 2 a.need) (record { part = block_name a.block.partition a.number; need = a.need }) (quorum_blocks s.table.log) b h))
          (noted-same s.replicas) w.notes;
    }))
  where
    a : Attempt
    a = e.attempt

    stays : Attempt → Bool
    stays b = not (nat_eq b.id id)

    new : Cluster
    new = record s { table = e.table; attempts = attempts_without s.attempts id; events = (ev.Commit id, rp.Entry (length s.table.log)) ∷ s.events }

    log-is : e.table.log ≡ Get a.block.partition a.number a.block.digest a.replica a.need ∷ s.table.log
    log-is = ap (λ (u : Table). u.log) e.call.change

    cases : (i : ℕ) (p : Option ℕ) (n source need : ℕ) (digest : List ℕ) → entry_at e.table.log i ≡ Some (Get p n digest source need) → ((i ≡ length s.table.log) × (Get a.block.partition a.number a.block.digest a.replica a.need ≡ Get p n digest source need)) ⊎ (entry_at s.table.log i ≡ Some (Get p n digest source need))
    cases i p n source need digest q = entry-cases (Get a.block.partition a.number a.block.digest a.replica a.need) s.table.log i (Get p n digest source need) (subst (λ (l : List Entry). entry_at l i ≡ Some (Get p n digest source need)) log-is q)

    same-place : (i j : ℕ) → i ≡ j → nat_eq j i ≡ true
    same-place i j q = grind (arith, nat_tests)

    other-place : (i j : ℕ) → i < j → nat_eq j i ≡ false
    other-place i j q = grind (arith, nat_tests)

    allocated : block_of s.events id ≡ Some a.block
    allocated = subst (λ j. block_of s.events j ≡ Some a.block) e.is.id_is (IsOpen.allocated (Each-at (IsOpen s) s.attempts a w.attempts e.is.is_in))

    here : (i : ℕ) → i ≡ length s.table.log → committed_at new.events i ≡ Some a.block
    here i q = ap (λ (y : Bool). cond y (block_of s.events id) (committed_at s.events i)) (same-place i (length s.table.log) q) ∙ allocated

    before : (i : ℕ) → i < length s.table.log → committed_at new.events i ≡ committed_at s.events i
    before i l = ap (λ (y : Bool). cond y (block_of s.events id) (committed_at s.events i)) (other-place i (length s.table.log) l)

    grows : GrowsTo s new
    grows = record {
      schema = ap (λ (u : Table). u.schema) e.call.change;
      log = subst (λ (l : List Entry). IsPrefix s.table.log l) (sym log-is) (goes-on-more (Get a.block.partition a.number a.block.digest a.replica a.need) s.table.log s.table.log (goes-on-refl s.table.log));
      next = λ p m l. subst (λ (u : Table). m < next_number u.next p) (sym e.call.change) l;
      blocks = λ i b l q. before i l ∙ q;
    }

    newest : (i : ℕ) (p : Option ℕ) (n source need : ℕ) (digest : List ℕ) → i ≡ length s.table.log → Get a.block.partition a.number a.block.digest a.replica a.need ≡ Get p n digest source need → IsCommitted new i p digest × HasReplica s.replicas source
    newest i p n source need digest q g =
        let u : a.block.partition ≡ p = cc in
        let v : a.block.digest ≡ digest = cc in
        let r : a.replica ≡ source = cc in
        (record { block = a.block; is = here i q; partition = u; same_id = v }, record { replica = e.replica; is_in = e.at.is_in; numbered = e.at.number ∙ r })

    older : (i : ℕ) (p : Option ℕ) (digest : List ℕ) (source : ℕ) → IsCommitted s i p digest × HasReplica s.replicas source → i < length s.table.log → IsCommitted new i p digest × HasReplica s.replicas source
    older i p digest source g l = (record { block = IsCommitted.block g.0; is = before i l ∙ IsCommitted.is g.0; partition = IsCommitted.partition g.0; same_id = IsCommitted.same_id g.0 }, g.1)

    gained : accepted new ≡ record { partition = a.block.partition; number = a.number; rows = a.block.rows } ∷ accepted s
    gained =
        ap (λ (l : List Entry). blocks_in l new.events) log-is
        ∙ (ap (λ (o : Option Block). record { partition = a.block.partition; number = a.number; rows = rows_of o } ∷ blocks_in s.table.log new.events) (here (length s.table.log) refl)
        ∙ ap (λ (bs : List Accepted). record { partition = a.block.partition; number = a.number; rows = a.block.rows } ∷ bs) (blocks-same s.table.log s.events new.events before))

    count : e.table.values ≡ values_in e.table.schema (accepted new)
    count =
        let v = ap (λ (u : Table). u.values) e.call.change in
        let c = w.counted in
        let q : values_in e.table.schema (accepted new) ≡ values_of s.table.schema a.block.rows + values_in s.table.schema (accepted s) =
        ap (λ (x : Shape). values_in x (accepted new)) (ap (λ (u : Table). u.schema) e.call.change) ∙ ap (λ (bs : List Accepted). values_in s.table.schema bs) gained in
        omega (arith, v, c, q)

    -- the source has the block of the new Get staged
    own : (x : Replica) (p : Option ℕ) (n need : ℕ) (digest : List ℕ) → Has s.replicas x → Get a.block.partition a.number a.block.digest a.replica a.need ≡ Get p n digest x.number need → IsKeptAt x p n digest
    own x p n need digest h g =
        let u : a.block.partition ≡ p = cc in
        let m : a.number ≡ n = cc in
        let v : a.block.digest ≡ digest = cc in
        let r : a.replica ≡ x.number = cc in
        let y : e.replica ≡ x = one-replica s e.replica x w e.at.is_in h (e.at.number ∙ r) in
        let z : IsStaged x p n a.block = subst (λ (o : Replica). IsStaged o p n a.block) y (subst (λ (o : Option ℕ). IsStaged e.replica o n a.block) u (subst (λ k. IsStaged e.replica a.block.partition k a.block) m e.staged)) in
        inl (record { block = a.block; staged = z; same_id = v })

    suits : (x : Replica) → Has s.replicas x → Follows s x → Suits s new x
    suits x h f = record {
      grows = grows;
      opened = λ k. subst (λ (u : Table). Has u.sessions x.number) (sym e.call.change) k;
      closed = λ k. subst (λ (u : Table). Has u.sessions x.number) e.call.change k;
      gets = λ p n need digest k. elim (subst (λ (l : List Entry). Has l (Get p n digest x.number need)) log-is k) [ inl g ↦ inr (own x p n need digest h g) | inr g ↦ inl g ];
      staged = λ z k. record {
        gets = λ i source need digest q. elim (cases i z.block.partition z.number source need digest q) [ inl g ↦ inr (mine z i source need digest (Each-at (IsRightlyStaged s) x.staged z f.waiting k) g.0 g.1) | inr g ↦ inl g ];
        attempts = λ b i p n. inl (Has-filter stays s.attempts b i).0;
      };
    }
      where
        mine : (z : Staged) (i source need : ℕ) (digest : List ℕ) → IsRightlyStaged s z → i ≡ length s.table.log → Get a.block.partition a.number a.block.digest a.replica a.need ≡ Get z.block.partition z.number digest source need → committed_at new.events i ≡ Some z.block
        mine z i source need digest r q g =
            let u : a.block.partition ≡ z.block.partition = cc in
            let m : a.number ≡ z.number = cc in
            here i q ∙ ap Some (sym (r.of_try a e.is.is_in u m))

    rest : (b : Attempt) → Has s.attempts b → stays b ≡ true → IsOpen new b
    rest b h k =
        open-moved s new b (omega arith) (λ q. q) grows
        (λ u. elim (subst (λ (l : List Entry). Used l b.block.partition b.number) log-is u) [ inl g ↦ absurd (not-dropped-try id b k (ap (λ (i : Attempt). i.id) (sym (one-try s a b w e.is.is_in h g.0 g.1)) ∙ e.is.id_is)) | inr g ↦ g ])
        (Each-at (IsOpen s) s.attempts b w.attempts h)
