-- What a replica keeps while the rest changes, and what is kept while one replica changes.
use Rattle.std.proofs.Common.{◌≡◌, ℕ, ◌<◌, ◌≤◌, ◌⊎◌, inl, inr, Bool, true, false, cond, List, [], ◌∷◌, ◌++◌, length, refl, sym, ap, subst, arith, ◌∙◌, nat_eq}
use Rattle.std.proofs.lemmas.Bool.Decides.{nat_tests}
use Rattle.std.specs.declared.option.Option.{Option}
use Rattle.std.specs.declared.option.Option.TheVariants.{Some}
use Rattle.rmt_values.specs.Rows.{Shape}
use Rattle.rmt_names.specs.Names.{Name}
use Rattle.rmt_entries.specs.declared.entry.Entry.{Entry}
use Rattle.rmt_entries.specs.declared.entry.Entry.TheVariants.{Get, Merge, Mutate, Mutation, DropRange}
use Rattle.rmt_model.specs.Words.{Has, Each, Pairwise}
use Rattle.rmt_model.specs.Lawful.{Used, entry_at, IsPrefix}
use Rattle.rmt_model.specs.Parts.{NumberedBlock}
use Rattle.rmt_model.specs.CopiedParts.{Copied}
use Rattle.rmt_model.proofs.Lists.{Each-at, Each-all}
use Rattle.rmt_model.proofs.Drops.{entry-below}
use Rattle.rmt_model.proofs.LiveLaws.{Pairwise-cases}
use Rattle.rmt_events.specs.Views.{Block, Staged, Replica, Table}
use Rattle.rmt_model.specs.BlockNumbers.{next_number}
use Rattle.rmt_events.specs.ReplicaCalls.{IsStanding}
use Rattle.rmt_events.specs.Clusters.{Attempt, Cluster, block_of, committed_at, with_replica, Accepted, accepted, blocks_in, rows_of, values_in}
use Rattle.rmt_events.specs.Whole.{IsBlockAt, HasItsBlocks, IsRightlyStaged, IsKeptAt, Follows, IsOpen, IsCommitted, HasReplica, IsWhole}
use Rattle.rmt_events.specs.ClusterChanges.{IsNumbered, cluster_with}
use Rattle.rmt_events.proofs.Copies.{entry-behind}
use Rattle.rmt_events.proofs.Notes.{NotedOn, noted-kept, notes-quiet}
use Rattle.rmt_events.specs.declared.event.Event.{Event}
use Rattle.rmt_events.specs.declared.reply.Reply.{Reply}

pub goes-on-refl : (log : List Entry) → IsPrefix log log
goes-on-refl log = record { gained = []; is = refl }

pub goes-on-more : (e : Entry) (x log : List Entry) → IsPrefix x log → IsPrefix x (e ∷ log)
goes-on-more e x log g = record { gained = e ∷ g.gained; is = ap (λ (l : List Entry). e ∷ l) g.is }

pub goes-on-trans : (x y z : List Entry) → IsPrefix x y → IsPrefix y z → IsPrefix x z
goes-on-trans x y z f g = record { gained = g.gained ++ f.gained; is = g.is ∙ (ap (λ (l : List Entry). g.gained ++ l) f.is ∙ assoc g.gained) }
  where
    assoc : (us : List Entry) → us ++ (f.gained ++ x) ≡ (us ++ f.gained) ++ x
    assoc [] = refl
    assoc (u ∷ us) = ap (λ (l : List Entry). u ∷ l) (assoc us)

pub entry-goes-on : (x y : List Entry) (i : ℕ) (e : Entry) → IsPrefix x y → entry_at x i ≡ Some e → entry_at y i ≡ Some e
entry-goes-on x y i e g q = subst (λ (l : List Entry). entry_at l i ≡ Some e) (sym g.is) (entry-behind g.gained x i e q)

-- the table's log goes on, with the same blocks, and each number that was taken is taken still
pub record GrowsTo (s t : Cluster) : Type 0 where
  pub schema : t.table.schema ≡ s.table.schema
  pub log : IsPrefix s.table.log t.table.log
  pub next : (p : Option ℕ) (m : ℕ) → m < next_number s.table.next p → m < next_number t.table.next p
  pub blocks : (i : ℕ) (b : Block) → i < length s.table.log → committed_at s.events i ≡ Some b → committed_at t.events i ≡ Some b

pub grows-same : (s t : Cluster) → t.table ≡ s.table → t.events ≡ s.events → GrowsTo s t
grows-same s t e f =
    record {
      schema = ap (λ (u : Table). u.schema) e;
      log = subst (λ (u : Table). IsPrefix s.table.log u.log) (sym e) (goes-on-refl s.table.log);
      next = λ p m l. subst (λ (u : Table). m < next_number u.next p) (sym e) l;
      blocks = λ i b l q. ap (λ (xs : List (Event × Reply)). committed_at xs i) f ∙ q;
    }

pub block-moved : (s t : Cluster) (p : Option ℕ) (b : NumberedBlock) → GrowsTo s t → IsBlockAt s p b → IsBlockAt t p b
block-moved s t p b g k =
    record {
      place = k.place;
      source = k.source;
      need = k.need;
      entry = entry-goes-on s.table.log t.table.log k.place (Get p b.number b.digest k.source k.need) g.log k.entry;
      block = g.blocks k.place (record { partition = p; digest = b.digest; rows = b.rows }) (entry-below s.table.log k.place (Get p b.number b.digest k.source k.need) k.entry) k.block;
    }

pub blocks-moved : (s t : Cluster) (part : Copied) → GrowsTo s t → HasItsBlocks s part → HasItsBlocks t part
blocks-moved s t part g h = Each-all (IsBlockAt t part.name.partition) part.lineage (λ b k. block-moved s t part.name.partition b g (Each-at (IsBlockAt s part.name.partition) part.lineage b h k))

-- what is new at a number that a block waits under is right for it
pub record SuitsStaged (s t : Cluster) (z : Staged) : Type 0 where
  pub gets : (i source need : ℕ) (digest : List ℕ) → entry_at t.table.log i ≡ Some (Get z.block.partition z.number digest source need) → (entry_at s.table.log i ≡ Some (Get z.block.partition z.number digest source need)) ⊎ (committed_at t.events i ≡ Some z.block)
  pub attempts : (a : Attempt) → Has t.attempts a → a.block.partition ≡ z.block.partition → a.number ≡ z.number → Has s.attempts a ⊎ (z.block ≡ a.block)

pub staged-moved : (s t : Cluster) (z : Staged) → GrowsTo s t → SuitsStaged s t z → IsRightlyStaged s z → IsRightlyStaged t z
staged-moved s t z g u r =
    record {
      below = g.next z.block.partition z.number r.below;
      of_get = λ i source need digest q. elim (u.gets i source need digest q) [
        | inl k ↦ g.blocks i z.block (entry-below s.table.log i (Get z.block.partition z.number digest source need) k) (r.of_get i source need digest k)
        | inr k ↦ k
      ];
      of_try = λ a h e f. elim (u.attempts a h e f) [ inl k ↦ r.of_try a k e f | inr k ↦ k ];
    }

-- a replica follows still: what is new of its own it keeps, and its session is as it was
pub record Suits (s t : Cluster) (x : Replica) : Type 0 where
  pub grows : GrowsTo s t
  pub opened : Has s.table.sessions x.number → Has t.table.sessions x.number
  pub closed : Has t.table.sessions x.number → Has s.table.sessions x.number
  pub gets : (p : Option ℕ) (n need : ℕ) (digest : List ℕ) → Has t.table.log (Get p n digest x.number need) → Has s.table.log (Get p n digest x.number need) ⊎ IsKeptAt x p n digest
  pub staged : (z : Staged) → Has x.staged z → SuitsStaged s t z

pub follows-moved : (s t : Cluster) (x : Replica) → Suits s t x → Follows s x → Follows t x
follows-moved s t x u f =
    record {
      stands = subst (λ (c : Shape). IsStanding c x) (sym u.grows.schema) f.stands;
      prefix = goes-on-trans x.log s.table.log t.table.log f.prefix u.grows.log;
      session = (λ e. u.opened (f.session.0 e), λ h. f.session.1 (u.closed h));
      sources = λ p n need digest h. elim (u.gets p n need digest h) [ inl k ↦ f.sources p n need digest k | inr k ↦ k ];
      blocks = Each-all (HasItsBlocks t) x.parts (λ part h. blocks-moved s t part u.grows (Each-at (HasItsBlocks s) x.parts part f.blocks h));
      waiting = Each-all (IsRightlyStaged t) x.staged (λ z h. staged-moved s t z u.grows (u.staged z h) (Each-at (IsRightlyStaged s) x.staged z f.waiting h));
    }

-- where the table, the events and the tries are as they were
pub suits-same : (s t : Cluster) (x : Replica) → t.table ≡ s.table → t.events ≡ s.events → ((a : Attempt) → Has t.attempts a → Has s.attempts a) → Suits s t x
suits-same s t x e f h =
    record {
      grows = grows-same s t e f;
      opened = λ k. subst (λ (u : Table). Has u.sessions x.number) (sym e) k;
      closed = λ k. subst (λ (u : Table). Has u.sessions x.number) e k;
      gets = λ p n need digest k. inl (subst (λ (u : Table). Has u.log (Get p n digest x.number need)) e k);
      staged = λ z k. record {
        gets = λ i source need digest q. inl (subst (λ (u : Table). entry_at u.log i ≡ Some (Get z.block.partition z.number digest source need)) e q);
        attempts = λ a k p n. inl (h a k);
      };
    }

pub open-moved : (s t : Cluster) (a : Attempt) → s.attempts_made ≤ t.attempts_made → (block_of s.events a.id ≡ Some a.block → block_of t.events a.id ≡ Some a.block) → GrowsTo s t → (Used t.table.log a.block.partition a.number → Used s.table.log a.block.partition a.number) → IsOpen s a → IsOpen t a
open-moved s t a m b g u o = record { counted = let k = o.counted in omega (arith, k, m); allocated = b o.allocated; below = g.next a.block.partition a.number o.below; unused = λ k. o.unused (u k) }

-- ---- one replica changes

pub each-with : (P : Replica → Type 0) (xs : List Replica) (k : ℕ) (y : Replica) → Each P xs → P y → Each P (with_replica xs k y)
each-with P [] k y e p = tt
each-with P (x ∷ xs) k y e p = go (nat_eq x.number k) (each-with P xs k y e.1 p)
  where
    go : (b : Bool) → Each P (with_replica xs k y) → Each P (cond b (y ∷ xs) (x ∷ with_replica xs k y))
    go true i = (p, e.1)
    go false i = (e.0, i)

pub rising-with : (xs : List Replica) (k : ℕ) (y : Replica) → y.number ≡ k → Pairwise (λ a b. a.number < b.number) xs → Pairwise (λ a b. a.number < b.number) (with_replica xs k y)
rising-with [] k y e p = tt
rising-with (x ∷ xs) k y e p = go (nat_eq x.number k) refl (rising-with xs k y e p.1)
  where
    above : (b : Replica) → x.number ≡ k → x.number < b.number → y.number < b.number
    above b q l = omega (arith, q, l, e)

    below : (zs : List Replica) → Each (λ b. x.number < b.number) zs → Each (λ b. x.number < b.number) (with_replica zs k y)
    below [] i = tt
    below (z ∷ zs) i = kept (nat_eq z.number k) refl (below zs i.1)
      where
        kept : (b : Bool) → nat_eq z.number k ≡ b → Each (λ b. x.number < b.number) (with_replica zs k y) → Each (λ b. x.number < b.number) (cond b (y ∷ zs) (z ∷ with_replica zs k y))
        kept true q j = let l = i.0 in let m : z.number ≡ k = grind (arith, nat_tests) in (omega (arith, l, m, e), i.1)
        kept false q j = (i.0, j)

    go : (b : Bool) → nat_eq x.number k ≡ b → Pairwise (λ a b. a.number < b.number) (with_replica xs k y) → Pairwise (λ a b. a.number < b.number) (cond b (y ∷ xs) (x ∷ with_replica xs k y))
    go true q i = let m : x.number ≡ k = grind (arith, nat_tests) in (Each-all (λ b. y.number < b.number) xs (λ b h. above b m (Each-at (λ b. x.number < b.number) xs b p.0 h)), p.1)
    go false q i = (below xs p.0, i)

pub there-with : (xs : List Replica) (k j : ℕ) (y : Replica) → y.number ≡ k → HasReplica xs j → HasReplica (with_replica xs k y) j
there-with [] k j y e h = absurd (h.is_in)
there-with (x ∷ xs) k j y e h = go (nat_eq x.number k) refl (h.is_in) (λ m. there-with xs k j y e (record { replica = h.replica; is_in = m; numbered = h.numbered }))
  where
    go : (b : Bool) → nat_eq x.number k ≡ b → (x ≡ h.replica) ⊎ Has xs h.replica → (Has xs h.replica → HasReplica (with_replica xs k y) j) → HasReplica (cond b (y ∷ xs) (x ∷ with_replica xs k y)) j
    go true q (inl m) f = let r : x.number ≡ k = grind (arith, nat_tests) in record { replica = y; is_in = inl refl; numbered = e ∙ (sym r ∙ (ap (λ (z : Replica). z.number) m ∙ h.numbered)) }
    go true q (inr m) f = record { replica = h.replica; is_in = inr m; numbered = h.numbered }
    go false q (inl m) f = record { replica = h.replica; is_in = inl m; numbered = h.numbered }
    go false q (inr m) f = let r = f m in record { replica = r.replica; is_in = inr r.is_in; numbered = r.numbered }

-- a replica of the number is in the place, or is another one that was there
pub has-with : (xs : List Replica) (k : ℕ) (y z : Replica) → Has (with_replica xs k y) z → (y ≡ z) ⊎ Has xs z
has-with [] k y z h = absurd h
has-with (x ∷ xs) k y z h = go (nat_eq x.number k) h (has-with xs k y z)
  where
    go : (b : Bool) → Has (cond b (y ∷ xs) (x ∷ with_replica xs k y)) z → (Has (with_replica xs k y) z → (y ≡ z) ⊎ Has xs z) → (y ≡ z) ⊎ Has (x ∷ xs) z
    go true (inl e) f = inl e
    go true (inr m) f = inr (inr m)
    go false (inl e) f = inr (inl e)
    go false (inr m) f = elim (f m) [ inl e ↦ inl e | inr n ↦ inr (inr n) ]

-- ---- the count of values

-- blocks are the same where the commits are
pub blocks-same : (log : List Entry) (olds news : List (Event × Reply)) → ((i : ℕ) → i < length log → committed_at news i ≡ committed_at olds i) → blocks_in log news ≡ blocks_in log olds
blocks-same [] olds news h = refl
blocks-same (Get p n digest source need ∷ log) olds news h =
    ap (λ (o : Option Block). record { partition = p; number = n; rows = rows_of o } ∷ blocks_in log news) (h (length log) (omega arith))
    ∙ ap (λ (bs : List Accepted). record { partition = p; number = n; rows = rows_of (committed_at olds (length log)) } ∷ bs) (blocks-same log olds news (λ i l. h i (omega (arith, l))))
blocks-same (Merge name sources count ∷ log) olds news h = blocks-same log olds news (λ i l. h i (omega (arith, l)))
blocks-same (Mutate old name upto count mcount ∷ log) olds news h = blocks-same log olds news (λ i l. h i (omega (arith, l)))
blocks-same (Mutation id numbers command ∷ log) olds news h = blocks-same log olds news (λ i l. h i (omega (arith, l)))
blocks-same (DropRange p n ∷ log) olds news h = blocks-same log olds news (λ i l. h i (omega (arith, l)))

-- the count stays where the values, the schema and the blocks do
pub count-kept : (s t : Cluster) → t.table.values ≡ s.table.values → t.table.schema ≡ s.table.schema → accepted t ≡ accepted s → s.table.values ≡ values_in s.table.schema (accepted s) → t.table.values ≡ values_in t.table.schema (accepted t)
count-kept s t v c b e = v ∙ (e ∙ (ap (λ (x : Shape). values_in x (accepted s)) (sym c) ∙ ap (λ (bs : List Accepted). values_in t.table.schema bs) (sym b)))

-- replicas of one number are one
pub same-numbered : (s : Cluster) (x y : Replica) → IsWhole s → Has s.replicas x → Has s.replicas y → x.number ≡ y.number → x ≡ y
same-numbered s x y w h k e = elim (Pairwise-cases (λ a b. a.number < b.number) s.replicas x y w.rising h k) [
  | inl q ↦ q
  | inr o ↦ elim o [ inl u ↦ absurd (omega (arith, u, e)) | inr u ↦ absurd (omega (arith, u, e)) ]
]

-- where the replica of a number keeps its notes, all are kept
pub noted-with : (s : Cluster) (k : ℕ) (x y : Replica) → IsWhole s → IsNumbered s k x → y.number ≡ x.number → ((a : Name) → Has x.noted a → Has y.noted a) → NotedOn s.replicas (with_replica s.replicas k y)
noted-with s k x y w at e f = noted-kept s.replicas k y (e ∙ at.number) (λ z i n a h. f a (subst (λ (v : Replica). Has v.noted a) (same-numbered s z x w i at.is_in (n ∙ sym at.number)) h))

pub whole-replaced : (s : Cluster) (k : ℕ) (x y : Replica) → IsWhole s → IsNumbered s k x → y.number ≡ x.number → ((a : Name) → Has x.noted a → Has y.noted a) → Follows s y → IsWhole (cluster_with s k y)
whole-replaced s k x y w at e n f =
    record {
      table = w.table;
      rising = rising-with s.replicas k y (e ∙ at.number) w.rising;
      follow = each-with (Follows t) s.replicas k y (Each-all (Follows t) s.replicas (λ z h. moved z (Each-at (Follows s) s.replicas z w.follow h))) (moved y f);
      committed = λ i p n source need digest q. let c = w.committed i p n source need digest q in (record { block = IsCommitted.block c.0; is = IsCommitted.is c.0; partition = IsCommitted.partition c.0; same_id = IsCommitted.same_id c.0 }, there-with s.replicas k source y (e ∙ at.number) c.1);
      attempts = Each-all (IsOpen t) s.attempts (λ a h. open-moved s t a (omega arith) (λ b. b) (grows-same s t refl refl) (λ u. u) (Each-at (IsOpen s) s.attempts a w.attempts h));
      apart = w.apart;
      counted = w.counted;
      notes = notes-quiet s.table s.table s.replicas (with_replica s.replicas k y) refl refl (noted-with s k x y w at e n) w.notes;
    }
  where
    t : Cluster
    t = cluster_with s k y

    moved : (z : Replica) → Follows s z → Follows t z
    moved z g = follows-moved s t z (suits-same s t z refl refl (λ a h. h)) g

-- ---- an event is stored that is neither the begin of a try nor the commit of one

-- the event tells nothing of blocks
pub record TellsNoBlock (e : Event) (r : Reply) : Type 0 where
  pub commits_none : (rest : List (Event × Reply)) (i : ℕ) → committed_at ((e, r) ∷ rest) i ≡ committed_at rest i
  pub offers_none : (rest : List (Event × Reply)) (a : ℕ) → block_of ((e, r) ∷ rest) a ≡ block_of rest a

pub whole-stored : (s : Cluster) (e : Event) (r : Reply) → TellsNoBlock e r → IsWhole s → IsWhole (record s { events = (e, r) ∷ s.events })
whole-stored s e r n w =
    record {
      table = w.table;
      rising = w.rising;
      follow = Each-all (Follows t) s.replicas (λ z h. follows-moved s t z (suits z) (Each-at (Follows s) s.replicas z w.follow h));
      committed = λ i p m source need digest q. let c = w.committed i p m source need digest q in (record { block = IsCommitted.block c.0; is = n.commits_none s.events i ∙ IsCommitted.is c.0; partition = IsCommitted.partition c.0; same_id = IsCommitted.same_id c.0 }, c.1);
      attempts = Each-all (IsOpen t) s.attempts (λ a h. open-moved s t a (omega arith) (λ b. n.offers_none s.events a.id ∙ b) grows (λ u. u) (Each-at (IsOpen s) s.attempts a w.attempts h));
      apart = w.apart;
      counted = count-kept s t refl refl (blocks-same s.table.log s.events ((e, r) ∷ s.events) (λ i l. n.commits_none s.events i)) w.counted;
      notes = w.notes;
    }
  where
    t : Cluster
    t = record s { events = (e, r) ∷ s.events }

    grows : GrowsTo s t
    grows = record { schema = refl; log = goes-on-refl s.table.log; next = λ p m l. l; blocks = λ i b l q. n.commits_none s.events i ∙ q }

    suits : (z : Replica) → Suits s t z
    suits z = record {
      grows = grows;
      opened = λ h. h;
      closed = λ h. h;
      gets = λ p m need digest h. inl h;
      staged = λ x h. record { gets = λ i source need digest q. inl q; attempts = λ a k q u. inl k };
    }
