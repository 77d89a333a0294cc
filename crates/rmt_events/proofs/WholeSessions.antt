-- The end and the begin of a session leave all whole.
use Rattle.std.proofs.Common.{◌≡◌, ℕ, ◌<◌, ◌⊎◌, inl, inr, Bool, true, false, not, cond, List, [], ◌∷◌, refl, sym, ap, subst, arith, ◌∙◌, nat_eq, filter}
use Rattle.std.proofs.lemmas.Bool.Decides.{nat_tests}
use Rattle.std.specs.declared.option.Option.{Option}
use Rattle.std.specs.declared.option.Option.TheVariants.{Some}
use Rattle.rmt_values.specs.Rows.{Shape}
use Rattle.rmt_entries.specs.declared.entry.Entry.{Entry}
use Rattle.rmt_entries.specs.declared.entry.Entry.TheVariants.{Get}
use Rattle.rmt_model.specs.Words.{Has, Each, Pairwise}
use Rattle.rmt_model.specs.Lawful.{Used, entry_at, IsPrefix}
use Rattle.rmt_names.specs.Names.{Name, block_name}
use Rattle.rmt_model.specs.Live.{Dropped}
use Rattle.rmt_model.specs.Fair.{CoveredBy}
use Rattle.rmt_model.specs.CopiedParts.{Copied, names_of}
use Rattle.rmt_model.proofs.Lists.{Each-at, Each-all, Has-filter, Has-kept}
use Rattle.rmt_events.specs.Views.{Staged, Replica, Table}
use Rattle.rmt_model.specs.BlockNumbers.{next_number}
use Rattle.rmt_events.specs.TableCalls.{with_session}
use Rattle.rmt_events.specs.Sound.{IsSoundTable}
use Rattle.rmt_events.specs.ReplicaCalls.{IsStanding, IsStaged}
use Rattle.rmt_events.specs.Clusters.{blocks_in, Cluster, with_replica}
use Rattle.rmt_events.specs.Whole.{HasItsBlocks, IsRightlyStaged, IsKeptAt, Follows, IsOpen, IsCommitted, IsWhole}
use Rattle.rmt_events.specs.ClusterChanges.{IsNumbered}
use Rattle.rmt_events.specs.Steps.{Kills, Restarts}
use Rattle.rmt_events.proofs.TableSteps.{session-from, session-new, session-old, sound-closes, sound-opens}
use Rattle.rmt_events.proofs.Moves.{count-kept, goes-on-refl, GrowsTo, Suits, blocks-moved, staged-moved, follows-moved, rising-with, there-with, noted-with}
use Rattle.rmt_events.proofs.Notes.{notes-quiet}
use Rattle.rmt_events.proofs.ReplicaSteps.{stands-dies, stands-wakes}
use Rattle.rmt_events.proofs.WholeReplica.{follower}
use Rattle.rmt_events.specs.declared.reply.Reply.{Reply}

-- one replica's session changes: nothing of the table changes but locks and that session, and nothing of the replica but its
-- flag and its marks
pub record Reopens (s : Cluster) (k : ℕ) (x y : Replica) (u : Table) : Type 0 where
  pub sound : IsSoundTable u
  pub schema_is : u.schema ≡ s.table.schema
  pub log_is : u.log ≡ s.table.log
  pub next_is : u.next ≡ s.table.next
  pub values_are : u.values ≡ s.table.values
  pub others : (j : ℕ) → (j ≡ k → ⊥) → (Has s.table.sessions j → Has u.sessions j) × (Has u.sessions j → Has s.table.sessions j)
  pub own : (y.up ≡ true → Has u.sessions k) × (Has u.sessions k → y.up ≡ true)
  pub stands : IsStanding s.table.schema y
  pub number_is : y.number ≡ x.number
  pub copy_is : y.log ≡ x.log
  pub parts_are : y.parts ≡ x.parts
  pub staged_are : y.staged ≡ x.staged
  pub noted_are : y.noted ≡ x.noted
  pub quorum_is : u.quorum ≡ s.table.quorum

each-other : (P : Replica → Type 0) (xs : List Replica) (k : ℕ) (y : Replica) → Pairwise (λ a b. a.number < b.number) xs → P y → ((z : Replica) → Has xs z → (z.number ≡ k → ⊥) → P z) → Each P (with_replica xs k y)
each-other P [] k y r p f = tt
each-other P (x ∷ xs) k y r p f = go (nat_eq x.number k) refl (each-other P xs k y r.1 p (λ z h n. f z (inr h) n))
  where
    go : (b : Bool) → nat_eq x.number k ≡ b → Each P (with_replica xs k y) → Each P (cond b (y ∷ xs) (x ∷ with_replica xs k y))
    go true q i =
        let m : x.number ≡ k = grind (arith, nat_tests) in
        (p, Each-all P xs (λ z h. f z (inr h) (λ e. let l = Each-at (λ b. x.number < b.number) xs z r.0 h in absurd (omega (arith, l, m, e)))))
    go false q i = (f x (inl refl) (λ e. absurd (grind (arith, nat_tests))), i)

pub whole-reopens : (s : Cluster) (k : ℕ) (x y : Replica) (u : Table) → IsWhole s → IsNumbered s k x → Reopens s k x y u → IsWhole (record s { table = u; replicas = with_replica s.replicas k y })
whole-reopens s k x y u w at r =
    record {
      table = r.sound;
      rising = rising-with s.replicas k y (r.number_is ∙ at.number) w.rising;
      follow = each-other (Follows new) s.replicas k y w.rising (own (follower s k x w at)) (λ z h n. follows-moved s new z (suits z n) (Each-at (Follows s) s.replicas z w.follow h));
      committed = λ i p n source need digest q. let g = w.committed i p n source need digest (subst (λ (l : List Entry). entry_at l i ≡ Some (Get p n digest source need)) r.log_is q) in (record { block = IsCommitted.block g.0; is = IsCommitted.is g.0; partition = IsCommitted.partition g.0; same_id = IsCommitted.same_id g.0 }, there-with s.replicas k source y (r.number_is ∙ at.number) g.1);
      attempts = Each-all (IsOpen new) s.attempts (λ a h. let o = Each-at (IsOpen s) s.attempts a w.attempts h in record {
        counted = o.counted;
        allocated = o.allocated;
        below = subst (λ (xs : List (Option ℕ × ℕ)). a.number < next_number xs a.block.partition) (sym r.next_is) o.below;
        unused = λ q. o.unused (subst (λ (l : List Entry). Used l a.block.partition a.number) r.log_is q);
      });
      apart = w.apart;
      counted = count-kept s new r.values_are r.schema_is (ap (λ (l : List Entry). blocks_in l s.events) r.log_is) w.counted;
      notes = notes-quiet s.table u s.replicas (with_replica s.replicas k y) r.quorum_is r.log_is (noted-with s k x y w at r.number_is (λ a h. subst (λ (l : List Name). Has l a) (sym r.noted_are) h)) w.notes;
    }
  where
    new : Cluster
    new = record s { table = u; replicas = with_replica s.replicas k y }

    grows : GrowsTo s new
    grows = record {
      schema = r.schema_is;
      log = subst (λ (l : List Entry). IsPrefix s.table.log l) (sym r.log_is) (goes-on-refl s.table.log);
      next = λ p m l. subst (λ (xs : List (Option ℕ × ℕ)). m < next_number xs p) (sym r.next_is) l;
      blocks = λ i b l q. q;
    }

    suits : (z : Replica) → (z.number ≡ k → ⊥) → Suits s new z
    suits z n = record {
      grows = grows;
      opened = (r.others z.number n).0;
      closed = (r.others z.number n).1;
      gets = λ p n need digest h. inl (subst (λ (l : List Entry). Has l (Get p n digest z.number need)) r.log_is h);
      staged = λ v h. record { gets = λ i source need digest q. inl (subst (λ (l : List Entry). entry_at l i ≡ Some (Get v.block.partition v.number digest source need)) r.log_is q); attempts = λ a i p n. inl i };
    }

    is-k : y.number ≡ k
    is-k = r.number_is ∙ at.number

    own : Follows s x → Follows new y
    own f = record {
      stands = subst (λ (c : Shape). IsStanding c y) (sym r.schema_is) r.stands;
      prefix = subst (λ (l : List Entry). IsPrefix y.log l) (sym r.log_is) (subst (λ (l : List Entry). IsPrefix l s.table.log) (sym r.copy_is) f.prefix);
      session = subst (λ j. (y.up ≡ true → Has u.sessions j) × (Has u.sessions j → y.up ≡ true)) (sym is-k) r.own;
      sources = λ p n need digest h. kept p n digest (f.sources p n need digest (subst (λ j. Has s.table.log (Get p n digest j need)) r.number_is (subst (λ (l : List Entry). Has l (Get p n digest y.number need)) r.log_is h)));
      blocks = subst (λ (ps : List Copied). Each (HasItsBlocks new) ps) (sym r.parts_are) (Each-all (HasItsBlocks new) x.parts (λ part h. blocks-moved s new part grows (Each-at (HasItsBlocks s) x.parts part f.blocks h)));
      waiting = subst (λ (zs : List Staged). Each (IsRightlyStaged new) zs) (sym r.staged_are) (Each-all (IsRightlyStaged new) x.staged (λ z h. staged-moved s new z grows
          (record { gets = λ i source need digest q. inl (subst (λ (l : List Entry). entry_at l i ≡ Some (Get z.block.partition z.number digest source need)) r.log_is q); attempts = λ a i p n. inl i })
          (Each-at (IsRightlyStaged s) x.staged z f.waiting h)));
    }
      where
        kept : (p : Option ℕ) (n : ℕ) (digest : List ℕ) → IsKeptAt x p n digest → IsKeptAt y p n digest
        kept p n digest (inl v) = inl (record { block = v.block; staged = record { is_in = subst (λ (zs : List Staged). Has zs (record { number = n; block = v.block })) (sym r.staged_are) (IsStaged.is_in v.staged); partition = IsStaged.partition v.staged }; same_id = v.same_id })
        kept p n digest (inr (inl v)) = inr (inl (subst (λ (ps : List Copied). CoveredBy (names_of ps) (block_name p n)) (sym r.parts_are) v))
        kept p n digest (inr (inr v)) = inr (inr (subst (λ (l : List Entry). Dropped l (block_name p n)) (sym r.copy_is) v))

-- sessions without one
left-open : (xs : List ℕ) (j k : ℕ) → (j ≡ k → ⊥) → (Has xs j → Has (filter (λ i. not (nat_eq i k)) xs) j) × (Has (filter (λ i. not (nat_eq i k)) xs) j → Has xs j)
left-open xs j k n = (λ h. Has-kept (λ i. not (nat_eq i k)) xs j h (stays (nat_eq j k) refl), λ h. (Has-filter (λ i. not (nat_eq i k)) xs j h).0)
  where
    stays : (b : Bool) → nat_eq j k ≡ b → not b ≡ true
    stays true q = absurd (n (let e : j ≡ k = grind (arith, nat_tests) in e))
    stays false q = refl

not-open : (xs : List ℕ) (k : ℕ) → Has (filter (λ i. not (nat_eq i k)) xs) k → ⊥
not-open xs k h = let e = (Has-filter (λ i. not (nat_eq i k)) xs k h).1 in absurd (grind (arith, nat_tests))

pub whole-kills : (s t : Cluster) (k : ℕ) (reply : Reply) → IsWhole s → Kills s k reply t → IsWhole t
whole-kills s t k reply w e =
    subst IsWhole (sym e.change) (whole-reopens s k e.old e.new e.table w e.at (record {
      sound = sound-closes s.table e.table k w.table e.closes;
      schema_is = ap (λ (u : Table). u.schema) e.closes;
      log_is = ap (λ (u : Table). u.log) e.closes;
      next_is = ap (λ (u : Table). u.next) e.closes;
      values_are = ap (λ (u : Table). u.values) e.closes;
      others = λ j n. subst (λ (u : Table). (Has s.table.sessions j → Has u.sessions j) × (Has u.sessions j → Has s.table.sessions j)) (sym e.closes) (left-open s.table.sessions j k n);
      own = (λ q. let d : (e.new).up ≡ false = ap (λ (z : Replica). z.up) e.dies in absurd (cc), λ h. absurd (not-open s.table.sessions k (subst (λ (u : Table). Has u.sessions k) e.closes h)));
      stands = stands-dies s.table.schema e.old e.new (Follows.stands (follower s k e.old w e.at)) e.dies;
      number_is = ap (λ (z : Replica). z.number) e.dies;
      copy_is = ap (λ (z : Replica). z.log) e.dies;
      parts_are = ap (λ (z : Replica). z.parts) e.dies;
      staged_are = ap (λ (z : Replica). z.staged) e.dies;
      noted_are = ap (λ (z : Replica). z.noted) e.dies;
      quorum_is = ap (λ (u : Table). u.quorum) e.closes;
    }))

pub whole-restarts : (s t : Cluster) (k : ℕ) (reply : Reply) → IsWhole s → Restarts s k reply t → IsWhole t
whole-restarts s t k reply w e =
    subst IsWhole (sym e.change) (whole-reopens s k e.old e.new e.table w e.at (record {
      sound = sound-opens e.closed e.table k (sound-closes s.table e.closed k w.table e.closes) e.opens;
      schema_is = ap (λ (u : Table). u.schema) e.opens ∙ ap (λ (u : Table). u.schema) e.closes;
      log_is = ap (λ (u : Table). u.log) e.opens ∙ ap (λ (u : Table). u.log) e.closes;
      next_is = ap (λ (u : Table). u.next) e.opens ∙ ap (λ (u : Table). u.next) e.closes;
      values_are = ap (λ (u : Table). u.values) e.opens ∙ ap (λ (u : Table). u.values) e.closes;
      others = λ j n.
          let f = left-open s.table.sessions j k n in
          let g = left-open e.closed.sessions j k n in
          let h : e.closed.sessions ≡ filter (λ i. not (nat_eq i k)) s.table.sessions = ap (λ (u : Table). u.sessions) e.closes in
          let m : e.table.sessions ≡ with_session k (filter (λ i. not (nat_eq i k)) e.closed.sessions) = ap (λ (u : Table). u.sessions) e.opens in (
            λ v. subst (λ (xs : List ℕ). Has xs j) (sym m) (session-old k (filter (λ i. not (nat_eq i k)) e.closed.sessions) j (g.0 (subst (λ (xs : List ℕ). Has xs j) (sym h) (f.0 v)))),
            λ v. f.1 (subst (λ (xs : List ℕ). Has xs j) h (g.1 (rest j n (session-from k (filter (λ i. not (nat_eq i k)) e.closed.sessions) j (subst (λ (xs : List ℕ). Has xs j) m v))))),
          );
      own = (λ q. subst (λ (xs : List ℕ). Has xs k) (sym (ap (λ (u : Table). u.sessions) e.opens)) (session-new k (filter (λ i. not (nat_eq i k)) e.closed.sessions)), λ h. ap (λ (z : Replica). z.up) e.wakes);
      stands = stands-wakes s.table.schema e.old e.new (Follows.stands (follower s k e.old w e.at)) e.wakes;
      number_is = ap (λ (z : Replica). z.number) e.wakes;
      copy_is = ap (λ (z : Replica). z.log) e.wakes;
      parts_are = ap (λ (z : Replica). z.parts) e.wakes;
      staged_are = ap (λ (z : Replica). z.staged) e.wakes;
      noted_are = ap (λ (z : Replica). z.noted) e.wakes;
      quorum_is = ap (λ (u : Table). u.quorum) e.opens ∙ ap (λ (u : Table). u.quorum) e.closes;
    }))
  where
    rest : (j : ℕ) → (j ≡ k → ⊥) → (k ≡ j) ⊎ Has (filter (λ i. not (nat_eq i k)) e.closed.sessions) j → Has (filter (λ i. not (nat_eq i k)) e.closed.sessions) j
    rest j n (inl q) = absurd (n (sym q))
    rest j n (inr h) = h
