-- A note leaves all whole.
use Rattle.std.proofs.Common.{◌≡◌, ℕ, ◌⊎◌, inl, inr, Bool, true, false, cond, List, [], ◌∷◌, length, refl, sym, ap, subst, ◌∙◌, arith, nat_eq, nat_le}
use Rattle.std.proofs.lemmas.Bool.Decides.{nat_tests}
use Rattle.std.specs.declared.option.Option.{Option}
use Rattle.std.specs.declared.option.Option.TheVariants.{Some}
use Rattle.rmt_names.specs.Names.{Name, block_name}
use Rattle.rmt_entries.specs.declared.entry.Entry.{Entry}
use Rattle.rmt_entries.specs.declared.entry.Entry.TheVariants.{Get, Merge, Mutate, Mutation, DropRange}
use Rattle.rmt_model.specs.Words.{Has}
use Rattle.rmt_entries.specs.Entries.{result_name}
use Rattle.rmt_model.specs.Live.{made, Dropped}
use Rattle.rmt_model.specs.Fair.{CoveredBy, MadeAtMark, AllMarked}
use Rattle.rmt_queue.specs.Marks.{done_at}
use Rattle.rmt_model.specs.CopiedParts.{names_of}
use Rattle.rmt_model.proofs.Lists.{Each-at, Each-all}
use Rattle.rmt_model.specs.Quorum.{QuorumBlock, Pending, Quorum, quorum_blocks, IsPending, IsQuorum, quorum_after_note}
use Rattle.rmt_events.specs.Views.{Replica, Table}
use Rattle.rmt_events.specs.Sound.{IsSoundTable}
use Rattle.rmt_events.specs.ReplicaCalls.{IsKeptNote, IsDrained, NotesPart}
use Rattle.rmt_events.specs.Clusters.{Cluster, with_replica}
use Rattle.rmt_events.specs.Whole.{Follows, IsOpen, IsCommitted, HasNoted, KeepNotes, IsWhole}
use Rattle.rmt_events.specs.ClusterChanges.{cluster_with}
use Rattle.rmt_events.specs.Steps.{NotesPending}
use Rattle.rmt_events.proofs.TableSteps.{sound-notes}
use Rattle.rmt_events.proofs.Moves.{goes-on-refl, Suits, follows-moved, noted-with, whole-replaced}
use Rattle.rmt_events.proofs.Notes.{notes-note}
use Rattle.rmt_events.proofs.WholeReplica.{follower, covered-made}
use Rattle.rmt_events.specs.declared.reply.Reply.{Reply}

-- a part that a quorum was asked for is that of a Get
pub record IsOfGet (log : List Entry) (a : Name) : Type 0 where
  pub partition : Option ℕ
  pub number : ℕ
  pub digest : List ℕ
  pub source : ℕ
  pub need : ℕ
  pub entry : Has log (Get partition number digest source need)
  pub named : a ≡ block_name partition number

more-get : (e : Entry) (log : List Entry) (a : Name) → IsOfGet log a → IsOfGet (e ∷ log) a
more-get e log a g = record { partition = g.partition; number = g.number; digest = g.digest; source = g.source; need = g.need; entry = inr g.entry; named = g.named }

pub asked-get : (log : List Entry) (x : QuorumBlock) → Has (quorum_blocks log) x → IsOfGet log x.part
asked-get [] x h = absurd h
asked-get (Get p n digest source need ∷ log) x h = go (nat_le 2 need) h (asked-get log x)
  where
    go : (b : Bool) → Has (cond b (record { part = block_name p n; need = need } ∷ quorum_blocks log) (quorum_blocks log)) x → (Has (quorum_blocks log) x → IsOfGet log x.part) → IsOfGet (Get p n digest source need ∷ log) x.part
    go true (inl e) f = record { partition = p; number = n; digest = digest; source = source; need = need; entry = inl refl; named = ap (λ (y : QuorumBlock). y.part) (sym e) }
    go true (inr k) f = more-get (Get p n digest source need) log x.part (f k)
    go false k f = more-get (Get p n digest source need) log x.part (f k)
asked-get (Merge new sources count ∷ log) x h = more-get (Merge new sources count) log x.part (asked-get log x h)
asked-get (Mutate old new upto count mcount ∷ log) x h = more-get (Mutate old new upto count mcount) log x.part (asked-get log x h)
asked-get (Mutation id numbers command ∷ log) x h = more-get (Mutation id numbers command) log x.part (asked-get log x h)
asked-get (DropRange p n ∷ log) x h = more-get (DropRange p n) log x.part (asked-get log x h)

-- the pending part is that of a Get
pending-get : (t : Table) (q : Pending) → IsSoundTable t → t.quorum.pending ≡ Some q → IsOfGet t.log q.part
pending-get t q s e =
    let k : IsPending t.log (Some q) (IsQuorum.others s.quorum) = subst (λ (o : Option Pending). IsPending t.log o (IsQuorum.others s.quorum)) e (IsQuorum.pending s.quorum) in
    asked-get t.log (record { part = q.part; need = q.need }) (subst (λ (bs : List QuorumBlock). Has bs (record { part = q.part; need = q.need })) (sym k.0) (inl refl))

-- what covers it was made in the copy after it
pub pending-made : (s : Cluster) (x : Replica) (q : Pending) → IsWhole s → Follows s x → s.table.quorum.pending ≡ Some q → CoveredBy (names_of x.parts) q.part → Has (made x.log) q.part
pending-made s x q w f e c =
    let g = pending-get s.table q w.table e in
    subst (λ (a : Name). Has (made x.log) a) (sym g.named) (covered-made s x g.partition g.number g.source g.need g.digest w f g.entry (subst (CoveredBy (names_of x.parts)) g.named c))

-- the replica that notes it follows still
follows-notes : (s : Cluster) (x y : Replica) (q : Pending) → IsWhole s → Follows s x → s.table.quorum.pending ≡ Some q → NotesPart x q.part y → Follows s y
follows-notes s x y q w f e n =
    subst (Follows s) (sym n.change) (record {
      stands = record {
        lawful = f.stands.lawful;
        marks = f.stands.marks;
        fair = f.stands.fair;
        parts = f.stands.parts;
        notes = Each-all (IsKeptNote (record x { noted = y.noted })) y.noted (λ a h. elim (n.lists.only a h) [
          | inl i ↦ subst (IsKeptNote (record x { noted = y.noted })) (sym i) (pending-made s x q w f e n.covered, inl n.covered)
          | inr i ↦ kept a (Each-at (IsKeptNote x) x.noted a f.stands.notes i)
        ]);
      };
      prefix = f.prefix;
      session = f.session;
      sources = λ p m need digest h. elim (f.sources p m need digest h) [
        | inl k ↦ inl (record { block = k.block; staged = record { is_in = k.staged.is_in; partition = k.staged.partition }; same_id = k.same_id })
        | inr k ↦ inr k
      ];
      blocks = f.blocks;
      waiting = f.waiting;
    })
  where
    kept : (a : Name) → IsKeptNote x a → IsKeptNote (record x { noted = y.noted }) a
    kept a k = k

-- only the quorum of the table changes
pub whole-noted : (s : Cluster) (q : Quorum) → IsWhole s → IsSoundTable (record s.table { quorum = q }) → KeepNotes (record s.table { quorum = q }) s.replicas → IsWhole (record s { table = record s.table { quorum = q } })
whole-noted s q w sound notes =
    record {
      table = sound;
      rising = w.rising;
      follow = Each-all (Follows new) s.replicas (λ x h. follows-moved s new x (suits x) (Each-at (Follows s) s.replicas x w.follow h));
      committed = λ i p n source m digest k. let g = w.committed i p n source m digest k in (record { block = IsCommitted.block g.0; is = IsCommitted.is g.0; partition = IsCommitted.partition g.0; same_id = IsCommitted.same_id g.0 }, g.1);
      attempts = Each-all (IsOpen new) s.attempts (λ a h. let o = Each-at (IsOpen s) s.attempts a w.attempts h in record { counted = o.counted; allocated = o.allocated; below = o.below; unused = o.unused });
      apart = w.apart;
      counted = w.counted;
      notes = notes;
    }
  where
    new : Cluster
    new = record s { table = record s.table { quorum = q } }

    suits : (x : Replica) → Suits s new x
    suits x = record {
      grows = record { schema = refl; log = goes-on-refl s.table.log; next = λ p m l. l; blocks = λ i b l k. k };
      opened = λ h. h;
      closed = λ h. h;
      gets = λ p n need digest h. inl h;
      staged = λ z h. record { gets = λ i source need digest k. inl k; attempts = λ a k p n. inl k };
    }

-- the replica of the number has it in its list
new-noted : (xs : List Replica) (k : ℕ) (x y : Replica) (a : Name) → Has xs x → x.number ≡ k → y.number ≡ k → Has y.noted a → HasNoted (with_replica xs k y) a k
new-noted xs k x y a h e f n = let t = there xs h in record { replica = y; is_in = t; numbered = f; noted = n }
  where
    there : (zs : List Replica) → Has zs x → Has (with_replica zs k y) y
    there [] m = absurd m
    there (z ∷ zs) m = go (nat_eq z.number k) refl m (there zs)
      where
        go : (b : Bool) → nat_eq z.number k ≡ b → (z ≡ x) ⊎ Has zs x → (Has zs x → Has (with_replica zs k y) y) → Has (cond b (y ∷ zs) (z ∷ with_replica zs k y)) y
        go true q m g = inl refl
        go false q (inl i) g = absurd (let r : z.number ≡ k = ap (λ (v : Replica). v.number) i ∙ e in grind (arith, nat_tests))
        go false q (inr i) g = inr (g i)

pub whole-notes : (s t : Cluster) (k : ℕ) (reply : Reply) → IsWhole s → NotesPending s k reply t → IsWhole t
whole-notes s t k reply w e =
    subst IsWhole (sym same) (whole-noted (cluster_with s k e.new) (quorum_after_note k s.table.quorum) first sound notes)
  where
    f : Follows s e.old
    f = follower s k e.old w e.is.at

    number : e.new.number ≡ e.old.number
    number = ap (λ (z : Replica). z.number) e.notes.change

    first : IsWhole (cluster_with s k e.new)
    first = whole-replaced s k e.old e.new w e.is.at number e.notes.lists.kept (follows-notes s e.old e.new e.waiting w f e.waits e.notes)

    same : t ≡ record s { table = record s.table { quorum = quorum_after_note k s.table.quorum }; replicas = with_replica s.replicas k e.new }
    same = e.change ∙ ap (λ (u : Table). record s { table = u; replicas = with_replica s.replicas k e.new }) e.call

    sound : IsSoundTable (record s.table { quorum = quorum_after_note k s.table.quorum })
    sound = sound-notes s.table (record s.table { quorum = quorum_after_note k s.table.quorum }) k w.table refl

    notes : KeepNotes (record s.table { quorum = quorum_after_note k s.table.quorum }) (with_replica s.replicas k e.new)
    notes = notes-note s.table (record s.table { quorum = quorum_after_note k s.table.quorum }) s.replicas (with_replica s.replicas k e.new) k e.waiting (IsSoundTable.quorum w.table) e.waits refl refl
        (noted-with s k e.old e.new w e.is.at number e.notes.lists.kept)
        (new-noted s.replicas k e.old e.new e.waiting.part e.is.at.is_in e.is.at.number (number ∙ e.is.at.number) e.notes.lists.there)
        w.notes

-- ---- a replica that has done the whole log

-- what an entry makes is made at a mark where all places are marked
made-marked : (log : List Entry) (marked : ℕ → Bool) (e : Entry) (a : Name) → AllMarked log marked → Has log e → result_name e ≡ Some a → MadeAtMark log marked a
made-marked [] marked e a f h r = absurd h
made-marked (x ∷ log) marked e a f (inl q) r = inl (f (length log) (omega arith), ap result_name q ∙ r)
made-marked (x ∷ log) marked e a f (inr h) r = inr (made-marked log marked e a (λ i l. f i (omega (arith, l))) h r)

-- it has a part that covers the one that waits
pub drained-covers : (s : Cluster) (x : Replica) (q : Pending) → IsWhole s → Has s.replicas x → x.log ≡ s.table.log → IsDrained x → s.table.quorum.pending ≡ Some q → CoveredBy (names_of x.parts) q.part
drained-covers s x q w h l d e =
    elim ((Follows.stands (Each-at (Follows s) s.replicas x w.follow h)).fair.answered q.part (made-marked x.log (done_at x.done) (Get g.partition g.number g.digest g.source g.need) q.part d
    (subst (λ (log : List Entry). Has log (Get g.partition g.number g.digest g.source g.need)) (sym l) g.entry) (ap (λ (a : Name). Some a) (sym g.named)))) [
      | inl c ↦ c
      | inr b ↦ absurd (k.1 (subst (λ (log : List Entry). Dropped log q.part) l b))
    ]
  where
    g : IsOfGet s.table.log q.part
    g = pending-get s.table q w.table e

    k : IsPending s.table.log (Some q) (IsQuorum.others (IsSoundTable.quorum w.table))
    k = subst (λ (o : Option Pending). IsPending s.table.log o (IsQuorum.others (IsSoundTable.quorum w.table))) e (IsQuorum.pending (IsSoundTable.quorum w.table))
