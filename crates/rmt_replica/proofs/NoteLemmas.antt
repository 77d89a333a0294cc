-- What was noted is covered or dropped still, and what one more note adds.
use Rattle.std.proofs.Common.{◌≡◌, ℕ, zero, suc, ◌<◌, ◌≤◌, ◌⊎◌, inl, inr, Bool, true, false, not, List, [], ◌∷◌, ◌++◌, length, filter, slice_get, refl, sym, ap, subst, ◌∙◌, arith}
use Rattle.std.proofs.lemmas.Bool.Decides.{nat_tests}
use Rattle.std.specs.Option.{option_map}
use Rattle.std.specs.declared.option.Option.{Option}
use Rattle.std.specs.declared.option.Option.TheVariants.{Some, None}
use Rattle.rmt_values.specs.Rows.{Shape}
use Rattle.rmt_names.specs.Names.{Name, rank, block_name}
use Rattle.rmt_entries.specs.declared.entry.Entry.{Entry}
use Rattle.rmt_entries.specs.declared.entry.Entry.TheVariants.{Get, DropRange}
use Rattle.rmt_model.specs.Words.{Has, Each}
use Rattle.rmt_model.specs.Live.{made, placed, in_drop, Dropped}
use Rattle.rmt_model.specs.Lawful.{Lawful, entry_at, IsPrefix}
use Rattle.rmt_model.specs.Fair.{CoveredBy}
use Rattle.rmt_model.specs.Quorum.{QuorumBlock, Pending, quorum_blocks, IsPending, IsQuorum}
use Rattle.rmt_model.proofs.Lists.{Each-at, Each-all, Has-append, Has-left, Has-right, Has-kept, rank-injective}
use Rattle.rmt_model.proofs.LiveLaws.{covered-placed, Get-made}
use Rattle.rmt_model.proofs.Drops.{some-same, drop-takes, entry-has, made-more}
use Rattle.rmt_partset.specs.ActiveParts.{part_names}
use Rattle.rmt_events.specs.Sound.{IsSoundTable}
use Rattle.rmt_events.specs.ReplicaCalls.{ListsNote}
use Rattle.rmt_events.proofs.Copies.{gets-within}
use Rattle.rmt_events.proofs.WholeNotes.{asked-get}
use Rattle.rmt_table_model.specs.Held.{Held}
use Rattle.rmt_table.specs.TableTrees.{table_at, IsCopyOf}
use Rattle.rmt_table.specs.Quorums.{IsPendingPart, NotesAt, IsQuorumNote}
use Rattle.rmt_replica.specs.Parts.{IsKeptNote}
use Rattle.rmt_replica.specs.Replicas.{ReplicaView, IsStandingReplica, copy_of}
use Rattle.rmt_replica.specs.NotedParts.{ListsPart, NotesWaiting, HasNoNote}

-- ---- what was noted is kept

-- with one more entry of the log
pub kept-more : (e : Entry) (log : List Entry) (names noted : List Name) → Each (IsKeptNote log names) noted → Each (IsKeptNote (e ∷ log) names) noted
kept-more e log names noted k = Each-all (IsKeptNote (e ∷ log) names) noted (λ a h. let n = Each-at (IsKeptNote log names) noted a k h in (made-more e log a n.0, elim n.1 [ inl c ↦ inl c | inr d ↦ inr (inl d) ]))

-- with a part in place of those that it covers
pub kept-placed : (log : List Entry) (new : Name) (names noted : List Name) → Each (IsKeptNote log names) noted → Each (IsKeptNote log (placed new names)) noted
kept-placed log new names noted k = Each-all (IsKeptNote log (placed new names)) noted (λ a h. let n = Each-at (IsKeptNote log names) noted a k h in (n.0, elim n.1 [ inl c ↦ inl (covered-placed new names a c) | inr d ↦ inr d ]))

-- what a drop takes from the parts it takes from what they cover
swept-note : (schema : Shape) (log : List Entry) (i : ℕ) (p : Option ℕ) (n : ℕ) (names : List Name) (a : Name) → Lawful schema log → entry_at log i ≡ Some (DropRange p n) → Has (made log) a → CoveredBy names a → CoveredBy (filter (λ x. not (in_drop p n x)) names) a ⊎ Dropped log a
swept-note schema log i p n names a l q m c = go (in_drop p n c.name) refl
  where
    stays : Name → Bool
    stays x = not (in_drop p n x)

    go : (b : Bool) → in_drop p n c.name ≡ b → CoveredBy (filter stays names) a ⊎ Dropped log a
    go false e = inl (record { name = c.name; is_in = Has-kept stays names c.name c.is_in (ap not e); covers = c.covers })
    go true e =
        let k = c.covers.max in
        let f : rank p ≡ rank c.name.partition = grind (arith, nat_tests) in
        let u : c.name.max ≤ n = grind (arith, nat_tests) in
        inr (drop-takes schema log p n a l (entry-has log i (DropRange p n) q) m (rank-injective p c.name.partition f ∙ c.covers.partition) (omega (arith, k, u)))

-- without the parts of a drop
pub kept-swept : (schema : Shape) (log : List Entry) (i : ℕ) (p : Option ℕ) (n : ℕ) (names noted : List Name) → Lawful schema log → entry_at log i ≡ Some (DropRange p n) → Each (IsKeptNote log names) noted → Each (IsKeptNote log (filter (λ x. not (in_drop p n x)) names)) noted
kept-swept schema log i p n names noted l q k = Each-all (IsKeptNote log (filter (λ x. not (in_drop p n x)) names)) noted (λ a h. let m = Each-at (IsKeptNote log names) noted a k h in (m.0, note a m.0 m.1))
  where
    note : (a : Name) → Has (made log) a → CoveredBy names a ⊎ Dropped log a → CoveredBy (filter (λ x. not (in_drop p n x)) names) a ⊎ Dropped log a
    note a m (inl c) = swept-note schema log i p n names a l q m c
    note a m (inr d) = inr d

-- ---- a name in a list

-- the name at a place
pub at-has : (names : List Name) (i : ℕ) (a : Name) → slice_get names i ≡ Some a → Has names a
at-has [] i a e = absurd (cc)
at-has (x ∷ names) zero a e = inl (some-same x a e)
at-has (x ∷ names) (suc i) a e = inr (at-has names i a e)

-- a name that is at no place
pub none-at : (names : List Name) (a : Name) → ((i : ℕ) → i < length names → slice_get names i ≡ Some a → ⊥) → Has names a → ⊥
none-at [] a f h = absurd h
none-at (x ∷ names) a f (inl e) = f 0 (omega arith) (ap (λ (y : Name). Some y) e)
none-at (x ∷ names) a f (inr h) = none-at names a (λ i l e. f (suc i) (omega (arith, l)) e) h

-- ---- one more note

-- a list with one more part, as a cluster sees it
pub lists-note : (old new : List Name) (a : Name) → ListsPart old a new → ListsNote old a new
lists-note old new a (inl u) = record {
  there = subst (λ (xs : List Name). Has xs a) (sym u.1) u.0;
  kept = λ b h. subst (λ (xs : List Name). Has xs b) (sym u.1) h;
  only = λ b h. inr (subst (λ (xs : List Name). Has xs b) u.1 h);
}
lists-note old new a (inr u) = record {
  there = subst (λ (xs : List Name). Has xs a) (sym u.1) (Has-right old (a ∷ []) a (inl refl));
  kept = λ b h. subst (λ (xs : List Name). Has xs b) (sym u.1) (Has-left old (a ∷ []) b h);
  only = λ b h. elim (Has-append old (a ∷ []) b (subst (λ (xs : List Name). Has xs b) u.1 h)) [ inl k ↦ inr k | inr k ↦ inl (last b k) ];
}
  where
    last : (b : Name) → Has (a ∷ []) b → b ≡ a
    last b (inl e) = sym e
    last b (inr h) = absurd h

-- a part that was made and is covered may be noted
pub kept-listed : (log : List Entry) (names old new : List Name) (a : Name) → Each (IsKeptNote log names) old → Has (made log) a → CoveredBy names a → ListsPart old a new → Each (IsKeptNote log names) new
kept-listed log names old new a k m c l = Each-all (IsKeptNote log names) new (λ b h. elim (ListsNote.only (lists-note old new a l) b h) [
  | inl e ↦ subst (IsKeptNote log names) (sym e) (m, inl c)
  | inr o ↦ Each-at (IsKeptNote log names) old b k o
])

-- ---- the part that waits

-- the part of a Get of the log was made in a copy of which an active part covers it
covered-made : (schema : Shape) (log : List Entry) (r : ReplicaView) (p : Option ℕ) (n source need : ℕ) (digest : List ℕ) → IsStandingReplica r → IsPrefix r.log log → Lawful schema log → Has log (Get p n digest source need) → CoveredBy (part_names r.parts) (block_name p n) → Has (made r.log) (block_name p n)
covered-made schema log r p n source need digest s f l h k =
    let m = Each-at (λ a. Has (made r.log) a) (part_names r.parts) k.name s.fair.made_here k.is_in in
    let w = subst (Lawful schema) (IsPrefix.is f) l in
    let g = subst (λ (es : List Entry). Has es (Get k.name.partition n digest source need)) (IsPrefix.is f) (subst (λ (o : Option ℕ). Has log (Get o n digest source need)) (sym k.covers.partition) h) in
    let t = gets-within schema (IsPrefix.gained f) r.log k.name n source need digest w m (record { partition = refl; low = k.covers.min; high = k.covers.max }) g in
    Get-made r.log p n digest source need (subst (λ (o : Option ℕ). Has r.log (Get o n digest source need)) k.covers.partition t)

pub pending-made : (table : Held) (r : ReplicaView) (q : Pending) → IsStandingReplica r → IsCopyOf table (copy_of r) → IsSoundTable (table_at table) → table.quorum.pending ≡ Some q → CoveredBy (part_names r.parts) q.part → Has (made r.log) q.part
pending-made table r q s f t e c =
    let k : IsPending table.log (Some q) (IsQuorum.others t.quorum) = subst (λ (o : Option Pending). IsPending table.log o (IsQuorum.others t.quorum)) e (IsQuorum.pending t.quorum) in
    let g = asked-get table.log (record { part = q.part; need = q.need }) (subst (λ (bs : List QuorumBlock). Has bs (record { part = q.part; need = q.need })) (sym k.0) (inl refl)) in
    subst (λ (a : Name). Has (made r.log) a) (sym g.named) (covered-made table.schema table.log r g.partition g.number g.source g.need g.digest s f.prefix t.lawful g.entry (subst (CoveredBy (part_names r.parts)) g.named c))

-- the part that is told to wait waits
pub waiting-part : (o : Option Pending) (a : Name) → Some a ≡ option_map (λ (q : Pending). q.part) o → (q : Pending) × (o ≡ Some q) × (q.part ≡ a)
waiting-part None a e = absurd (cc)
waiting-part (Some q) a e = (q, refl, let w : q.part ≡ a = cc in w)

pub is-pending : (o : Option Pending) (a : Name) → Some a ≡ option_map (λ (q : Pending). q.part) o → IsPendingPart o a
is-pending o a e = let w = waiting-part o a e in subst (λ (p : Option Pending). IsPendingPart p a) (sym w.1) w.2

-- none waits
pub none-waits : (o : Option Pending) (q : Pending) → None ≡ option_map (λ (q : Pending). q.part) o → o ≡ Some q → ⊥
none-waits None q e w = absurd (cc)
none-waits (Some p) q e w = absurd (cc)

-- a note of a part that waits
pub notes-it : (old : Held) (r : ℕ) (a : Name) (b : Bool) (new : Held) → IsPendingPart old.quorum.pending a → IsQuorumNote old r a b new → NotesAt old r a new
notes-it old r a true new w n = n
notes-it old r a false new w n = absurd (n.0 w)

-- ---- a note

-- an active part covers the part that waits
pub notes-waiting : (old new : ReplicaView) (table after : Held) (a : Name) → Some a ≡ option_map (λ (q : Pending). q.part) table.quorum.pending → CoveredBy (part_names old.parts) a → NotesAt table old.number a after → ListsPart old.noted a new.noted → new ≡ record old { noted = new.noted } → NotesWaiting old table new after
notes-waiting old new table after a e c n l o =
    let w = waiting-part table.quorum.pending a e in
    record {
      waiting = w.0;
      waits = w.1;
      covered = subst (CoveredBy (part_names old.parts)) (sym w.2) c;
      call = subst (λ (x : Name). NotesAt table old.number x after) (sym w.2) n;
      lists = subst (λ (x : Name). ListsPart old.noted x new.noted) (sym w.2) l;
      others = o;
    }

-- no active part does
pub notes-nothing : (r : ReplicaView) (table : Held) (a : Name) → Some a ≡ option_map (λ (q : Pending). q.part) table.quorum.pending → (CoveredBy (part_names r.parts) a → ⊥) → HasNoNote r table
notes-nothing r table a e f q w c =
    let k = waiting-part table.quorum.pending a e in
    let p : k.0 ≡ q = some-is (sym k.1 ∙ w) in
    f (subst (CoveredBy (part_names r.parts)) (sym (ap (λ (z : Pending). z.part) p) ∙ k.2) c)
  where
    some-is : {x y : Pending} → Some x ≡ Some y → x ≡ y
    some-is s = cc
