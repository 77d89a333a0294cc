-- What a replica does with one entry, and that it stands after it.
use Rattle.std.proofs.Common.{◌≡◌, ℕ, ◌<◌, inl, inr, ◌||◌, Bool, true, false, not, List, [], ◌∷◌, length, filter, take, refl, sym, ap, subst, arith, ◌∙◌, nat_eq, cond}
use Rattle.std.proofs.lemmas.Bool.Decides.{nat_tests}
use Rattle.std.specs.Prelude.{slice_set}
use Rattle.std.specs.declared.option.Option.{Option}
use Rattle.std.specs.declared.option.Option.TheVariants.{Some, None}
use Rattle.rmt_names.specs.Names.{Name, Covers, Overlap}
use Rattle.rmt_entries.specs.Entries.{result_name}
use Rattle.rmt_entries.specs.declared.entry.Entry.{Entry}
use Rattle.rmt_entries.specs.declared.entry.Entry.TheVariants.{Get, Merge, Mutate, Mutation, DropRange}
use Rattle.rmt_model.specs.Words.{Has, Each}
use Rattle.rmt_model.specs.Live.{made, placed, in_drop, TakesAway, Dropped, DroppedAfter}
use Rattle.rmt_model.specs.Lawful.{entry_at, MakesAt, is_mutation}
use Rattle.rmt_model.specs.Laws.{Supersedes}
use Rattle.rmt_model.specs.Fair.{CoveredBy, AreFair, DroppedAtMark}
use Rattle.rmt_model.specs.EntryStates.{IsMutationEntry}
use Rattle.rmt_model.proofs.Lists.{Each-at, Each-all}
use Rattle.rmt_model.proofs.LiveLaws.{Covers-refl, Covers-trans, Pairwise-cases, later-covers}
use Rattle.rmt_model.proofs.Drops.{some-same, entry-made, dropped-with, marked-dropped, after-dropped, dropped-after}
use Rattle.rmt_model.proofs.Standing.{with_mark, fair-marked, fair-looked, fair-dropped, fair-installed, fair-fewer}
use Rattle.rmt_history.specs.Copies.{History}
use Rattle.rmt_queue.specs.Marks.{done_at}
use Rattle.rmt_replica.specs.declared.supply.Supply.{Supply}
use Rattle.rmt_replica.specs.declared.entry_state.EntryState.{EntryState}
use Rattle.rmt_replica.specs.declared.entry_state.EntryState.TheVariants as states
use Rattle.rmt_part.specs.Lineages.{PartValue}
use Rattle.rmt_partset.specs.ActiveParts.{Replace, Drop, after, part_names}
use Rattle.rmt_replica.specs.Parts.{IsMadeIn, IsKeptNote}
use Rattle.rmt_replica.specs.Replicas.{ReplicaView, IsStandingReplica, HasMarks, IsReplica, replica_of}
use Rattle.rmt_replica.specs.Answers.{IsAlready, IsEmptied, CanSettle, CanInstall, IsEntryState, IsEntryStateWithout, settled, released, InstallsSupplied, PartsAfter}
use Rattle.rmt_replica.specs.StagedBlocks.{Staged}
use Rattle.rmt_replica.proofs.StagedOrder.{staged-released}
use Rattle.rmt_replica.proofs.PartLemmas.{Installs, TakesParts, installs, takes}
use Rattle.rmt_replica.proofs.NoteLemmas.{kept-swept, kept-placed}
use Rattle.rmt_replica.proofs.MarkLemmas.{done-set, done-take, length-set-is, take-set, set-past}

-- ---- entries

makes-one : (log : List Entry) (i : ℕ) (a b : Name) → MakesAt log i a → MakesAt log i b → a ≡ b
makes-one log i a b m k = some-same a b (sym m.makes ∙ (ap result_name (some-same m.entry k.entry (sym m.stands ∙ k.stands)) ∙ k.makes))

looked-makes-none : (e : Entry) → is_mutation e ≡ true → result_name e ≡ None
looked-makes-none (Mutation id numbers command) q = refl
looked-makes-none (Get p n digest source need) q = absurd (cc)
looked-makes-none (Merge new sources count) q = absurd (cc)
looked-makes-none (Mutate old new upto count mcount) q = absurd (cc)
looked-makes-none (DropRange p n) q = absurd (cc)

looked-takes-none : (e : Entry) (x : Name) → is_mutation e ≡ true → TakesAway e x → ⊥
looked-takes-none (Mutation id numbers command) x q t = t
looked-takes-none (Get p n digest source need) x q t = t
looked-takes-none (Merge new sources count) x q t = t
looked-takes-none (Mutate old new upto count mcount) x q t = t
looked-takes-none (DropRange p n) x q t = absurd (cc)

-- a mark below the length of the copy
pub done-within : (copy : History) (marks : List Bool) (i : ℕ) (b : Bool) → i < length copy.log → done_at marks i ≡ b → done_at (take (length copy.log) marks) i ≡ b
done-within copy marks i b l e = done-take (length copy.log) marks i l ∙ e

-- ---- how an entry stands

not-looked : (r : ReplicaView) (i : ℕ) (a : Name) → MakesAt r.log i a → IsMutationEntry r.log i → ⊥
not-looked r i a m k =
    let e = some-same m.entry k.entry (sym m.stands ∙ k.stands) in
    let none = looked-makes-none k.entry k.is in
    let some = sym (ap result_name e) ∙ m.makes in
    absurd (cc)

pub is-open : (r : ReplicaView) (i : ℕ) (a : Name) → done_at r.done i ≡ false → MakesAt r.log i a → (CoveredBy (part_names r.parts) a → ⊥) → IsAlready r i → ⊥
is-open r i a d m n (inl e) = absurd (cc)
is-open r i a d m n (inr (inl k)) = not-looked r i a m k
is-open r i a d m n (inr (inr k)) = n (subst (CoveredBy (part_names r.parts)) (makes-one r.log i k.name a k.makes m) k.covered)

pub state-covered : (r : ReplicaView) (i : ℕ) (a : Name) → MakesAt r.log i a → CoveredBy (part_names r.parts) a → IsEntryState r i states.Already
state-covered r i a m c = inr (inr (record { name = a; makes = m; covered = c }))

pub state-dropped : (r : ReplicaView) (i : ℕ) (a : Name) → done_at r.done i ≡ false → MakesAt r.log i a → (CoveredBy (part_names r.parts) a → ⊥) → DroppedAfter r.log i a → IsEntryState r i states.Dropped
state-dropped r i a d m n k = (is-open r i a d m n, record { name = a; makes = m; dropped = after-dropped r.log i m.entry a m.stands m.makes k })

pub state-waits : (r : ReplicaView) (i : ℕ) (a : Name) → IsStandingReplica r → done_at r.done i ≡ false → MakesAt r.log i a → (CoveredBy (part_names r.parts) a → ⊥) → (DroppedAfter r.log i a → ⊥) → IsEntryState r i (states.Waits a)
state-waits r i a s d m n k = (
  record {
    open_entry = is-open r i a d m n;
    not_dropped = λ t. k (dropped-after r.schema r.log i m.entry a s.lawful m.stands m.makes (subst (Dropped r.log) (makes-one r.log i t.name a t.makes m) t.dropped));
  },
  m,
)

pub state-without : (r : ReplicaView) (i : ℕ) (e : Entry) (state : EntryState) → done_at r.done i ≡ false → entry_at r.log i ≡ Some e → result_name e ≡ None → IsEntryStateWithout e state → IsEntryState r i state
state-without r i (Mutation id numbers command) state d q n t = subst (IsEntryState r i) (sym t) (inr (inl (record { entry = Mutation id numbers command; stands = q; is = refl })))
state-without r i (DropRange p k) state d q n t = subst (IsEntryState r i) (sym t) (
  record {
    open_entry = λ a. not-already a;
    not_dropped = λ x. let e = sym x.makes.makes ∙ ap result_name (some-same x.makes.entry (DropRange p k) (sym x.makes.stands ∙ q)) in absurd (cc);
  },
  q,
)
  where
    not-already : IsAlready r i → ⊥
    not-already (inl e) = absurd (cc)
    not-already (inr (inl x)) = let e = sym (ap is_mutation (some-same x.entry (DropRange p k) (sym x.stands ∙ q))) ∙ x.is in absurd (cc)
    not-already (inr (inr x)) = let e = sym x.makes.makes ∙ ap result_name (some-same x.makes.entry (DropRange p k) (sym x.makes.stands ∙ q)) in absurd (cc)
state-without r i (Get p k digest source need) state d q n t = absurd t
state-without r i (Merge new sources count) state d q n t = absurd t
state-without r i (Mutate old new upto count mcount) state d q n t = absurd t

-- ---- marks

-- names that are fair for one mark more are fair for the marks with it set
fair-set : (log : List Entry) (done : List Bool) (i : ℕ) (names : List Name) → AreFair log (with_mark i (done_at done)) names → AreFair log (done_at (slice_set done i true)) names
fair-set log done i names f = fair-fewer log (done_at (slice_set done i true)) (with_mark i (done_at done)) names (λ j l e. done-set done i j e) f

fair-unset : (log : List Entry) (done : List Bool) (i : ℕ) (names : List Name) → AreFair log (with_mark i (done_at done)) names → AreFair log (done_at done) names
fair-unset log done i names f = fair-fewer log (done_at done) (with_mark i (done_at done)) names (λ j l e. go j (nat_eq j i) e) f
  where
    go : (j : ℕ) (b : Bool) → done_at done j ≡ true → (b || done_at done j) ≡ true
    go j true e = refl
    go j false e = e

settled-fair : (r : ReplicaView) (i : ℕ) → IsStandingReplica r → CanSettle r i → AreFair r.log (done_at (slice_set r.done i true)) (part_names r.parts)
settled-fair r i s (inl (inl e)) = fair-fewer r.log (done_at (slice_set r.done i true)) (done_at r.done) (part_names r.parts) (λ j l k. was j (nat_eq j i) refl (done-set r.done i j k)) s.fair
  where
    was : (j : ℕ) (b : Bool) → nat_eq j i ≡ b → (b || done_at r.done j) ≡ true → done_at r.done j ≡ true
    was j true q k = let t : j ≡ i = grind (arith, nat_tests) in ap (done_at r.done) t ∙ e
    was j false q k = k
settled-fair r i s (inl (inr (inl k))) =
    fair-set r.log r.done i (part_names r.parts) (fair-looked r.log i (done_at r.done) (part_names r.parts) k.entry k.stands (looked-makes-none k.entry k.is) (λ x. looked-takes-none k.entry x k.is) s.fair)
settled-fair r i s (inl (inr (inr k))) =
    fair-set r.log r.done i (part_names r.parts) (fair-marked r.log i (done_at r.done) (part_names r.parts) k.makes.entry k.name k.makes.stands k.makes.makes s.fair (inl k.covered))
settled-fair r i s (inr (inl k)) =
    fair-set r.log r.done i (part_names r.parts) (fair-marked r.log i (done_at r.done) (part_names r.parts) k.makes.entry k.name k.makes.stands k.makes.makes s.fair (inr k.dropped))
settled-fair r i s (inr (inr k)) =
    fair-set r.log r.done i (part_names r.parts) (subst (AreFair r.log (with_mark i (done_at r.done))) k.empty (fair-dropped r.schema r.log i (done_at r.done) (part_names r.parts) k.partition k.number s.lawful k.entry s.fair))

pub standing-settled : (r : ReplicaView) (i : ℕ) → IsStandingReplica r → CanSettle r i → IsStandingReplica (settled r i)
standing-settled r i s c = record {
  lawful = s.lawful;
  marks = length-set-is r.done i ∙ s.marks;
  fair = settled-fair r i s c;
  made = s.made;
  waiting = staged-released (entry_at r.log i) r.staged s.waiting;
  notes = s.notes;
}

-- the replica with a mark more
pub view-settled : (number : ℕ) (up fetches : Bool) (copy : History) (marks : List Bool) (parts : List PartValue) (staged : Staged) (noted : List Name) (i : ℕ) → HasMarks copy marks → i < length copy.log
    → replica_of number up fetches copy (slice_set marks i true) parts (released (entry_at copy.log i) staged) noted ≡ settled (replica_of number up fetches copy marks parts staged noted) i
view-settled number up fetches copy marks parts staged noted i h l =
    ap (λ (ms : List Bool). record { number = number; up = up; fetches = fetches; schema = copy.schema; log = copy.log; cells = copy.cells; done = ms; parts = parts; staged = released (entry_at copy.log i) staged; noted = noted }) (take-set (length copy.log) i marks l h.enough)

pub replica-settled : (number : ℕ) (up fetches : Bool) (copy : History) (marks : List Bool) (parts : List PartValue) (staged : Staged) (noted : List Name) (i : ℕ) → IsReplica copy marks (replica_of number up fetches copy marks parts staged noted) → i < length copy.log
    → CanSettle (replica_of number up fetches copy marks parts staged noted) i
    → IsReplica copy (slice_set marks i true) (replica_of number up fetches copy (slice_set marks i true) parts (released (entry_at copy.log i) staged) noted)
replica-settled number up fetches copy marks parts staged noted i r l c = record {
  marked = record {
    enough = let e = length-set-is marks i in let k = r.marked.enough in omega (arith, e, k);
    none_past = λ j m. set-past marks i j (omega (arith, l, m)) (r.marked.none_past j m);
  };
  standing = subst IsStandingReplica (sym (view-settled number up fetches copy marks parts staged noted i r.marked l)) (standing-settled (replica_of number up fetches copy marks parts staged noted) i r.standing c);
}

-- ---- parts

filter-twice : (f : Name → Bool) (xs : List Name) → filter f (filter f xs) ≡ filter f xs
filter-twice f [] = refl
filter-twice f (x ∷ xs) = go (f x) refl (filter-twice f xs)
  where
    go : (b : Bool) → f x ≡ b → filter f (filter f xs) ≡ filter f xs → filter f (cond b (x ∷ filter f xs) (filter f xs)) ≡ cond b (x ∷ filter f xs) (filter f xs)
    go true e h = ap (λ b. cond b (x ∷ filter f (filter f xs)) (filter f (filter f xs))) e ∙ ap (λ zs. x ∷ zs) h
    go false e h = h

-- without the parts of a drop of its copy a replica stands
standing-taken : (r : ReplicaView) (i : ℕ) (p : Option ℕ) (n : ℕ) (parts : List PartValue) → IsStandingReplica r → entry_at r.log i ≡ Some (DropRange p n) → TakesParts r.parts p n parts → IsStandingReplica (record r { parts = parts })
standing-taken r i p n parts s q t = record {
  lawful = s.lawful;
  marks = s.marks;
  fair = subst (AreFair r.log (done_at r.done)) (sym t.names) (fair-unset r.log r.done i (filter (λ a. not (in_drop p n a)) (part_names r.parts)) (fair-dropped r.schema r.log i (done_at r.done) (part_names r.parts) p n s.lawful q s.fair));
  made = Each-all (IsMadeIn r.schema r.log) parts (λ x h. Each-at (IsMadeIn r.schema r.log) r.parts x s.made (t.others x h));
  waiting = s.waiting;
  notes = subst (λ (names : List Name). Each (IsKeptNote r.log names) r.noted) (sym t.names) (kept-swept r.schema r.log i p n (part_names r.parts) r.noted s.lawful q s.notes);
}

emptied : (r : ReplicaView) (i : ℕ) (p : Option ℕ) (n : ℕ) (parts : List PartValue) → entry_at r.log i ≡ Some (DropRange p n) → TakesParts r.parts p n parts → IsEmptied (record r { parts = parts }) i
emptied r i p n parts q t = record {
  partition = p;
  number = n;
  entry = q;
  empty = ap (filter (λ a. not (in_drop p n a))) t.names ∙ (filter-twice (λ a. not (in_drop p n a)) (part_names r.parts) ∙ sym t.names);
}

part-made : (r : ReplicaView) (part : PartValue) → IsMadeIn r.schema r.log part → Has (made r.log) part.name
part-made r part m = entry-made r.log part.made.place part.made.value part.name m.of_log.made m.is_part.keeps.made

-- an active part that shares a number with the new one is covered by it
pub over-of : (r : ReplicaView) (i : ℕ) (a : Name) (part : PartValue) → IsStandingReplica r → CanInstall r i a part → Each (λ b. Overlap part.name b → Covers part.name b) (part_names r.parts)
over-of r i a part s c = Each-all (λ b. Overlap part.name b → Covers part.name b) (part_names r.parts) (λ b h o.
    elim (Pairwise-cases Supersedes (made r.log) part.name b (later-covers r.schema r.log s.lawful) (part-made r part c.made) (Each-at (λ x. Has (made r.log) x) (part_names r.parts) b s.fair.made_here h)) [
      | inl q ↦ subst (Covers part.name) q (Covers-refl part.name)
      | inr k ↦ elim k [ inl u ↦ u.covers o | inr u ↦ absurd (above b h (u.covers (turned b o))) ]
    ])
  where
    turned : (b : Name) → Overlap part.name b → Overlap b part.name
    turned b o = record { partition = sym o.partition; low = o.high; high = o.low }

    above : (b : Name) → Has (part_names r.parts) b → Covers b part.name → ⊥
    above b h k = c.waits.open_entry (inr (inr (record { name = a; makes = c.makes; covered = record { name = b; is_in = h; covers = Covers-trans b part.name a k c.covers } })))

standing-installed : (r : ReplicaView) (i : ℕ) (a : Name) (part : PartValue) (parts : List PartValue) → IsStandingReplica r → CanInstall r i a part → Installs r.parts part parts → IsStandingReplica (record r { parts = parts })
standing-installed r i a part parts s c t = record {
  lawful = s.lawful;
  marks = s.marks;
  fair = subst (AreFair r.log (done_at r.done)) (sym t.names) (fair-unset r.log r.done i (placed part.name (part_names r.parts))
      (fair-installed r.schema r.log i (done_at r.done) (part_names r.parts) c.makes.entry a part.name s.lawful c.makes.stands c.makes.makes s.fair (part-made r part c.made) c.covers not-dropped none-above));
  made = Each-all (IsMadeIn r.schema r.log) parts (λ x h. elim (t.others x h) [
    | inl q ↦ subst (IsMadeIn r.schema r.log) (sym q) c.made
    | inr k ↦ Each-at (IsMadeIn r.schema r.log) r.parts x s.made k
  ]);
  waiting = s.waiting;
  notes = subst (λ (names : List Name). Each (IsKeptNote r.log names) r.noted) (sym t.names) (kept-placed r.log part.name (part_names r.parts) r.noted s.notes);
}
  where
    not-dropped : DroppedAtMark r.log (done_at r.done) part.name → ⊥
    not-dropped d = c.waits.not_dropped (record { name = a; makes = c.makes; dropped = dropped-with r.schema r.log part.name a s.lawful (entry-made r.log i c.makes.entry a c.makes.stands c.makes.makes) c.covers (marked-dropped r.log (done_at r.done) part.name d) })

    none-above : (x : Name) → Has (part_names r.parts) x → Covers x part.name → ⊥
    none-above x h k = c.waits.open_entry (inr (inr (record { name = a; makes = c.makes; covered = record { name = x; is_in = h; covers = Covers-trans x part.name a k c.covers } })))

Has-name : (parts : List PartValue) (x : PartValue) → Has parts x → Has (part_names parts) x.name
Has-name [] x h = absurd h
Has-name (p ∷ parts) x (inl q) = inl (ap (λ (y : PartValue). y.name) q)
Has-name (p ∷ parts) x (inr h) = inr (Has-name parts x h)

pub covered-name : (parts : List PartValue) (x : PartValue) (a : Name) → Has parts x → Covers x.name a → CoveredBy (part_names parts) a
covered-name parts x a h c = record { name = x.name; is_in = Has-name parts x h; covers = c }

-- what the entry makes is covered once the part is active
now-covered : (r : ReplicaView) (i : ℕ) (a : Name) (part : PartValue) (parts : List PartValue) → CanInstall r i a part → Installs r.parts part parts → CanSettle (record r { parts = parts }) i
now-covered r i a part parts c t = inl (inr (inr (record { name = a; makes = c.makes; covered = covered-name parts part a t.there c.covers })))

-- the parts once an entry that makes a part is done
pub parts-after : (r : ReplicaView) (i : ℕ) (a : Name) (supply : Supply) (parts : List PartValue) → MakesAt r.log i a → InstallsSupplied r supply parts → PartsAfter (entry_at r.log i) r i supply parts
parts-after r i a supply parts m t = subst (λ (o : Option Entry). PartsAfter o r i supply parts) (sym m.stands) (go m.entry m.makes)
  where
    go : (e : Entry) → result_name e ≡ Some a → PartsAfter (Some e) r i supply parts
    go (Get p n digest source need) q = t
    go (Merge new sources count) q = t
    go (Mutate old new upto count mcount) q = t
    go (Mutation id numbers command) q = absurd (cc)
    go (DropRange p n) q = absurd (cc)

-- the same, told from what the calls do
pub takes-at : (r : ReplicaView) (i : ℕ) (p : Option ℕ) (n : ℕ) → IsStandingReplica r → entry_at r.log i ≡ Some (DropRange p n) → TakesParts r.parts p n (after (Drop p n i) r.parts)
takes-at r i p n s q = takes r.schema r.log i p n r.parts s.lawful q s.made

pub standing-after-drop : (r : ReplicaView) (i : ℕ) (p : Option ℕ) (n : ℕ) (parts : List PartValue) → IsStandingReplica r → entry_at r.log i ≡ Some (DropRange p n) → parts ≡ after (Drop p n i) r.parts → IsStandingReplica (record r { parts = parts })
standing-after-drop r i p n parts s q e = standing-taken r i p n parts s q (subst (TakesParts r.parts p n) (sym e) (takes-at r i p n s q))

pub emptied-after-drop : (r : ReplicaView) (i : ℕ) (p : Option ℕ) (n : ℕ) (parts : List PartValue) → IsStandingReplica r → entry_at r.log i ≡ Some (DropRange p n) → parts ≡ after (Drop p n i) r.parts → IsEmptied (record r { parts = parts }) i
emptied-after-drop r i p n parts s q e = emptied r i p n parts q (subst (TakesParts r.parts p n) (sym e) (takes-at r i p n s q))

pub standing-after-replace : (r : ReplicaView) (i : ℕ) (a : Name) (part : PartValue) (parts : List PartValue) → IsStandingReplica r → CanInstall r i a part → parts ≡ after (Replace part) r.parts → IsStandingReplica (record r { parts = parts })
standing-after-replace r i a part parts s c e = standing-installed r i a part parts s c (subst (Installs r.parts part) (sym e) (installs part r.parts))

pub covered-after-replace : (r : ReplicaView) (i : ℕ) (a : Name) (part : PartValue) (parts : List PartValue) → CanInstall r i a part → parts ≡ after (Replace part) r.parts → CanSettle (record r { parts = parts }) i
covered-after-replace r i a part parts c e = now-covered r i a part parts c (subst (Installs r.parts part) (sym e) (installs part r.parts))
