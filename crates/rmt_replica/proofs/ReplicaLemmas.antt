-- Steps of a replica, and what is after each.
use Rattle.std.proofs.Common.{◌≡◌, ℕ, suc, ◌+◌, ◌-◌, ◌≤◌, Bool, false, List, [], ◌∷◌, ◌++◌, length, take, refl, sym, ap, subst, arith, ◌∙◌}
use Rattle.rmt_names.specs.Names.{Name}
use Rattle.rmt_entries.specs.declared.entry.Entry.{Entry}
use Rattle.rmt_model.specs.Words.{Each}
use Rattle.rmt_model.specs.Lawful.{Lawful}
use Rattle.rmt_model.proofs.Lists.{Each-at, Each-all}
use Rattle.rmt_model.proofs.Drops.{entry-older}
use Rattle.rmt_model.proofs.Standing.{fair-more, fair-fewer}
use Rattle.rmt_history.specs.Copies.{History}
use Rattle.rmt_queue.specs.Marks.{done_at, grown}
use Rattle.rmt_part.specs.Lineages.{PartValue, StandsIn}
use Rattle.rmt_partset.specs.ActiveParts.{part_names}
use Rattle.rmt_replica.specs.Parts.{IsMadeIn, IsKeptNote}
use Rattle.rmt_replica.specs.StagedBlocks.{Staged, AreStaged}
use Rattle.rmt_replica.specs.Replicas.{ReplicaView, IsStandingReplica, HasMarks, IsReplica, replica_of}
use Rattle.rmt_replica.proofs.MarkLemmas.{past-false, false-behind, take-grown, length-grown, done-snoc}
use Rattle.rmt_replica.proofs.NoteLemmas.{kept-more}

-- the marks of a copy with one more entry
pub marks-more : (log : List Entry) (e : Entry) (marks more : List Bool) (n : ℕ) → length log ≤ length marks → ((i : ℕ) → length log ≤ i → done_at marks i ≡ false) → n ≡ length log + 1 → more ≡ grown marks n → take (length (e ∷ log)) more ≡ take (length log) marks ++ false ∷ []
marks-more log e marks more n l f p q =
    let s : n ≡ suc (length log) = omega (arith, p) in
    ap (take (suc (length log))) (q ∙ ap (λ k. grown marks k) s) ∙ take-grown (length log) marks l f

-- there are marks for a longer copy, once there are as many
pub has-marks-grown : (old new : History) (marks more : List Bool) (n : ℕ) → HasMarks old marks → length old.log ≤ length new.log → length new.log ≤ n → more ≡ grown marks n → HasMarks new more
has-marks-grown old new marks more n h a b q = record {
  enough = let e = ap (λ (x : List Bool). length x) q in let c = length-grown marks n in omega (arith, b, c, e);
  none_past = λ i m. ap (λ (x : List Bool). done_at x i) q ∙ false-behind marks (n - length marks) i (h.none_past i (omega (arith, m, a)));
}

pub has-marks-more : (old new : History) (e : Entry) (marks more : List Bool) (n : ℕ) → HasMarks old marks → new.log ≡ e ∷ old.log → n ≡ length old.log + 1 → more ≡ grown marks n → HasMarks new more
has-marks-more old new e marks more n h l p q =
    let a = ap (λ (x : List Entry). length x) l in
    has-marks-grown old new marks more n h (omega (arith, a)) (omega (arith, a, p)) q

-- one more entry of the log leaves a replica standing
pub standing-more : (r : ReplicaView) (e : Entry) (cell : ℕ) → IsStandingReplica r → Lawful r.schema (e ∷ r.log) → IsStandingReplica (record r { log = e ∷ r.log; cells = r.cells ++ cell ∷ []; done = r.done ++ false ∷ [] })
standing-more r e cell s l = record {
  lawful = l;
  marks = length-snoc r.done ∙ ap suc s.marks;
  fair = fair-fewer (e ∷ r.log) (done_at (r.done ++ false ∷ [])) (done_at r.done) (part_names r.parts) (λ j k m. done-snoc r.done j m)
      (fair-more e r.log (done_at r.done) (part_names r.parts) (past-false r.done (length r.log) (let m = s.marks in omega (arith, m))) s.fair);
  made = Each-all (IsMadeIn r.schema (e ∷ r.log)) r.parts (λ p h. older p (Each-at (IsMadeIn r.schema r.log) r.parts p s.made h));
  waiting = s.waiting;
  notes = kept-more e r.log (part_names r.parts) r.noted s.notes;
}
  where
    older : (p : PartValue) → IsMadeIn r.schema r.log p → IsMadeIn r.schema (e ∷ r.log) p
    older p m = record {
      is_part = m.is_part;
      of_schema = m.of_schema;
      of_log = record {
        made = entry-older e r.log p.made.place p.made.value m.of_log.made;
        blocks = Each-all (λ b. StandsIn (e ∷ r.log) b.get) p.blocks (λ b h. entry-older e r.log b.get.place b.get.value (Each-at (λ b. StandsIn r.log b.get) p.blocks b m.of_log.blocks h));
        mutations = Each-all (StandsIn (e ∷ r.log)) p.mutations (λ t h. entry-older e r.log t.place t.value (Each-at (StandsIn r.log) p.mutations t m.of_log.mutations h));
      };
    }

    length-snoc : (xs : List Bool) → length (xs ++ false ∷ []) ≡ suc (length xs)
    length-snoc [] = refl
    length-snoc (x ∷ xs) = ap suc (length-snoc xs)

-- the replica with one more entry
abbrev pub with_entry : ReplicaView → Entry → ℕ → ReplicaView
with_entry r e cell = record r { log = e ∷ r.log; cells = r.cells ++ cell ∷ []; done = r.done ++ false ∷ [] }

pub view-more : (number : ℕ) (up fetches : Bool) (old new : History) (e : Entry) (cell : ℕ) (marks more : List Bool) (n : ℕ) (parts : List PartValue) (staged : Staged) (noted : List Name) → HasMarks old marks
    → new ≡ record old { log = e ∷ old.log; cells = old.cells ++ cell ∷ [] } → n ≡ length old.log + 1 → more ≡ grown marks n
    → replica_of number up fetches new more parts staged noted ≡ with_entry (replica_of number up fetches old marks parts staged noted) e cell
view-more number up fetches old new e cell marks more n parts staged noted h l p q =
    ap (λ (c : History). replica_of number up fetches c more parts staged noted) l
    ∙ ap (λ (ms : List Bool). record { number = number; up = up; fetches = fetches; schema = old.schema; log = e ∷ old.log; cells = old.cells ++ cell ∷ []; done = ms; parts = parts; staged = staged; noted = noted }) (marks-more old.log e marks more n h.enough h.none_past p q)

pub replica-more : (number : ℕ) (up fetches : Bool) (old new : History) (e : Entry) (cell : ℕ) (marks more : List Bool) (n : ℕ) (parts : List PartValue) (staged : Staged) (noted : List Name) → IsReplica old marks (replica_of number up fetches old marks parts staged noted)
    → new ≡ record old { log = e ∷ old.log; cells = old.cells ++ cell ∷ [] } → n ≡ length old.log + 1 → more ≡ grown marks n → Lawful old.schema (e ∷ old.log)
    → IsReplica new more (replica_of number up fetches new more parts staged noted)
replica-more number up fetches old new e cell marks more n parts staged noted r l p q w = record {
  marked = has-marks-more old new e marks more n r.marked (ap (λ (c : History). c.log) l) p q;
  standing = subst IsStandingReplica (sym (view-more number up fetches old new e cell marks more n parts staged noted r.marked l p q)) (standing-more (replica_of number up fetches old marks parts staged noted) e cell r.standing w);
}

-- other staged blocks in order leave a replica standing
pub replica-staged : (number : ℕ) (up fetches : Bool) (copy : History) (marks : List Bool) (parts : List PartValue) (old new : Staged) (noted : List Name) → IsReplica copy marks (replica_of number up fetches copy marks parts old noted) → AreStaged new → IsReplica copy marks (replica_of number up fetches copy marks parts new noted)
replica-staged number up fetches copy marks parts old new noted r w =
    let s = r.standing in
    record { marked = r.marked; standing = record { lawful = s.lawful; marks = s.marks; fair = s.fair; made = s.made; waiting = w; notes = s.notes } }

-- so does another list of parts that it may have noted
pub replica-noted : (number : ℕ) (up fetches : Bool) (copy : History) (marks : List Bool) (parts : List PartValue) (staged : Staged) (old new : List Name) → IsReplica copy marks (replica_of number up fetches copy marks parts staged old) → Each (IsKeptNote copy.log (part_names parts)) new → IsReplica copy marks (replica_of number up fetches copy marks parts staged new)
replica-noted number up fetches copy marks parts staged old new r k =
    let s = r.standing in
    record { marked = r.marked; standing = record { lawful = s.lawful; marks = s.marks; fair = s.fair; made = s.made; waiting = s.waiting; notes = k } }
