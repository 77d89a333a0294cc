-- How a replica and its entries stand, as a cluster sees them.
use Rattle.std.proofs.Common.{◌≡◌, ℕ, ◌↔◌, List, [], ◌∷◌, map, refl, sym, ap, subst}
use Rattle.rmt_values.specs.Rows.{Shape}
use Rattle.rmt_names.specs.Names.{Name}
use Rattle.rmt_entries.specs.declared.entry.Entry.{Entry}
use Rattle.rmt_model.specs.Words.{Has, Each}
use Rattle.rmt_model.specs.Lawful.{Lawful, MakesAt}
use Rattle.rmt_model.specs.Fair.{AreFair}
use Rattle.rmt_model.specs.EntryStates as entries
use Rattle.rmt_model.specs.CopiedParts.{Copied, IsCopied, names_of}
use Rattle.rmt_model.proofs.Lists.{Each-at, Each-all}
use Rattle.rmt_queue.specs.Marks.{done_at}
use Rattle.rmt_part.specs.Lineages.{PartValue}
use Rattle.rmt_part.specs.CopiedPart.{copied}
use Rattle.rmt_part.proofs.CopiedLaws.{part-copied}
use Rattle.rmt_partset.specs.ActiveParts.{part_names}
use Rattle.rmt_replica.specs.Parts.{IsMadeIn, IsKeptNote}
use Rattle.rmt_replica.specs.Replicas.{ReplicaView, IsStandingReplica}
use Rattle.rmt_replica.specs.Answers as own
use Rattle.rmt_events.specs.ReplicaCalls as seen
use Rattle.rmt_events.specs.ApplyEvents.{IsFirstInactive}
use Rattle.rmt_replica.specs.SeenReplica.{shown}

-- the names stay
pub names-shown : (parts : List PartValue) → names_of (map copied parts) ≡ part_names parts
names-shown [] = refl
names-shown (p ∷ parts) = ap (λ (names : List Name). p.name ∷ names) (names-shown parts)

pub Each-mapped : {A B : Type 0} (P : B → Type 0) (f : A → B) (xs : List A) → Each (λ x. P (f x)) xs → Each P (map f xs)
Each-mapped P f [] h = tt
Each-mapped P f (x ∷ xs) h = (h.0, Each-mapped P f xs h.1)

-- a part that was made in the copy
pub made-seen : (schema : Shape) (log : List Entry) (part : PartValue) → Lawful schema log → IsMadeIn schema log part → MakesAt log part.made.place part.name × IsCopied schema log (copied part)
made-seen schema log part l m = (
  record { entry = part.made.value; stands = m.of_log.made; makes = m.is_part.keeps.made },
  subst (λ (s : Shape). IsCopied s log (copied part)) m.of_schema (part-copied part log m.is_part (subst (λ (s : Shape). Lawful s log) (sym m.of_schema) l) m.of_log),
)

pub standing-seen : (r : ReplicaView) → IsStandingReplica r → seen.IsStanding r.schema (shown r)
standing-seen r s = record {
  lawful = s.lawful;
  marks = s.marks;
  fair = subst (λ (names : List Name). AreFair r.log (done_at r.done) names) (sym (names-shown r.parts)) s.fair;
  parts = Each-mapped (λ (part : Copied). MakesAt r.log part.place part.name × IsCopied r.schema r.log part) copied r.parts (Each-all (λ (part : PartValue). MakesAt r.log part.made.place part.name × IsCopied r.schema r.log (copied part)) r.parts (λ part h. made-seen r.schema r.log part s.lawful (Each-at (IsMadeIn r.schema r.log) r.parts part s.made h)));
  notes = subst (λ (names : List Name). Each (IsKeptNote r.log names) r.noted) (sym (names-shown r.parts)) s.notes;
}

-- ---- how an entry stands

pub already-same : (r : ReplicaView) (i : ℕ) → own.IsAlready r i ↔ seen.IsAlready (shown r) i
already-same r i = (
  subst (λ (names : List Name). entries.IsAlready r.log (done_at r.done) names i) (sym (names-shown r.parts)),
  subst (λ (names : List Name). entries.IsAlready r.log (done_at r.done) names i) (names-shown r.parts),
)

pub waits-same : (r : ReplicaView) (i : ℕ) → own.Waits r i ↔ seen.Waits (shown r) i
waits-same r i = (
  subst (λ (names : List Name). entries.Waits r.log (done_at r.done) names i) (sym (names-shown r.parts)),
  subst (λ (names : List Name). entries.Waits r.log (done_at r.done) names i) (names-shown r.parts),
)

-- ---- the first name that isn't active

pub inactive-seen : (r : ReplicaView) (names : List Name) (a : Name) → IsFirstInactive names (part_names r.parts) a → IsFirstInactive names (names_of (shown r).parts) a
inactive-seen r names a f = subst (λ (active : List Name). IsFirstInactive names active a) (sym (names-shown r.parts)) f

-- all of them are active
pub active-seen : (r : ReplicaView) (names : List Name) → Each (Has (part_names r.parts)) names → Each (Has (names_of (shown r).parts)) names
active-seen r names h = subst (λ (active : List Name). Each (Has active) names) (sym (names-shown r.parts)) h
