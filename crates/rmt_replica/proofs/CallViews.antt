-- What the calls of a replica make of it, as a cluster sees it.
use Rattle.std.proofs.Common.{◌≡◌, ℕ, ◌⊎◌, inl, inr, ◌&&◌, Bool, true, false, not, cond, List, [], ◌∷◌, map, refl, sym, ap, subst, ◌∙◌, arith, nat_lt, slice_set}
use Rattle.std.proofs.lemmas.Bool.Decides.{nat_tests}
use Rattle.std.specs.declared.option.Option.{Option}
use Rattle.std.specs.declared.option.Option.TheVariants.{Some, None}
use Rattle.rmt_values.specs.Rows.{Shape}
use Rattle.rmt_names.specs.Names.{Name, Covers}
use Rattle.rmt_entries.specs.declared.entry.Entry.{Entry}
use Rattle.rmt_entries.specs.declared.entry.Entry.TheVariants.{Get, Merge, Mutate, Mutation, DropRange}
use Rattle.rmt_block.specs.Blocks.{BlockView}
use Rattle.rmt_model.specs.Words.{Has, Each}
use Rattle.rmt_model.specs.Live.{in_drop, placed}
use Rattle.rmt_model.specs.Lawful.{Lawful, MakesAt, entry_at}
use Rattle.rmt_model.specs.Fair.{CoveredBy}
use Rattle.rmt_model.specs.EntryStates.{IsDroppedEntry}
use Rattle.rmt_model.specs.CopiedParts.{Copied}
use Rattle.rmt_part.specs.Lineages.{PartValue}
use Rattle.rmt_part.specs.CopiedPart.{copied}
use Rattle.rmt_partset.specs.ActiveParts.{Replace, Drop, after, part_names}
use Rattle.rmt_replica.specs.Parts.{IsMadeIn}
use Rattle.rmt_replica.specs.StagedBlocks.{Staged, with_staged, without, AreStaged}
use Rattle.rmt_replica.specs.Replicas.{ReplicaView, IsStandingReplica}
use Rattle.rmt_replica.specs.NotedParts.{ListsPart}
use Rattle.rmt_replica.specs.Answers as own
use Rattle.rmt_replica.proofs.PartLemmas.{installs, made-before}
use Rattle.rmt_replica.proofs.NoteLemmas.{lists-note}
use Rattle.rmt_events.specs.Views.{Replica}
use Rattle.rmt_events.specs.Views as views
use Rattle.rmt_events.specs.Clusters.{without_kinds}
use Rattle.rmt_events.specs.ReplicaCalls as seen
use Rattle.rmt_replica.specs.SeenReplica.{shown_block, shown}
use Rattle.rmt_replica.proofs.StagedViews.{rising, inserted, removed}
use Rattle.rmt_replica.proofs.StateViews.{names-shown, already-same}

-- ---- staged blocks

pub stages-seen : (r : ReplicaView) (n : ℕ) (b : BlockView) → AreStaged r.staged → seen.Stages (shown r) n (without_kinds b) (shown (record r { staged = with_staged r.staged (record { partition = b.partition; number = n }) b }))
stages-seen r n b s = ap (λ (zs : List views.Staged). record (shown r) { staged = zs }) (inserted (record { partition = b.partition; number = n }) b refl r.staged s.own (rising r.staged s.rising))

pub unstages-seen : (r : ReplicaView) (p : Option ℕ) (n : ℕ) → AreStaged r.staged → seen.Unstages (shown r) p n (shown (record r { staged = without r.staged (record { partition = p; number = n }) }))
unstages-seen r p n s = ap (λ (zs : List views.Staged). record (shown r) { staged = zs }) (removed (record { partition = p; number = n }) r.staged s.own (rising r.staged s.rising))

-- ---- an entry is done

released-seen : (e : Option Entry) (staged : Staged) → AreStaged staged → map shown_block (own.released e staged) ≡ seen.staged_after e (map shown_block staged)
released-seen None staged s = refl
released-seen (Some (Get p n digest source need)) staged s = removed (record { partition = p; number = n }) staged s.own (rising staged s.rising)
released-seen (Some (Merge new sources count)) staged s = refl
released-seen (Some (Mutate old new upto count mcount)) staged s = refl
released-seen (Some (Mutation id numbers command)) staged s = refl
released-seen (Some (DropRange p n)) staged s = refl

settled-seen : (r : ReplicaView) (i : ℕ) → AreStaged r.staged → shown (own.settled r i) ≡ seen.with_entry_done (shown r) i
settled-seen r i s = ap (λ (zs : List views.Staged). record (shown r) { done = slice_set r.done i true; staged = zs }) (released-seen (entry_at r.log i) r.staged s)

pub settles-seen : (r : ReplicaView) (i : ℕ) → AreStaged r.staged → own.IsAlready r i ⊎ IsDroppedEntry r.log i → seen.Settles (shown r) i (shown (own.settled r i))
settles-seen r i s cause = record {
  cause = elim cause [ inl a ↦ inl ((already-same r i).0 a) | inr d ↦ inr d ];
  change = settled-seen r i s;
}

-- ---- a drop

taken-seen : (schema : Shape) (log : List Entry) (i : ℕ) (p : Option ℕ) (n : ℕ) (parts : List PartValue) → Lawful schema log → entry_at log i ≡ Some (DropRange p n) → Each (IsMadeIn schema log) parts → map copied (after (Drop p n i) parts) ≡ seen.without_range p n (map copied parts)
taken-seen schema log i p n [] l q made = refl
taken-seen schema log i p n (x ∷ parts) l q made = go (in_drop p n x.name) refl (taken-seen schema log i p n parts l q made.1)
  where
    go : (b : Bool) → in_drop p n x.name ≡ b → map copied (after (Drop p n i) parts) ≡ seen.without_range p n (map copied parts)
        → map copied (cond (not (b && nat_lt x.made.place i)) (x ∷ after (Drop p n i) parts) (after (Drop p n i) parts)) ≡ cond (not b) (copied x ∷ seen.without_range p n (map copied parts)) (seen.without_range p n (map copied parts))
    go true e h =
        let k = made-before schema log i x.made.place x.made.value p n x.name l q made.0.of_log.made made.0.is_part.keeps.made e in
        let t : nat_lt x.made.place i ≡ true = grind (arith, nat_tests) in
        rw t h
    go false e h = ap (λ (cs : List Copied). copied x ∷ cs) h

pub drop-seen : (r : ReplicaView) (i : ℕ) (p : Option ℕ) (n : ℕ) (new : ReplicaView) → IsStandingReplica r → entry_at r.log i ≡ Some (DropRange p n) → new ≡ record (own.settled r i) { parts = after (Drop p n i) r.parts } → seen.DoesDrop (shown r) i (shown new)
drop-seen r i p n new s q c = record {
  partition = p;
  number = n;
  stands = q;
  change = ap shown c ∙ (ap (λ (cs : List Copied). record (shown (own.settled r i)) { parts = cs }) (taken-seen r.schema r.log i p n r.parts s.lawful q s.made) ∙ ap (λ (y : Replica). record y { parts = seen.without_range p n (map copied r.parts) }) (settled-seen r i s.waiting));
}

-- ---- a part

copied-in : (parts : List PartValue) (p : PartValue) → Has parts p → Has (map copied parts) (copied p)
copied-in [] p h = absurd h
copied-in (x ∷ parts) p (inl e) = inl (ap copied e)
copied-in (x ∷ parts) p (inr h) = inr (copied-in parts p h)

in-copied : (parts : List PartValue) (c : Copied) → Has (map copied parts) c → (p : PartValue) × Has parts p × (copied p ≡ c)
in-copied [] c h = absurd h
in-copied (x ∷ parts) c (inl e) = (x, inl refl, e)
in-copied (x ∷ parts) c (inr h) = let k = in-copied parts c h in (k.0, inr k.1, k.2)

installs-seen : (part : PartValue) (old : List PartValue) → seen.Installs (map copied old) (copied part) (map copied (after (Replace part) old))
installs-seen part old =
    let t = installs part old in
    record {
      names = names-shown (after (Replace part) old) ∙ (t.names ∙ ap (placed part.name) (sym (names-shown old)));
      others = λ c h. let k = in-copied (after (Replace part) old) c h in elim (t.others k.0 k.1) [
        | inl e ↦ inl (sym k.2 ∙ ap copied e)
        | inr o ↦ inr (subst (λ (x : Copied). Has (map copied old) x) k.2 (copied-in old k.0 o))
      ];
      there = copied-in (after (Replace part) old) part t.there;
    }

pub part-seen : (r : ReplicaView) (i : ℕ) (a : Name) (part : PartValue) (new : ReplicaView) → IsStandingReplica r → seen.Waits (shown r) i → MakesAt r.log i a → Covers part.name a → new ≡ record (own.settled r i) { parts = after (Replace part) r.parts } → seen.DoesPart (shown r) i (copied part) (shown new)
part-seen r i a part new s w m k c = record {
  fits = record { waits = w; name = a; makes = m; covers = k };
  installs = subst (λ (y : ReplicaView). seen.Installs (map copied r.parts) (copied part) (map copied y.parts)) (sym c) (installs-seen part r.parts);
  change = ap shown c ∙ (ap (λ (y : Replica). record y { parts = map copied (after (Replace part) r.parts) }) (settled-seen r i s.waiting) ∙ ap (λ (y : ReplicaView). record (seen.with_entry_done (shown r) i) { parts = map copied y.parts }) (sym c));
}

-- ---- a note

pub notes-seen : (r : ReplicaView) (a : Name) (new : ReplicaView) → CoveredBy (part_names r.parts) a → ListsPart r.noted a new.noted → new ≡ record r { noted = new.noted } → seen.NotesPart (shown r) a (shown new)
notes-seen r a new c l o = record {
  covered = subst (λ (names : List Name). CoveredBy names a) (sym (names-shown r.parts)) c;
  lists = lists-note r.noted new.noted a l;
  change = ap shown o;
}
