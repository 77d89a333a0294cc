-- A replica whose copy of the log is longer.
use Rattle.std.proofs.Common.{◌≡◌, ℕ, ◌+◌, ◌-◌, ◌≤◌, Bool, false, List, [], ◌∷◌, ◌++◌, append_assoc, append-nil, length, take, sym, ap, subst, arith, ◌∙◌}
use Rattle.std.specs.Prelude.{replicate}
use Rattle.rmt_values.specs.Rows.{Shape}
use Rattle.rmt_names.specs.Names.{Name}
use Rattle.rmt_entries.specs.declared.entry.Entry.{Entry}
use Rattle.rmt_model.specs.Lawful.{Lawful, IsPrefix}
use Rattle.rmt_history.specs.Copies.{History}
use Rattle.rmt_queue.specs.Marks.{grown}
use Rattle.rmt_part.specs.Lineages.{PartValue}
use Rattle.rmt_replica.specs.StagedBlocks.{Staged}
use Rattle.rmt_replica.specs.Replicas.{ReplicaView, LengthensCopy, IsStandingReplica, IsReplica, replica_of}
use Rattle.rmt_replica.proofs.MarkLemmas.{take-longer, replicate-snoc}
use Rattle.rmt_replica.proofs.ReplicaLemmas.{has-marks-grown, standing-more}

standing-cells : (r : ReplicaView) (cells : List ℕ) → IsStandingReplica r → IsStandingReplica (record r { cells = cells })
standing-cells r cells s = record { lawful = s.lawful; marks = s.marks; fair = s.fair; made = s.made; waiting = s.waiting; notes = s.notes }

-- with entries of which none is done
standing-behind : (r : ReplicaView) (gained : List Entry) → IsStandingReplica r → Lawful r.schema (gained ++ r.log) → IsStandingReplica (record r { log = gained ++ r.log; done = r.done ++ replicate (length gained) false })
standing-behind r [] s l = subst (λ (ds : List Bool). IsStandingReplica (record r { done = ds })) (sym (append-nil r.done)) s
standing-behind r (e ∷ gained) s l =
    let rest = record r { log = gained ++ r.log; done = r.done ++ replicate (length gained) false } in
    let more = standing-more rest e 0 (standing-behind r gained s l.0) l in
    subst (λ (ds : List Bool). IsStandingReplica (record r { log = e ∷ (gained ++ r.log); done = ds })) (append_assoc r.done (replicate (length gained) false) (false ∷ []) ∙ ap (λ (xs : List Bool). r.done ++ xs) (replicate-snoc (length gained)))
    (standing-cells (record rest { log = e ∷ rest.log; cells = rest.cells ++ 0 ∷ []; done = rest.done ++ false ∷ [] }) r.cells more)

longer-behind : (gained log : List Entry) → length (gained ++ log) ≡ length gained + length log
longer-behind [] log = omega arith
longer-behind (x ∷ gained) log = let w = longer-behind gained log in omega (arith, w)

pub prefix-length : (shorter longer : List Entry) → IsPrefix shorter longer → length shorter ≤ length longer
prefix-length shorter longer f = let w = longer-behind f.gained shorter in let q = ap (λ (l : List Entry). length l) f.is in omega (arith, w, q)

pub standing-longer : (r : ReplicaView) (log : List Entry) (cells : List ℕ) → IsStandingReplica r → Lawful r.schema log → IsPrefix r.log log → IsStandingReplica (record r { log = log; cells = cells; done = grown r.done (length log) })
standing-longer r log cells s l g =
    let m = s.marks in
    let w = longer-behind g.gained r.log in
    let n : length g.gained ≡ length (g.gained ++ r.log) - length r.done = omega (arith, m, w) in
    subst (λ (x : List Entry). IsStandingReplica (record r { log = x; cells = cells; done = grown r.done (length x) })) (sym g.is)
    (subst (λ (k : ℕ). IsStandingReplica (record r { log = g.gained ++ r.log; cells = cells; done = r.done ++ replicate k false })) n
    (standing-cells (record r { log = g.gained ++ r.log; done = r.done ++ replicate (length g.gained) false }) cells (standing-behind r g.gained s (subst (Lawful r.schema) g.is l))))

module _ (number : ℕ) (up fetches : Bool) (old new : History) (marks more : List Bool) (n : ℕ) (parts : List PartValue) (staged : Staged) (noted : List Name) (r : IsReplica old marks (replica_of number up fetches old marks parts staged noted))
    (q : more ≡ grown marks n) (schema : new.schema ≡ old.schema) (longer : IsPrefix old.log new.log) (within : length new.log ≤ n) where
  view-longer : replica_of number up fetches new more parts staged noted ≡ record (replica_of number up fetches old marks parts staged noted) { log = new.log; cells = new.cells; done = grown (take (length old.log) marks) (length new.log) }
  view-longer =
      let h = r.marked in
      ap (λ (s : Shape). record { number = number; up = up; fetches = fetches; schema = s; log = new.log; cells = new.cells; done = take (length new.log) more; parts = parts; staged = staged; noted = noted }) schema
      ∙ ap (λ (ds : List Bool). record { number = number; up = up; fetches = fetches; schema = old.schema; log = new.log; cells = new.cells; done = ds; parts = parts; staged = staged; noted = noted })
      (ap (take (length new.log)) q ∙ take-longer (length old.log) (length new.log) n marks h.enough h.none_past (prefix-length old.log new.log longer) within)

  pub replica-longer : Lawful new.schema new.log → IsReplica new more (replica_of number up fetches new more parts staged noted)
  replica-longer l = record {
    marked = has-marks-grown old new marks more n r.marked (prefix-length old.log new.log longer) within q;
    standing = subst IsStandingReplica (sym view-longer) (standing-longer (replica_of number up fetches old marks parts staged noted) new.log new.cells r.standing (subst (λ (s : Shape). Lawful s new.log) schema l) longer);
  }

  pub lengthens : (was : ReplicaView) → replica_of number up fetches old marks parts staged noted ≡ was → LengthensCopy was (replica_of number up fetches new more parts staged noted)
  lengthens was e = record {
    others = view-longer ∙ ap (λ (x : ReplicaView). record x { log = new.log; cells = new.cells; done = grown x.done (length new.log) }) e;
    longer = subst (λ (x : ReplicaView). IsPrefix x.log new.log) e longer;
  }

  -- the copy has the whole log
  pub view-whole : (was : ReplicaView) (log : List Entry) → replica_of number up fetches old marks parts staged noted ≡ was → new.log ≡ log → replica_of number up fetches new more parts staged noted ≡ record was { log = log; cells = new.cells; done = grown was.done (length log) }
  view-whole was log e c = (lengthens was e).others ∙ ap (λ (l : List Entry). record was { log = l; cells = new.cells; done = grown was.done (length l) }) c
