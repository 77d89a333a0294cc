-- A replica that goes down or comes up, or is allowed to fetch or not.
use Rattle.std.proofs.Common.{◌≡◌, ℕ, Bool, false, List, length, take, sym, ap, subst, arith, ◌∙◌}
use Rattle.std.specs.Prelude.{replicate}
use Rattle.rmt_names.specs.Names.{Name}
use Rattle.rmt_model.proofs.Standing.{fair-fewer}
use Rattle.rmt_history.specs.Copies.{History}
use Rattle.rmt_queue.specs.Marks.{done_at}
use Rattle.rmt_part.specs.Lineages.{PartValue}
use Rattle.rmt_partset.specs.ActiveParts.{part_names}
use Rattle.rmt_replica.specs.StagedBlocks.{Staged}
use Rattle.rmt_replica.specs.Replicas.{IsStandingReplica, IsReplica, replica_of}
use Rattle.rmt_replica.proofs.MarkLemmas.{false-replicate, length-replicate-is, take-unmarked}

pub replica-switched : (number : ℕ) (up now fetches allowed : Bool) (copy : History) (marks : List Bool) (parts : List PartValue) (staged : Staged) (noted : List Name) → IsReplica copy marks (replica_of number up fetches copy marks parts staged noted) → IsReplica copy marks (replica_of number now allowed copy marks parts staged noted)
replica-switched number up now fetches allowed copy marks parts staged noted r =
    let s = r.standing in
    record { marked = r.marked; standing = record { lawful = s.lawful; marks = s.marks; fair = s.fair; made = s.made; waiting = s.waiting; notes = s.notes } }

module _ (number : ℕ) (up now fetches : Bool) (copy : History) (marks cleared : List Bool) (parts : List PartValue) (staged : Staged) (noted : List Name) (r : IsReplica copy marks (replica_of number up fetches copy marks parts staged noted)) (q : cleared ≡ replicate (length marks) false) where
  none-set : (i : ℕ) → done_at cleared i ≡ false
  none-set i = ap (λ (xs : List Bool). done_at xs i) q ∙ false-replicate (length marks) i

  as-many : length cleared ≡ length marks
  as-many = ap (λ (xs : List Bool). length xs) q ∙ length-replicate-is (length marks)

  cleared-is : take (length copy.log) cleared ≡ replicate (length copy.log) false
  cleared-is = let e = r.marked.enough in let a = as-many in take-unmarked (length copy.log) cleared none-set (omega (arith, e, a))

  pub view-cleared : replica_of number now fetches copy cleared parts staged noted ≡ record (replica_of number up fetches copy marks parts staged noted) { up = now; done = replicate (length copy.log) false }
  view-cleared = ap (λ (ds : List Bool). record { number = number; up = now; fetches = fetches; schema = copy.schema; log = copy.log; cells = copy.cells; done = ds; parts = parts; staged = staged; noted = noted }) cleared-is

  -- without a mark the active parts are fair
  unmarked : IsStandingReplica (record (replica_of number up fetches copy marks parts staged noted) { up = now; done = replicate (length copy.log) false })
  unmarked =
      let s = r.standing in
      record {
        lawful = s.lawful;
        marks = length-replicate-is (length copy.log);
        fair = fair-fewer copy.log (done_at (replicate (length copy.log) false)) (done_at (take (length copy.log) marks)) (part_names parts) (λ j l e. let f = false-replicate (length copy.log) j in absurd (cc)) s.fair;
        made = s.made;
        waiting = s.waiting;
        notes = s.notes;
      }

  pub replica-cleared : IsReplica copy cleared (replica_of number now fetches copy cleared parts staged noted)
  replica-cleared = record {
    marked = record {
      enough = let e = r.marked.enough in let a = as-many in omega (arith, e, a);
      none_past = λ i l. none-set i;
    };
    standing = subst IsStandingReplica (sym view-cleared) unmarked;
  }
