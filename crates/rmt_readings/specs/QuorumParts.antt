-- Which of the parts that a client may read are in a quorum.
-- ClickHouse documentation, settings, `select_sequential_consistency`: a SELECT sees what was written with `insert_quorum`, and
-- nothing that waits for its quorum.
use Rattle.std.specs.Prelude.{◌≡◌, true, false, not, List, filter}
use Rattle.std.specs.declared.option.Option.TheVariants.{Some}
use Rattle.rmt_names.specs.Names.{Name}
use Rattle.rmt_model.specs.Quorum.{Quorum}
use Rattle.rmt_partset.specs.Snapshots.{NamedData, names_in}
use Rattle.rmt_reply.specs.declared.refusal.Refusal.{Refusal}
use Rattle.rmt_reply.specs.declared.refusal.Refusal.TheVariants.{NotInQuorum}
use Rattle.rmt_statement_model.specs.TableStates.{covered_by}
use Rattle.rmt_statement_model.specs.Reads.{waiting_part, covers_part, without_part}

-- these are the parts that don't cover the one which waits for its quorum; one of them covers the last part whose quorum was met,
-- where there is one
pub record AreInQuorum (q : Quorum) (active kept : List NamedData) : Type 0 where
  pub left : kept ≡ filter (λ p. not (covers_part (waiting_part q) p.name)) active
  pub last : (part : Name) → q.last ≡ Some part → covered_by (names_in kept) (Some part) ≡ true

-- none of those parts covers the last one whose quorum was met
pub record LacksCover (q : Quorum) (active : List NamedData) (refusal : Refusal) : Type 0 where
  pub part : Name
  pub last : q.last ≡ Some part
  pub uncovered : covered_by (without_part (waiting_part q) (names_in active)) (Some part) ≡ false
  pub reply : refusal ≡ NotInQuorum part
