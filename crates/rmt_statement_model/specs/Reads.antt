-- What is read of a table at a replica.
-- ClickHouse documentation, MergeTree, "Data storage": a query reads the parts that are active as it begins; Data Replication:
-- a replica may lag, so that it may not have the newest data.
use Rattle.std.specs.Prelude.{◌≡◌, ℕ, not, Bool, true, false, List, map}
use Rattle.std.specs.List.{filter}
use Rattle.std.specs.Option.{option_map}
use Rattle.std.specs.declared.option.Option.{Option}
use Rattle.std.specs.declared.option.Option.TheVariants.{Some, None}
use Rattle.rmt_names.specs.Names.{Name, covers}
use Rattle.rmt_model.specs.Fair.{AreFair, AllMarked}
use Rattle.rmt_model.specs.Quorum.{Quorum}
use Rattle.rmt_partset.specs.Snapshots.{NamedData, names_in, data_in}
use Rattle.rmt_reply.specs.declared.refusal.Refusal.{Refusal}
use Rattle.rmt_reply.specs.declared.refusal.Refusal.TheVariants.{NotInQuorum}
use Rattle.rmt_statement_model.specs.TableStates.{TableState, data_at, covered_by}

-- parts that are read at a replica: their names are fair for the places known there (each result of a known entry is covered by
-- one of them, or dropped; none is taken away by a known drop; no two share a block), and each holds the content of its name
pub record IsReading (t : TableState) (r : ℕ) (parts : List NamedData) : Type 0 where
  pub fair : AreFair t.log (t.known r) (names_in parts)
  pub holds : data_in parts ≡ map (data_at t) (names_in parts)

-- every place of the log is known at the replica
abbrev pub KnowsAll : TableState → ℕ → Type 0
KnowsAll t r = AllMarked t.log (t.known r)

-- ---- what is read of a quorum
-- ClickHouse documentation, settings, `select_sequential_consistency`: a SELECT sees what was written with `insert_quorum`, and
-- nothing that waits for its quorum.

-- the part that waits for its quorum
abbrev pub waiting_part : Quorum → Option Name
waiting_part q = option_map (λ p. p.part) q.pending

-- a name covers the part, where there is one
abbrev pub covers_part : Option Name → Name → Bool
covers_part None a = false
covers_part (Some part) a = covers a part

-- names without those that cover the part
abbrev pub without_part : Option Name → List Name → List Name
without_part part names = filter (λ a. not (covers_part part a)) names

-- of parts that may be read at the replica those are read that don't cover the part which waits for its quorum; one of these covers
-- the last part whose quorum was met, where there is one
pub record IsSequentialReading (t : TableState) (r : ℕ) (parts : List NamedData) : Type 0 where
  pub active : List Name
  pub fair : AreFair t.log (t.known r) active
  pub read : names_in parts ≡ without_part (waiting_part t.quorum) active
  pub last : (part : Name) → t.quorum.last ≡ Some part → covered_by (names_in parts) (Some part) ≡ true
  pub holds : data_in parts ≡ map (data_at t) (names_in parts)

-- none of them covers the last part whose quorum was met
pub record LacksLast (t : TableState) (r : ℕ) (refusal : Refusal) : Type 0 where
  pub active : List Name
  pub fair : AreFair t.log (t.known r) active
  pub part : Name
  pub last : t.quorum.last ≡ Some part
  pub uncovered : covered_by (without_part (waiting_part t.quorum) active) (Some part) ≡ false
  pub reply : refusal ≡ NotInQuorum part
