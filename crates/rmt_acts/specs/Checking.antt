-- The digests of a replica's parts.
-- FIPS 180-4, section 6.2: SHA-256.
use Rattle.std.specs.Prelude.{◌≡◌, ℕ, List, map}
use Rattle.sha2.specs.Sha256.{sha256}
use Rattle.rmt_values.specs.Rows.{Shape}
use Rattle.rmt_names.specs.Names.{Name}
use Rattle.rmt_format.specs.PartBytes.{part_bytes}
use Rattle.rmt_model.specs.Fair.{AreFair}
use Rattle.rmt_partset.specs.Snapshots.{NamedData}
use Rattle.rmt_statement_model.specs.TableStates.{TableState, data_at, shown_at}

-- the digest of a part
abbrev pub digest_in : Shape → NamedData → List ℕ
digest_in schema part = sha256 (part_bytes schema part.rows)

-- names that are fair for the places known at the replica, each with the SHA-256 of the bytes of a part of that name; what they
-- hold is known there then
pub record AreDigests (t : TableState) (r : ℕ) (all : List (Name × List ℕ)) (u : TableState) : Type 0 where
  pub names : List Name
  pub fair : AreFair t.log (t.known r) names
  pub are : all ≡ map (λ a. (a, sha256 (part_bytes t.schema (data_at t a)))) names
  pub change : u ≡ shown_at r names t
