-- CHECK TABLE.
-- ClickHouse documentation, CHECK TABLE: tells of each part whether its data is whole. That the reply is a digest, by which the
-- parts of replicas can be compared, is this program's own. FIPS 180-4, section 6.2: SHA-256.
use Rattle.std.specs.Prelude.{◌≡◌, ℕ, List, map}
use Rattle.sha2.specs.Sha256.{sha256}
use Rattle.rmt_names.specs.Names.{Name}
use Rattle.rmt_format.specs.PartBytes.{part_bytes}
use Rattle.rmt_model.specs.Fair.{AreFair}
use Rattle.rmt_statement_model.specs.TableStates.{TableState, data_at, shown_at}
use Rattle.rmt_reply.specs.declared.line.Line.{Line}
use Rattle.rmt_reply.specs.declared.line.Line.TheVariants as lines

-- the SHA-256 of the bytes of a part of this name
abbrev pub digest_at : TableState → Name → List ℕ
digest_at t a = sha256 (part_bytes t.schema (data_at t a))

-- parts whose names are fair for the places known at the replica, each with the digest of its bytes; what they hold is known
-- there then
pub record ChecksTable (t : TableState) (r : ℕ) (line : Line) (u : TableState) : Type 0 where
  pub names : List Name
  pub fair : AreFair t.log (t.known r) names
  pub reply : line ≡ lines.Digests (map (λ a. (a, digest_at t a)) names)
  pub change : u ≡ shown_at r names t
