-- Replies as they are printed. Each line ends with LF; numbers are decimals without leading zeros, unless said.
-- The replies are this program's own; records are as the crate csv writes them with its defaults.
use Rattle.std.specs.Prelude.{ℕ, ◌+◌, ◌-◌, List, [], ◌∷◌, ◌++◌, length, map, replicate, codes}
use Rattle.std.specs.List.{flat_map}
use Rattle.std.specs.declared.option.Option.{Option}
use Rattle.std.specs.declared.option.Option.TheVariants.{Some, None}
use Rattle.std.specs.Fmt.{decimal, signed_decimal}
use Rattle.csv.specs.Writing.{row_text, default_writer}
use Rattle.hex.specs.Hex.{encode_lower}
use Rattle.rmt_values.specs.declared.cell.Cell.{Cell}
use Rattle.rmt_values.specs.declared.cell.Cell.TheVariants as cells
use Rattle.rmt_values.specs.declared.limit.Limit.{Limit}
use Rattle.rmt_values.specs.declared.limit.Limit.TheVariants as limits
use Rattle.rmt_names.specs.Names.{Name}
use Rattle.rmt_names.specs.Texts.{text_of, partition_text}
use Rattle.rmt_reply.specs.declared.line.Line.{Line}
use Rattle.rmt_reply.specs.declared.line.Line.TheVariants as lines
use Rattle.rmt_reply.specs.declared.piece.Piece.{Piece}
use Rattle.rmt_reply.specs.declared.piece.Piece.TheVariants as pieces
use Rattle.rmt_reply.specs.declared.refusal.Refusal.{Refusal}
use Rattle.rmt_reply.specs.declared.refusal.Refusal.TheVariants as refusals

-- a line of text
abbrev pub ended : List ℕ → List ℕ
ended text = text ++ 10 ∷ []

-- ---- refusals

-- the words of limits
abbrev pub limit_text : Limit → List ℕ
limit_text limits.Tables = codes "tables"
limit_text limits.Columns = codes "columns"
limit_text limits.Partitions = codes "partitions"
limit_text limits.Numbers = codes "numbers"
limit_text limits.Mutations = codes "mutations"
limit_text limits.ClientEntries = codes "client_entries"
limit_text limits.WorkerEntries = codes "worker_entries"
limit_text limits.Values = codes "values"

-- the name of a replica
abbrev pub replica_text : ℕ → List ℕ
replica_text r = codes "r" ++ decimal r

-- two things with a space between them
abbrev pub two : List ℕ → List ℕ → List ℕ
two a b = a ++ codes " " ++ b

-- a refusal's number, its name and what it keeps
abbrev pub refusal_text : Refusal → List ℕ
refusal_text (refusals.Syntax offset) = codes "1 Syntax " ++ decimal offset
refusal_text (refusals.UnknownTable name) = codes "2 UnknownTable " ++ name
refusal_text (refusals.TableExists name) = codes "3 TableExists " ++ name
refusal_text (refusals.UnknownReplica name) = codes "4 UnknownReplica " ++ name
refusal_text (refusals.UnknownColumn name) = codes "5 UnknownColumn " ++ name
refusal_text (refusals.WrongType name) = codes "6 WrongType " ++ name
refusal_text (refusals.BadRow row) = codes "7 BadRow " ++ decimal row
refusal_text (refusals.KeyColumn name) = codes "8 KeyColumn " ++ name
refusal_text (refusals.ReplicaDown r) = codes "9 ReplicaDown " ++ replica_text r
refusal_text (refusals.ReplicaUp r) = codes "10 ReplicaUp " ++ replica_text r
refusal_text (refusals.FetchesStopped r) = codes "11 FetchesStopped " ++ replica_text r
refusal_text (refusals.TooFewLive live need) = codes "12 TooFewLive " ++ two (decimal live) (decimal need)
refusal_text (refusals.QuorumPending a) = codes "13 QuorumPending " ++ text_of a
refusal_text (refusals.NotInQuorum a) = codes "14 NotInQuorum " ++ text_of a
refusal_text (refusals.QuorumUnmet have need) = codes "15 QuorumUnmet " ++ two (decimal have) (decimal need)
refusal_text (refusals.Unmergeable left right) = codes "16 Unmergeable " ++ two (text_of left) (text_of right)
refusal_text (refusals.UnknownMutation id) = codes "17 UnknownMutation " ++ decimal id
refusal_text (refusals.LimitReached limit value) = codes "18 LimitReached " ++ two (limit_text limit) (decimal value)
refusal_text (refusals.NoSource part r) = codes "19 NoSource " ++ two (text_of part) (replica_text r)
refusal_text (refusals.DoubleColumn name) = codes "20 DoubleColumn " ++ name

-- the reply of a refused statement
abbrev pub refused_text : Refusal → List ℕ
refused_text refusal = ended (codes "refused " ++ refusal_text refusal)

-- ---- records of answers

-- a number as a decimal, a String as its bytes
abbrev pub cell_text : Cell → List ℕ
cell_text (cells.UInt n) = decimal n
cell_text (cells.Int z) = signed_decimal z
cell_text (cells.Sum z) = signed_decimal z
cell_text (cells.Text s) = s

-- each tuple is a record
abbrev pub records_text : List (List Cell) → List ℕ
records_text rows = flat_map (λ r. row_text default_writer (map cell_text r)) rows

-- how many records there are, and the records
abbrev pub answer_text : List (List Cell) → List ℕ
answer_text rows = ended (codes "rows " ++ decimal (length rows)) ++ records_text rows

-- ---- the other replies

-- the names of parts, a space before each
abbrev pub names_text : List Name → List ℕ
names_text names = flat_map (λ a. codes " " ++ text_of a) names

-- the names of parts, as a line
abbrev pub parts_text : List Name → List ℕ
parts_text names = ended (codes "parts" ++ names_text names)

-- what became of one block
abbrev pub piece_text : Piece → List ℕ
piece_text (pieces.Part a) = ended (codes "part " ++ text_of a)
piece_text (pieces.Duplicate a) = ended (codes "duplicate " ++ text_of a)

-- the refusal that cut a statement short, where there is one
abbrev pub cut_text : Option Refusal → List ℕ
cut_text None = []
cut_text (Some refusal) = refused_text refusal

-- lines, or the line `nothing` where there are none and no refusal
abbrev pub or_nothing : List ℕ → Option Refusal → List ℕ
or_nothing [] None = ended (codes "nothing")
or_nothing text refused = text ++ cut_text refused

-- what became of the blocks of an INSERT, and the refusal that cut it short
abbrev pub inserted_text : List Piece → Option Refusal → List ℕ
inserted_text all refused = or_nothing (flat_map piece_text all) refused

-- how many granules are chosen, of how many
abbrev pub ratio_text : ℕ → ℕ → List ℕ
ratio_text chosen all = decimal chosen ++ codes "/" ++ decimal all

-- a part's line of EXPLAIN: its name, the chosen granules and all
abbrev pub granules_line : Name × ℕ × ℕ → List ℕ
granules_line g = ended (codes "granules " ++ two (text_of g.0) (ratio_text g.1 g.2))

-- these numbers added up
abbrev pub sum_of : List ℕ → ℕ
sum_of [] = 0
sum_of (n ∷ ns) = n + sum_of ns

-- the granules of each part, and their total
abbrev pub granules_text : List (Name × ℕ × ℕ) → List ℕ
granules_text all =
    flat_map granules_line all
    ++ ended (codes "granules total " ++ ratio_text (sum_of (map (λ g. g.1) all)) (sum_of (map (λ g. g.2) all)))

-- a mutation's id: ten digits, with leading zeros
abbrev pub id_text : ℕ → List ℕ
id_text id = replicate (10 - length (decimal id)) 48 ++ decimal id

-- the drop of a partition's blocks below a number
abbrev pub dropped_text : Option ℕ → ℕ → List ℕ
dropped_text p below = ended ((codes "dropped " ++ partition_text p) ++ (codes " below " ++ decimal below))

-- the one part of a partition
abbrev pub optimized_line : Name → List ℕ
optimized_line a = ended (codes "optimized " ++ text_of a)

-- the one part of each partition, and the refusal that cut the statement short
abbrev pub optimized_text : List Name → Option Refusal → List ℕ
optimized_text names refused = or_nothing (flat_map optimized_line names) refused

-- a part's line of CHECK TABLE: its name, and the SHA-256 of its bytes in lower-case hexadecimal digits
abbrev pub check_line : Name × List ℕ → List ℕ
check_line d = ended (codes "check " ++ two (text_of d.0) (encode_lower d.1))

-- the digests of parts, or the line `nothing` where there are none
abbrev pub checked_text : List (Name × List ℕ) → List ℕ
checked_text [] = ended (codes "nothing")
checked_text (d ∷ digests) = flat_map check_line (d ∷ digests)

-- the line before the replies of a lane
abbrev pub lane_text : ℕ → List ℕ
lane_text i = ended (codes "lane " ++ decimal i)

-- a reply as it is printed
abbrev pub printed : Line → List ℕ
printed lines.Okay = ended (codes "ok")
printed (lines.Inserted pieces refused) = inserted_text pieces refused
printed (lines.Rows rows) = answer_text rows
printed (lines.Read parts rows) = parts_text parts ++ answer_text rows
printed (lines.Granules all) = granules_text all
printed (lines.Mutation id) = ended (codes "mutation " ++ id_text id)
printed (lines.Dropped p below) = dropped_text p below
printed (lines.Optimized names refused) = optimized_text names refused
printed (lines.Done id) = ended (codes "done " ++ id_text id)
printed (lines.Ran turns) = ended (codes "ran " ++ decimal turns)
printed (lines.Lane i) = lane_text i
printed lines.End = ended (codes "end")
printed (lines.Parts names) = parts_text names
printed (lines.Digests digests) = checked_text digests
printed (lines.Refused refusal) = refused_text refusal

-- replies, one after the other
abbrev pub printed_all : List Line → List ℕ
printed_all all = flat_map printed all
