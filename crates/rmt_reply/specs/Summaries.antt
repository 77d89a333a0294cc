-- The summary of a workload, computed from the replies of its statements. It is this program's own.
use Rattle.std.specs.Prelude.{ℕ, ◌-◌, Bool, true, false, not, List, [], ◌∷◌, ◌++◌, length, map, drop, count_by, codes}
use Rattle.std.specs.declared.option.Option.TheVariants.{Some}
use Rattle.std.specs.Fmt.{decimal}
use Rattle.rmt_reply.specs.declared.line.Line.{Line}
use Rattle.rmt_reply.specs.declared.line.Line.TheVariants as lines
use Rattle.rmt_reply.specs.declared.piece.Piece.{Piece}
use Rattle.rmt_reply.specs.declared.piece.Piece.TheVariants as pieces
use Rattle.rmt_reply.specs.Printed.{ended, two, sum_of, replica_text, records_text, printed}

-- the reply tells of a refusal; an INSERT may print the parts of its first blocks before it, an OPTIMIZE those of its first
-- partitions
abbrev pub is_refused : Line → Bool
is_refused (lines.Refused refusal) = true
is_refused (lines.Inserted pieces (Some refusal)) = true
is_refused (lines.Optimized names (Some refusal)) = true
is_refused line = false

-- ---- blocks

-- the block was written as a part
abbrev pub is_part : Piece → Bool
is_part (pieces.Part a) = true
is_part (pieces.Duplicate a) = false

-- the blocks of an INSERT
abbrev pub pieces_of : Line → List Piece
pieces_of (lines.Inserted pieces refused) = pieces
pieces_of line = []

-- how many blocks were written
abbrev pub accepted_in : List Line → ℕ
accepted_in all = sum_of (map (λ line. count_by is_part (pieces_of line)) all)

-- how many repeated others
abbrev pub duplicates_in : List Line → ℕ
duplicates_in all = sum_of (map (λ line. count_by (λ piece. not (is_part piece)) (pieces_of line)) all)

-- ---- the text

-- a count, as a line
abbrev pub figure_text : List ℕ → ℕ → List ℕ
figure_text name count = ended (two name (decimal count))

-- the records of an answer; another reply as it is printed
abbrev pub total_of : Line → List ℕ
total_of (lines.Rows rows) = records_text rows
total_of line = printed line

-- what a replica has
abbrev pub total_text : ℕ → Line → List ℕ
total_text r line = two (replica_text r) (total_of line)

-- what each of three replicas has
abbrev pub totals_text : List Line → List ℕ
totals_text (a ∷ b ∷ c ∷ []) = total_text 1 a ++ total_text 2 b ++ total_text 3 c
totals_text _ = []

-- how many statements there were between the first two and the last three, how many blocks were written and how many repeated others,
-- how many statements were refused, and what the last three read at three replicas
abbrev pub summary_text : List Line → List ℕ
summary_text all =
    figure_text (codes "statements") (length all - 5)
    ++ figure_text (codes "accepted") (accepted_in all)
    ++ figure_text (codes "duplicate") (duplicates_in all)
    ++ figure_text (codes "refused") (count_by is_refused all)
    ++ totals_text (drop (length all - 3) all)
