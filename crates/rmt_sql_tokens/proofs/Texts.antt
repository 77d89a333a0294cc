-- A text, byte by byte.
use Rattle.std.proofs.Common.{ℕ, ◌+◌, List, ◌++◌, Option, Some, None}
use Rattle.rmt_sql_tokens.specs.Tokens.{Spelled}

-- a text after bytes that were read already: so many, which stand for these
abbrev pub ahead : List ℕ → ℕ → Option Spelled → Option Spelled
ahead taken n None = None
ahead taken n (Some text) = Some (record { bytes = taken ++ text.bytes; spelling = n + text.spelling })
