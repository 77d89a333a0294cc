-- What a loop over the records of a text keeps.
use Rattle.std.proofs.Common.{◌≡◌, ◌∙◌, ℕ, ◌≤◌, List, [], ◌∷◌, ◌++◌, length, Bool, Bor, Some, true, false, refl, sym, subst, inl, Option, arith}
use Rattle.csv.specs.Reading.{default_config, strip_bom, source_of, Reached, ReadRecord, Ready, reader_state, reader_config, reader_trim, took_first, is_flexible, AreRecords}
use Rattle.csv.specs.Records.{Row, fields_of}
use Rattle.csv.specs.declared.parser.State.TheVariants as st
use Rattle.csv.specs.declared.reader.Trim.TheVariants as trim
use Rattle.csv.specs.declared.reader.Reader.{Reader}
use Rattle.csv.proofs.ReadFacts.{rows-more, rows-end}
use Rattle.rmt_sql_rows.proofs.Consumed.{none-left, reached-room, strip-length}

abbrev pub bytes_left : Bor (List ℕ) → Option (List ℕ)
bytes_left r = Some r.now

-- these records were read, and the reader is after them
pub record HasRead (text : List ℕ) (rows : List (List (List ℕ))) (reader : Reader (Bor (List ℕ))) : Type 0 where
  pub rest : List ℕ
  pub config : reader_config reader ≡ default_config
  pub source : source_of bytes_left reader ≡ Some rest
  pub reached : Reached default_config st.StartRecord (strip_bom text) rows (reader_state reader) rest
  pub ready : Ready reader
  pub trims : reader_trim reader ≡ trim.None
  pub flexible : is_flexible reader ≡ true

pub read_first : (text : List ℕ) (reader : Reader (Bor (List ℕ))) (rest : List ℕ) → reader_config reader ≡ default_config → source_of bytes_left reader ≡ Some (strip_bom text)
    → reader_state reader ≡ st.StartRecord → Ready reader → reader_trim reader ≡ trim.None → is_flexible reader ≡ true → HasRead text [] reader
unfolding Reached
read_first text reader rest config source state ready trims flexible = record { rest = strip_bom text; config = config; source = source; reached = (sym state, refl); ready = ready; trims = trims; flexible = flexible }

pub read_more : (text : List ℕ) (rows : List (List (List ℕ))) (a b : Reader (Bor (List ℕ))) (found : Bool) (x : Row) → HasRead text rows a → found ≡ true
    → ReadRecord bytes_left a b found (fields_of x) → took_first b ≡ true → is_flexible b ≡ true → HasRead text (rows ++ fields_of x ∷ []) b
read_more text rows a b found x h there reads first flexible =
    let step = subst (λ (t : Bool). ReadRecord bytes_left a b t (fields_of x)) there reads in
    let (rest, source, reached) = rows-more bytes_left a b (fields_of x) default_config st.StartRecord (strip_bom text) h.rest rows h.config h.source h.reached step in
    record { rest = rest; config = step.2 ∙ h.config; source = source; reached = reached; ready = inl first; trims = step.3 ∙ h.trims; flexible = flexible }

pub read_end : (text : List ℕ) (rows : List (List (List ℕ))) (a b : Reader (Bor (List ℕ))) (found : Bool) (x : Row) → HasRead text rows a → found ≡ false
    → ReadRecord bytes_left a b found (fields_of x) → AreRecords default_config st.StartRecord (strip_bom text) rows
read_end text rows a b found x h none reads =
    let step = subst (λ (t : Bool). ReadRecord bytes_left a b t (fields_of x)) none reads in
    (_, h.rest, h.reached, rows-end bytes_left a b (fields_of x) default_config h.rest h.config h.source step)

-- records as many as the text has bytes are all of them
pub read_all : (text : List ℕ) (rows : List (List (List ℕ))) (a : Reader (Bor (List ℕ))) → HasRead text rows a → length text ≤ length rows → AreRecords default_config st.StartRecord (strip_bom text) rows
read_all text rows a h past =
    let room = reached-room default_config st.StartRecord (strip_bom text) rows (reader_state a) h.rest h.reached refl in
    let fits = room.0 in
    let short = strip-length text in
    (_, h.rest, h.reached, none-left default_config (reader_state a) h.rest (omega (arith, fits, short, past)) room.1)
