-- Blocks that are offered.
use Rattle.std.proofs.Common.{ℕ, zero, suc, ◌<◌, inl, inr, List, [], ◌∷◌, length, map, refl, arith}
use Rattle.std.specs.Prelude.{slice_index_or}
use Rattle.std.specs.List.{All}
use Rattle.rmt_values.specs.Rows.{Shape}
use Rattle.rmt_block.specs.Blocks.{BlockView}
use Rattle.rmt_model.specs.Words.{Has}
use Rattle.rmt_model.specs.Content.{Row}
use Rattle.rmt_events.specs.Views.{Block}
use Rattle.rmt_events.specs.Clusters.{without_kinds}
use Rattle.rmt_sql_rows.specs.InsertedRows.{all_names}
use Rattle.rmt_sql_rows.specs.Inserts.{AreInsertedRows}
use Rattle.rmt_statements.specs.declared.act.Act.TheVariants as acts
use Rattle.rmt_statements.specs.declared.insert.Insert.{Insert}
use Rattle.rmt_play.specs.Offered.{IsOfferedBy, OffersAct, OffersRows, OffersScript}

has-at : {A B : Type 0} (f : A → B) (xs : List A) (k : ℕ) (d : A) → k < length xs → Has (map f xs) (f (slice_index_or xs k d))
has-at f [] k d l = absurd (omega (arith, l))
has-at f (x ∷ xs) zero d l = inl refl
has-at f (x ∷ xs) (suc k) d l = inr (has-at f xs k d (omega (arith, l)))

-- what holds of each block as the log has it holds of all of them
pub all-without-kinds : (P : Block → Type 0) (blocks : List BlockView) → ((b : Block) → Has (map without_kinds blocks) b → P b) → All (λ b. P (without_kinds b)) blocks
all-without-kinds P blocks f k d l = f (without_kinds (slice_index_or blocks k d)) (has-at without_kinds blocks k d l)

-- the blocks of an INSERT's rows are among those that it brings
pub offers-rows : (Offers : Shape → Block → Type 0) (schema : Shape) (insert : Insert) (rows : List Row) → OffersAct Offers (acts.Insert insert) → AreInsertedRows schema.columns (all_names schema.columns insert.columns) insert.rows rows → OffersRows Offers schema rows
offers-rows Offers schema insert rows f read blocks split =
    all-without-kinds (Offers schema) blocks (λ b has. f schema b (record { rows = rows; read = read; blocks = blocks; split = split; is_in = has }))

-- a script brings the blocks that are offered by it
pub offers-script : (script : List ℕ) → OffersScript (IsOfferedBy script) script
offers-script script at statement start end reads schema b brings = record { at = at; statement = statement; start = start; end = end; reads = reads; brings = brings }
