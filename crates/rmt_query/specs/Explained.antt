-- How many granules a query reads.
-- ClickHouse documentation: EXPLAIN indexes (parts and granules chosen).
use Rattle.std.specs.Prelude.{◌≡◌, ℕ, ◌-◌, ◌*◌, ◌<◌, ◌≤◌, ◌↔◌, List, [], ◌∷◌, length}
use Rattle.std.specs.declared.option.Option.{Option}
use Rattle.std.specs.declared.option.Option.TheVariants.{Some, None}
use Rattle.rmt_values.specs.declared.checked.Checked.{Checked}
use Rattle.rmt_names.specs.Names.{Name}
use Rattle.rmt_granules.specs.Granules.{PartView}
use Rattle.rmt_keyrange.specs.declared.key_range.KeyRange.{KeyRange}
use Rattle.rmt_keyrange.specs.Ranges.{IsRangeOf}
use Rattle.rmt_keyrange.specs.Chosen.{IsChosen}

-- so many granules of the part are chosen by a filter: those from the first on, up to the one past the last
pub record AreChosen (part : PartView) (filter : Checked) (count : ℕ) : Type 0 where
  pub range : KeyRange
  pub is_range : IsRangeOf part.key filter range
  pub first : ℕ
  pub past : ℕ
  pub order : first ≤ past
  pub bound : past ≤ length part.marks
  pub chosen : (g : ℕ) → g < length part.marks → ((first ≤ g) × (g < past)) ↔ IsChosen range.low range.high part.marks g
  pub counted : count ≡ past - first

-- the granules of a part that are read, and all of them; without a filter all are read
abbrev pub IsCounted : Option Checked → PartView → ℕ × ℕ → Type 0
IsCounted None part counts = (counts.0 ≡ length part.marks) × (counts.1 ≡ length part.marks)
IsCounted (Some f) part counts = AreChosen part f counts.0 × (counts.1 ≡ length part.marks)

-- parts of these names and data, one by one: each with its name, its granules that are read, and all of them
abbrev pub AreExplained : Option Checked → List Name → List PartView → List (Name × ℕ × ℕ) → Type 0
AreExplained condition [] [] [] = Unit {0}
AreExplained condition (a ∷ names) (p ∷ ps) (n ∷ ns) = (n.0 ≡ a) × IsCounted condition p (n.1, n.2) × AreExplained condition names ps ns
AreExplained condition names ps ns = ⊥

-- ---- what only private functions cite

-- the rows of a part, from the first on up to the one past the last, are in granules that a filter chooses
pub record AreRowsChosen (part : PartView) (filter : Checked) (rows : ℕ × ℕ) : Type 0 where
  pub range : KeyRange
  pub is_range : IsRangeOf part.key filter range
  pub first : ℕ
  pub past : ℕ
  pub chosen : (g : ℕ) → g < length part.marks → ((first ≤ g) × (g < past)) ↔ IsChosen range.low range.high part.marks g
  pub within : (i : ℕ) → rows.0 ≤ i → i < rows.1 → (first * part.granularity ≤ i) × (i < past * part.granularity)

-- the same; without a filter they may be all
abbrev pub AreInChosen : Option Checked → PartView → ℕ × ℕ → Type 0
AreInChosen None part rows = Unit {0}
AreInChosen (Some f) part rows = AreRowsChosen part f rows
