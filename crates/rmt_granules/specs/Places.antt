-- Places of rows in several parts. No public clause cites this module.
use Rattle.std.specs.Prelude.{◌≡◌, ◌⊎◌, ℕ, zero, suc, ◌+◌, ◌<◌, List, [], ◌∷◌, ◌++◌, length, slice_get, get_or}
use Rattle.std.specs.Borrow.{Bor}
use Rattle.std.specs.Option.{option_to_list}
use Rattle.std.specs.declared.option.Option.{Option}
use Rattle.std.specs.declared.option.Option.TheVariants.{Some, None}
use Rattle.std.specs.declared.cmp.Ordering.{Ordering}
use Rattle.rmt_values.specs.declared.value.Value.{Value}
use Rattle.rmt_values.specs.declared.column.Column.{Column}
use Rattle.rmt_values.specs.Rows.{key_cmp}
use Rattle.rmt_columns.specs.Columns.{ColumnView}
use Rattle.rmt_columns.specs.Leading.{AreLeading}
use Rattle.rmt_granules.specs.Granules.{PartView}
use Rattle.rmt_granules.specs.declared.place.Place.{Place}

-- the rows of a part, where it is there
abbrev pub rows_at : Option PartView → List (List Value)
rows_at None = []
rows_at (Some part) = part.rows

-- the row at a place of parts; without values where there is none
abbrev pub row_in : List PartView → Place → List Value
row_in parts p = get_or (rows_at (slice_get parts p.part)) p.row []

-- places of parts by the keys of their rows
abbrev pub place_cmp : List ℕ → List PartView → Place → Place → Ordering
place_cmp key parts p q = key_cmp key (row_in parts p) (row_in parts q)

-- the places of so many rows of a part, from a row on
abbrev pub places_from : ℕ → ℕ → ℕ → List Place
places_from part row zero = []
places_from part row (suc n) = record { part = part; row = row } ∷ places_from part (row + 1) n

-- the places of the rows of parts, the first of which has this number
abbrev pub all_places : ℕ → List PartView → List Place
all_places first [] = []
all_places first (part ∷ parts) = places_from first 0 (length part.rows) ++ all_places (first + 1) parts

-- the places are of one of so many parts
abbrev pub AreOf : ℕ → List Place → Type 0
AreOf n [] = Unit {0}
AreOf n (p ∷ ps) = (p.part < n) × AreOf n ps

-- ---- the numbers that lead

-- these are the numbers of the rows in the first column of a key, or there are none
abbrev pub Lead : List ℕ → List (List Value) → List ℕ → Type 0
Lead key rows numbers = (numbers ≡ []) ⊎ AreLeading key rows numbers

-- each part has such numbers
abbrev pub LeadAll : List ℕ → List PartView → List (Bor (List ℕ)) → Type 0
LeadAll key [] [] = Unit {0}
LeadAll key [] (n ∷ ns) = ⊥
LeadAll key (part ∷ parts) [] = ⊥
LeadAll key (part ∷ parts) (n ∷ ns) = Lead key part.rows n.now × LeadAll key parts ns

-- the numbers of one of several lists; none where there is no such list
abbrev pub numbers_at : List (Bor (List ℕ)) → ℕ → List ℕ
numbers_at [] i = []
numbers_at (n ∷ ns) zero = n.now
numbers_at (n ∷ ns) (suc i) = numbers_at ns i

-- ---- the columns of some rows

-- the values of a column in rows
abbrev pub cells_of : ℕ → List (List Value) → List Value
cells_of at [] = []
cells_of at (row ∷ rows) = option_to_list (slice_get row at) ++ cells_of at rows

-- these columns of rows, the first of which has this number
abbrev pub columns_from : ℕ → List Column → List (List Value) → List ColumnView
columns_from at [] rows = []
columns_from at (c ∷ cs) rows = record { kind = c.kind; values = cells_of at rows } ∷ columns_from (suc at) cs rows
