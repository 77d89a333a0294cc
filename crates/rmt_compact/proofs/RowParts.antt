-- A new part is of the cell row that what it is made of is of.
use Rattle.std.proofs.Common.{ℕ, Bool, true, false, cond, nat_le, List, [], ◌∷◌, length, sym, subst}
use Rattle.rmt_values.specs.Rows.{Shape}
use Rattle.rmt_row.specs.Token.{Token, IsOf}
use Rattle.rmt_entries.specs.declared.entry.Entry.{Entry}
use Rattle.rmt_block.specs.Blocks.{BlockView}
use Rattle.rmt_model.specs.Words.{Each}
use Rattle.rmt_history.specs.Copies.{History, IsLogOf}
use Rattle.rmt_history.specs.Mutations.{IsTokenBelow}
use Rattle.rmt_history.proofs.RowLemmas.{token-of-row}
use Rattle.rmt_part.specs.Lineages.{PartValue}
use Rattle.rmt_part.specs.CellRows.{IsPartOfRow}
use Rattle.rmt_compact.specs.NewParts.{IsOfBlock, IsMerged, IsMutated, blocks_joined, most_tokens}
use Rattle.rmt_compact.proofs.NewPartLemmas.{Each-append}

-- the part of a block
pub block-of-row : (row : List ℕ) (shape : Shape) (token : Token Entry) (b : BlockView) (part : PartValue) → IsOfBlock shape token b part → IsOf row token → IsPartOfRow row part
block-of-row row shape token b part is of = record {
  made = subst (IsOf row) (sym is.made) of;
  blocks = subst (Each (λ x. IsOf row x.get)) (sym is.blocks) (of, tt);
  mutations = subst (Each (IsOf row)) (sym is.mutations) tt;
}

joined-of-row : (row : List ℕ) (parts : List PartValue) → Each (IsPartOfRow row) parts → Each (λ x. IsOf row x.get) (blocks_joined parts)
joined-of-row row [] of = tt
joined-of-row row (part ∷ parts) of = Each-append (λ x. IsOf row x.get) part.blocks (blocks_joined parts) of.0.blocks (joined-of-row row parts of.1)

most-of-row : (row : List ℕ) (parts : List PartValue) → Each (IsPartOfRow row) parts → Each (IsOf row) (most_tokens parts)
most-of-row row [] of = tt
most-of-row row (part ∷ parts) of = go (nat_le (length (most_tokens parts)) (length part.mutations)) (most-of-row row parts of.1)
  where
    go : (b : Bool) → Each (IsOf row) (most_tokens parts) → Each (IsOf row) (cond b part.mutations (most_tokens parts))
    go true f = of.0.mutations
    go false f = f

-- the part of a merge
pub merged-of-row : (row : List ℕ) (token : Token Entry) (parts : List PartValue) (part : PartValue) → IsMerged token parts part → IsOf row token → Each (IsPartOfRow row) parts → IsPartOfRow row part
merged-of-row row token parts part is of parts-of = record {
  made = subst (IsOf row) (sym is.made) of;
  blocks = subst (Each (λ x. IsOf row x.get)) (sym is.blocks) (joined-of-row row parts parts-of);
  mutations = subst (Each (IsOf row)) (sym is.mutations) (most-of-row row parts parts-of);
}

-- tokens of a copy of the row
pub tokens-of-row : (row : List ℕ) (copy : History) (end : ℕ) (tokens : List (Token Entry)) → IsLogOf row copy → Each (IsTokenBelow copy end) tokens → Each (IsOf row) tokens
tokens-of-row row copy end [] copy-of f = tt
tokens-of-row row copy end (x ∷ xs) copy-of f = (token-of-row row copy x copy-of f.0.cell, tokens-of-row row copy end xs copy-of f.1)

-- the part of a mutation
pub mutated-of-row : (row : List ℕ) (token : Token Entry) (old : PartValue) (copy : History) (end : ℕ) (mutations : List (Token Entry)) (part : PartValue) → IsMutated token old mutations part → IsOf row token → IsPartOfRow row old → IsLogOf row copy → Each (IsTokenBelow copy end) mutations → IsPartOfRow row part
mutated-of-row row token old copy end mutations part is of old-of copy-of below = record {
  made = subst (IsOf row) (sym is.made) of;
  blocks = subst (Each (λ x. IsOf row x.get)) (sym is.blocks) old-of.blocks;
  mutations = subst (Each (IsOf row)) (sym is.mutations) (tokens-of-row row copy end mutations copy-of below);
}
