use Rattle.std.proofs.Common.{◌≡◌, ℕ, List, length, sym, ap, ◌∙◌, subst}
use Rattle.std.proofs.lemmas.List.{take_all}
use Rattle.rmt_values.specs.Rows.{AllBelow}
use Rattle.rmt_columns.specs.Columns.{ColumnView}
use Rattle.rmt_columns.specs.RowsByColumn.{AreLong, AreTyped, RowsView, rows_held}
use Rattle.rmt_columns.proofs.RowsLemmas.{columns_at, gathered-seen, length-rows_of, long-at, long-each}
use Rattle.rmt_columns.proofs.TypedLemmas.{gathered-typed}
use Rattle.rmt_columns.proofs.rows.Rows.gather.Goals as goal

pub gather-requires : goal.gather-requires
gather-requires c =
    let all : c.as_slice-all.result.now ≡ c.self.inside.columns.items = c.as_slice-all.ensures.value in
    let count = sym (length-rows_of c.self.inside.count c.self.inside.columns.items c.self.invariant.0) ∙ ap (λ (v : RowsView). length v.rows) c.self.view_is in
    let long = long-each c.self.inside.count c.as_slice-all.result.now c.columns.column-index c.column-item.result (subst (AreLong c.self.inside.count) (sym all) c.self.invariant.0) c.columns-test.true c.column-item.is in
    subst (λ (n : ℕ). AllBelow n c.args.places.now) (sym (long ∙ count)) c.requires

-- the columns that were gathered are all
gathered : (c : goal.After-columns) → c.columns.columns.items ≡ columns_at c.args.places.now c.self.inside.columns.items
gathered c =
    c.columns.invariant ∙ (ap (columns_at c.args.places.now) (take_all c.columns.column-index c.as_slice-all.result.now c.columns-test.false) ∙ ap (columns_at c.args.places.now) c.as_slice-all.ensures.value)

pub invariant_of-result : goal.invariant_of-result
invariant_of-result c =
    let count = sym (length-rows_of c.self.inside.count c.self.inside.columns.items c.self.invariant.0) ∙ ap (λ (v : RowsView). length v.rows) c.self.view_is in
    subst (λ (l : List ColumnView). AreLong (length c.args.places.now) l × AreTyped l) (sym (gathered c)) (
      long-at c.self.inside.count c.self.inside.columns.items c.args.places.now c.self.invariant.0 (subst (λ (n : ℕ). AllBelow n c.args.places.now) (sym count) c.requires),
      gathered-typed c.self.inside.columns.items c.args.places.now c.self.invariant.1,
    )

pub returns : goal.returns
returns c =
    let count = sym (length-rows_of c.self.inside.count c.self.inside.columns.items c.self.invariant.0) ∙ ap (λ (v : RowsView). length v.rows) c.self.view_is in
    ap (rows_held (length c.args.places.now)) (gathered c)
    ∙ gathered-seen c.self.inside.count c.self.inside.columns.items c.args.places.now c.args.self.now c.self.invariant.0 c.self.view_is (subst (λ (n : ℕ). AllBelow n c.args.places.now) (sym count) c.requires)
