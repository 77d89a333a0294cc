use Rattle.std.proofs.Common.{rules, ◌≡◌, ◌∙◌, ◌+◌, ◌-◌, min, ap, sym, subst, length, Some, List, ℕ}
use Rattle.rmt_columns.specs.Columns.{ColumnView}
use Rattle.rmt_columns.specs.RowsByColumn.{no_values}
use Rattle.rmt_columns.proofs.RowsLemmas.{length-kinds}
use Rattle.rmt_format.specs.PartDecoding.{decode_columns}
use Rattle.rmt_format.proofs.ReadLemmas.{Reads, AreLonger, columns-longer, granule-read, none-kinds, reads-none, written}
use Rattle.rmt_format.proofs.rows.read_granules.Goals as goal

pub granules-init : goal.granules-init
granules-init c =
    subst (λ (l : List ColumnView). Reads (no_values c.args.columns.now) c.args.size c.args.counts.0 c.args.counts.1 c.args.bytes.now 0 c.args.counts.1 l c.args.bytes.now) (sym c.in_ok-made.ensures)
    (reads-none c.args.columns.now c.args.size c.args.counts.0 c.args.counts.1 c.args.bytes.now)

pub granules-preserved : goal.granules-preserved
granules-preserved c =
    let made = c.granules.made.items in
    let new = c.read_columns.new.columns in
    let here : decode_columns c.granules.made.items (min c.granules.left c.args.size) c.granules.rest.now ≡ Some (c.read_columns.new.columns, c.in_ok-rest.rest.now) =
    ap (λ (n : ℕ). decode_columns made n c.granules.rest.now) (sym c.min-here.ensures)
    ∙ (ap (λ (l : List ColumnView). decode_columns l c.min-here.result c.granules.rest.now) (sym c.deref_mut.ensures.value) ∙ c.in_ok-rest.ensures) in
    let long : length c.read_columns.new.columns ≡ length c.granules.made.items = length-kinds new made (AreLonger.kinds (columns-longer (min c.granules.left c.args.size) made new c.granules.rest.now c.in_ok-rest.rest.now here)) in
    let n : c.granules.made.len ≡ length c.granules.made.items = search rules in
    subst (λ (l : List ColumnView). Reads (no_values c.args.columns.now) c.args.size c.args.counts.0 c.args.counts.1 c.args.bytes.now (c.granules.counter + 1) (c.granules.left - c.min-here.result) l c.in_ok-rest.rest.now)
    (written c.granules.made.len made new long n)
    (subst (λ (k : ℕ). Reads (no_values c.args.columns.now) c.args.size c.args.counts.0 c.args.counts.1 c.args.bytes.now (c.granules.counter + 1) (c.granules.left - k) new c.in_ok-rest.rest.now) (sym c.min-here.ensures)
    (granule-read (no_values c.args.columns.now) c.args.size c.args.counts.0 c.args.counts.1 c.args.bytes.now c.granules.counter c.granules.left made new c.granules.rest.now c.in_ok-rest.rest.now c.granules-test.true here c.granules.invariant))

pub returns-clause-kinds : goal.returns-clause-kinds
returns-clause-kinds c = c.of_columns.ensures.kinds ∙ (c.granules.invariant.kinds ∙ none-kinds c.args.columns.now)
