use Rattle.std.proofs.Common.{refl, ◌∙◌, length, subst}
use Rattle.std.proofs.lemmas.List.{take_all}
use Rattle.std.specs.List.{AllByRecursion}
use Rattle.rmt_granules.proofs.FitLemmas.{AreValues, rows-fit, fit-values, typed-at}
use Rattle.rmt_granules.proofs.order.all_fit.Goals as goal

pub are_values-requires : goal.are_values-requires
are_values-requires c = typed-at c.columns-columns.result.now c.columns.column-index _ c.columns-columns.ensures.typed c.columns-test.true c.column-item.is

pub returns-then-not-are_values : goal.returns-then-not-are_values
returns-then-not-are_values c = (
  λ t. absurd (cc),
  λ h.
      let cols = c.columns-columns.ensures in
      let all = fit-values c.args.schema.now.columns (length c.args.rows.now.rows) c.columns-columns.result.now c.args.rows.now.rows c.columns.column-index c.column-item.result
      cols.rows (cols.kinds ∙ c.requires) cols.long h c.columns-test.true c.column-item.is in
      let yes = c.are_values.ensures.1 all in
      let no = c.if-not-are_values.true in
      absurd (cc),
)

pub returns : goal.returns
returns c =
    let cols = c.columns-columns.ensures in (
      λ t. rows-fit c.args.schema.now.columns (length c.args.rows.now.rows) c.columns-columns.result.now c.args.rows.now.rows cols.rows (cols.kinds ∙ c.requires) cols.typed
          (subst (AllByRecursion AreValues) (take_all c.columns.column-index c.columns-columns.result.now c.columns-test.false) c.columns.invariant),
      λ h. refl,
    )
