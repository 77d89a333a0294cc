use Rattle.std.proofs.Common.{◌≡◌, ℕ, ◌+◌, ◌⊎◌, List, Bool, true, take, get_or, slice_get, sym, ap, subst, ◌∙◌}
use Rattle.std.specs.declared.option.Option.TheVariants.{Some}
use Rattle.std.proofs.lemmas.List.{take_all, take_more}
use Rattle.rmt_query.specs.Distinct.{OrderAlike}
use Rattle.rmt_query.proofs.DistinctLemmas.{AreMarked, none-marked, alike-none, alike-more, alike-again, marked-more}
use Rattle.rmt_query.proofs.distinct.distinct_columns.Goals as goal

pub columns-init : goal.columns-init
columns-init c = (none-marked 64 c.new-distinct.result.items, alike-none c.new-distinct.result.items c.args.columns.now c.new-distinct.ensures.items)

pub columns-preserved-then-not-is_new : goal.columns-preserved-then-not-is_new
columns-preserved-then-not-is_new c =
    let columns = c.args.columns.now in
    let i = c.columns.column-index in
    let column = get_or columns i 0 in
    let distinct = c.columns.distinct.items in
    let next = take_more columns i 0 c.columns-test.true in
    let again = c.if-not-is_new.true in
    let marked = ap (λ (n : ℕ). slice_get c.columns.seen n) (sym c.from.ensures) ∙ c.is_new.ensures.marked again in (
      subst (λ (seen : List Bool). AreMarked seen distinct) (sym (c.is_new.ensures.again again)) c.columns.invariant.0,
      subst (OrderAlike distinct) (sym next) (alike-again distinct (take i columns) column c.columns.invariant.1 (c.columns.invariant.0 column marked)),
    )

pub columns-preserved : goal.columns-preserved
columns-preserved c =
    let columns = c.args.columns.now in
    let i = c.columns.column-index in
    let column = get_or columns i 0 in
    let distinct = c.columns.distinct.items in
    let next = take_more columns i 0 c.columns-test.true in
    let others = subst (λ (number : ℕ). (n : ℕ) → slice_get c.is_new.new.seen n ≡ Some true → (n ≡ number) ⊎ (slice_get c.columns.seen n ≡ Some true)) c.from.ensures c.is_new.ensures.others in (
      subst (AreMarked c.is_new.new.seen) (sym c.in_ok-push.ensures.items) (marked-more c.columns.seen c.is_new.new.seen distinct column c.columns.invariant.0 others),
      subst (λ (l : List ℕ). OrderAlike l (take (i + 1) columns)) (sym c.in_ok-push.ensures.items) (subst (OrderAlike _) (sym next) (alike-more distinct (take i columns) column c.columns.invariant.1)),
    )

pub returns : goal.returns
returns c = subst (OrderAlike c.columns.distinct.items) (take_all c.columns.column-index c.args.columns.now c.columns-test.false) c.columns.invariant.1
