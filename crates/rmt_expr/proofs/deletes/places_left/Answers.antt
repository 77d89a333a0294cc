use Rattle.std.proofs.Common.{◌≡◌, ◌+◌, ◌<◌, ℕ, List, length, take, sym, subst, ◌∙◌}
use Rattle.std.specs.List.{filter_map}
use Rattle.rmt_values.specs.Rows.{AllBelow}
use Rattle.rmt_values.specs.Commands.{applied}
use Rattle.rmt_values.specs.declared.checked_mutation.CheckedMutation.TheVariants.{Delete}
use Rattle.rmt_columns.specs.Places.{at_places}
use Rattle.rmt_expr.proofs.PassLemmas.{one-deleted, one-left, below-more}
use Rattle.rmt_expr.proofs.deletes.places_left.Goals as goal

pub rows-preserved-then-holds_at : goal.rows-preserved-then-holds_at
rows-preserved-then-holds_at c =
    let p : c.rows.i < length c.args.rows.now.rows = subst (λ (n : ℕ). c.rows.i < n) c.len-i-end.ensures.count c.rows-test.true in
    (c.rows.invariant.0 ∙ one-deleted c.args.filter.now c.args.rows.now.rows c.rows.i p (sym c.if-holds_at.ensures), c.rows.invariant.1)

pub rows-preserved : goal.rows-preserved
rows-preserved c =
    let p : c.rows.i < length c.args.rows.now.rows = subst (λ (n : ℕ). c.rows.i < n) c.len-i-end.ensures.count c.rows-test.true in
    subst
    (λ (l : List ℕ). (at_places c.args.rows.now.rows l ≡ filter_map (applied (Delete c.args.filter.now)) (take (c.rows.i + 1) c.args.rows.now.rows)) × AllBelow (length c.args.rows.now.rows) l)
    (sym c.in_ok-push.ensures.items)
    (one-left c.args.filter.now c.args.rows.now.rows c.rows.places.items c.rows.i p (sym c.if-holds_at.ensures) c.rows.invariant.0, below-more (length c.args.rows.now.rows) c.rows.places.items c.rows.i c.rows.invariant.1 p)
