use Rattle.std.proofs.Common.{◌≡◌, ℕ, ◌+◌, ◌⊎◌, List, Bool, true, take, get_or, slice_get, sym, ap, subst, ◌∙◌}
use Rattle.std.specs.declared.option.Option.TheVariants.{Some}
use Rattle.std.proofs.lemmas.List.{take_all, take_more}
use Rattle.std.proofs.lemmas.Option.{slice_get-get_or}
use Rattle.rmt_values.specs.declared.checked_item.CheckedItem.TheVariants as item
use Rattle.rmt_query.specs.Distinct.{OrderTuplesAlike}
use Rattle.rmt_query.proofs.PlaceLemmas.{AreFlagged, none-flagged, tuples-none, tuples-more, tuples-again, flagged-more}
use Rattle.rmt_query.proofs.distinct.distinct_places.Goals as goal

pub places-init : goal.places-init
places-init c = (none-flagged 257 c.new-places.result.items c.args.items.now, tuples-none c.new-places.result.items c.args.items.now c.new-places.ensures.items)

pub places-preserved-then-not-is_new : goal.places-preserved-then-not-is_new
places-preserved-then-not-is_new c =
    let items = c.args.items.now in
    let k = c.places.place in
    let one = get_or items k (item.Column 0) in
    let places = c.places.places.items in
    let next = take_more items k (item.Column 0) c.places-test.true in
    let again = c.if-not-is_new.true in
    let marked = ap (λ (n : ℕ). slice_get c.places.seen n) (sym c.flag_of.ensures) ∙ c.is_new.ensures.marked again in (
      subst (λ (seen : List Bool). AreFlagged seen places items) (sym (c.is_new.ensures.again again)) c.places.invariant.0,
      subst (OrderTuplesAlike places items) (sym next) (tuples-again places items (take k items) one c.places.invariant.1 (c.places.invariant.0 one marked)),
    )

pub places-preserved : goal.places-preserved
places-preserved c =
    let items = c.args.items.now in
    let k = c.places.place in
    let one = get_or items k (item.Column 0) in
    let places = c.places.places.items in
    let next = take_more items k (item.Column 0) c.places-test.true in
    let there = slice_get-get_or items k (item.Column 0) c.places-test.true in
    let others = subst (λ (flag : ℕ). (n : ℕ) → slice_get c.is_new.new.seen n ≡ Some true → (n ≡ flag) ⊎ (slice_get c.places.seen n ≡ Some true)) c.flag_of.ensures c.is_new.ensures.others in (
      subst (λ (l : List ℕ). AreFlagged c.is_new.new.seen l items) (sym c.in_ok-push.ensures.items) (flagged-more c.places.seen c.is_new.new.seen places items k one c.places.invariant.0 there others),
      subst (λ (l : List ℕ). OrderTuplesAlike l items (take (k + 1) items)) (sym c.in_ok-push.ensures.items) (subst (OrderTuplesAlike _ items) (sym next) (tuples-more places items (take k items) k one c.places.invariant.1 there)),
    )

pub returns : goal.returns
returns c = subst (OrderTuplesAlike c.places.places.items c.args.items.now) (take_all c.places.place c.args.items.now c.places-test.false) c.places.invariant.1
