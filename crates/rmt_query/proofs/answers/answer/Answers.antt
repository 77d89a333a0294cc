use Rattle.std.proofs.Common.{ℕ, List, ap, subst, sym, ◌∙◌}
use Rattle.rmt_values.specs.declared.checked_item.CheckedItem.{CheckedItem}
use Rattle.rmt_values.specs.Order.{in_order}
use Rattle.rmt_entries.specs.declared.entry.Entry.{Entry}
use Rattle.rmt_row.specs.Token.{Token}
use Rattle.rmt_changes.specs.Changes.{entries_of}
use Rattle.rmt_partset.specs.Snapshots.{NamedData}
use Rattle.rmt_query.specs.Answers.{answer_of, matching}
use Rattle.rmt_query.specs.Distinct.{tuple_cmp_at, OrderTuplesAlike}
use Rattle.rmt_query.specs.ReadRows.{rows_read}
use Rattle.rmt_query.proofs.MatchLemmas.{none-pending}
use Rattle.rmt_query.proofs.PlaceLemmas.{in-order-at}
use Rattle.rmt_query.proofs.answers.answer.Goals as goal

pub returns-clause-ok : goal.returns-clause-ok
unfolding answer_of
returns-clause-ok c =
    let shape = c.args.schema.now in
    let query = c.args.query.now in
    let places = c.deref.result.now in
    let as_read = λ (ps : List NamedData). rows_read (entries_of c.args.pending.now) ps in
    let made = subst (λ (l : List CheckedItem). OrderTuplesAlike c.in_ok-places.places.items l l) c.as_slice.ensures c.in_ok-places.ensures in
    let alike = subst (λ (l : List ℕ). OrderTuplesAlike l query.items query.items) (sym c.deref.ensures.value) made in
    c.in_ok-sorted.ensures
    ∙ (ap (in_order (tuple_cmp_at places)) c.in_ok-tuples.ensures
    ∙ (in-order-at places shape query (matching query.filter (as_read c.parts.result.now)) alike
    ∙ ap (λ (ps : List NamedData). answer_of shape query (as_read ps)) c.parts.ensures.all))

pub returns-clause-none_pending : goal.returns-clause-none_pending
returns-clause-none_pending c = λ none.
    returns-clause-ok c
    ∙ ap (answer_of c.args.schema.now c.args.query.now)
    (ap (λ (tokens : List (Token Entry)). rows_read (entries_of tokens) c.args.snapshot.now) none ∙ none-pending c.args.snapshot.now)
