use Rattle.std.proofs.Common.{rules, ◌≡◌, List, ℕ, true, sym, subst, arith}
use Rattle.std.specs.List.{All}
use Rattle.std.specs.List.Sorted.{IsSorted}
use Rattle.rmt_values.specs.Rows.{fits, key_cmp}
use Rattle.rmt_format.proofs.CallerLemmas.{sorted-has, has-sorted}
use Rattle.rmt_format.proofs.decoded.part_of.Goals as goal

pub returns-then-not-are_sorted-clause-only : goal.returns-then-not-are_sorted-clause-only
returns-then-not-are_sorted-clause-only c = λ part has is rows.
    let sorted : IsSorted (key_cmp c.args.schema.now.key) c.args.rows.rows = subst (IsSorted (key_cmp c.args.schema.now.key)) (sym rows) (has-sorted c.args.schema.now part has) in
    let yes = c.are_sorted.ensures.1 (subst (λ (k : List ℕ). IsSorted (key_cmp k) c.args.rows.rows) (sym c.key.ensures.value) sorted) in
    let no = c.if-not-are_sorted.true in
    absurd (cc)

pub encode-requires : goal.encode-requires
encode-requires c =
    let fit : All (λ row. fits c.args.schema.now.columns row ≡ true) c.args.rows.rows = search rules in
    let sorted : IsSorted (key_cmp c.key.result.now) c.args.rows.rows = search rules in
    sorted-has c.args.schema.now c.args.rows.rows c.in_ok-part.part c.in_ok-part.ensures fit (subst (λ (k : List ℕ). IsSorted (key_cmp k) c.args.rows.rows) c.key.ensures.value sorted) (omega arith)

pub returns-clause-of_schema : goal.returns-clause-of_schema
returns-clause-of_schema c =
    let fit : All (λ row. fits c.args.schema.now.columns row ≡ true) c.args.rows.rows = search rules in
    let sorted : IsSorted (key_cmp c.key.result.now) c.args.rows.rows = search rules in
    sorted-has c.args.schema.now c.args.rows.rows c.in_ok-part.part c.in_ok-part.ensures fit (subst (λ (k : List ℕ). IsSorted (key_cmp k) c.args.rows.rows) c.key.ensures.value sorted) (omega arith)
