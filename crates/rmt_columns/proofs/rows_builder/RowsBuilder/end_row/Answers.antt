use Rattle.std.proofs.Common.{rules, ◌≡◌, ◌+◌, ◌<◌, ℕ, length, sym, ap, ◌∙◌, subst, arith}
use Rattle.rmt_columns.specs.RowsByColumn.{BegunView, AreBegun, AreTyped, rows_begun}
use Rattle.rmt_columns.proofs.BuilderLemmas.{all-ended, ended-seen, first-long, length-kinds_of, whole-begun}
use Rattle.rmt_columns.proofs.rows_builder.RowsBuilder.end_row.Goals as goal

some-column : (c : goal.After-index-arg-1) → 0 < length c.self.inside.columns.items
some-column c =
    let k = ap (λ (v : BegunView). length v.kinds) c.self.view_is in
    let l = length-kinds_of c.self.inside.columns.items in
    omega (arith, k, l, c.requires.some)

pub index-requires : goal.index-requires
index-requires c =
    let h = some-column c in
    search (rules, h)

pub invariant_of-self : goal.invariant_of-self
invariant_of-self c =
    let k = ap (λ (v : BegunView). length v.kinds) c.self.view_is in
    let l = length-kinds_of c.self.inside.columns.items in
    let some : 0 < length c.self.inside.columns.items = omega (arith, k, l, c.requires.some) in
    let whole = whole-begun c.self.inside.count c.self.inside.begun c.self.inside.columns.items c.args.self.now c.self.invariant.0 c.self.view_is c.requires.whole in
    let long : c.len-self-inside.result ≡ c.self.inside.count + 1 = c.len-self-inside.ensures.count ∙ first-long c.self.inside.count c.self.inside.begun c.self.inside.columns.items _ c.self.invariant.0 whole some c.index.ensures in
    subst (λ (n : ℕ). AreBegun n 0 c.self.inside.columns.items × AreTyped c.self.inside.columns.items) (sym long) (all-ended c.self.inside.count c.self.inside.begun c.self.inside.columns.items c.self.invariant.0 whole, c.self.invariant.1)

pub returns : goal.returns
returns c =
    let k = ap (λ (v : BegunView). length v.kinds) c.self.view_is in
    let l = length-kinds_of c.self.inside.columns.items in
    let some : 0 < length c.self.inside.columns.items = omega (arith, k, l, c.requires.some) in
    let whole = whole-begun c.self.inside.count c.self.inside.begun c.self.inside.columns.items c.args.self.now c.self.invariant.0 c.self.view_is c.requires.whole in
    let long : c.len-self-inside.result ≡ c.self.inside.count + 1 = c.len-self-inside.ensures.count ∙ first-long c.self.inside.count c.self.inside.begun c.self.inside.columns.items _ c.self.invariant.0 whole some c.index.ensures in
    ap (λ (n : ℕ). rows_begun n 0 c.self.inside.columns.items) long
    ∙ ended-seen c.self.inside.count c.self.inside.begun c.self.inside.columns.items c.args.self.now c.self.invariant.0 whole c.self.view_is
