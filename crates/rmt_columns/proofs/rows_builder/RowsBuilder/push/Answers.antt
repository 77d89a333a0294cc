use Rattle.std.proofs.Common.{rules, ◌+◌, sym, ap, ◌∙◌, subst}
use Rattle.std.proofs.Math.ListN.{set}
use Rattle.rmt_columns.specs.Columns.{ColumnView, value_of}
use Rattle.rmt_columns.specs.RowsByColumn.{AreBegun, AreTyped, rows_begun}
use Rattle.rmt_columns.proofs.BuilderLemmas.{next-there, next-kind, value-put, next-column, put-seen}
use Rattle.rmt_columns.proofs.TypedLemmas.{put-typed}
use Rattle.rmt_columns.proofs.rows_builder.RowsBuilder.push.Goals as goal

pub index_mut-requires : goal.index_mut-requires
index_mut-requires c =
    let h = next-there c.self.inside.columns.items c.self.inside.begun _
    (next-column c.self.inside.count c.self.inside.begun c.self.inside.columns.items c.args.self.now _ c.self.invariant.0 c.self.view_is c.requires) in
    search (rules, h)

pub push-requires : goal.push-requires
push-requires c =
    next-kind c.self.inside.columns.items c.self.inside.begun _ _
    (next-column c.self.inside.count c.self.inside.begun c.self.inside.columns.items c.args.self.now _ c.self.invariant.0 c.self.view_is c.requires)
    c.index_mut.ensures.value

pub overflow_add-self : goal.overflow_add-self
overflow_add-self c =
    let h = next-there c.self.inside.columns.items c.self.inside.begun _
    (next-column c.self.inside.count c.self.inside.begun c.self.inside.columns.items c.args.self.now _ c.self.invariant.0 c.self.view_is c.requires) in
    search (rules, h)

pub invariant_of-self-2 : goal.invariant_of-self-2
invariant_of-self-2 c =
    let h = next-there c.self.inside.columns.items c.self.inside.begun _
    (next-column c.self.inside.count c.self.inside.begun c.self.inside.columns.items c.args.self.now _ c.self.invariant.0 c.self.view_is c.requires) in
    let put = value-put c.self.inside.count c.self.inside.begun c.self.inside.columns.items (value_of c.args.value) c.index_mut.result.now c.self.invariant.0 h c.index_mut.ensures.value in
    let kind = next-kind c.self.inside.columns.items c.self.inside.begun _ _ (next-column c.self.inside.count c.self.inside.begun c.self.inside.columns.items c.args.self.now _ c.self.invariant.0 c.self.view_is c.requires) c.index_mut.ensures.value in
    let typed = put-typed c.self.inside.columns.items c.self.inside.begun (value_of c.args.value) c.index_mut.result.now c.self.invariant.1 h c.index_mut.ensures.value kind in
    subst (λ (d : ColumnView). AreBegun c.self.inside.count (c.self.inside.begun + 1) (set c.self.inside.columns.items c.self.inside.begun d) × AreTyped (set c.self.inside.columns.items c.self.inside.begun d)) (sym c.in_ok-push.ensures.ok) (put.begun, typed)

pub returns-clause-ok : goal.returns-clause-ok
returns-clause-ok c =
    let h = next-there c.self.inside.columns.items c.self.inside.begun _
    (next-column c.self.inside.count c.self.inside.begun c.self.inside.columns.items c.args.self.now _ c.self.invariant.0 c.self.view_is c.requires) in
    let put = value-put c.self.inside.count c.self.inside.begun c.self.inside.columns.items (value_of c.args.value) c.index_mut.result.now c.self.invariant.0 h c.index_mut.ensures.value in
    ap (λ (d : ColumnView). rows_begun c.self.inside.count (c.self.inside.begun + 1) (set c.self.inside.columns.items c.self.inside.begun d)) c.in_ok-push.ensures.ok
    ∙ put-seen c.self.inside.count c.self.inside.begun c.self.inside.columns.items (value_of c.args.value) _ c.args.self.now put c.self.view_is
