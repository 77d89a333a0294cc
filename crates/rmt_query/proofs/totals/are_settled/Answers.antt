use Rattle.std.proofs.Common.{◌≡◌, ◌∙◌, List, true, false, refl, sym, subst, arith}
use Rattle.std.specs.Prelude.{nat_lt}
use Rattle.std.specs.declared.option.Option.TheVariants.{Some}
use Rattle.rmt_values.specs.declared.value.Value.{Value}
use Rattle.rmt_names.specs.Names.{data_version}
use Rattle.rmt_changes.specs.Changes.{any_mutates, entries_of}
use Rattle.rmt_partset.specs.Snapshots.{NamedData}
use Rattle.rmt_query.specs.ReadRows.{row_read}
use Rattle.rmt_query.proofs.MatchLemmas.{after-is}
use Rattle.rmt_query.proofs.TotalLemmas.{pending-is, settled-next, settled-end}
use Rattle.rmt_query.proofs.totals.are_settled.Goals as goal

pub parts-preserved : goal.parts-preserved
parts-preserved c =
    let pending = entries_of c.args.pending.now in
    let as-it-is : (row : List Value) → row_read (entries_of c.args.pending.now) c.part-item.result.name row ≡ Some row = λ row.
    sym (after-is (entries_of c.args.pending.now) c.part-item.result.name c.name-name.result.now c.partition.result c.data_version.result row row (Some row) (sym (c.is_pending.ensures.none c.if-is_pending.false row)) c.partition.ensures c.data_version.ensures c.name-name.ensures refl) in
    settled-next pending c.args.parts.now _ c.parts.part-index c.part-item.result c.part-item.is c.parts-test.true as-it-is c.parts.invariant

pub returns-then-is_pending-clause-none : goal.returns-then-is_pending-clause-none
returns-then-is_pending-clause-none c = λ _ calm.
    let part = c.part-item.result in
    let still : any_mutates part.name.partition (λ k. nat_lt (data_version part.name) k) c.args.pending.now ≡ false =
    subst (λ (x : NamedData). any_mutates x.name.partition (λ k. nat_lt (data_version x.name) k) c.args.pending.now ≡ false) (sym c.part-item.is) (calm c.parts.part-index part c.parts-test.true) in
    let due = pending-is c.args.pending.now part.name c.name-name.result.now c.partition.result c.data_version.result c.is_pending.result c.is_pending.ensures.exact c.partition.ensures c.data_version.ensures c.name-name.ensures in
    let both : true ≡ false = sym c.if-is_pending.true ∙ (due ∙ still) in
    absurd (cc)

pub returns-clause-rows : goal.returns-clause-rows
returns-clause-rows c = λ _. settled-end (entries_of c.args.pending.now) c.args.parts.now _ c.parts.part-index (omega arith) c.parts.invariant
