use Rattle.std.proofs.Common.{◌∙◌, ap}
use Rattle.std.specs.Option.{option_map}
use Rattle.std.specs.declared.option.Option.{Option}
use Rattle.std.specs.declared.option.Option.TheVariants.{Some}
use Rattle.rmt_columns.specs.Columns.{value_of}
use Rattle.rmt_columns.specs.declared.value_ref.ValueRef.{ValueRef}
use Rattle.rmt_query.proofs.sums.signed.Goals as goal

pub unreachable-requires : goal.unreachable-requires
unreachable-requires c =
    c.requires c.in-UInt.field-0 (ap (λ (v : Option ValueRef). option_map value_of v) c.in-Some.is ∙ ap (λ (v : ValueRef). Some (value_of v)) c.in-UInt.is)
