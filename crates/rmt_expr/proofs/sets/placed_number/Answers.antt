use Rattle.std.proofs.Common.{rules, ◌≡◌, true}
use Rattle.std.specs.declared.option.Option.TheVariants.{Some}
use Rattle.rmt_values.specs.Rows.{kind_of, is_value}
use Rattle.rmt_values.specs.Commands.{is_number as has_numbers}
use Rattle.rmt_expr.specs.Checks.{IsColumn}
use Rattle.rmt_values.specs.Literals.{literal_value}
use Rattle.rmt_expr.proofs.SetLemmas.{adds_up}
use Rattle.rmt_expr.proofs.sets.placed_number.Goals as goal

pub returns-in-Some-2 : goal.returns-in-Some-2
returns-in-Some-2 c =
    let column : IsColumn c.args.schema.now c.args.column.now c.in-Some.at c.args.kind = search rules in
    let valued : literal_value c.args.kind c.args.by.now ≡ Some c.in-Some-2.value = search rules in
    let typed : (kind_of c.in-Some-2.value ≡ c.args.kind) × (is_value c.in-Some-2.value ≡ true) = search rules in
    let numbers : has_numbers c.args.kind ≡ true = search rules in
    record {
      may = search rules;
      there = column.there;
      valued = valued;
      fits = adds_up _ _ _ _ c.args.kind c.requires column.typed numbers typed.0 typed.1;
    }
