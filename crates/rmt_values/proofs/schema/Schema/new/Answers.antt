use Rattle.std.proofs.Common.{◌≡◌, ℕ, ◌≤◌, List, length, subst, sym}
use Rattle.std.specs.declared.option.Option.{Option}
use Rattle.std.specs.declared.option.Option.TheVariants.{None}
use Rattle.rmt_values.specs.declared.column.Column.{Column}
use Rattle.rmt_values.specs.declared.partition_rule.PartitionRule.{PartitionRule}
use Rattle.rmt_values.specs.Schemas.{IsSchema, schema_refusal, places_of, rule_of}
use Rattle.rmt_values.proofs.Making.{makes-schema}
use Rattle.rmt_values.proofs.schema.Schema.new.Goals as goal

pub places_of-requires : goal.places_of-requires
places_of-requires c =
    let none : schema_refusal c.args.columns.items c.args.key.items c.args.partition c.args.granularity c.args.window ≡ None = cc (c.in_ok-refusal.ensures) in
    subst (λ (cs : List Column). length cs ≤ 64) (sym c.deref-in-None.ensures.value) (makes-schema _ _ _ _ _ none).few_columns

pub rule_of-partition-requires : goal.rule_of-partition-requires
rule_of-partition-requires c =
    let none : schema_refusal c.args.columns.items c.args.key.items c.args.partition c.args.granularity c.args.window ≡ None = cc (c.in_ok-refusal.ensures) in
    subst (λ (cs : List Column). length cs ≤ 64) (sym c.deref-in-None-3.ensures.value) (makes-schema _ _ _ _ _ none).few_columns

pub invariant_of-result : goal.invariant_of-result
invariant_of-result c =
    let none : schema_refusal c.args.columns.items c.args.key.items c.args.partition c.args.granularity c.args.window ≡ None = cc (c.in_ok-refusal.ensures) in
    let key : places_of c.args.columns.items c.args.key.items ≡ c.in_ok-key-in-None.key.items = cc (c.in_ok-key-in-None.ensures) in
    let rule : rule_of c.args.columns.items c.args.partition ≡ c.rule_of-partition.result = cc (c.rule_of-partition.ensures) in
    subst
    (λ (k : List ℕ). IsSchema (record { columns = c.args.columns.items; key = k; partition = c.rule_of-partition.result; granularity = c.args.granularity; window = c.args.window }))
    key
    (subst
    (λ (p : Option PartitionRule). IsSchema (record { columns = c.args.columns.items; key = places_of c.args.columns.items c.args.key.items; partition = p; granularity = c.args.granularity; window = c.args.window }))
    rule
    (makes-schema _ _ _ _ _ none))
