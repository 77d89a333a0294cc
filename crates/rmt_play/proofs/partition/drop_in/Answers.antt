use Rattle.std.proofs.Common.{◌≡◌, ℕ, subst}
use Rattle.std.specs.declared.option.Option.TheVariants.{Some}
use Rattle.std.specs.declared.result.Result.{Result}
use Rattle.rmt_values.specs.Rows.{Shape}
use Rattle.rmt_statements.specs.Partitions.{partition_named}
use Rattle.rmt_reply.specs.declared.line.Line.TheVariants as lines
use Rattle.rmt_reply.specs.declared.refusal.Refusal.{Refusal}
use Rattle.rmt_play.specs.ActRefusals.{refused_partition}
use Rattle.rmt_acting.specs.Acting.{Brings}
use Rattle.rmt_statement_model.specs.ActOutcomes.{DropsOr}
use Rattle.rmt_play.proofs.CommandLemmas.{found-holds, found-fails, dropped, drops-in, drop-refused}
use Rattle.rmt_play.proofs.partition.drop_in.Goals as goal

pub returns-in-Ok-2-clause-executes : goal.returns-in-Ok-2-clause-executes
returns-in-Ok-2-clause-executes g c =
    let s = g.E.Acting.seen c.args.engine.now in
    let u = g.E.Acting.seen c.drop_partition.new.self in
    let named = subst (λ (x : Shape). partition_named x.partition c.args.word.now ≡ Some c.in-Ok.partition) c.schema.ensures
    (found-holds c.in_ok-partition.field-0 c.in-Ok.partition (λ p. partition_named c.schema.result.now.partition c.args.word.now ≡ Some p) c.in-Ok.is c.in_ok-partition.ensures.ok) in
    λ table. drops-in s u c.args.replica table c.args.word.now c.in-Ok.partition (lines.Dropped c.in-Ok.partition c.in-Ok-2.below) named
    (dropped s u c.args.replica c.in-Ok.partition c.in-Ok-2.below (subst (λ (m : Result ℕ Refusal). Brings s (DropsOr c.args.replica c.in-Ok.partition m) u) c.in-Ok-2.is c.in_ok-below-in-Ok.ensures.drops))
    c.in_ok-below-in-Ok.ensures.events

pub returns-in-Err-2-clause-executes : goal.returns-in-Err-2-clause-executes
returns-in-Err-2-clause-executes g c =
    let s = g.E.Acting.seen c.args.engine.now in
    let u = g.E.Acting.seen c.drop_partition.new.self in
    let named = subst (λ (x : Shape). partition_named x.partition c.args.word.now ≡ Some c.in-Ok.partition) c.schema.ensures
    (found-holds c.in_ok-partition.field-0 c.in-Ok.partition (λ p. partition_named c.schema.result.now.partition c.args.word.now ≡ Some p) c.in-Ok.is c.in_ok-partition.ensures.ok) in
    λ table. drops-in s u c.args.replica table c.args.word.now c.in-Ok.partition (lines.Refused c.in-Err-2.refusal) named
    (subst (λ (m : Result ℕ Refusal). Brings s (DropsOr c.args.replica c.in-Ok.partition m) u) c.in-Err-2.is c.in_ok-below-in-Ok.ensures.drops)
    c.in_ok-below-in-Ok.ensures.events

pub returns-in-Err-clause-executes : goal.returns-in-Err-clause-executes
returns-in-Err-clause-executes g c =
    let why = found-fails c.in_ok-partition.field-0 c.in-Err.refusal (λ e. refused_partition (partition_named c.schema.result.now.partition c.args.word.now) ≡ Some e) c.in-Err.is c.in_ok-partition.ensures.refused in
    λ table. drop-refused (g.E.Acting.seen c.args.engine.now) c.args.replica table c.args.word.now c.in-Err.refusal
    (subst (λ (x : Shape). refused_partition (partition_named x.partition c.args.word.now) ≡ Some c.in-Err.refusal) c.schema.ensures why)
