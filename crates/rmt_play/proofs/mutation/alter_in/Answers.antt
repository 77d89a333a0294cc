use Rattle.std.proofs.Common.{◌≡◌, ℕ, subst, arith}
use Rattle.std.specs.declared.option.Option.TheVariants.{None, Some}
use Rattle.std.specs.declared.result.Result.{Result}
use Rattle.rmt_values.specs.Rows.{Shape}
use Rattle.rmt_values.specs.Commands.{CommandFits}
use Rattle.rmt_values.specs.declared.mutation.Mutation.{Mutation}
use Rattle.rmt_values.specs.declared.mutation.Mutation.TheVariants as commands
use Rattle.rmt_expr.specs.Sizes.{IsSmallCommand}
use Rattle.rmt_expr.specs.Mutations.{IsCheckedMutation, mutation_refusal}
use Rattle.rmt_reply.specs.declared.line.Line.TheVariants as lines
use Rattle.rmt_reply.specs.declared.refusal.Refusal.{Refusal}
use Rattle.rmt_play.specs.ActRefusals.{refused_command}
use Rattle.rmt_acting.specs.Acting.{Brings}
use Rattle.rmt_statement_model.specs.ActOutcomes.{MutatesOr}
use Rattle.rmt_play.proofs.CommandLemmas.{found-holds, found-fails, alters-in, alter-refused}
use Rattle.rmt_play.proofs.mutation.alter_in.Goals as goal
use Rattle.rmt_play.proofs.mutation.alter_in.Goals.{In-Ok}

-- the command was checked over the schema
checked : (g : _) (c : In-Ok g) → IsCheckedMutation c.schema.result.now c.args.command.now c.in-Ok.checked
checked g c = found-holds c.in_ok-checked.field-0 c.in-Ok.checked (IsCheckedMutation c.schema.result.now c.args.command.now) c.in-Ok.is c.in_ok-checked.ensures.ok

-- it isn't refused
known : (g : _) (c : In-Ok g) → mutation_refusal c.schema.result.now c.args.command.now ≡ None
known g c = found-holds c.in_ok-checked.field-0 c.in-Ok.checked (λ _. mutation_refusal c.schema.result.now c.args.command.now ≡ None) c.in-Ok.is c.in_ok-checked.ensures.known

deeper : (command : Mutation) → IsSmallCommand 320 command → IsSmallCommand 512 command
deeper (commands.Update sets filter) small = (small.0, omega (arith, small.1))
deeper (commands.Delete filter) small = omega (arith, small)

pub range_of_command-requires : goal.range_of_command-requires
range_of_command-requires g c =
    let fits = found-holds c.in_ok-checked.field-0 c.in-Ok.checked (CommandFits c.schema.result.now) c.in-Ok.is c.in_ok-checked.ensures.fits in
    let k = (goal.at.range_of_command-requires g c).In-Ok in
    (c.schema.result.now, c.args.command.now, checked g k, fits, deeper c.args.command.now c.requires.small, c.check.ensures.schema, known g k)

pub returns-in-Ok-2-clause-executes : goal.returns-in-Ok-2-clause-executes
returns-in-Ok-2-clause-executes g c =
    let s = g.E.Acting.seen c.args.engine.now in
    let u = g.E.Acting.seen c.mutate.new.self in
    let k = (goal.at.returns-in-Ok-2-clause-executes g c).In-Ok in
    λ table r. alters-in s u r table c.args.command.now c.in-Ok.checked (lines.Mutation c.in-Ok-2.id)
    (subst (λ (x : Shape). mutation_refusal x c.args.command.now ≡ None) c.schema.ensures (known g k)) (subst (λ (x : Shape). IsCheckedMutation x c.args.command.now c.in-Ok.checked) c.schema.ensures (checked g k))
    (subst (λ (m : Result ℕ Refusal). Brings s (MutatesOr c.in-Ok.checked m) u) c.in-Ok-2.is c.in_ok-id-in-Ok.ensures.mutates)
    c.in_ok-id-in-Ok.ensures.events

pub returns-in-Err-2-clause-executes : goal.returns-in-Err-2-clause-executes
returns-in-Err-2-clause-executes g c =
    let s = g.E.Acting.seen c.args.engine.now in
    let u = g.E.Acting.seen c.mutate.new.self in
    let k = (goal.at.returns-in-Err-2-clause-executes g c).In-Ok in
    λ table r. alters-in s u r table c.args.command.now c.in-Ok.checked (lines.Refused c.in-Err-2.refusal)
    (subst (λ (x : Shape). mutation_refusal x c.args.command.now ≡ None) c.schema.ensures (known g k)) (subst (λ (x : Shape). IsCheckedMutation x c.args.command.now c.in-Ok.checked) c.schema.ensures (checked g k))
    (subst (λ (m : Result ℕ Refusal). Brings s (MutatesOr c.in-Ok.checked m) u) c.in-Err-2.is c.in_ok-id-in-Ok.ensures.mutates)
    c.in_ok-id-in-Ok.ensures.events

pub returns-in-Err-clause-executes : goal.returns-in-Err-clause-executes
returns-in-Err-clause-executes g c =
    let why = found-fails c.in_ok-checked.field-0 c.in-Err.refusal (λ e. refused_command (mutation_refusal c.schema.result.now c.args.command.now) ≡ Some e) c.in-Err.is c.in_ok-checked.ensures.refused in
    λ table r. alter-refused (g.E.Acting.seen c.args.engine.now) r table c.args.command.now c.in-Err.refusal
    (subst (λ (x : Shape). refused_command (mutation_refusal x c.args.command.now) ≡ Some c.in-Err.refusal) c.schema.ensures why)
