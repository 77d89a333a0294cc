use Rattle.std.proofs.Common.{◌≡◌, subst}
use Rattle.std.specs.declared.option.Option.TheVariants.{Some}
use Rattle.rmt_play.specs.ActRefusals.{refused_asked}
use Rattle.rmt_values.specs.Rows.{Shape}
use Rattle.rmt_play.specs.OptimizeStatement.{IsAsked}
use Rattle.rmt_play.proofs.CommandLemmas.{found-holds, found-fails, optimizes-in, optimize-refused}
use Rattle.rmt_play.proofs.partition.optimize_in.Goals as goal

pub returns-in_ok-made-in-Ok-clause-executes : goal.returns-in_ok-made-in-Ok-clause-executes
returns-in_ok-made-in-Ok-clause-executes g c =
    let s = g.E.Acting.seen c.args.engine.now in
    let u = g.E.Acting.seen c.optimize.new.self in
    let named = subst (λ (x : Shape). IsAsked x.partition c.args.word.now c.in-Ok.asked) c.schema.ensures
    (found-holds c.in_ok-asked.field-0 c.in-Ok.asked (IsAsked c.schema.result.now.partition c.args.word.now) c.in-Ok.is c.in_ok-asked.ensures.ok) in
    λ table. optimizes-in s u c.args.replica table c.args.word.now c.in-Ok.asked c.in_ok-made-in-Ok.made.names c.in_ok-made-in-Ok.made.refused named c.in_ok-made-in-Ok.ensures.optimizes c.in_ok-made-in-Ok.ensures.events

pub returns-in-Err-clause-executes : goal.returns-in-Err-clause-executes
returns-in-Err-clause-executes g c =
    let why = found-fails c.in_ok-asked.field-0 c.in-Err.refusal (λ e. refused_asked c.schema.result.now.partition c.args.word.now ≡ Some e) c.in-Err.is c.in_ok-asked.ensures.refused in
    λ table. optimize-refused (g.E.Acting.seen c.args.engine.now) c.args.replica table c.args.word.now c.in-Err.refusal
    (subst (λ (x : Shape). refused_asked x.partition c.args.word.now ≡ Some c.in-Err.refusal) c.schema.ensures why)
