use Rattle.rmt_workers.proofs.StepLemmas.{keeps-both}
use Rattle.rmt_workers.proofs.WaitLemmas.{part-known, part-more, part-none, part-refused}
use Rattle.rmt_workers.proofs.crew.Crew.mutate_all.Goals as goal

pub returns-in_err-mutate_part-clause-keeps : goal.returns-in_err-mutate_part-clause-keeps
returns-in_err-mutate_part-clause-keeps g c = keeps-both c.args.pass.now c.parts.pass c.mutate_part.new.pass c.args.table c.parts.invariant.2 c.in_err-mutate_part.ensures.keeps

pub parts-preserved : goal.parts-preserved
parts-preserved g c = (
  tt,
  tt,
  keeps-both c.args.pass.now c.parts.pass c.mutate_part.new.pass c.args.table c.parts.invariant.2 c.in_ok-mutate_part.ensures.keeps,
  part-known c.parts.pass c.mutate_part.new.pass c.args.table c.args.id c.in_ok-mutate_part.field-0 c.in_ok-mutate_part.ensures.mutates c.in-Part.is c.parts.invariant.3,
  λ first h. part-more c.parts.pass c.mutate_part.new.pass c.args.table c.args.id c.in_ok-mutate_part.field-0 c.in_ok-mutate_part.ensures.mutates c.in-Part.is first (c.parts.invariant.4 first h),
)

pub returns-in-NonePending-clause-mutates : goal.returns-in-NonePending-clause-mutates
returns-in-NonePending-clause-mutates g c =
    part-none c.parts.pass c.mutate_part.new.pass c.args.table c.args.id c.in_ok-mutate_part.field-0 c.in_ok-mutate_part.ensures.mutates c.args.pass.now c.in-NonePending.is c.parts.invariant.4

pub returns-in-NonePending-clause-keeps : goal.returns-in-NonePending-clause-keeps
returns-in-NonePending-clause-keeps g c = keeps-both c.args.pass.now c.parts.pass c.mutate_part.new.pass c.args.table c.parts.invariant.2 c.in_ok-mutate_part.ensures.keeps

pub returns-in-Refused-clause-mutates : goal.returns-in-Refused-clause-mutates
returns-in-Refused-clause-mutates g c =
    part-refused c.parts.pass c.mutate_part.new.pass c.args.table c.args.id c.in_ok-mutate_part.field-0 c.in_ok-mutate_part.ensures.mutates c.args.pass.now c.in-Refused.why c.in-Refused.is c.parts.invariant.4

pub returns-in-Refused-clause-keeps : goal.returns-in-Refused-clause-keeps
returns-in-Refused-clause-keeps g c = keeps-both c.args.pass.now c.parts.pass c.mutate_part.new.pass c.args.table c.parts.invariant.2 c.in_ok-mutate_part.ensures.keeps
