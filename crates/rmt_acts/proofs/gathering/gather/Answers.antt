use Rattle.std.proofs.Common.{◌+◌, ◌∙◌, arith, sym}
use Rattle.rmt_acts.proofs.EventLists.{at-err, reaches-gathered, stops-later}
use Rattle.rmt_acts.proofs.GatherActs.{gathers-first, gathers-on, gathers-by, may-copy}
use Rattle.rmt_acts.proofs.gathering.gather.Goals as goal

pub others-init : goal.others-init
others-init c = (
  gathers-first c.args.cluster.now c.make.new.cluster c.args.replica c.args.entry c.make.ensures.whole c.requires.idle c.requires.knows c.in_ok-make.ensures.makes c.make.ensures.keeps.schema c.make.ensures.keeps.replicas,
  omega arith,
)

pub copy_to-requires-clause-may : goal.copy_to-requires-clause-may
copy_to-requires-clause-may c = may-copy c.args.cluster.now c.others.cluster c.args.replica c.args.entry c.others.other (c.others.other + 1) c.requires.idle.up c.others.invariant.0 (sym c.is_asked.ensures.asked ∙ c.if-is_asked.true)

pub others-preserved-in-Continue-branch-2 : goal.others-preserved-in-Continue-branch-2
others-preserved-in-Continue-branch-2 c =
    let l = c.others-test.true in (
      gathers-on c.args.cluster.now c.others.cluster c.copy_to.new.cluster c.args.replica c.args.entry c.others.other (c.others.other + 1) (omega arith) c.others.invariant.0 (sym c.is_asked.ensures.asked ∙ c.if-is_asked.true)
          c.in_ok-copy_to.ensures.shows c.in_ok-copy_to.ensures.events c.in_ok-copy_to.ensures.keeps.ups c.in_ok-copy_to.ensures.free c.copy_to.ensures.keeps.table.schema c.copy_to.ensures.keeps.table.replicas,
      omega (arith, l),
    )

pub others-preserved : goal.others-preserved
others-preserved c =
    let l = c.others-test.true in (
      gathers-by c.args.cluster.now c.others.cluster c.args.replica c.args.entry c.others.other (c.others.other + 1) (omega arith) c.others.invariant.0 (sym c.is_asked.ensures.asked ∙ c.if-is_asked.false),
      omega (arith, l),
    )

pub returns-in_err-copy_to-clause-err : goal.returns-in_err-copy_to-clause-err
returns-in_err-copy_to-clause-err c =
    at-err c.from_residual-in_err-copy_to.result _
    (stops-later c.args.cluster.now c.others.cluster c.copy_to.new.cluster (reaches-gathered c.args.cluster.now c.others.cluster c.args.replica c.args.entry c.others.other c.others.invariant.0.events) c.in_err-copy_to.ensures.err)
