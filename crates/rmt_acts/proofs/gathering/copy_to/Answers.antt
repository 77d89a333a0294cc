use Rattle.std.proofs.Common.{◌∙◌, [], ◌∷◌}
use Rattle.rmt_events.specs.declared.event.Event.TheVariants as ev
use Rattle.rmt_acts.proofs.EventLists.{at-err, makes-more, reaches-made, stops-later}
use Rattle.rmt_acts.proofs.GatherActs.{copies-made, copies-known, copies-ups}
use Rattle.rmt_acts.proofs.gathering.copy_to.Goals as goal

pub returns-in_err-make-2-clause-err : goal.returns-in_err-make-2-clause-err
returns-in_err-make-2-clause-err c =
    at-err c.from_residual-in_err-make-2.result _
    (stops-later c.args.cluster.now c.make.new.cluster c.make-2.new.cluster (reaches-made c.args.cluster.now c.make.new.cluster (ev.Pull c.args.other ∷ []) c.in_ok-make.ensures.makes) c.in_err-make-2.ensures.err)

pub returns-in_err-make-3-clause-err : goal.returns-in_err-make-3-clause-err
returns-in_err-make-3-clause-err c =
    at-err c.from_residual-in_err-make-3.result _
    (stops-later c.args.cluster.now c.make-2.new.cluster c.make-3.new.cluster
    (reaches-made c.args.cluster.now c.make-2.new.cluster (ev.Pull c.args.other ∷ ev.Apply c.args.other c.args.entry ∷ [])
    (makes-more c.args.cluster.now c.make.new.cluster c.make-2.new.cluster (ev.Pull c.args.other ∷ []) (ev.Apply c.args.other c.args.entry ∷ []) c.in_ok-make.ensures.makes c.in_ok-make-2.ensures.makes)) c.in_err-make-3.ensures.err)

pub returns-clause-shows : goal.returns-clause-shows
returns-clause-shows c =
    copies-made c.args.cluster.now c.make.new.cluster c.make-2.new.cluster c.make-3.new.cluster c.args.entry c.args.writer c.args.other c.make.ensures.whole c.requires.may
    c.in_ok-make.ensures.makes c.in_ok-make-2.ensures.makes c.in_ok-make-3.ensures.makes

pub returns-clause-knows : goal.returns-clause-knows
returns-clause-knows c =
    copies-known c.args.cluster.now c.make.new.cluster c.make-2.new.cluster c.make-3.new.cluster c.args.entry c.args.writer c.args.other c.make.ensures.whole c.requires.may
    c.in_ok-make.ensures.makes c.in_ok-make-2.ensures.makes c.in_ok-make-3.ensures.makes

pub returns-clause-keeps : goal.returns-clause-keeps
returns-clause-keeps c = record {
  table = record { schema = c.make-3.ensures.keeps.schema ∙ (c.make-2.ensures.keeps.schema ∙ c.make.ensures.keeps.schema); replicas = c.make-3.ensures.keeps.replicas ∙ (c.make-2.ensures.keeps.replicas ∙ c.make.ensures.keeps.replicas) };
  ups = copies-ups c.args.cluster.now c.make.new.cluster c.make-2.new.cluster c.make-3.new.cluster c.args.entry c.args.other c.make.ensures.whole
      c.in_ok-make.ensures.makes c.in_ok-make-2.ensures.makes c.in_ok-make-3.ensures.makes;
}
