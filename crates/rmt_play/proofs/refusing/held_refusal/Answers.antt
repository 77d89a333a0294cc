use Rattle.std.proofs.Common.{◌∙◌, sym}
use Rattle.rmt_play.proofs.RefusedActs.{held-not, held-free}
use Rattle.rmt_play.proofs.refusing.held_refusal.Goals as goal
use Rattle.rmt_play.proofs.refusing.held_refusal.Goals.{else-syncs_first-via-then-syncs_first+else-not-may_fetch, else-syncs_first-via-else-syncs_first}

pub returns : goal.returns
returns g c = elim c.else-syncs_first.branch [
  | else-syncs_first-via-then-syncs_first+else-not-may_fetch w ↦ sym (held-free (g.E.Acting.seen c.args.engine.now) c.args.replica c.args.act.now (c.requires.up ∙ c.if-not-is_up.false) (sym w.may_fetch.ensures ∙ w.if-not-may_fetch.false))
  | else-syncs_first-via-else-syncs_first w ↦ sym (held-not (g.E.Acting.seen c.args.engine.now) c.args.replica c.args.act.now (c.requires.up ∙ c.if-not-is_up.false) (sym c.syncs_first.ensures ∙ w.if-syncs_first.false))
]
