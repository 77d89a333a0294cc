use Rattle.std.proofs.Common.{◌∙◌, ap, subst}
use Rattle.std.specs.Prelude.{IsTrue}
use Rattle.std.specs.BTreeMap.{get}
use Rattle.std.specs.declared.option.Option.{Option}
use Rattle.std.specs.Prelude.{ℕ}
use Rattle.std.specs.Arc.{arc_value}
use Rattle.rmt_model.specs.Live.{DroppedAfter}
use Rattle.rmt_history.specs.Copies.{History, entries, partition_cmp}
use Rattle.rmt_history.proofs.LastDrops.{takes-away-is}
use Rattle.rmt_history.proofs.copy.LogCopy.dropped_after.Goals as goal

pub returns : goal.returns
returns c =
    let found = c.copied-last.ensures ∙ (c.get.ensures.value ∙ (ap (λ (p : Option ℕ). get partition_cmp c.self.inside.drops p) c.partition.ensures ∙ c.self.invariant.dropped c.args.name.now.partition)) in
    subst (λ (h : History). (IsTrue c.takes_after.result → DroppedAfter h.log c.args.i c.args.name.now) × (DroppedAfter h.log c.args.i c.args.name.now → IsTrue c.takes_after.result)) c.self.view_is
    (takes-away-is (arc_value c.self.inside.schema) (entries c.self.inside.seen.items) c.args.i c.args.name.now c.copied-last.result c.takes_after.result c.self.invariant.lawful found c.takes_after.ensures)
