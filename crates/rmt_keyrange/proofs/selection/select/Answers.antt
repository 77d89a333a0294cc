use Rattle.rmt_keyrange.proofs.Kept.{kept-rows}
use Rattle.rmt_keyrange.proofs.Within.{kept-within}
use Rattle.rmt_keyrange.proofs.selection.select.Goals as goal

pub returns-clause-kept : goal.returns-clause-kept
returns-clause-kept c = λ filter range i below keeps.
    kept-rows c.args.part.now c.marks-marks.ensures.part c.args.range.now.low c.args.range.now.high _ _ c.chosen_by.ensures.chosen i below
    (kept-within c.args.part.now.key filter c.args.range.now _ range keeps)
