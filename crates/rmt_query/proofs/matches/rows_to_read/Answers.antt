use Rattle.std.proofs.Common.{◌≡◌, ℕ, List, [], true, get_or, sym, subst}
use Rattle.std.specs.declared.option.Option.{Option}
use Rattle.rmt_values.specs.declared.checked.Checked.{Checked}
use Rattle.rmt_keyrange.specs.Ranges.{IsRangeOf}
use Rattle.rmt_keyrange.proofs.Kept.{kept-rows}
use Rattle.rmt_keyrange.proofs.Within.{kept-within}
use Rattle.rmt_query.specs.Answers.{matches}
use Rattle.rmt_query.specs.Explained.{AreInChosen}
use Rattle.rmt_query.proofs.MatchLemmas.{within-alike}
use Rattle.rmt_query.proofs.matches.rows_to_read.Goals as goal

pub returns-in_ok-range-in-Some-clause-others : goal.returns-in_ok-range-in-Some-clause-others
returns-in_ok-range-in-Some-clause-others c = λ i row below key keeps.
    let filter = c.in-Some.filter in
    let range = c.in_ok-range-in-Some.ensures in
    let matched = subst (λ (o : Option Checked). matches o row ≡ true) c.in-Some.is keeps in
    let within = kept-within c.args.schema.now.key filter c.in_ok-range-in-Some.range row range matched in
    let alike = within-alike c.in_ok-range-in-Some.range.low c.in_ok-range-in-Some.range.high c.args.schema.now.key row (get_or c.args.part.now.rows i []) key within in
    let inside = kept-rows c.args.part.now c.marks-marks.ensures.part c.in_ok-range-in-Some.range.low c.in_ok-range-in-Some.range.high _ _ c.select-first.ensures.chosen i below (rw c.requires alike) in
    c.rows_of_granules.ensures.within i below inside.0 inside.1

pub returns-in_ok-range-in-Some-clause-chosen : goal.returns-in_ok-range-in-Some-clause-chosen
returns-in_ok-range-in-Some-clause-chosen c =
    subst (λ (o : Option Checked). AreInChosen o c.args.part.now c.rows_of_granules.result) (sym c.in-Some.is) (record {
      range = c.in_ok-range-in-Some.range;
      is_range = subst (λ (k : List ℕ). IsRangeOf k c.in-Some.filter c.in_ok-range-in-Some.range) (sym c.requires) c.in_ok-range-in-Some.ensures;
      first = c.select-first.result.0;
      past = c.select-first.result.1;
      chosen = c.select-first.ensures.chosen;
      within = c.rows_of_granules.ensures.only;
    })
