use Rattle.std.proofs.Common.{◌∙◌, ◌++◌, List, ℕ, ap}
use Rattle.rmt_storm.specs.Storms.{last_lines}
use Rattle.rmt_storm.specs.Steps.{seen}
use Rattle.rmt_storm.proofs.StormLemmas.{all-turns, turn-text}
use Rattle.rmt_storm.proofs.scripts.script.Goals as goal

pub turns-preserved : goal.turns-preserved
turns-preserved c = turn-text c.args.turns c.turns.counter (seen c.turns.storm) (seen c.turn.new.self) c.turns.out.items c.turn.new.out.items _ c.turns-test.true c.in_ok-turn.ensures.lines c.in_ok-turn.ensures.next c.turns.invariant

pub returns : goal.returns
returns c = c.in_ok-push_text-2.ensures ∙ ap (λ (t : List ℕ). t ++ last_lines) (all-turns c.args.turns c.turns.counter (seen c.turns.storm) c.turns.out.items _ c.turns-test.false c.turns.invariant)
