use Rattle.std.proofs.Common.{◌≡◌, ◌-◌, ◌++◌, []}
use Rattle.rmt_storm.specs.Storms.{first_lines, turns_text}
use Rattle.rmt_storm.specs.Steps.{seen}
use Rattle.rmt_storm.proofs.scripts.script.Given as goal

abbrev pub invariant-turns : goal.invariant-turns
invariant-turns l = l.out.items ++ turns_text (l.fn.turns - l.counter) (seen l.storm) ≡ first_lines ++ turns_text l.fn.turns (record { state = l.fn.seed; last = []; alters = 0 })
