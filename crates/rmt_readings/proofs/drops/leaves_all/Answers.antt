use Rattle.rmt_partset.specs.Snapshots.{names_in}
use Rattle.rmt_readings.proofs.DropTests.{mutation-keeps}
use Rattle.rmt_readings.proofs.drops.leaves_all.Goals as goal

pub returns-in_default : goal.returns-in_default
returns-in_default c = mutation-keeps (names_in c.args.parts.now) c.args.entry.now c.requires.none (λ p n e. c.in_default.not-DropRange p n e)
