use Rattle.std.proofs.Common.{◌<◌, ◌^◌, length, take}
use Rattle.rmt_model.specs.Words.{Each}
use Rattle.rmt_readings.proofs.readable.have_few_rows.Given as goal

abbrev pub invariant-parts : goal.invariant-parts
invariant-parts l = Each (λ part. length part.rows.rows < 2 ^ 32) (take l.part-index l.parts)
