use Rattle.std.proofs.Common.{inl, inr}
use Rattle.std.specs.Arc.{arc_value}
use Rattle.rmt_model.proofs.Drops.{after-dropped, dropped-after}
use Rattle.rmt_replica.proofs.StepLemmas.{covered-name}
use Rattle.rmt_readings.proofs.checked.is_answered.Goals as goal

pub returns-in-Some-clause-yes : goal.returns-in-Some-clause-yes
returns-in-Some-clause-yes c = λ t. inl (covered-name c.args.replica.now.parts (arc_value c.in-Some.field-0.now) c.args.name.now c.in-Some.ensures.is_in c.in-Some.ensures.covers)

pub returns-in-None-clause-yes : goal.returns-in-None-clause-yes
returns-in-None-clause-yes c = λ t. inr (after-dropped c.args.copy.now.log c.args.i c.requires.entry c.args.name.now c.requires.stands c.requires.makes (c.dropped_after.ensures.0 t))

pub returns-in-None-clause-no : goal.returns-in-None-clause-no
returns-in-None-clause-no c = λ f k. elim k [
  | inl h ↦ c.in-None.ensures h.name h.is_in h.covers
  | inr d ↦
      let t = c.dropped_after.ensures.1 (dropped-after c.args.copy.now.schema c.args.copy.now.log c.args.i c.requires.entry c.args.name.now c.len-length.ensures.lawful c.requires.stands c.requires.makes d) in
      absurd (cc)
]
