use Rattle.std.proofs.Common.{arith}
use Rattle.rmt_model.specs.Lawful.{MakesAt}
use Rattle.rmt_model.specs.CopiedParts.{IsCopied}
use Rattle.rmt_model.proofs.Lists.{Each-at}
use Rattle.rmt_model.proofs.Drops.{entry-below}
use Rattle.rmt_events.specs.Whole.{Follows}
use Rattle.rmt_events_tests.proofs.excluded.a_part_past_the_copy_is_not_fetched.Goals as goal

pub returns-clause-no_step : goal.returns-clause-no_step
returns-clause-no_step c = λ s x i part past k. let w = k.within in omega (arith, past, w)

pub returns-clause-not_whole : goal.returns-clause-not_whole
returns-clause-not_whole c = λ s x part h k past w.
    let f = Each-at (Follows s) s.replicas x w.follow h in
    let m = (Each-at (λ o. MakesAt x.log o.place o.name × IsCopied s.table.schema x.log o) x.parts part f.stands.parts k).0 in
    let b = entry-below x.log part.place m.entry m.stands in
    omega (arith, past, b)
