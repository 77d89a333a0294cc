use Rattle.std.proofs.Common.{◌∙◌, sym}
use Rattle.rmt_readings.proofs.QuorumLemmas.{one-covers, none-covers}
use Rattle.rmt_readings.proofs.quorum.parts_in_quorum.Goals as goal

pub returns-then-not-has_cover-clause-refused : goal.returns-then-not-has_cover-clause-refused
returns-then-not-has_cover-clause-refused c =
    none-covers c.args.quorum.now c.args.active.now c.in_ok-parts.parts c.waiting_of.result c.waiting_of.ensures c.in_ok-parts.ensures
    c.in-Some.last (sym c.last.ensures ∙ c.in-Some.is) (sym c.has_cover.ensures ∙ c.if-not-has_cover.true)

pub returns-clause-found : goal.returns-clause-found
returns-clause-found c =
    one-covers c.args.quorum.now c.args.active.now c.in_ok-parts.parts c.waiting_of.result c.waiting_of.ensures c.in_ok-parts.ensures
    c.in-Some.last (sym c.last.ensures ∙ c.in-Some.is) (sym c.has_cover.ensures ∙ c.if-not-has_cover.false)
