use Rattle.std.proofs.Common.{◌≡◌, ◌∙◌, length, arith, ap, subst}
use Rattle.rmt_history.specs.Copies.{History}
use Rattle.rmt_model.specs.Lawful.{Lawful}
use Rattle.rmt_partset.specs.ActiveParts.{part_names}
use Rattle.rmt_known.specs.KnownTables.{client_of}
use Rattle.rmt_readings.proofs.CheckLemmas.{parts-apart, replica-checked, checked-at}
use Rattle.rmt_readings.proofs.checked.is_checked.Goals as goal

pub is_checked_at-requires-clause-names : goal.is_checked_at-requires-clause-names
is_checked_at-requires-clause-names c = (parts-apart c.args.replica.now c.parts-parts.result.now c.copy-own.ensures.standing (c.parts-parts.ensures.all ∙ c.requires.parts)).0

pub is_checked_at-requires-clause-apart : goal.is_checked_at-requires-clause-apart
is_checked_at-requires-clause-apart c = (parts-apart c.args.replica.now c.parts-parts.result.now c.copy-own.ensures.standing (c.parts-parts.ensures.all ∙ c.requires.parts)).1

pub returns-then-not-is_checked_at-clause-no : goal.returns-then-not-is_checked_at-clause-no
returns-then-not-is_checked_at-clause-no c = λ f k.
    let n = c.is_checked_at.ensures.no c.if-not-is_checked_at.true in
    let r = c.args.replica.now in
    let lawful = subst (λ (h : History). Lawful h.schema h.log) c.copy.ensures c.len-len.ensures.lawful in
    n.1 (checked-at c.args.known.now.schema r.log c.args.known.now.log ((client_of c.args.known.now).known r.number) (part_names r.parts) c.places.i lawful c.requires.prefix c.copy-own.ensures.standing.fair.made_here n.0 k)

pub returns-clause-yes : goal.returns-clause-yes
returns-clause-yes c = λ t.
    let e : c.len-len.result ≡ length c.args.known.now.log = c.len-len.ensures.len ∙ ap (λ (h : History). length h.log) c.copy.ensures in
    let f = c.places-test.false in
    replica-checked c.args.known.now c.args.replica.now c.first_pending-from.result c.copy-own.ensures.standing c.requires.prefix c.first_pending-from.ensures.below
    (λ j l m o. c.places.invariant j l (omega (arith, m, e, f)) o)
