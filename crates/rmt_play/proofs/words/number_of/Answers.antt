use Rattle.std.proofs.Common.{◌≡◌, ℕ, List, [], ◌∷◌, false, nat_eq, subst}
use Rattle.std.specs.List.{starts_with}
use Rattle.rmt_play.proofs.WordLemmas.{no-plus, parsed-number, unparsed-number}
use Rattle.rmt_play.proofs.words.number_of.Goals as goal

pub returns-in-Ok-clause-number : goal.returns-in-Ok-clause-number
returns-in-Ok-clause-number c = parsed-number c.args.least c.args.most c.args.word.now c.parse.result c.in-Ok.number c.parse.ensures.value.0 (no-plus c.args.word.now (subst (λ (l : List ℕ). false ≡ starts_with nat_eq l (43 ∷ [])) c.as_bytes.ensures.value c.if-starts_with.ensures.value)) c.in-Ok.is c.if-word-gt10.false c.if-least-number.true c.if-number-most.true

pub returns-in_default-3-clause-number : goal.returns-in_default-3-clause-number
returns-in_default-3-clause-number c = unparsed-number c.args.least c.args.most c.args.word.now c.parse.result c.in_default.field-0 c.ranges.most.fits c.parse.ensures.value.0 c.in_default.is
