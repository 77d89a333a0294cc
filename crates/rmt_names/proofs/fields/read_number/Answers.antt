use Rattle.std.proofs.Common.{lit<}
use Rattle.std.proofs.lemmas.Bool.Decides.{not_from_Decides}
use Rattle.std.proofs.lemmas.Str.Pattern.{starts_char}
use Rattle.rmt_names.proofs.DecimalLemmas.{decimal_of_zero, decimal_only_zero, decimal_unsigned, decimal_nonzero, decimal_read, decimal_only}
use Rattle.rmt_names.proofs.fields.read_number.Goals as goal
use Rattle.rmt_names.proofs.fields.read_number.Goals.{then-starts_with-via-then-starts_with, then-starts_with-via-else-starts_with+then-starts_with-2}

pub returns-then-eq-clause-read : goal.returns-then-eq-clause-read
returns-then-eq-clause-read c = decimal_of_zero _ (cc)

pub returns-then-eq-clause-only : goal.returns-then-eq-clause-only
returns-then-eq-clause-only c = decimal_only_zero _ (cc)

pub returns-then-starts_with-clause-only : goal.returns-then-starts_with-clause-only
returns-then-starts_with-clause-only c n small is =
    elim c.then-starts_with.branch [
      | then-starts_with-via-then-starts_with w ↦
          let padded = starts_char 48 _ _ c.starts_with.ensures.cases (lit< tt) (lit< tt) in
          absurd (decimal_nonzero _ n small is (cc) (padded.0 w.if-starts_with.true))
      | then-starts_with-via-else-starts_with+then-starts_with-2 w ↦
          let signed = starts_char 43 _ _ w.starts_with-else-starts_with.ensures.cases (lit< tt) (lit< tt) in
          absurd (decimal_unsigned _ n small is (signed.0 w.if-starts_with-2.true))
    ]

pub returns-clause-read : goal.returns-clause-read
returns-clause-read c =
    let padded = starts_char 48 _ _ c.starts_with.ensures.cases (lit< tt) (lit< tt) in
    let signed = starts_char 43 _ _ c.starts_with-else-starts_with.ensures.cases (lit< tt) (lit< tt) in
    let not_padded = not_from_Decides _ padded c.if-starts_with.false in
    let not_signed = not_from_Decides _ signed c.if-starts_with-2.false in
    rw c.ok.ensures.value (decimal_read _ _ c.parse.ensures.value.0 not_signed not_padded)

pub returns-clause-only : goal.returns-clause-only
returns-clause-only c = rw c.ok.ensures.value (decimal_only _ _ c.parse.ensures.value.0)
