use Rattle.std.proofs.lemmas.Option.{none-some}
use Rattle.rmt_names.proofs.TextLemmas.{last_cut, last_uncut}
use Rattle.rmt_names.proofs.fields.read_last_fields.Goals as goal

pub returns-in_err-read_small_number-clause-only :
    goal.returns-in_err-read_small_number-clause-only
returns-in_err-read_small_number-clause-only c level mutation level_fits mutation_fits is =
    let (level_is, _) = last_uncut _ c.in_default.ensures.cases level mutation level_fits is in
    absurd (none-some level (c.in_err-read_small_number.ensures.only level level_fits level_is))

pub returns-in_default-clause-only : goal.returns-in_default-clause-only
returns-in_default-clause-only c level mutation level_fits mutation_fits is =
    let (level_is, none) = last_uncut _ c.in_default.ensures.cases level mutation level_fits is in
    let read = c.in_ok-read_small_number.ensures.only level level_fits level_is in
    cc

pub returns-in_err-mutation-clause-only : goal.returns-in_err-mutation-clause-only
returns-in_err-mutation-clause-only c level mutation level_fits mutation_fits is =
    let (_, mutation_is, _) = last_cut _ c.in-Some.level c.in-Some.mutation c.in-Some.ensures.cases level mutation level_fits is in
    absurd (none-some mutation (c.in_err-mutation.ensures.only mutation mutation_fits mutation_is))

pub returns-then-mutation-eq0-clause-only : goal.returns-then-mutation-eq0-clause-only
returns-then-mutation-eq0-clause-only c level mutation level_fits mutation_fits is =
    let (_, mutation_is, some) = last_cut _ c.in-Some.level c.in-Some.mutation c.in-Some.ensures.cases level mutation level_fits is in
    let read = c.in_ok-mutation.ensures.only mutation mutation_fits mutation_is in
    absurd (some (cc))

pub returns-in_err-read_small_number-2-clause-only :
    goal.returns-in_err-read_small_number-2-clause-only
returns-in_err-read_small_number-2-clause-only c level mutation level_fits mutation_fits is =
    let (level_is, _, _) = last_cut _ c.in-Some.level c.in-Some.mutation c.in-Some.ensures.cases level mutation level_fits is in
    absurd (none-some level (c.in_err-read_small_number-2.ensures.only level level_fits level_is))

pub returns-clause-only : goal.returns-clause-only
returns-clause-only c level mutation level_fits mutation_fits is =
    let (level_is, mutation_is, _) = last_cut _ c.in-Some.level c.in-Some.mutation c.in-Some.ensures.cases level mutation level_fits is in
    let read_level = c.in_ok-read_small_number-2.ensures.only level level_fits level_is in
    let read_mutation = c.in_ok-mutation.ensures.only mutation mutation_fits mutation_is in
    cc
