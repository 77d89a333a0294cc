use Rattle.std.proofs.Common.{◌≡◌, ℕ, List, ◌∙◌, length, inr, sym, ap, arith}
use Rattle.std.specs.declared.option.Option.{Option}
use Rattle.std.specs.declared.option.Option.TheVariants.{Some, None}
use Rattle.rmt_names.specs.Names.{Name}
use Rattle.rmt_entries.specs.declared.entry.Entry.{Entry}
use Rattle.rmt_model.specs.Live.{live}
use Rattle.rmt_model.specs.Choices.{next_among}
use Rattle.rmt_events.specs.Draws.{next_mutation}
use Rattle.rmt_jobs.proofs.MutationLemmas.{next-below}
use Rattle.rmt_jobs.proofs.next.mutate_or_idle.Goals as goal

-- what is found in a copy of the log, up to its length
next-found : (copy log : List Entry) (len : ℕ) (found : Option (Name × ℕ)) → copy ≡ log → len ≡ length copy
    → found ≡ next_among copy len (live copy) → next_mutation log ≡ found
next-found copy log len found e n f =
    sym (f ∙ (ap (λ (k : ℕ). next_among copy k (live copy)) n ∙ ap next_mutation e))

pub returns-in_default : goal.returns-in_default
returns-in_default c =
    let copy = c.copy-copy.result.now.log in
    let e = c.copy-copy.ensures.log in
    let found = sym c.in_default.is ∙ c.next_mutation.ensures in
    let none = next-found copy c.args.replica.now.log c.len.result None e c.len.ensures.len found in
    λ len free alone. inr (free, alone, none)

pub overflow_cast-upto : goal.overflow_cast-upto
overflow_cast-upto c =
    let copy = c.copy-copy.result.now.log in
    let found = sym c.next_mutation.ensures ∙ c.in-Some.is in
    let b = next-below copy c.len.result (live copy) c.in-Some.found found in
    let l = ap length c.copy-copy.ensures.log in
    omega (arith, b, l)

pub returns : goal.returns
returns c =
    let copy = c.copy-copy.result.now.log in
    let e = c.copy-copy.ensures.log in
    let m = c.in-Some.found in
    let found = sym c.in-Some.is ∙ c.next_mutation.ensures in
    let some = next-found copy c.args.replica.now.log c.len.result (Some m) e c.len.ensures.len found in
    λ len free alone. (free, alone, some)
