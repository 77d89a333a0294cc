use Rattle.std.proofs.Common.{◌+◌, refl, sym, arith, ◌∙◌}
use Rattle.rmt_model.specs.Live.{live}
use Rattle.rmt_pass.proofs.KnownLemmas.{on-err}
use Rattle.rmt_pass.proofs.MutateLemmas.{first-waits, place-below, none-left, some-left, first-mutable}
use Rattle.rmt_pass.proofs.pass.mutate.append_next.Goals as goal

pub overflow_add-place : goal.overflow_add-place
overflow_add-place g c =
    let a = place-below c.args.copy.now.log c.args.id c.place_of-place.result c.place_of-place.ensures in
    let b = c.len-entries.ensures.len in
    let d = c.len-entries.ensures.small in
    omega (arith, a, b, d)

pub returns-in_default-clause-ok : goal.returns-in_default-clause-ok
returns-in_default-clause-ok g c = (none-left c.args.copy.now.schema c.args.copy.now.log c.len-entries.ensures.lawful c.args.id c.place_of-place.result c.place_of-place.ensures (sym c.next_mutation.ensures ∙ c.in_default.is), refl)

pub append_mutate-requires-clause-pending : goal.append_mutate-requires-clause-pending
append_mutate-requires-clause-pending g c =
    let f = first-waits c.args.copy.now.log (c.place_of-place.result + 1) (live c.args.copy.now.log) c.in-Some.found.0 c.in-Some.found.1 (sym c.next_mutation.ensures ∙ c.in-Some.is) in
    first-mutable c.args.copy.now.schema c.args.copy.now.log c.len-entries.ensures.lawful c.args.id c.place_of-place.result c.place_of-place.ensures _ _ f

pub returns-in_err-append_mutate-clause-waits : goal.returns-in_err-append_mutate-clause-waits
returns-in_err-append_mutate-clause-waits g c =
    let f = first-waits c.args.copy.now.log (c.place_of-place.result + 1) (live c.args.copy.now.log) c.in-Some.found.0 c.in-Some.found.1 (sym c.next_mutation.ensures ∙ c.in-Some.is) in
    on-err c.from_residual.result _ (some-left c.args.copy.now.schema c.args.copy.now.log c.len-entries.ensures.lawful c.args.id c.place_of-place.result c.place_of-place.ensures c.in-Some.found.0 c.in-Some.found.1 f)

pub returns-clause-ok : goal.returns-clause-ok
returns-clause-ok g c =
    let f = first-waits c.args.copy.now.log (c.place_of-place.result + 1) (live c.args.copy.now.log) c.in-Some.found.0 c.in-Some.found.1 (sym c.next_mutation.ensures ∙ c.in-Some.is) in
    record {
      place = c.place_of-place.result;
      is_place = c.place_of-place.ensures;
      part = c.in-Some.found.0;
      last = c.in-Some.found.1;
      pending = f.pending;
      is_live = f.is_in;
      appends = c.in_ok-append_mutate.ensures.ok;
    }
