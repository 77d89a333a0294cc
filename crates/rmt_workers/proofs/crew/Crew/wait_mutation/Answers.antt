use Rattle.std.proofs.Common.{List, ap, subst, ◌∙◌}
use Rattle.rmt_entries.specs.declared.entry.Entry.{Entry}
use Rattle.rmt_history.specs.Copies.{History}
use Rattle.rmt_statement_model.specs.LostSources.{LacksSource}
use Rattle.rmt_live_names.specs.Places.{IsPlaceOf}
use Rattle.rmt_known.specs.KnownTables.{Known}
use Rattle.rmt_pass.specs.Passes.{KeepsPass, TakesStep, client_at, up_in}
use Rattle.rmt_pass.proofs.KnownLemmas.{on-err}
use Rattle.rmt_workers.specs.Crews.{Saw}
use Rattle.rmt_workers.proofs.StepLemmas.{from-none, keeps-both}
use Rattle.rmt_workers.proofs.WaitLemmas.{none-mutated, saw-known, waits-or}
use Rattle.rmt_workers.proofs.crew.Crew.wait_mutation.Goals as goal

pub mutate_all-requires-clause-known : goal.mutate_all-requires-clause-known
mutate_all-requires-clause-known g c =
    let O = g.N.Naming.offered in
    let old = c.args.pass.now in
    let k = c.args.table in
    let saw = from-none c.in_ok-lacking.field-0 (Saw old k c.drain.new.pass) (λ why. TakesStep O old k (λ t u. LacksSource (up_in old.up) t c.args.replica why u) c.drain.new.pass) c.in_default.is c.in_ok-lacking.ensures.drains in
    saw-known c.args.id old c.drain.new.pass k saw c.requires.known

pub returns-in_err-refused-clause-err : goal.returns-in_err-refused-clause-err
returns-in_err-refused-clause-err g c =
    let O = g.N.Naming.offered in
    let old = c.args.pass.now in
    let k = c.args.table in
    let saw = from-none c.in_ok-lacking.field-0 (Saw old k c.drain.new.pass) (λ why. TakesStep O old k (λ t u. LacksSource (up_in old.up) t c.args.replica why u) c.drain.new.pass) c.in_default.is c.in_ok-lacking.ensures.drains in
    on-err c.from_residual-in_err-refused.result (KeepsPass old k c.mutate_all.new.pass) (keeps-both old c.drain.new.pass c.mutate_all.new.pass k saw.keeps c.in_err-refused.ensures.keeps)

pub returns-in_err-bring_up-clause-err : goal.returns-in_err-bring_up-clause-err
returns-in_err-bring_up-clause-err g c =
    let O = g.N.Naming.offered in
    let old = c.args.pass.now in
    let k = c.args.table in
    let saw = from-none c.in_ok-lacking.field-0 (Saw old k c.drain.new.pass) (λ why. TakesStep O old k (λ t u. LacksSource (up_in old.up) t c.args.replica why u) c.drain.new.pass) c.in_default.is c.in_ok-lacking.ensures.drains in
    on-err c.from_residual-in_err-bring_up.result (KeepsPass old k c.bring_up.new.pass)
    (keeps-both old c.mutate_all.new.pass c.bring_up.new.pass k (keeps-both old c.drain.new.pass c.mutate_all.new.pass k saw.keeps c.in_ok-refused.ensures.keeps) c.in_err-bring_up.ensures.err)

pub returns-clause-waits : goal.returns-clause-waits
returns-clause-waits g c =
    let O = g.N.Naming.offered in
    let old = c.args.pass.now in
    let k = c.args.table in
    let saw = from-none c.in_ok-lacking.field-0 (Saw old k c.drain.new.pass) (λ why. TakesStep O old k (λ t u. LacksSource (up_in old.up) t c.args.replica why u) c.drain.new.pass) c.in_default.is c.in_ok-lacking.ensures.drains in
    let place = subst (λ (l : List Entry). IsPlaceOf l c.args.id c.place_of-place.result) (ap (λ (h : History). h.log) c.copy.ensures ∙ ap (λ (x : Known). x.log) c.known.ensures.known) c.place_of-place.ensures in
    waits-or O (up_in old.up) old c.mutate_all.new.pass c.bring_up.new.pass k c.args.replica c.args.id c.in_ok-refused.refused
    (c.in_ok-refused.ensures.mutates.since (client_at old k) (none-mutated c.args.id c.place_of-place.result old c.drain.new.pass k place saw))
    (keeps-both old c.drain.new.pass c.mutate_all.new.pass k saw.keeps c.in_ok-refused.ensures.keeps)
    c.in_ok-refused.ensures.mutates.ends c.in_ok-bring_up.ensures.ok
