use Rattle.std.proofs.Common.{ℕ, Bool, List, sym, ap, subst}
use Rattle.rmt_events.specs.Clusters.{without_kinds}
use Rattle.rmt_reply.specs.declared.refusal.Refusal.TheVariants.{LimitReached}
use Rattle.rmt_statement_model.specs.Inserts.{asked_at, LacksRoom}
use Rattle.rmt_pass.specs.Passes.{client_at, up_in}
use Rattle.rmt_pass.specs.InsertSteps.{HoldsNumber}
use Rattle.rmt_pass.specs.declared.committed.Committed.TheVariants.{Entry, Full, LockGone}
use Rattle.rmt_workers.proofs.StepLemmas.{keeps-both, keeps-up}
use Rattle.rmt_workers.proofs.InsertLemmas.{CommitsOn, commits-again, commits-saw, commit-ends, later-steps}
use Rattle.rmt_workers.proofs.crew.Crew.commit.Goals as goal

pub returns-in_err-guard-clause-keeps : goal.returns-in_err-guard-clause-keeps
returns-in_err-guard-clause-keeps g c = keeps-both c.args.pass.now c.tries.pass c.see_open.new.pass c.args.table c.tries.invariant.2.keeps c.in_err-guard.ensures.err

pub commit-requires-clause-held : goal.commit-requires-clause-held
commit-requires-clause-held g c =
    let on : CommitsOn (up_in c.args.pass.now.up) (asked_at c.args.lock.now.replica c.args.need) (without_kinds c.args.block.now) c.args.lock.now c.args.pass.now c.args.table c.see_open.new.pass = commits-saw (up_in c.args.pass.now.up) (asked_at c.args.lock.now.replica c.args.need) (without_kinds c.args.block.now) c.args.lock.now c.args.pass.now c.tries.pass c.see_open.new.pass c.args.table c.tries.invariant.2 c.in_ok-guard.ensures.ok.saw in
    let y = on.held c.requires.held.0 c.requires.held.1 in
    (y.0, subst (λ (w : ℕ → Bool). HoldsNumber w (asked_at c.args.lock.now.replica c.args.need) (without_kinds c.args.block.now) c.args.lock.now y.0 (client_at c.see_open.new.pass c.args.table)) (sym (ap (λ (us : List Bool). up_in us) (keeps-up c.args.pass.now c.args.table c.see_open.new.pass on.keeps))) y.2)

pub returns-in_err-place-clause-keeps : goal.returns-in_err-place-clause-keeps
returns-in_err-place-clause-keeps g c =
    let on : CommitsOn (up_in c.args.pass.now.up) (asked_at c.args.lock.now.replica c.args.need) (without_kinds c.args.block.now) c.args.lock.now c.args.pass.now c.args.table c.see_open.new.pass = commits-saw (up_in c.args.pass.now.up) (asked_at c.args.lock.now.replica c.args.need) (without_kinds c.args.block.now) c.args.lock.now c.args.pass.now c.tries.pass c.see_open.new.pass c.args.table c.tries.invariant.2 c.in_ok-guard.ensures.ok.saw in
    keeps-both c.args.pass.now c.see_open.new.pass c.commit.new.self c.args.table on.keeps c.commit.ensures.keeps

pub returns-in-Entry-clause-done : goal.returns-in-Entry-clause-done
returns-in-Entry-clause-done g c = λ before h.
    let on : CommitsOn (up_in c.args.pass.now.up) (asked_at c.args.lock.now.replica c.args.need) (without_kinds c.args.block.now) c.args.lock.now c.args.pass.now c.args.table c.see_open.new.pass = commits-saw (up_in c.args.pass.now.up) (asked_at c.args.lock.now.replica c.args.need) (without_kinds c.args.block.now) c.args.lock.now c.args.pass.now c.tries.pass c.see_open.new.pass c.args.table c.tries.invariant.2 c.in_ok-guard.ensures.ok.saw in
    let z = commit-ends (g.N.Naming.offered c.args.table) (asked_at c.args.lock.now.replica c.args.need) (without_kinds c.args.block.now) c.args.lock.now c.args.pass.now c.see_open.new.pass c.args.table (client_at c.commit.new.self c.args.table) c.in_ok-place.field-0 (Entry c.in-Entry.place) on c.in_ok-place.ensures.done c.in-Entry.is before h in
    record { now = z.0; later = z.1; takes = z.2.takes; goes_in = z.3 }

pub returns-in-Entry-clause-keeps : goal.returns-in-Entry-clause-keeps
returns-in-Entry-clause-keeps g c =
    let on : CommitsOn (up_in c.args.pass.now.up) (asked_at c.args.lock.now.replica c.args.need) (without_kinds c.args.block.now) c.args.lock.now c.args.pass.now c.args.table c.see_open.new.pass = commits-saw (up_in c.args.pass.now.up) (asked_at c.args.lock.now.replica c.args.need) (without_kinds c.args.block.now) c.args.lock.now c.args.pass.now c.tries.pass c.see_open.new.pass c.args.table c.tries.invariant.2 c.in_ok-guard.ensures.ok.saw in
    keeps-both c.args.pass.now c.see_open.new.pass c.commit.new.self c.args.table on.keeps c.commit.ensures.keeps

pub returns-in-Full-clause-done : goal.returns-in-Full-clause-done
returns-in-Full-clause-done g c = λ before h.
    let on : CommitsOn (up_in c.args.pass.now.up) (asked_at c.args.lock.now.replica c.args.need) (without_kinds c.args.block.now) c.args.lock.now c.args.pass.now c.args.table c.see_open.new.pass = commits-saw (up_in c.args.pass.now.up) (asked_at c.args.lock.now.replica c.args.need) (without_kinds c.args.block.now) c.args.lock.now c.args.pass.now c.tries.pass c.see_open.new.pass c.args.table c.tries.invariant.2 c.in_ok-guard.ensures.ok.saw in
    let z = commit-ends (g.N.Naming.offered c.args.table) (asked_at c.args.lock.now.replica c.args.need) (without_kinds c.args.block.now) c.args.lock.now c.args.pass.now c.see_open.new.pass c.args.table (client_at c.commit.new.self c.args.table) c.in_ok-place.field-0 (Full c.in-Full.limit c.in-Full.value) on c.in_ok-place.ensures.done c.in-Full.is before h in
    later-steps (g.N.Naming.offered c.args.table) before z.0 (client_at c.commit.new.self c.args.table) (λ t u. LacksRoom (up_in c.args.pass.now.up) t (asked_at c.args.lock.now.replica c.args.need) (without_kinds c.args.block.now) (LimitReached c.in-Full.limit c.in-Full.value) u) z.1 z.3

pub returns-in-Full-clause-keeps : goal.returns-in-Full-clause-keeps
returns-in-Full-clause-keeps g c =
    let on : CommitsOn (up_in c.args.pass.now.up) (asked_at c.args.lock.now.replica c.args.need) (without_kinds c.args.block.now) c.args.lock.now c.args.pass.now c.args.table c.see_open.new.pass = commits-saw (up_in c.args.pass.now.up) (asked_at c.args.lock.now.replica c.args.need) (without_kinds c.args.block.now) c.args.lock.now c.args.pass.now c.tries.pass c.see_open.new.pass c.args.table c.tries.invariant.2 c.in_ok-guard.ensures.ok.saw in
    keeps-both c.args.pass.now c.see_open.new.pass c.commit.new.self c.args.table on.keeps c.commit.ensures.keeps

pub tries-preserved : goal.tries-preserved
tries-preserved g c =
    let on : CommitsOn (up_in c.args.pass.now.up) (asked_at c.args.lock.now.replica c.args.need) (without_kinds c.args.block.now) c.args.lock.now c.args.pass.now c.args.table c.see_open.new.pass = commits-saw (up_in c.args.pass.now.up) (asked_at c.args.lock.now.replica c.args.need) (without_kinds c.args.block.now) c.args.lock.now c.args.pass.now c.tries.pass c.see_open.new.pass c.args.table c.tries.invariant.2 c.in_ok-guard.ensures.ok.saw in
    let z = commit-ends (g.N.Naming.offered c.args.table) (asked_at c.args.lock.now.replica c.args.need) (without_kinds c.args.block.now) c.args.lock.now c.args.pass.now c.see_open.new.pass c.args.table (client_at c.commit.new.self c.args.table) c.in_ok-place.field-0 LockGone on c.in_ok-place.ensures.done c.in-LockGone.is c.requires.held.0 c.requires.held.1 in
    (tt, tt, commits-again (up_in c.args.pass.now.up) (asked_at c.args.lock.now.replica c.args.need) (without_kinds c.args.block.now) c.args.lock.now c.args.pass.now c.see_open.new.pass c.commit.new.self c.args.table on c.commit.ensures.keeps z.3)
