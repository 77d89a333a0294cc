use Rattle.std.proofs.Common.{◌≡◌, ℕ, ◌+◌, ◌<◌, ◌≤◌, false, length, set, sym, ap, subst, ◌∙◌}
use Rattle.std.specs.Prelude.{IfOk}
use Rattle.rmt_events.specs.Clusters.{values_of, without_kinds}
use Rattle.rmt_table_model.specs.Held.{Held}
use Rattle.rmt_table.specs.TableTrees.{table_at}
use Rattle.rmt_table.specs.Causes.{commit_cause}
use Rattle.rmt_table.specs.Refusals.{NoCommit}
use Rattle.rmt_statement_model.specs.Inserts.{asked_at}
use Rattle.rmt_clients.specs.Clients.{Client}
use Rattle.rmt_known.specs.KnownTables.{Known, new_known}
use Rattle.rmt_shared.specs.SharedTables.{HasBlocks}
use Rattle.rmt_shared.specs.ClientCalls.{AcceptsBlock}
use Rattle.rmt_pass.specs.Passes.{PassView, IsCurrent, KeepsPass, client_at, known_in, no_schema, up_in}
use Rattle.rmt_pass.specs.InsertSteps.{AreOpen, CommitsTo, HoldsNumber}
use Rattle.rmt_pass.proofs.KnownLemmas.{if-some, on-ok, known-at, known-learned, known-there-still}
use Rattle.rmt_pass.proofs.TakingLemmas.{get-same, one-there}
use Rattle.rmt_pass.proofs.OwnLemmas.{knowing, of-current, others}
use Rattle.rmt_pass.proofs.InsertSeen.{block-goes-on, block-keeps, block-now, block-counted, block-done, aborted-now, late, uncommitted-so, was-gone}
use Rattle.rmt_pass.proofs.pass.Pass.commit.Goals as goal

pub take_over-requires-clause-prefix : goal.take_over-requires-clause-prefix
take_over-requires-clause-prefix g c =
    let P : PassView = record { tables = c.self.inside.tables.items; up = c.self.inside.up.items; gave_up = c.self.inside.gave_up } in
    let k = c.args.table in
    let now : IsCurrent P k c.args.tables.now = subst (λ (p : PassView). IsCurrent p k c.args.tables.now) (sym c.self.view_is) c.requires.current in
    block-goes-on P k c.args.tables.now c.commit_insert.new.self now.there now c.args.lock.now c.args.need c.args.block.now c.in-Ok.ensures.ok

pub returns-in_err-take_over-in-Ok-clause-others : goal.returns-in_err-take_over-in-Ok-clause-others
returns-in_err-take_over-in-Ok-clause-others g c = others c.args.tables.now c.args.table (λ t u. AcceptsBlock c.args.lock.now c.args.need c.args.block.now t u) c.commit_insert.new.self c.in-Ok.ensures.ok

pub learn-requires : goal.learn-requires
learn-requires g c =
    let P : PassView = record { tables = c.self.inside.tables.items; up = c.self.inside.up.items; gave_up = c.self.inside.gave_up } in
    let k = c.args.table in
    let now : IsCurrent P k c.args.tables.now = subst (λ (p : PassView). IsCurrent p k c.args.tables.now) (sym c.self.view_is) c.requires.current in
    let here : k < length P.tables = subst (λ (p : PassView). k < length p.tables) (sym c.self.view_is) c.requires.table in
    let there = known-there-still g.N.Naming.replicas g.N.Naming.tables P.tables c.take_over.new.known.items k c.self.invariant.known c.take_over.ensures.known here in
    let fetching : length c.index_mut.result.now.fetching ≡ g.N.Naming.replicas = ap (λ (x : Known). length x.fetching) c.index_mut.ensures.value ∙ (known-at g.N.Naming.replicas g.N.Naming.tables c.take_over.new.known.items k c.index_mut.result.now c.take_over.ensures.known there).fetching in
    record { first = c.requires.here.first; last = subst (λ (n : ℕ). c.args.lock.now.replica ≤ n) (sym fetching) c.requires.here.last }

pub returns-in_err-learn-in-Ok-clause-others : goal.returns-in_err-learn-in-Ok-clause-others
returns-in_err-learn-in-Ok-clause-others g c = others c.args.tables.now c.args.table (λ t u. AcceptsBlock c.args.lock.now c.args.need c.args.block.now t u) c.commit_insert.new.self c.in-Ok.ensures.ok

pub invariant_of-self-in-Ok : goal.invariant_of-self-in-Ok
invariant_of-self-in-Ok g c =
    let P : PassView = record { tables = c.self.inside.tables.items; up = c.self.inside.up.items; gave_up = c.self.inside.gave_up } in
    let k = c.args.table in
    let now : IsCurrent P k c.args.tables.now = subst (λ (p : PassView). IsCurrent p k c.args.tables.now) (sym c.self.view_is) c.requires.current in
    let here : k < length P.tables = subst (λ (p : PassView). k < length p.tables) (sym c.self.view_is) c.requires.table in
    let at : c.index_mut.result.now ≡ known_in c.take_over.new.known.items k = c.index_mut.ensures.value ∙ get-same c.take_over.new.known.items k c.index_mut.result.now (new_known no_schema 0) (known-there-still g.N.Naming.replicas g.N.Naming.tables P.tables c.take_over.new.known.items k c.self.invariant.known c.take_over.ensures.known here) in
    let there = known-there-still g.N.Naming.replicas g.N.Naming.tables P.tables c.take_over.new.known.items k c.self.invariant.known c.take_over.ensures.known here in
    record {
      known = known-learned g.N.Naming.replicas g.N.Naming.tables c.take_over.new.known.items k c.index_mut.result.now c.learn.new.self c.take_over.ensures.known there c.index_mut.ensures.value c.learn.ensures.keeps;
      ups = c.self.invariant.ups;
      whole = c.commit_insert.ensures.parts ∙ c.self.invariant.whole;
      some = c.self.invariant.some;
      counted = λ e. c.in-Ok.ensures.counted ∙ (ap (λ (n : ℕ). n + 1) (c.self.invariant.counted now.goes) ∙ sym (block-counted P k c.args.tables.now c.commit_insert.new.self now.there now c.args.lock.now c.args.need c.args.block.now c.in-Ok.ensures.ok here c.take_over.new.known.items c.in_ok-take_over-in-Ok.ensures.ok c.log_len-place.result c.index_mut.result.now c.learn.new.self at c.in_ok-learn-in-Ok.ensures.ok c.learn.ensures.keeps));
    }

pub returns-in_ok-learn-in-Ok-clause-done : goal.returns-in_ok-learn-in-Ok-clause-done
returns-in_ok-learn-in-Ok-clause-done g c = λ before holds.
    let P : PassView = record { tables = c.self.inside.tables.items; up = c.self.inside.up.items; gave_up = c.self.inside.gave_up } in
    let k = c.args.table in
    let now : IsCurrent P k c.args.tables.now = subst (λ (p : PassView). IsCurrent p k c.args.tables.now) (sym c.self.view_is) c.requires.current in
    let here : k < length P.tables = subst (λ (p : PassView). k < length p.tables) (sym c.self.view_is) c.requires.table in
    let at : c.index_mut.result.now ≡ known_in c.take_over.new.known.items k = c.index_mut.ensures.value ∙ get-same c.take_over.new.known.items k c.index_mut.result.now (new_known no_schema 0) (known-there-still g.N.Naming.replicas g.N.Naming.tables P.tables c.take_over.new.known.items k c.self.invariant.known c.take_over.ensures.known here) in
    let tree : c.table.result.now ≡ now.table = one-there c.args.tables.now k c.table.result.now now.table now.there (c.table.ensures.same c.table.result.now) now.is in
    block-done P k c.args.tables.now c.commit_insert.new.self now.there now c.args.lock.now c.args.need c.args.block.now c.in-Ok.ensures.ok here c.take_over.new.known.items c.in_ok-take_over-in-Ok.ensures.ok c.log_len-place.result c.index_mut.result.now c.learn.new.self at c.in_ok-learn-in-Ok.ensures.ok c.learn.ensures.keeps g.N.Naming.offered (up_in P.up) before
    (subst (λ (p : PassView). HoldsNumber (up_in p.up) (asked_at c.args.lock.now.replica c.args.need) (without_kinds c.args.block.now) c.args.lock.now before (client_at p k)) (sym c.self.view_is) holds)
    (subst (λ (h : Held). HasBlocks (g.N.Naming.offered k) h) tree c.table.ensures.blocks) c.requires.offered (c.log_len-place.ensures ∙ ap (λ (h : Held). length h.log) tree)

pub returns-in_ok-learn-in-Ok-clause-keeps : goal.returns-in_ok-learn-in-Ok-clause-keeps
returns-in_ok-learn-in-Ok-clause-keeps g c =
    let P : PassView = record { tables = c.self.inside.tables.items; up = c.self.inside.up.items; gave_up = c.self.inside.gave_up } in
    let k = c.args.table in
    let now : IsCurrent P k c.args.tables.now = subst (λ (p : PassView). IsCurrent p k c.args.tables.now) (sym c.self.view_is) c.requires.current in
    let here : k < length P.tables = subst (λ (p : PassView). k < length p.tables) (sym c.self.view_is) c.requires.table in
    let at : c.index_mut.result.now ≡ known_in c.take_over.new.known.items k = c.index_mut.ensures.value ∙ get-same c.take_over.new.known.items k c.index_mut.result.now (new_known no_schema 0) (known-there-still g.N.Naming.replicas g.N.Naming.tables P.tables c.take_over.new.known.items k c.self.invariant.known c.take_over.ensures.known here) in
    subst (λ (p : PassView). KeepsPass p k (knowing P (set c.take_over.new.known.items k c.learn.new.self) false)) c.self.view_is
    (block-keeps P k c.args.tables.now c.commit_insert.new.self now.there now c.args.lock.now c.args.need c.args.block.now c.in-Ok.ensures.ok here c.take_over.new.known.items c.in_ok-take_over-in-Ok.ensures.ok c.log_len-place.result c.index_mut.result.now c.learn.new.self at c.in_ok-learn-in-Ok.ensures.ok c.learn.ensures.keeps)

pub returns-in_ok-learn-in-Ok-clause-current : goal.returns-in_ok-learn-in-Ok-clause-current
returns-in_ok-learn-in-Ok-clause-current g c =
    let P : PassView = record { tables = c.self.inside.tables.items; up = c.self.inside.up.items; gave_up = c.self.inside.gave_up } in
    let k = c.args.table in
    let now : IsCurrent P k c.args.tables.now = subst (λ (p : PassView). IsCurrent p k c.args.tables.now) (sym c.self.view_is) c.requires.current in
    let here : k < length P.tables = subst (λ (p : PassView). k < length p.tables) (sym c.self.view_is) c.requires.table in
    let at : c.index_mut.result.now ≡ known_in c.take_over.new.known.items k = c.index_mut.ensures.value ∙ get-same c.take_over.new.known.items k c.index_mut.result.now (new_known no_schema 0) (known-there-still g.N.Naming.replicas g.N.Naming.tables P.tables c.take_over.new.known.items k c.self.invariant.known c.take_over.ensures.known here) in
    block-now P k c.args.tables.now c.commit_insert.new.self now.there now c.args.lock.now c.args.need c.args.block.now c.in-Ok.ensures.ok here c.take_over.new.known.items c.in_ok-take_over-in-Ok.ensures.ok c.log_len-place.result c.index_mut.result.now c.learn.new.self at c.in_ok-learn-in-Ok.ensures.ok c.learn.ensures.keeps

pub returns-in_ok-learn-in-Ok-clause-others : goal.returns-in_ok-learn-in-Ok-clause-others
returns-in_ok-learn-in-Ok-clause-others g c = others c.args.tables.now c.args.table (λ t u. AcceptsBlock c.args.lock.now c.args.need c.args.block.now t u) c.commit_insert.new.self c.in-Ok.ensures.ok

pub uncommitted-requires : goal.uncommitted-requires
uncommitted-requires g c =
    let p = c.args.self.now in
    let k = c.args.table in
    let now = c.requires.current in
    late (up_in p.up) (asked_at c.args.lock.now.replica c.args.need) (without_kinds c.args.block.now) c.args.lock.now c.requires.held.0 (client_at p k) now.table (values_of now.table.schema c.args.block.now.rows) c.in-Err.error c.requires.held.1 now.now
    (of-current p k c.args.tables.now (AreOpen (up_in p.up)) now.there now c.requires.open)
    (if-some (commit_cause c.in-Err.error) _ (NoCommit (table_at now.table) c.args.lock.now c.args.need (values_of now.table.schema c.args.block.now.rows))
    (λ why h. of-current p k c.args.tables.now (λ t. NoCommit (table_at t) c.args.lock.now c.args.need (values_of t.schema c.args.block.now.rows) why) now.there now h) c.in-Err.ensures.refused)

pub returns-in-Err-clause-done : goal.returns-in-Err-clause-done
returns-in-Err-clause-done g c =
    let p = c.args.self.now in
    let k = c.args.table in
    let now = c.requires.current in
    let tree : c.table.result.now ≡ now.table = one-there c.args.tables.now k c.table.result.now now.table now.there (c.table.ensures.same c.table.result.now) now.is in
    let P : PassView = record { tables = c.self.inside.tables.items; up = c.self.inside.up.items; gave_up = c.self.inside.gave_up } in
    subst (λ (q : PassView). IfOk c.uncommitted.result (λ done. (before : Client) → HoldsNumber (up_in p.up) (asked_at c.args.lock.now.replica c.args.need) (without_kinds c.args.block.now) c.args.lock.now before (client_at p k)
    → CommitsTo (g.N.Naming.offered k) (up_in p.up) (asked_at c.args.lock.now.replica c.args.need) (without_kinds c.args.block.now) before (client_at p k) done (client_at q k))) (sym c.self.view_is)
    (uncommitted-so (g.N.Naming.offered k) (up_in p.up) (asked_at c.args.lock.now.replica c.args.need) (without_kinds c.args.block.now) c.args.lock.now (client_at p k) now.table c.in-Err.error c.uncommitted.result now.now
    (subst (λ (h : Held). HasBlocks (g.N.Naming.offered k) h) tree c.table.ensures.blocks)
    (if-some (commit_cause c.in-Err.error) _ (NoCommit (table_at now.table) c.args.lock.now c.args.need (values_of now.table.schema c.args.block.now.rows))
    (λ why h. of-current p k c.args.tables.now (λ t. NoCommit (table_at t) c.args.lock.now c.args.need (values_of t.schema c.args.block.now.rows) why) now.there now h) c.in-Err.ensures.refused)
    c.uncommitted.ensures)

pub returns-in-Err-clause-current : goal.returns-in-Err-clause-current
returns-in-Err-clause-current g c =
    let P : PassView = record { tables = c.self.inside.tables.items; up = c.self.inside.up.items; gave_up = c.self.inside.gave_up } in
    let k = c.args.table in
    let now : IsCurrent P k c.args.tables.now = subst (λ (p : PassView). IsCurrent p k c.args.tables.now) (sym c.self.view_is) c.requires.current in
    on-ok c.uncommitted.result _ (aborted-now P k c.args.tables.now c.commit_insert.new.self c.args.lock.now c.in-Err.error now.there now c.in-Err.ensures.err)

pub returns-in-Err-clause-gone : goal.returns-in-Err-clause-gone
returns-in-Err-clause-gone g c = was-gone c.args.tables.now c.args.table c.args.lock.now c.args.need c.args.block.now c.in-Err.error c.uncommitted.result c.in-Err.ensures.refused c.uncommitted.ensures
