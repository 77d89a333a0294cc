use Rattle.std.proofs.Common.{◌≡◌, ◌≤◌, refl, true, length, sym, ap, subst, ◌∙◌}
use Rattle.rmt_statement_model.specs.QuorumCopies.{copied, copied_where, is_asked}
use Rattle.rmt_clients.specs.Clients.{KnowsTable, known_table}
use Rattle.rmt_clients.proofs.ClientCopies.{asks}
use Rattle.rmt_pass.specs.Passes.{PassView, TakesStep, client_at, up_in}
use Rattle.rmt_pass.proofs.KnownLemmas.{on-ok-both}
use Rattle.rmt_pass.proofs.OwnLemmas.{others-stay}
use Rattle.rmt_pass.proofs.SwitchLemmas.{up-below}
use Rattle.rmt_pass.proofs.DrainLemmas.{asked-up, copies-asked, copies-unasked}
use Rattle.rmt_pass.proofs.pass.Pass.copy_block.Goals as goal

pub returns-then-not-is_asked-clause-ok : goal.returns-then-not-is_asked-clause-ok
returns-then-not-is_asked-clause-ok g c =
    copies-unasked g.N.Naming.offered c.args.self.now c.args.table c.args.writer c.args.place c.args.replica (sym c.is_asked.ensures ∙ c.if-not-is_asked.true) c.requires.current.goes

pub returns-then-not-is_asked-clause-others : goal.returns-then-not-is_asked-clause-others
returns-then-not-is_asked-clause-others g c = others-stay c.args.tables.now c.args.tables.now c.args.table c.requires.current.table refl

pub note_copy-requires-clause-here : goal.note_copy-requires-clause-here
note_copy-requires-clause-here g c =
    let p = c.args.self.now in
    let asked : asks (up_in p.up) c.args.writer c.args.replica (client_at p c.args.table) ≡ true = sym c.is_asked.ensures ∙ c.if-not-is_asked.false in
    let below = up-below p.up c.args.replica (asked-up (up_in p.up) (client_at p c.args.table) c.args.writer c.args.replica asked) in
    let ups : length p.up ≡ g.N.Naming.replicas = ap (λ (x : PassView). length x.up) (sym c.self.view_is) ∙ c.self.invariant.ups in
    record { first = below.0; last = subst (λ n. c.args.replica ≤ n) ups below.1 }

pub returns-clause-ok : goal.returns-clause-ok
returns-clause-ok g c =
    let p = c.args.self.now in
    let k = c.args.table in
    let asked : asks (up_in p.up) c.args.writer c.args.replica (client_at p k) ≡ true = sym c.is_asked.ensures ∙ c.if-not-is_asked.false in
    on-ok-both c.note_copy.result
    (TakesStep g.N.Naming.offered p k (λ t u. u ≡ copied c.args.place c.args.replica t) c.note_copy.new.self)
    (KnowsTable (client_at c.note_copy.new.self k) (copied c.args.place c.args.replica (known_table (client_at p k))))
    (TakesStep g.N.Naming.offered p k (λ t u. u ≡ copied_where (is_asked t.quorum.pending (up_in p.up) t.fetching c.args.writer c.args.replica) c.args.place c.args.replica t) c.note_copy.new.self)
    (λ ok knows. copies-asked g.N.Naming.offered p c.note_copy.new.self k c.args.writer c.args.place c.args.replica asked knows ok.keeps ok.goes)
    c.note_copy.ensures.ok c.note_copy.ensures.knows
