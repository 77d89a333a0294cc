use Rattle.std.proofs.Common.{◌≡◌, ◌<◌, ℕ, List, length, map, arith, refl, sym, ap, subst, ◌∙◌}
use Rattle.rmt_model.specs.Words.{Each}
use Rattle.rmt_table_model.specs.Held.{Held}
use Rattle.rmt_statement_model.specs.Books.{all_clients}
use Rattle.rmt_shared.specs.SharedTables.{HaveBlocks, NamedTable, logs_of, named}
use Rattle.rmt_pass.specs.Passes.{AreKnownOf}
use Rattle.rmt_workers.specs.Settled.{EachFrom, MayShareAt}
use Rattle.rmt_workers.proofs.BeginLemmas.{all-may-share, blocks-apart, known-apart, length-apart, logs-apart, names-apart, sessions-apart}
use Rattle.rmt_workers.proofs.crew.Crew.new.Goals as goal

pub take_apart-requires : goal.take_apart-requires
take_apart-requires g c =
    subst (λ (ns : List NamedTable). EachFrom (MayShareAt ns g.N.Naming.replicas g.N.Naming.offered) 0 c.args.carried.states.items) c.requires.named
    (all-may-share g.N.Naming.offered c.args.carried.up.items c.args.carried.known.items c.args.carried.states.items g.N.Naming.replicas c.requires.ups c.requires.rest)

pub open-tables-requires-clause-named : goal.open-tables-requires-clause-named
open-tables-requires-clause-named g c = ap (λ (ts : List Held). map named ts) c.in_ok-trees.ensures ∙ (names-apart c.args.carried.states.items ∙ c.requires.named)

pub open-tables-requires-clause-sessions : goal.open-tables-requires-clause-sessions
open-tables-requires-clause-sessions g c =
    subst (λ (ts : List Held). Each (λ (h : Held). length h.sessions ≡ g.N.Naming.replicas) ts) (sym c.in_ok-trees.ensures)
    (sessions-apart g.N.Naming.offered c.args.carried.up.items c.args.carried.known.items c.args.carried.states.items g.N.Naming.replicas c.requires.ups c.requires.rest)

pub open-tables-requires-clause-blocks : goal.open-tables-requires-clause-blocks
open-tables-requires-clause-blocks g c =
    subst (λ (ts : List Held). HaveBlocks g.N.Naming.offered ts) (sym c.in_ok-trees.ensures)
    (blocks-apart g.N.Naming.offered c.args.carried.up.items c.args.carried.known.items c.args.carried.states.items c.requires.rest)

pub open-tables-requires-clause-few : goal.open-tables-requires-clause-few
open-tables-requires-clause-few g c =
    let n = ap (λ (ts : List Held). length ts) c.in_ok-trees.ensures ∙ length-apart c.args.carried.states.items in
    let few = c.requires.few in
    omega (arith, n, few)

pub new-pass-requires-clause-known : goal.new-pass-requires-clause-known
new-pass-requires-clause-known g c =
    subst (λ (ns : List NamedTable). AreKnownOf g.N.Naming.replicas ns c.args.carried.known.items) c.requires.named
    (subst (λ (n : ℕ). AreKnownOf n (map (λ s. named s.tree) c.args.carried.states.items) c.args.carried.known.items) c.requires.ups
    (known-apart g.N.Naming.offered c.args.carried.up.items c.args.carried.known.items c.args.carried.states.items c.requires.rest))

pub new-pass-requires-clause-counted : goal.new-pass-requires-clause-counted
new-pass-requires-clause-counted g c =
    c.open-tables.ensures.amount
    ∙ (ap (λ (ts : List Held). all_clients (logs_of ts)) c.in_ok-trees.ensures
    ∙ ap all_clients (logs-apart g.N.Naming.offered c.args.carried.up.items c.args.carried.known.items c.args.carried.states.items c.requires.rest))
