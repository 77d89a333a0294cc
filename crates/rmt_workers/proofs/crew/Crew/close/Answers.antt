use Rattle.std.proofs.Common.{◌≡◌, ◌<◌, ℕ, Bool, List, length, map, sym, ap, subst, arith, ◌∙◌}
use Rattle.rmt_table_model.specs.Held.{Held}
use Rattle.rmt_clients.specs.Clients.{StepsTo}
use Rattle.rmt_known.specs.KnownTables.{Known, client_of}
use Rattle.rmt_pass.specs.Passes.{client_at, known_in}
use Rattle.rmt_shared.specs.SharedTables.{named}
use Rattle.rmt_workers.specs.Closing.{AreAtRest}
use Rattle.rmt_workers.proofs.BeginLemmas.{length-apart, names-apart}
use Rattle.rmt_workers.proofs.CloseLemmas.{all-at-rest}
use Rattle.rmt_workers.proofs.crew.Crew.close.Goals as goal

pub returns-clause-named : goal.returns-clause-named
returns-clause-named g c =
    sym (names-apart c.in_ok-states.states.items) ∙ (ap (λ (ts : List Held). map named ts) c.in_ok-states.ensures.trees ∙ c.in_ok-trees.ensures.named)

pub returns-clause-rest : goal.returns-clause-rest
returns-clause-rest g c =
    let p = c.settled_trees.new.pass in
    let states = c.in_ok-states.states.items in
    let n : length states ≡ length p.tables = sym (length-apart states) ∙ (ap (λ (ts : List Held). length ts) c.in_ok-states.ensures.trees ∙ c.in_ok-trees.ensures.count) in
    subst (λ (known : List Known). AreAtRest g.N.Naming.offered c.into_known-known.result.1.items known states) (sym c.into_known-known.ensures.known)
    (subst (λ (up : List Bool). AreAtRest g.N.Naming.offered up p.tables states) (sym c.into_known-known.ensures.up)
    (all-at-rest g.N.Naming.tables g.N.Naming.replicas g.N.Naming.offered p states (sym c.into_known-known.ensures.ups) n c.in_ok-states.ensures.back))

pub returns-clause-seen : goal.returns-clause-seen
returns-clause-seen g c = record {
  count = ap (λ (ks : List Known). length ks) c.into_known-known.ensures.known ∙ c.in_ok-trees.ensures.sees.count_is;
  each = λ k l. subst (λ (ks : List Known). StepsTo (g.N.Naming.offered k) (client_at c.args.pass k) (λ t u. u ≡ t) (client_of (known_in ks k))) (sym c.into_known-known.ensures.known) (c.in_ok-trees.ensures.sees.seen k l);
}
