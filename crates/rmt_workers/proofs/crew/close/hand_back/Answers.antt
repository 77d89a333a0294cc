use Rattle.std.proofs.Common.{◌≡◌, List, length, arith, sym, subst, ◌∙◌}
use Rattle.std.proofs.lemmas.Grind.{common_steps}
use Rattle.std.proofs.lemmas.Bool.Decides.{nat_tests}
use Rattle.rmt_values.specs.Rows.{Shape}
use Rattle.rmt_entries.specs.declared.entry.Entry.{Entry}
use Rattle.rmt_model.specs.Lawful.{Lawful}
use Rattle.rmt_known.specs.KnownTables.{Known}
use Rattle.rmt_state.specs.States.{StateView}
use Rattle.rmt_pass.specs.Passes.{IsKnownOf, client_at}
use Rattle.rmt_shared.specs.SharedTables.{name_at}
use Rattle.rmt_workers.specs.Settled.{IsHandedBack}
use Rattle.rmt_workers.proofs.crew.close.hand_back.Goals as goal

pub from_parts-requires : goal.from_parts-requires
from_parts-requires g c =
    let a = c.insist.ensures in
    let same : c.len.result ≡ c.replicas.result = grind (arith, nat_tests) in
    let n : c.len.result ≡ length c.in_ok-replicas.replicas.items = grind (arith, common_steps) in
    let count : length c.in_ok-replicas.replicas.items ≡ g.N.Naming.replicas = sym n ∙ (same ∙ (c.replicas.ensures.fetching ∙ c.known.ensures.of.fetching)) in
    record { all = count ∙ sym c.requires.settled.count_is; numbered = c.in_ok-replicas.ensures.numbered }

pub returns-clause-back : goal.returns-clause-back
returns-clause-back g c =
    let a = c.insist.ensures in
    let same : c.len.result ≡ c.replicas.result = grind (arith, nat_tests) in
    let n : c.len.result ≡ length c.in_ok-replicas.replicas.items = grind (arith, common_steps) in
    let count : length c.in_ok-replicas.replicas.items ≡ g.N.Naming.replicas = sym n ∙ (same ∙ (c.replicas.ensures.fetching ∙ c.known.ensures.of.fetching)) in
    subst (λ (s : StateView). IsHandedBack g.N.Naming.tables g.N.Naming.replicas g.N.Naming.offered c.args.pass.now c.args.table s) (sym c.from_parts.ensures) (record {
      settled = c.requires.settled;
      lawful = subst (λ (l : List Entry). Lawful c.args.tree.schema l) c.requires.settled.sees.log (subst (λ (x : Shape). Lawful x (client_at c.args.pass.now c.args.table).log) c.requires.settled.sees.schema c.count_entries-entries.ensures.lawful);
      of = subst (λ (k : Known). IsKnownOf g.N.Naming.replicas (name_at g.N.Naming.tables c.args.table) k) c.known.ensures.known c.known.ensures.of;
      all = count;
      replicas = c.in_ok-replicas.ensures;
    })
