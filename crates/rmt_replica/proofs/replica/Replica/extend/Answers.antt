use Rattle.std.proofs.Common.{◌≡◌, ◌∙◌, ◌+◌, ◌∷◌, sym, subst, ap, length}
use Rattle.rmt_model.specs.Lawful.{Lawful}
use Rattle.rmt_replica.specs.Replicas.{ReplicaView}
use Rattle.rmt_replica.proofs.ReplicaLemmas.{with_entry, view-more, replica-more}
use Rattle.rmt_replica.proofs.replica.Replica.extend.Goals as goal

pub invariant_of-self-2 : goal.invariant_of-self-2
invariant_of-self-2 c =
    let len : c.len.result + 1 ≡ length c.self.inside.copy.log + 1 = ap (λ n. n + 1) c.len.ensures.len in
    let law = subst (λ (r : ReplicaView). Lawful r.schema (c.args.next.value ∷ r.log)) (sym c.self.view_is) c.requires.lawful in
    replica-more c.self.inside.number c.self.inside.up c.self.inside.fetches c.self.inside.copy c.extend.new.self c.args.next.value c.args.next.cell c.self.inside.queue c.grow.new.self (c.len.result + 1) c.self.inside.parts.parts c.self.inside.staged c.self.inside.noted.items
    c.self.invariant c.in_ok-extend.ensures.ok len c.in_ok-grow.ensures.ok law

pub returns-clause-ok : goal.returns-clause-ok
returns-clause-ok c =
    let len : c.len.result + 1 ≡ length c.self.inside.copy.log + 1 = ap (λ n. n + 1) c.len.ensures.len in
    view-more c.self.inside.number c.self.inside.up c.self.inside.fetches c.self.inside.copy c.extend.new.self c.args.next.value c.args.next.cell c.self.inside.queue c.grow.new.self (c.len.result + 1) c.self.inside.parts.parts c.self.inside.staged c.self.inside.noted.items
    c.self.invariant.marked c.in_ok-extend.ensures.ok len c.in_ok-grow.ensures.ok
    ∙ ap (λ (r : ReplicaView). with_entry r c.args.next.value c.args.next.cell) c.self.view_is
