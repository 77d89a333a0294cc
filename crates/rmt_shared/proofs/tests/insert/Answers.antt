use Rattle.std.proofs.Common.{◌≡◌, ◌∙◌, ℕ, arith, sym, ap, subst}
use Rattle.rmt_table.specs.declared.lock.Lock.{Lock}
use Rattle.rmt_shared.specs.SharedReplicas.{IsNumber}
use Rattle.rmt_shared.proofs.tests.insert.Goals as goal

pub accept-requires-clause-here : goal.accept-requires-clause-here
accept-requires-clause-here g c =
    let e : c.in-Ok.lock.replica ≡ 1 = ap (λ (l : Lock). l.replica) c.in-Ok.ensures.ok.change.is in
    subst (λ (n : ℕ). IsNumber n g.N.Naming.replicas) (sym e) (record { first = omega arith; last = c.requires.here })

pub accept-requires-clause-id : goal.accept-requires-clause-id
accept-requires-clause-id g c = ap (λ (l : Lock). l.id) c.in-Ok.ensures.ok.change.is ∙ c.id.ensures
