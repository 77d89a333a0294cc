use Rattle.std.proofs.Common.{◌≡◌, length, subst}
use Rattle.rmt_pass.specs.Passes.{AreKnownOf, PassView}
use Rattle.rmt_pass.proofs.KnownLemmas.{known-length}
use Rattle.rmt_pass.proofs.pass.Pass.len.Goals as goal

pub returns-clause-named : goal.returns-clause-named
returns-clause-named g c =
    subst (λ (p : PassView). length g.N.Naming.tables ≡ length p.tables) c.self.view_is
    (known-length g.N.Naming.replicas g.N.Naming.tables c.self.inside.tables.items c.self.invariant.known)

pub returns-clause-ups : goal.returns-clause-ups
returns-clause-ups g c = subst (λ (p : PassView). length p.up ≡ g.N.Naming.replicas) c.self.view_is c.self.invariant.ups

pub returns-clause-known : goal.returns-clause-known
returns-clause-known g c = subst (λ (p : PassView). AreKnownOf g.N.Naming.replicas g.N.Naming.tables p.tables) c.self.view_is c.self.invariant.known
