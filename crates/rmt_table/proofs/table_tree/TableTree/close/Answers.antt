use Rattle.std.proofs.Common.{◌∙◌}
use Rattle.rmt_table.proofs.Sessions.{session-at, close-same, close-kept, close-closes}
use Rattle.rmt_table.specs.contracts.table_tree.TableTree.{the_view}
use Rattle.rmt_table.proofs.table_tree.TableTree.close.Goals as goal

pub invariant_of-self : goal.invariant_of-self
invariant_of-self c =
    close-kept (the_view c.self.inside) c.self.inside.log.tokens _ c.self.invariant c.args.self.now c.self.view_is c.args.replica c.requires.here c.in-Some.number
    (session-at (the_view c.self.inside) c.self.inside.log.tokens _ c.self.invariant c.args.self.now c.self.view_is c.args.replica c.requires.here c.from-place.result c.index.result.now c.from-place.ensures c.index.ensures ∙ c.in-Some.is) c.end_session.new.self c.end_session.ensures.ended c.from-place.result c.from-place.ensures

pub returns-in-Some-clause-closes : goal.returns-in-Some-clause-closes
returns-in-Some-clause-closes c =
    close-closes (the_view c.self.inside) c.self.inside.log.tokens _ c.self.invariant c.args.self.now c.self.view_is c.args.replica c.requires.here c.in-Some.number
    (session-at (the_view c.self.inside) c.self.inside.log.tokens _ c.self.invariant c.args.self.now c.self.view_is c.args.replica c.requires.here c.from-place.result c.index.result.now c.from-place.ensures c.index.ensures ∙ c.in-Some.is) c.end_session.new.self c.end_session.ensures.ended c.from-place.result c.from-place.ensures

pub returns-in_default-clause-closes : goal.returns-in_default-clause-closes
returns-in_default-clause-closes c =
    close-same (the_view c.self.inside) c.self.inside.log.tokens _ c.self.invariant c.args.self.now c.self.view_is c.args.replica c.requires.here
    (session-at (the_view c.self.inside) c.self.inside.log.tokens _ c.self.invariant c.args.self.now c.self.view_is c.args.replica c.requires.here c.from-place.result c.index.result.now c.from-place.ensures c.index.ensures ∙ c.in_default.is)
