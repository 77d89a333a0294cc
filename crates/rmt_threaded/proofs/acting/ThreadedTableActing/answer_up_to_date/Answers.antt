use Rattle.std.specs.Arc.{arc_value}
use Rattle.rmt_threaded.proofs.ThreadedLemmas.{answers-shown, takes-stays-ok}
use Rattle.rmt_threaded.proofs.acting.ThreadedTableActing.answer_up_to_date.Goals as goal

pub returns-clause-shown : goal.returns-clause-shown
returns-clause-shown g c =
    takes-stays-ok c.answer.result g.O.Offers.blocks g.N.Naming.tables g.N.Naming.offered (arc_value c.self.inside.schema) g.N.Naming.replicas c.self.inside.table c.self.inside.pass c.answer.new.pass c.args.self.now
    c.self.view_is c.self.invariant c.answer.ensures.rests

pub returns-clause-answers : goal.returns-clause-answers
returns-clause-answers g c =
    answers-shown c.answer.result (λ tuples. tuples.items) g.O.Offers.blocks g.N.Naming.tables g.N.Naming.offered (arc_value c.self.inside.schema) c.self.inside.table c.args.replica c.self.inside.pass c.args.self.now c.args.query.now
    c.self.view_is c.self.invariant c.answer.ensures.answers
