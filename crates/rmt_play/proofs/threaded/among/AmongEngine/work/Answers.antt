use Rattle.std.specs.Prelude.{length}
use Rattle.rmt_play.proofs.SeatLemmas.{runs-lent}
use Rattle.rmt_play.proofs.threaded.among.AmongEngine.work.Goals as goal

pub returns : goal.returns
returns g c =
    runs-lent g.O.Offers.blocks (length g.N.Naming.tables) g.N.Naming.replicas c.args.self.now c.take_back.new.self c.args.place c.args.turns c.args.seed c.in_ok-table.table c.run_in-done.new.engine c.run_in-done.result c.in_ok-table.ensures
    c.take_back.ensures.back c.take_back.ensures.sized c.run_in-done.ensures.runs c.run_in-done.ensures.goes_on c.run_in-done.ensures.keeps
