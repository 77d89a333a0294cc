use Rattle.std.proofs.Common.{ap, ◌∙◌}
use Rattle.rmt_partset.specs.Snapshots.{names_in}
use Rattle.rmt_play.proofs.CommandLemmas.{shows-in}
use Rattle.rmt_play.proofs.parts.show_in.Goals as goal

pub returns-clause-executes : goal.returns-clause-executes
returns-clause-executes g c =
    λ table. shows-in (g.E.Acting.seen c.args.engine.now) (g.E.Acting.seen c.read_parts.new.self) c.args.replica table c.in_ok-snapshot.snapshot c.in_ok-names.names (c.in_ok-names.ensures ∙ ap names_in c.parts.ensures.all)
    c.in_ok-snapshot.ensures.reads c.read_parts.ensures.leaves.events
