use Rattle.std.proofs.Common.{List, ℕ, subst, sym}
use Rattle.rmt_names.specs.Names.{Name}
use Rattle.rmt_reply.specs.declared.line.Line.TheVariants as lines
use Rattle.rmt_statements.specs.declared.act.Act.TheVariants as acts
use Rattle.rmt_play.specs.ActSteps.{ExecutesIn}
use Rattle.rmt_play.proofs.CommandLemmas.{checks-in}
use Rattle.rmt_play.proofs.parts.check_in.Goals as goal

pub returns-clause-executes : goal.returns-clause-executes
returns-clause-executes g c =
    let s = g.E.Acting.seen c.args.engine.now in
    let u = g.E.Acting.seen c.part_digests.new.self in
    λ table. subst (λ (all : List (Name × List ℕ)). ExecutesIn s c.args.replica (acts.CheckTable table) (lines.Digests all) u) (sym c.new.ensures)
    (checks-in s u c.args.replica table c.in_ok-digests.digests.items c.in_ok-digests.ensures.digests c.part_digests.ensures.leaves.events)
