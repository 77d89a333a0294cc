use Rattle.std.proofs.Common.{◌≡◌, ◌∙◌, subst, ap, map}
use Rattle.std.specs.Arc.{arc_value}
use Rattle.rmt_replica.specs.StagedBlocks.{Staged, with_staged, number_cmp}
use Rattle.rmt_replica.proofs.StagedLemmas.{seen, insert-seen}
use Rattle.rmt_replica.proofs.staged.Staging.put.Goals as goal

pub returns-clause-ok : goal.returns-clause-ok
returns-clause-ok c =
    subst (λ (s : Staged). map (seen arc_value) c.insert.new.self.entries ≡ with_staged s c.args.at (arc_value c.args.block)) c.self.view_is
    (ap (map (seen arc_value)) c.in_ok-insert.ensures.entries ∙ insert-seen arc_value number_cmp c.self.inside.blocks.entries c.args.at c.args.block)
