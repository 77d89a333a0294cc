use Rattle.std.proofs.Common.{◌≡◌, ◌∙◌, subst, ap, map}
use Rattle.std.specs.Arc.{arc_value}
use Rattle.std.specs.BTreeMap.{is_at}
use Rattle.rmt_replica.specs.StagedBlocks.{Staged, without, number_cmp}
use Rattle.rmt_replica.proofs.StagedLemmas.{seen, remove-seen}
use Rattle.rmt_replica.proofs.staged.Staging.take.Goals as goal

pub returns : goal.returns
returns c =
    subst (λ (s : Staged). map (seen arc_value) c.remove.new.self.entries ≡ without s c.args.at) c.self.view_is
    (ap (map (seen arc_value)) c.remove.ensures.entries ∙ remove-seen arc_value (is_at (number_cmp c.args.at)) c.self.inside.blocks.entries)
