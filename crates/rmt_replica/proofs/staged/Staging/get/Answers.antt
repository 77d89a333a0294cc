use Rattle.std.proofs.Common.{◌≡◌, ◌∙◌, subst, ap}
use Rattle.std.specs.Option.{option_map, option_copied}
use Rattle.std.specs.Arc.{arc_value}
use Rattle.std.specs.BTreeMap.{is_at}
use Rattle.rmt_replica.specs.StagedBlocks.{Staged, staged_at, number_cmp}
use Rattle.rmt_replica.proofs.StagedLemmas.{lookup-seen}
use Rattle.rmt_replica.proofs.staged.Staging.get.Goals as goal

pub returns : goal.returns
returns c =
    subst (λ (s : Staged). option_map arc_value (option_copied c.get.result) ≡ staged_at s c.args.at) c.self.view_is
    (ap (option_map arc_value) c.get.ensures.value ∙ lookup-seen arc_value (is_at (number_cmp c.args.at)) c.self.inside.blocks.entries)
