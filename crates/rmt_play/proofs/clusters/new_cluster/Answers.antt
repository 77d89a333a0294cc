use Rattle.std.proofs.Common.{◌∙◌, ap}
use Rattle.std.specs.Prelude.{take}
use Rattle.rmt_play.proofs.CreateLemmas.{new-tables}
use Rattle.rmt_play.proofs.clusters.new_cluster.Goals as goal

pub returns : goal.returns
returns c = new-tables c.new-2.result _ c.args.schema c.args.replicas c.args.up.now c.split_at.result.0.now c.in_ok-schema.ensures.ok (c.split_at.ensures.front ∙ ap (λ n. take n c.args.up.now) c.from.ensures) (c.split_at.ensures.front_len ∙ c.from.ensures) c.new-2.ensures.is_new c.new-2.ensures.replicas
