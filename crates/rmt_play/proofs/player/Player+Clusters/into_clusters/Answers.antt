use Rattle.std.proofs.Common.{◌∙◌, sym, subst}
use Rattle.std.proofs.lemmas.Result.{IfOk-weaker}
use Rattle.rmt_model.specs.Words.{Each}
use Rattle.rmt_play.specs.Shown.{HasReplicas}
use Rattle.rmt_play.specs.PlayerSteps.{clusters_seen, is_up, clusters_in}
use Rattle.rmt_play.proofs.NamedLemmas.{named-tables}
use Rattle.rmt_play.proofs.TableLemmas.{at-all-clusters}
use Rattle.rmt_play.proofs.player.Player+Clusters.into_clusters.Goals as goal

pub returns-clause-clusters : goal.returns-clause-clusters
returns-clause-clusters c = IfOk-weaker c.into_list.result _ _ (λ cs q. q ∙ sym (named-tables clusters_seen c.args.self.names.items c.args.self.engine c.requires.sound.lengths)) c.into_list.ensures.clusters

pub returns-clause-replicas : goal.returns-clause-replicas
returns-clause-replicas c =
    IfOk-weaker c.into_list.result _ _
    (λ cs q. subst (Each (HasReplicas c.args.self.replicas (is_up c.args.self.replicas c.args.self.up))) (named-tables clusters_seen c.args.self.names.items c.args.self.engine c.requires.sound.lengths ∙ sym q)
    (at-all-clusters c.args.self.replicas c.args.self.up (clusters_in c.args.self).tables c.requires.sound.player.all)) c.into_list.ensures.clusters
