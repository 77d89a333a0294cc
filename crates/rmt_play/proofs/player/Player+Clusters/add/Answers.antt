use Rattle.std.proofs.Common.{◌≡◌, ◌∙◌, ℕ, List, [], ◌∷◌, ◌++◌, length, ap, sym, subst}
use Rattle.rmt_events.specs.Clusters.{Cluster}
use Rattle.rmt_model.specs.Words.{Each}
use Rattle.rmt_reply.specs.declared.line.Line.TheVariants as lines
use Rattle.rmt_play.specs.Plays.{Creates}
use Rattle.rmt_play.specs.PlayerSteps.{clusters_seen, NamedTable, IsAtAll, Moves, clusters_in, named}
use Rattle.rmt_play.proofs.CreateLemmas.{adds}
use Rattle.rmt_play.proofs.NamedLemmas.{named-more, more-same}
use Rattle.rmt_play.proofs.TableLemmas.{each-more}
use Rattle.rmt_play.proofs.player.Player+Clusters.add.Goals as goal

pub returns-clause-adds : goal.returns-clause-adds
returns-clause-adds c =
    let a = c.in_ok-add.ensures.adds in
    let p = clusters_in c.args.self.now in
    let names = c.in_ok-push.ensures.items ∙ ap (λ (ns : List (List ℕ)). ns ++ c.args.name ∷ []) c.reserve.ensures.items in
    let tables : named clusters_seen c.push.new.self.items c.add.new.self ≡ p.tables ++ record { name = c.args.name; table = a.cluster } ∷ [] =
    ap (λ (ns : List (List ℕ)). named clusters_seen ns c.add.new.self) names
    ∙ (ap (λ (ts : List Cluster). named clusters_seen (c.args.self.now.names.items ++ c.args.name ∷ []) ts) a.change ∙ named-more clusters_seen c.args.self.now.names.items c.args.self.now.engine c.args.name a.cluster c.requires.sound.lengths) in
    subst (Moves p (λ w v. Creates w c.args.name c.args.schema lines.Okay v))
    (ap (λ (ts : List (NamedTable clusters_seen)). record { replicas = c.args.self.now.replicas; up = c.args.self.now.up; tables = ts }) (sym tables))
    (adds p c.args.name c.args.schema a.cluster a.is_new)

pub returns-clause-sound : goal.returns-clause-sound
returns-clause-sound c =
    let a = c.in_ok-add.ensures.adds in
    let p = clusters_in c.args.self.now in
    let names = c.in_ok-push.ensures.items ∙ ap (λ (ns : List (List ℕ)). ns ++ c.args.name ∷ []) c.reserve.ensures.items in
    let tables : named clusters_seen c.push.new.self.items c.add.new.self ≡ p.tables ++ record { name = c.args.name; table = a.cluster } ∷ [] =
    ap (λ (ns : List (List ℕ)). named clusters_seen ns c.add.new.self) names
    ∙ (ap (λ (ts : List Cluster). named clusters_seen (c.args.self.now.names.items ++ c.args.name ∷ []) ts) a.change ∙ named-more clusters_seen c.args.self.now.names.items c.args.self.now.engine c.args.name a.cluster c.requires.sound.lengths) in
    record {
      player = record {
        some = c.requires.sound.player.some;
        few = c.requires.sound.player.few;
        eight = c.requires.sound.player.eight;
        all = subst (λ (ts : List (NamedTable clusters_seen)). Each (λ t. IsAtAll clusters_seen c.args.self.now.replicas c.args.self.now.up t.table) ts) (sym tables)
            (each-more (λ t. IsAtAll clusters_seen c.args.self.now.replicas c.args.self.now.up t.table) p.tables (record { name = c.args.name; table = a.cluster }) c.requires.sound.player.all
            (record { all = a.is_new.all; ups_are = a.is_new.ups_are; free = a.is_new.free }));
      };
      lengths = ap length names ∙ (more-same c.args.self.now.names.items c.args.self.now.engine c.args.name a.cluster c.requires.sound.lengths ∙ sym (ap length a.change));
    }
