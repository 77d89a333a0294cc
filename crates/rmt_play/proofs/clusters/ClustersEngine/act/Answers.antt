use Rattle.std.proofs.Common.{◌≡◌, ◌<◌, List, length, refl, sym, subst}
use Rattle.std.proofs.lemmas.Option.{slice_get_read}
use Rattle.std.specs.Prelude.{IfOk, slice_get, slice_set}
use Rattle.std.specs.declared.option.Option.TheVariants.{Some}
use Rattle.rmt_events.specs.Clusters.{Cluster}
use Rattle.rmt_play.specs.ActSteps.{ExecutesThere}
use Rattle.rmt_play.specs.PlayerSteps.{clusters_seen, ChangesAt}
use Rattle.rmt_play.proofs.NamedLemmas.{done-at}
use Rattle.rmt_play.proofs.clusters.ClustersEngine.act.Goals as goal

pub act_at-requires-clause-here : goal.act_at-requires-clause-here
act_at-requires-clause-here c =
    let items = c.self.inside.all.items in
    let below : c.args.place < length items = subst (λ (cs : List Cluster). c.args.place < length cs) (sym c.self.view_is) c.requires.place in
    c.requires.ready.here c.index_mut.result.now (subst (λ (cs : List Cluster). slice_get cs c.args.place ≡ Some c.index_mut.result.now) c.self.view_is (slice_get_read items (length items) c.args.place c.index_mut.result.now refl below c.index_mut.ensures.value))

pub act_at-requires-clause-up : goal.act_at-requires-clause-up
act_at-requires-clause-up c =
    let items = c.self.inside.all.items in
    let below : c.args.place < length items = subst (λ (cs : List Cluster). c.args.place < length cs) (sym c.self.view_is) c.requires.place in
    c.requires.ready.ups_are c.index_mut.result.now (subst (λ (cs : List Cluster). slice_get cs c.args.place ≡ Some c.index_mut.result.now) c.self.view_is (slice_get_read items (length items) c.args.place c.index_mut.result.now refl below c.index_mut.ensures.value))

pub act_at-requires-clause-free : goal.act_at-requires-clause-free
act_at-requires-clause-free c =
    let items = c.self.inside.all.items in
    let below : c.args.place < length items = subst (λ (cs : List Cluster). c.args.place < length cs) (sym c.self.view_is) c.requires.place in
    c.requires.ready.free c.index_mut.result.now (subst (λ (cs : List Cluster). slice_get cs c.args.place ≡ Some c.index_mut.result.now) c.self.view_is (slice_get_read items (length items) c.args.place c.index_mut.result.now refl below c.index_mut.ensures.value))

pub returns : goal.returns
returns c =
    let items = c.self.inside.all.items in
    let below : c.args.place < length items = subst (λ (cs : List Cluster). c.args.place < length cs) (sym c.self.view_is) c.requires.place in
    let there = slice_get_read items (length items) c.args.place c.index_mut.result.now refl below c.index_mut.ensures.value in
    subst (λ (cs : List Cluster). IfOk c.act_at.result (λ line. ChangesAt clusters_seen cs c.args.place (λ s u. ExecutesThere s c.args.replica c.args.act.now line u) (slice_set items c.args.place c.act_at.new.engine))) c.self.view_is
    (done-at clusters_seen c.act_at.result items c.args.place c.index_mut.result.now c.act_at.new.engine (λ line s u. ExecutesThere s c.args.replica c.args.act.now line u) there c.act_at.ensures.executes c.act_at.ensures.goes_on c.act_at.ensures.keeps)
