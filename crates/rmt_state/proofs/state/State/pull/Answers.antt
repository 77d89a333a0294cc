use Rattle.std.proofs.Common.{◌≡◌, ◌+◌, ◌-◌, List, arith, refl, ap, sym, subst, slice_set}
use Rattle.std.specs.Prelude.{slice_get, IfOk, OnErr}
use Rattle.std.specs.declared.option.Option.TheVariants.{Some}
use Rattle.std.proofs.lemmas.Grind.{common_steps}
use Rattle.std.proofs.lemmas.Option.{gets}
use Rattle.rmt_entries.specs.declared.entry.Entry.{Entry}
use Rattle.rmt_model.specs.Lawful.{IsPrefix}
use Rattle.rmt_table.specs.TableTrees.{IsReplica}
use Rattle.rmt_replica.specs.Replicas.{ReplicaView}
use Rattle.rmt_events.specs.Views.{Table}
use Rattle.rmt_events.specs.declared.event.Event.TheVariants as ev
use Rattle.rmt_state.specs.States.{StateView, Belongs, Acts}
use Rattle.rmt_state.specs.Pulls.{PullsSome}
use Rattle.rmt_state.proofs.StateLemmas.{at-place}
use Rattle.rmt_state.proofs.PullLemmas.{WasPulled, state-pulled, pull-done, pull-stopped}
use Rattle.rmt_state.proofs.state.State.pull.Goals as goal

pub pull-pulled-requires-clause-here : goal.pull-pulled-requires-clause-here
pull-pulled-requires-clause-here c =
    let i = c.self.inside in
    let there : slice_get i.replicas.items (c.from.result - 1) ≡ Some c.index_mut.result.now = grind (arith, common_steps, gets) in
    let b : Belongs i.tree (1 + (c.from.result - 1)) c.index_mut.result.now = at-place i.tree 1 i.replicas.items (c.from.result - 1) c.index_mut.result.now c.self.invariant.numbered there in
    let f = c.requires.here.first in
    let e = c.from.ensures in
    let n = b.numbered in
    let q : c.args.replica ≡ c.index_mut.result.now.number = omega (arith, f, e, n) in
    subst (IsReplica i.tree) q (subst (λ (v : StateView). IsReplica v.tree c.args.replica) (sym c.self.view_is) c.requires.here)

pub pull-pulled-requires-clause-copy : goal.pull-pulled-requires-clause-copy
pull-pulled-requires-clause-copy c =
    let i = c.self.inside in
    let there : slice_get i.replicas.items (c.from.result - 1) ≡ Some c.index_mut.result.now = grind (arith, common_steps, gets) in
    Belongs.copy (at-place i.tree 1 i.replicas.items (c.from.result - 1) c.index_mut.result.now c.self.invariant.numbered there)

pub invariant_of-self : goal.invariant_of-self
invariant_of-self c =
    let i = c.self.inside in
    let there : slice_get i.replicas.items (c.from.result - 1) ≡ Some c.index_mut.result.now = grind (arith, common_steps, gets) in
    let e = c.pull-pulled.ensures in
    state-pulled i.tree c.pull-pulled.new.tree i.replicas.items (c.from.result - 1) c.index_mut.result.now c.pull-pulled.new.self c.self.invariant there e.seen (record { sessions = e.replicas; row = e.row }) (ap (λ (r : ReplicaView). r.number) e.longer.others) e.copy

pub returns-clause-ok : goal.returns-clause-ok
returns-clause-ok c =
    let i = c.self.inside in
    let there : slice_get i.replicas.items (c.from.result - 1) ≡ Some c.index_mut.result.now = grind (arith, common_steps, gets) in
    let e = c.pull-pulled.ensures in
    let f = c.requires.here.first in
    let g = c.from.ensures in
    let y = c.pull-pulled.new.self in
    let s : StateView = record { tree = i.tree; replicas = i.replicas.items } in
    let t : StateView = record { tree = c.pull-pulled.new.tree; replicas = slice_set i.replicas.items (c.from.result - 1) y } in
    let w : WasPulled s t (c.from.result - 1) c.index_mut.result.now y c.pull-pulled.result = record {
      there = there;
      set = refl;
      seen = e.seen;
      length_is = e.length;
      copies = e.ok;
      down = e.down;
      nothing = e.nothing;
      tree = e.err;
      others = e.longer.others;
      longer = e.longer.longer;
      prefix = subst (λ (l : List Entry). IsPrefix y.log l) (ap (λ (v : Table). v.log) e.seen) e.copy.prefix;
    } in
    subst (λ (v : StateView). IfOk c.reply_to.result (λ reply. Acts v (ev.Pull c.args.replica) reply t)) c.self.view_is
    (pull-done s t c.args.replica (c.from.result - 1) c.index_mut.result.now y c.pull-pulled.result c.reply_to.result c.self.invariant (omega (arith, f, g)) w c.reply_to.ensures)

pub returns-clause-err : goal.returns-clause-err
returns-clause-err c =
    let i = c.self.inside in
    let there : slice_get i.replicas.items (c.from.result - 1) ≡ Some c.index_mut.result.now = grind (arith, common_steps, gets) in
    let e = c.pull-pulled.ensures in
    let f = c.requires.here.first in
    let g = c.from.ensures in
    let y = c.pull-pulled.new.self in
    let s : StateView = record { tree = i.tree; replicas = i.replicas.items } in
    let t : StateView = record { tree = c.pull-pulled.new.tree; replicas = slice_set i.replicas.items (c.from.result - 1) y } in
    let w : WasPulled s t (c.from.result - 1) c.index_mut.result.now y c.pull-pulled.result = record {
      there = there;
      set = refl;
      seen = e.seen;
      length_is = e.length;
      copies = e.ok;
      down = e.down;
      nothing = e.nothing;
      tree = e.err;
      others = e.longer.others;
      longer = e.longer.longer;
      prefix = subst (λ (l : List Entry). IsPrefix y.log l) (ap (λ (v : Table). v.log) e.seen) e.copy.prefix;
    } in
    subst (λ (v : StateView). OnErr c.reply_to.result (PullsSome v c.args.replica t)) c.self.view_is
    (pull-stopped s t c.args.replica (c.from.result - 1) c.index_mut.result.now y c.pull-pulled.result c.reply_to.result c.self.invariant (omega (arith, f, g)) w c.reply_to.ensures)
