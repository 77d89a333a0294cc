use Rattle.std.proofs.Common.{◌≡◌, ◌+◌, ◌-◌, arith, refl, sym, subst, slice_set}
use Rattle.std.specs.Prelude.{slice_get, IfOk, OnErr}
use Rattle.std.specs.declared.option.Option.TheVariants.{Some}
use Rattle.std.proofs.lemmas.Grind.{common_steps}
use Rattle.std.proofs.lemmas.Option.{gets}
use Rattle.rmt_table.specs.TableTrees.{IsReplica}
use Rattle.rmt_events.specs.declared.event.Event.TheVariants as ev
use Rattle.rmt_state.specs.States.{StateView, Belongs, Acts}
use Rattle.rmt_state.proofs.StateLemmas.{at-place}
use Rattle.rmt_state.proofs.NoteLemmas.{WasNoted, note-done, note-stays, state-noted}
use Rattle.rmt_state.proofs.state.State.note.Goals as goal

pub note-noted-requires-clause-here : goal.note-noted-requires-clause-here
note-noted-requires-clause-here c =
    let i = c.self.inside in
    let there : slice_get i.replicas.items (c.from.result - 1) ≡ Some c.index_mut.result.now = grind (arith, common_steps, gets) in
    let b : Belongs i.tree (1 + (c.from.result - 1)) c.index_mut.result.now = at-place i.tree 1 i.replicas.items (c.from.result - 1) c.index_mut.result.now c.self.invariant.numbered there in
    let f = c.requires.here.first in
    let e = c.from.ensures in
    let n = b.numbered in
    let q : c.args.replica ≡ c.index_mut.result.now.number = omega (arith, f, e, n) in
    subst (IsReplica i.tree) q (subst (λ (v : StateView). IsReplica v.tree c.args.replica) (sym c.self.view_is) c.requires.here)

pub note-noted-requires-clause-copy : goal.note-noted-requires-clause-copy
note-noted-requires-clause-copy c =
    let i = c.self.inside in
    let there : slice_get i.replicas.items (c.from.result - 1) ≡ Some c.index_mut.result.now = grind (arith, common_steps, gets) in
    Belongs.copy (at-place i.tree 1 i.replicas.items (c.from.result - 1) c.index_mut.result.now c.self.invariant.numbered there)

pub invariant_of-self : goal.invariant_of-self
invariant_of-self c =
    let i = c.self.inside in
    let there : slice_get i.replicas.items (c.from.result - 1) ≡ Some c.index_mut.result.now = grind (arith, common_steps, gets) in
    let e = c.note-noted.ensures in
    state-noted i.tree c.note-noted.new.tree i.replicas.items (c.from.result - 1) c.index_mut.result.now c.note-noted.new.self c.note-noted.result c.self.invariant there e.noted e.err e.err_table (record { sessions = e.replicas; row = e.row })

pub returns-clause-ok : goal.returns-clause-ok
returns-clause-ok c =
    let i = c.self.inside in
    let there : slice_get i.replicas.items (c.from.result - 1) ≡ Some c.index_mut.result.now = grind (arith, common_steps, gets) in
    let e = c.note-noted.ensures in
    let f = c.requires.here.first in
    let g = c.from.ensures in
    let y = c.note-noted.new.self in
    let s : StateView = record { tree = i.tree; replicas = i.replicas.items } in
    let t : StateView = record { tree = c.note-noted.new.tree; replicas = slice_set i.replicas.items (c.from.result - 1) y } in
    let w : WasNoted s t (c.from.result - 1) c.index_mut.result.now y c.note-noted.result = record {
      there = there;
      set = refl;
      noted = e.noted;
      down = e.down;
      stays = e.err;
      table_stays = e.err_table;
    } in
    subst (λ (v : StateView). IfOk c.reply_to.result (λ reply. Acts v (ev.Note c.args.replica) reply t)) c.self.view_is
    (note-done s t c.args.replica (c.from.result - 1) c.index_mut.result.now y c.note-noted.result c.reply_to.result c.self.invariant (omega (arith, f, g)) w c.reply_to.ensures)

pub returns-clause-err : goal.returns-clause-err
returns-clause-err c =
    let i = c.self.inside in
    let there : slice_get i.replicas.items (c.from.result - 1) ≡ Some c.index_mut.result.now = grind (arith, common_steps, gets) in
    let e = c.note-noted.ensures in
    let f = c.requires.here.first in
    let g = c.from.ensures in
    let y = c.note-noted.new.self in
    let s : StateView = record { tree = i.tree; replicas = i.replicas.items } in
    let t : StateView = record { tree = c.note-noted.new.tree; replicas = slice_set i.replicas.items (c.from.result - 1) y } in
    let w : WasNoted s t (c.from.result - 1) c.index_mut.result.now y c.note-noted.result = record {
      there = there;
      set = refl;
      noted = e.noted;
      down = e.down;
      stays = e.err;
      table_stays = e.err_table;
    } in
    subst (λ (v : StateView). OnErr c.reply_to.result (t ≡ v)) c.self.view_is
    (note-stays s t (c.from.result - 1) c.index_mut.result.now y c.note-noted.result c.reply_to.result w c.reply_to.ensures)
