use Rattle.std.proofs.Common.{◌≡◌, ◌-◌, ◌∙◌, List, length, take, ap, arith, sym, subst}
use Rattle.std.specs.Prelude.{slice_get, IfOk, IfErr, IfSome, OnOk}
use Rattle.std.specs.declared.option.Option.TheVariants.{Some}
use Rattle.std.proofs.lemmas.Grind.{common_steps}
use Rattle.std.proofs.lemmas.Option.{gets}
use Rattle.rmt_entries.specs.declared.entry.Entry.{Entry}
use Rattle.rmt_model.specs.Lawful.{IsPrefix}
use Rattle.rmt_table.specs.Causes.{mutate_cause}
use Rattle.rmt_table.specs.declared.mutate_error.MutateError.{MutateError}
use Rattle.rmt_events.specs.TableRefusals.{NotMutated}
use Rattle.rmt_table.specs.TableTrees.{table_at, IsMutateOf}
use Rattle.rmt_events.specs.LogEvents.{IsMutable}
use Rattle.rmt_events.specs.declared.event.Event.TheVariants as ev
use Rattle.rmt_events.specs.declared.reply.Reply.TheVariants as rp
use Rattle.rmt_events.specs.declared.step_refused.StepRefused.TheVariants as rf
use Rattle.rmt_state.specs.States.{StateView, Acts}
use Rattle.rmt_state.proofs.StateLemmas.{at-place, state-after}
use Rattle.rmt_table.proofs.ChoiceLemmas.{yes, not-yes}
use Rattle.rmt_state.proofs.AssignLemmas.{mutate-down, mutate-not-live, mutate-on, mutate-told}
use Rattle.rmt_state.proofs.state.State.mutate.Goals as goal

pub returns-then-not-is_up-clause-ok : goal.returns-then-not-is_up-clause-ok
returns-then-not-is_up-clause-ok c =
    let i = c.self.inside in
    let there : slice_get i.replicas.items (c.from.result - 1) ≡ Some c.index-worker.result.now = grind (arith, common_steps, gets) in
    let f = c.requires.here.first in
    let e = c.from.ensures in
    subst (λ (v : StateView). Acts v (ev.Mutate c.args.replica c.args.old.now c.args.upto) (rp.Refused rf.Down) v) c.self.view_is
    (mutate-down (record { tree = i.tree; replicas = i.replicas.items }) c.args.replica (c.from.result - 1) c.index-worker.result.now c.args.old.now c.args.upto (record { state = c.self.invariant; numbered = omega (arith, f, e); there = there }) (sym c.is_up.ensures ∙ c.if-not-is_up.true))

pub returns-then-not-is_mutable-clause-ok : goal.returns-then-not-is_mutable-clause-ok
returns-then-not-is_mutable-clause-ok c =
    let i = c.self.inside in
    let there : slice_get i.replicas.items (c.from.result - 1) ≡ Some c.index-worker.result.now = grind (arith, common_steps, gets) in
    let f = c.requires.here.first in
    let e = c.from.ensures in
    subst (λ (v : StateView). Acts v (ev.Mutate c.args.replica c.args.old.now c.args.upto) (rp.Refused rf.NotLive) v) c.self.view_is
    (mutate-not-live (record { tree = i.tree; replicas = i.replicas.items }) c.args.replica (c.from.result - 1) c.index-worker.result.now c.args.old.now c.args.upto (record { state = c.self.invariant; numbered = omega (arith, f, e); there = there }) (sym c.is_up.ensures ∙ c.if-not-is_up.false)
    (λ h. not-yes c.is_mutable.result c.if-not-is_mutable.true (c.is_mutable.ensures.1 (subst (λ (log : List Entry). IsMutable log c.args.old.now c.args.upto) (sym c.copy-copy.ensures.log) h))))

pub assign_mutate-assigned-requires-clause-of : goal.assign_mutate-assigned-requires-clause-of
assign_mutate-assigned-requires-clause-of c =
    let i = c.self.inside in
    let there : slice_get i.replicas.items (c.from.result - 1) ≡ Some c.index-worker.result.now = grind (arith, common_steps, gets) in
    let b = at-place i.tree 1 i.replicas.items (c.from.result - 1) c.index-worker.result.now c.self.invariant.numbered there in
    let e = c.copy-copy.ensures in
    record { schema = e.schema ∙ b.copy.schema; prefix = subst (λ (log : List Entry). IsPrefix log i.tree.log) (sym e.log) b.copy.prefix; cells = e.cells ∙ (b.copy.cells ∙ ap (λ (log : List Entry). take (length log) i.tree.row) (sym e.log)) }

pub invariant_of-self : goal.invariant_of-self
invariant_of-self c =
    let i = c.self.inside in
    let e = c.assign_mutate-assigned.ensures in
    state-after c.assign_mutate-assigned.result (λ token. IsMutateOf i.tree c.args.old.now c.args.upto token c.assign_mutate-assigned.new.self) i.tree c.assign_mutate-assigned.new.self i.replicas.items c.self.invariant
    (mutate-on i.tree c.assign_mutate-assigned.new.self c.args.old.now c.args.upto (record { sessions = e.replicas; row = e.row })) e.done e.err

pub returns-clause-ok : goal.returns-clause-ok
returns-clause-ok c =
    let i = c.self.inside in
    let there : slice_get i.replicas.items (c.from.result - 1) ≡ Some c.index-worker.result.now = grind (arith, common_steps, gets) in
    let f = c.requires.here.first in
    let e = c.from.ensures in
    let l = c.copy-copy.ensures.log in
    let a = c.assign_mutate-assigned.ensures in
    let s : StateView = record { tree = i.tree; replicas = i.replicas.items } in
    subst (λ (v : StateView). IfOk c.mutate_reply.result (λ reply. Acts v (ev.Mutate c.args.replica c.args.old.now c.args.upto) reply (record { tree = c.assign_mutate-assigned.new.self; replicas = i.replicas.items }))) c.self.view_is
    (mutate-told s c.assign_mutate-assigned.new.self c.args.replica (c.from.result - 1) c.index-worker.result.now c.args.old.now c.args.upto c.log_len-place.result c.assign_mutate-assigned.result c.mutate_reply.result
    (record {
      worker = record { state = c.self.invariant; numbered = omega (arith, f, e); there = there };
      up = sym c.is_up.ensures ∙ c.if-not-is_up.false;
      chosen = subst (λ (log : List Entry). IsMutable log c.args.old.now c.args.upto) l (c.is_mutable.ensures.0 (yes c.is_mutable.result c.if-not-is_mutable.false));
      place_is = c.log_len-place.ensures;
      done = a.done;
      current = subst (λ (log : List Entry). OnOk c.assign_mutate-assigned.result (length log ≡ length i.tree.log)) l a.current;
      refused = subst (λ (log : List Entry). IfErr c.assign_mutate-assigned.result (λ (x : MutateError). IfSome (mutate_cause x) (NotMutated (table_at i.tree) (length log)))) l a.refused;
      stays = a.err;
    }) c.mutate_reply.ensures)
