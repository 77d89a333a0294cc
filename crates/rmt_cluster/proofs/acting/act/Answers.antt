use Rattle.std.proofs.Common.{ℕ, length, ◌∙◌, List, sym, ap, subst}
use Rattle.rmt_names.specs.Names.{Name}
use Rattle.rmt_events.specs.declared.event.Event.{Event}
use Rattle.rmt_events.specs.declared.event.Event.TheVariants as ev
use Rattle.rmt_table.specs.TableTrees.{IsReplica}
use Rattle.rmt_table_model.specs.Held.{Held}
use Rattle.rmt_cluster.specs.Acting.{ActsWith}
use Rattle.rmt_state.specs.States.{IsNumber}
use Rattle.rmt_cluster.specs.Clusters.{MayAct}
use Rattle.rmt_state.proofs.ChangeLemmas.{if-ok}
use Rattle.rmt_cluster.proofs.acting.act.Goals as goal

-- a number of a replica of the table
is-here : (tree : Held) (k : ℕ) → IsNumber k (length tree.sessions) → IsReplica tree k
is-here tree k n = record { first = n.first; last = n.last }

pub allocate-requires-clause-here : goal.allocate-requires-clause-here
allocate-requires-clause-here c = is-here c.args.state.now.tree c.in-Allocate.replica (subst (MayAct c.args.state.now) c.in-Allocate.is c.requires.may).0

pub allocate-requires-clause-need : goal.allocate-requires-clause-need
allocate-requires-clause-need c = (subst (MayAct c.args.state.now) c.in-Allocate.is c.requires.may).1

pub pull-requires : goal.pull-requires
pull-requires c = record { here = is-here c.args.state.now.tree c.in-Pull.replica (subst (MayAct c.args.state.now) c.in-Pull.is c.requires.may) }

pub apply-requires-clause-here : goal.apply-requires-clause-here
apply-requires-clause-here c = is-here c.args.state.now.tree c.in-Apply.replica (subst (MayAct c.args.state.now) c.in-Apply.is c.requires.may)

pub merge-requires : goal.merge-requires
merge-requires c = record { here = is-here c.args.state.now.tree c.in-Merge.replica (subst (MayAct c.args.state.now) c.in-Merge.is c.requires.may) }

pub mutate-requires : goal.mutate-requires
mutate-requires c = record { here = is-here c.args.state.now.tree c.in-Mutate.replica (subst (MayAct c.args.state.now) c.in-Mutate.is c.requires.may) }

pub kill-requires : goal.kill-requires
kill-requires c = record { here = is-here c.args.state.now.tree c.in-Kill.replica (subst (MayAct c.args.state.now) c.in-Kill.is c.requires.may) }

pub restart-requires : goal.restart-requires
restart-requires c = record { here = is-here c.args.state.now.tree c.in-Restart.replica (subst (MayAct c.args.state.now) c.in-Restart.is c.requires.may) }

pub returns-in-Apply-clause-ok : goal.returns-in-Apply-clause-ok
returns-in-Apply-clause-ok c =
    let a = c.args.attempts.now in
    if-ok _ _ _ (λ r p. subst (λ (e : Event). ActsWith c.args.state.now a e r c.apply.new.state a) (sym c.in-Apply.is) (λ events. p a.made a.open_ones events)) c.apply.ensures.ok

pub returns-in-DropPartition-clause-ok : goal.returns-in-DropPartition-clause-ok
returns-in-DropPartition-clause-ok c =
    let a = c.args.attempts.now in
    if-ok _ _ _ (λ r p. subst (λ (e : Event). ActsWith c.args.state.now a e r c.drop_partition.new.self a) (sym c.in-DropPartition.is) (λ events. p a.made a.open_ones events)) c.drop_partition.ensures.ok

pub returns-in-Merge-clause-ok : goal.returns-in-Merge-clause-ok
returns-in-Merge-clause-ok c =
    let a = c.args.attempts.now in
    if-ok _ _ _ (λ r p. subst (λ (e : Event). ActsWith c.args.state.now a e r c.merge.new.self a) (ap (λ (names : List Name). ev.Merge c.in-Merge.replica names) c.as_slice.ensures ∙ sym c.in-Merge.is) (λ events. p a.made a.open_ones events)) c.merge.ensures.ok

pub returns-in-Mutate-clause-ok : goal.returns-in-Mutate-clause-ok
returns-in-Mutate-clause-ok c =
    let a = c.args.attempts.now in
    if-ok _ _ _ (λ r p. subst (λ (e : Event). ActsWith c.args.state.now a e r c.mutate.new.self a) (sym c.in-Mutate.is) (λ events. p a.made a.open_ones events)) c.mutate.ensures.ok
