use Rattle.std.proofs.Common.{◌≡◌, ◌<◌, ◌∙◌, true, length, subst, sym, ap}
use Rattle.std.specs.Prelude.{slice_set, MatchOption, ◌≤◌}
use Rattle.std.specs.declared.option.Option.{Option}
use Rattle.std.specs.declared.option.Option.TheVariants.{Some}
use Rattle.rmt_entries.specs.declared.entry.Entry.{Entry}
use Rattle.rmt_model.specs.Lawful.{entry_at}
use Rattle.rmt_replica.specs.StagedBlocks.{Staged}
use Rattle.std.specs.Prelude.{List, Bool}
use Rattle.rmt_replica.specs.Replicas.{ReplicaView, IsReplica, replica_of}
use Rattle.rmt_replica.specs.Answers.{CanSettle, released, settled}
use Rattle.rmt_replica.proofs.StepLemmas.{view-settled, replica-settled}
use Rattle.rmt_replica.proofs.replica.Replica.settle.Goals as goal

pub invariant_of-self : goal.invariant_of-self
invariant_of-self c =
    let i = c.self.inside in
    let within = subst (λ (r : ReplicaView). c.args.i < length r.log) (sym c.self.view_is) c.requires.place in
    let can = subst (λ (r : ReplicaView). CanSettle r c.args.i) (sym c.self.view_is) c.requires.can in
    let at = subst (λ o. MatchOption o (length i.copy.log ≤ c.args.i) (λ token. entry_at i.copy.log c.args.i ≡ Some token.now.value)) c.unwrap.ensures c.entry.ensures.entry ∙ ap Some (sym c.value.ensures) in
    let staged = c.release.ensures ∙ ap (λ (o : Option Entry). released o i.staged) (sym at) in
    subst (λ (ms : List Bool). IsReplica i.copy ms (replica_of i.number i.up i.fetches i.copy ms i.parts.parts c.release.new.staged i.noted.items)) (sym c.mark.ensures)
    (subst (λ (st : Staged). IsReplica i.copy (slice_set i.queue c.args.i true) (replica_of i.number i.up i.fetches i.copy (slice_set i.queue c.args.i true) i.parts.parts st i.noted.items)) (sym staged)
    (replica-settled i.number i.up i.fetches i.copy i.queue i.parts.parts i.staged i.noted.items c.args.i c.self.invariant within can))

pub returns : goal.returns
returns c =
    let i = c.self.inside in
    let within = subst (λ (r : ReplicaView). c.args.i < length r.log) (sym c.self.view_is) c.requires.place in
    let at = subst (λ o. MatchOption o (length i.copy.log ≤ c.args.i) (λ token. entry_at i.copy.log c.args.i ≡ Some token.now.value)) c.unwrap.ensures c.entry.ensures.entry ∙ ap Some (sym c.value.ensures) in
    let staged = c.release.ensures ∙ ap (λ (o : Option Entry). released o i.staged) (sym at) in
    ap (λ (ms : List Bool). replica_of i.number i.up i.fetches i.copy ms i.parts.parts c.release.new.staged i.noted.items) c.mark.ensures
    ∙ (ap (λ (st : Staged). replica_of i.number i.up i.fetches i.copy (slice_set i.queue c.args.i true) i.parts.parts st i.noted.items) staged
    ∙ (view-settled i.number i.up i.fetches i.copy i.queue i.parts.parts i.staged i.noted.items c.args.i c.self.invariant.marked within
    ∙ ap (λ (r : ReplicaView). settled r c.args.i) c.self.view_is))
