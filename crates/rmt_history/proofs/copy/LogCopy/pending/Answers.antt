use Rattle.std.proofs.Common.{◌≡◌, ◌∙◌, take, sym, ap, subst}
use Rattle.std.specs.Arc.{arc_value}
use Rattle.rmt_history.specs.Copies.{History, mutation_tokens}
use Rattle.rmt_history.specs.Mutations.{pending_below, AreTokensBelow, AreOrdered, PlacesRise}
use Rattle.rmt_history.proofs.KeptLemmas.{AreKept, count_under, mutations-rise, under-ordered, answer-pending}
use Rattle.rmt_history.proofs.SharedLemmas.{last-shared}
use Rattle.rmt_history.proofs.VersionLemmas.{below-count}
use Rattle.rmt_history.proofs.copy.LogCopy.pending.Goals as goal

pub count_below-requires : goal.count_below-requires
count_below-requires c =
    let k : AreKept (arc_value c.self.inside.schema) c.self.inside.seen.items = record { lawful = c.self.invariant.lawful; numbered = c.self.invariant.numbered } in
    let all : c.last_list-all.result.now ≡ mutation_tokens c.self.inside.seen.items = last-shared arc_value _ _ _ _ c.last_list-all.ensures c.deref.ensures.value c.self.invariant.mutating in
    subst PlacesRise (sym all) (mutations-rise (arc_value c.self.inside.schema) c.self.inside.seen.items k)

pub count_settled-settled-requires : goal.count_settled-settled-requires
count_settled-settled-requires c =
    let k : AreKept (arc_value c.self.inside.schema) c.self.inside.seen.items = record { lawful = c.self.invariant.lawful; numbered = c.self.invariant.numbered } in
    let all : c.last_list-all.result.now ≡ mutation_tokens c.self.inside.seen.items = last-shared arc_value _ _ _ _ c.last_list-all.ensures c.deref.ensures.value c.self.invariant.mutating in
    let below = c.split_at.ensures.front ∙ (ap (λ m. take m c.last_list-all.result.now) (below-count c.self.inside.seen.items c.last_list-all.result.now c.args.upto c.count_below.result all c.count_below.ensures.count) ∙ ap (take (count_under c.self.inside.seen.items c.args.upto)) all) in
    subst (AreOrdered c.args.name.now) (sym below) (under-ordered (arc_value c.self.inside.schema) c.self.inside.seen.items c.args.name.now c.args.upto k)

pub returns : goal.returns
returns c =
    let k : AreKept (arc_value c.self.inside.schema) c.self.inside.seen.items = record { lawful = c.self.invariant.lawful; numbered = c.self.invariant.numbered } in
    let all : c.last_list-all.result.now ≡ mutation_tokens c.self.inside.seen.items = last-shared arc_value _ _ _ _ c.last_list-all.ensures c.deref.ensures.value c.self.invariant.mutating in
    let below = c.split_at.ensures.front ∙ (ap (λ m. take m c.last_list-all.result.now) (below-count c.self.inside.seen.items c.last_list-all.result.now c.args.upto c.count_below.result all c.count_below.ensures.count) ∙ ap (take (count_under c.self.inside.seen.items c.args.upto)) all) in
    subst (λ (h : History). AreTokensBelow h c.args.upto (pending_below h.log c.args.name.now c.args.upto) c.in_ok-pending.pending.items) c.self.view_is
    (answer-pending (arc_value c.self.inside.schema) c.self.inside.seen.items c.args.name.now c.args.upto c.count_settled-settled.result c.split_at.result.0.now c.split_at-2.result.1.now c.in_ok-pending.pending.items k below c.count_settled-settled.ensures.count c.split_at-2.ensures.back c.in_ok-pending.ensures)
