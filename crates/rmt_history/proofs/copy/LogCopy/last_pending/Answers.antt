use Rattle.std.proofs.Common.{◌≡◌, ℕ, sym, subst, arith}
use Rattle.std.specs.declared.option.Option.{Option}
use Rattle.std.specs.declared.option.Option.TheVariants.{Some, None}
use Rattle.std.specs.Arc.{arc_value}
use Rattle.rmt_history.specs.Copies.{History, mutation_tokens}
use Rattle.rmt_history.specs.Mutations.{HasOrder, PlacesRise}
use Rattle.rmt_model.specs.Choices.{last_pending}
use Rattle.rmt_history.proofs.KeptLemmas.{AreKept, mutations-rise}
use Rattle.rmt_history.proofs.SharedLemmas.{last-shared}
use Rattle.rmt_history.proofs.VersionLemmas.{settled-order, last-empty, below-count, below-token, answer-settled, answer-pends}
use Rattle.rmt_history.proofs.copy.LogCopy.last_pending.Goals as goal

pub count_below-count-requires : goal.count_below-count-requires
count_below-count-requires c =
    let k : AreKept (arc_value c.self.inside.schema) c.self.inside.seen.items = record { lawful = c.self.invariant.lawful; numbered = c.self.invariant.numbered } in
    let all : c.last_list-all.result.now ≡ mutation_tokens c.self.inside.seen.items = last-shared arc_value _ _ _ _ c.last_list-all.ensures c.deref.ensures.value c.self.invariant.mutating in
    subst PlacesRise (sym all) (mutations-rise (arc_value c.self.inside.schema) c.self.inside.seen.items k)

pub returns-then-count-eq0 : goal.returns-then-count-eq0
returns-then-count-eq0 c =
    let k : AreKept (arc_value c.self.inside.schema) c.self.inside.seen.items = record { lawful = c.self.invariant.lawful; numbered = c.self.invariant.numbered } in
    let all : c.last_list-all.result.now ≡ mutation_tokens c.self.inside.seen.items = last-shared arc_value _ _ _ _ c.last_list-all.ensures c.deref.ensures.value c.self.invariant.mutating in
    let n = below-count c.self.inside.seen.items c.last_list-all.result.now c.args.upto c.count_below-count.result all c.count_below-count.ensures.count in
    let z = c.if-count-eq0.true in
    subst (λ (h : History). ◌≡◌ {A = Option ℕ} None (last_pending h.log c.args.name.now c.args.upto)) c.self.view_is
    (sym (last-empty (arc_value c.self.inside.schema) c.self.inside.seen.items c.args.name.now c.args.upto k (omega (arith, n, z))))

pub is_pending-requires : goal.is_pending-requires
is_pending-requires c =
    let k : AreKept (arc_value c.self.inside.schema) c.self.inside.seen.items = record { lawful = c.self.invariant.lawful; numbered = c.self.invariant.numbered } in
    let all : c.last_list-all.result.now ≡ mutation_tokens c.self.inside.seen.items = last-shared arc_value _ _ _ _ c.last_list-all.ensures c.deref.ensures.value c.self.invariant.mutating in
    let z = c.if-count-eq0.false in
    subst HasOrder (sym c.value.ensures)
    (settled-order (arc_value c.self.inside.schema) c.self.inside.seen.items _ c.index-all-newest.result k
    (below-token c.self.inside.seen.items c.last_list-all.result.now c.args.upto c.count_below-count.result c.index-all-newest.result all c.count_below-count.ensures.count (omega (arith, z)) c.count_below-count.ensures.bound c.index-all-newest.is))

pub returns-then-not-is_pending : goal.returns-then-not-is_pending
returns-then-not-is_pending c =
    let k : AreKept (arc_value c.self.inside.schema) c.self.inside.seen.items = record { lawful = c.self.invariant.lawful; numbered = c.self.invariant.numbered } in
    let all : c.last_list-all.result.now ≡ mutation_tokens c.self.inside.seen.items = last-shared arc_value _ _ _ _ c.last_list-all.ensures c.deref.ensures.value c.self.invariant.mutating in
    let z = c.if-count-eq0.false in
    let there = below-token c.self.inside.seen.items c.last_list-all.result.now c.args.upto c.count_below-count.result c.index-all-newest.result all c.count_below-count.ensures.count (omega (arith, z)) c.count_below-count.ensures.bound c.index-all-newest.is in
    subst (λ (h : History). ◌≡◌ {A = Option ℕ} None (last_pending h.log c.args.name.now c.args.upto)) c.self.view_is
    (answer-settled (arc_value c.self.inside.schema) c.self.inside.seen.items c.args.name.now c.args.upto c.index-all-newest.result c.value.result.now c.is_pending.result k there c.value.ensures c.is_pending.ensures c.if-not-is_pending.true)

pub returns : goal.returns
returns c =
    let k : AreKept (arc_value c.self.inside.schema) c.self.inside.seen.items = record { lawful = c.self.invariant.lawful; numbered = c.self.invariant.numbered } in
    let all : c.last_list-all.result.now ≡ mutation_tokens c.self.inside.seen.items = last-shared arc_value _ _ _ _ c.last_list-all.ensures c.deref.ensures.value c.self.invariant.mutating in
    let z = c.if-count-eq0.false in
    let n = below-count c.self.inside.seen.items c.last_list-all.result.now c.args.upto c.count_below-count.result all c.count_below-count.ensures.count in
    let there = below-token c.self.inside.seen.items c.last_list-all.result.now c.args.upto c.count_below-count.result c.index-all-newest.result all c.count_below-count.ensures.count (omega (arith, z)) c.count_below-count.ensures.bound c.index-all-newest.is in
    subst (λ (h : History). Some c.place.result ≡ last_pending h.log c.args.name.now c.args.upto) c.self.view_is
    (answer-pends (arc_value c.self.inside.schema) c.self.inside.seen.items c.args.name.now c.args.upto c.count_below-count.result c.index-all-newest.result c.value.result.now c.is_pending.result c.place.result k n (omega (arith, z)) there c.value.ensures c.is_pending.ensures c.if-not-is_pending.false c.place.ensures)
