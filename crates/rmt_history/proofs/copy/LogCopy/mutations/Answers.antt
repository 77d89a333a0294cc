use Rattle.std.proofs.Common.{All, ◌≡◌, ◌<◌, List, [], sym, subst, arith, length}
use Rattle.std.specs.Arc.{arc_value}
use Rattle.rmt_row.specs.Token.{Token}
use Rattle.rmt_entries.specs.declared.entry.Entry.{Entry}
use Rattle.rmt_history.specs.Copies.{History, entries, mutation_tokens}
use Rattle.rmt_history.specs.Mutations.{mutations_below, AreTokensBelow, HasOrder, PlacesRise}
use Rattle.rmt_history.proofs.KeptLemmas.{AreKept, seen, mutations-rise, mutations-under, none-under, shared-under, some-under, under-pairs}
use Rattle.rmt_history.proofs.SharedLemmas.{last-shared}
use Rattle.rmt_history.proofs.VersionLemmas.{below-count}
use Rattle.rmt_history.proofs.copy.LogCopy.mutations.Goals as goal

pub count_below-count-requires : goal.count_below-count-requires
count_below-count-requires c =
    let k : AreKept (arc_value c.self.inside.schema) c.self.inside.seen.items = record { lawful = c.self.invariant.lawful; numbered = c.self.invariant.numbered } in
    let all : c.last_list.result.now ≡ mutation_tokens c.self.inside.seen.items = last-shared arc_value _ _ _ _ c.last_list.ensures c.deref.ensures.value c.self.invariant.mutating in
    subst PlacesRise (sym all) (mutations-rise (arc_value c.self.inside.schema) c.self.inside.seen.items k)

pub returns-then-count-eq0-clause-tokens : goal.returns-then-count-eq0-clause-tokens
returns-then-count-eq0-clause-tokens c =
    let k : AreKept (arc_value c.self.inside.schema) c.self.inside.seen.items = record { lawful = c.self.invariant.lawful; numbered = c.self.invariant.numbered } in
    let all : c.last_list.result.now ≡ mutation_tokens c.self.inside.seen.items = last-shared arc_value _ _ _ _ c.last_list.ensures c.deref.ensures.value c.self.invariant.mutating in
    let n = below-count c.self.inside.seen.items c.last_list.result.now c.args.end c.count_below-count.result all c.count_below-count.ensures.count in
    let z = c.if-count-eq0.true in
    subst (λ (h : History). mutations_below h.log c.args.end ≡ []) c.self.view_is (none-under (arc_value c.self.inside.schema) c.self.inside.seen.items c.args.end k (omega (arith, n, z)))

pub returns-clause-tokens : goal.returns-clause-tokens
returns-clause-tokens c =
    let k : AreKept (arc_value c.self.inside.schema) c.self.inside.seen.items = record { lawful = c.self.invariant.lawful; numbered = c.self.invariant.numbered } in
    let all : c.last_list.result.now ≡ mutation_tokens c.self.inside.seen.items = last-shared arc_value _ _ _ _ c.last_list.ensures c.deref.ensures.value c.self.invariant.mutating in
    let n = below-count c.self.inside.seen.items c.last_list.result.now c.args.end c.count_below-count.result all c.count_below-count.ensures.count in
    let z = c.if-count-eq0.false in
    subst (λ (h : History). AreTokensBelow h c.args.end (mutations_below h.log c.args.end) (arc_value c.index.result.now)) c.self.view_is
    (subst (AreTokensBelow (seen (arc_value c.self.inside.schema) c.self.inside.seen.items) c.args.end (mutations_below (entries c.self.inside.seen.items) c.args.end)) (sym (shared-under arc_value c.self.inside.mutations.items c.self.inside.seen.items c.args.end c.count_below-count.result c.index.result.now c.self.invariant.mutating n (omega (arith, z)) c.index.ensures))
    (mutations-under (arc_value c.self.inside.schema) c.self.inside.seen.items c.args.end k))

pub returns-clause-some : goal.returns-clause-some
returns-clause-some c =
    let all : c.last_list.result.now ≡ mutation_tokens c.self.inside.seen.items = last-shared arc_value _ _ _ _ c.last_list.ensures c.deref.ensures.value c.self.invariant.mutating in
    let n = below-count c.self.inside.seen.items c.last_list.result.now c.args.end c.count_below-count.result all c.count_below-count.ensures.count in
    let z = c.if-count-eq0.false in
    subst (λ (xs : List (Token Entry)). 0 < length xs) (sym (shared-under arc_value c.self.inside.mutations.items c.self.inside.seen.items c.args.end c.count_below-count.result c.index.result.now c.self.invariant.mutating n (omega (arith, z)) c.index.ensures))
    (some-under c.self.inside.seen.items c.args.end c.count_below-count.result n (omega (arith, z)))

pub returns-clause-ordered : goal.returns-clause-ordered
returns-clause-ordered c =
    let k : AreKept (arc_value c.self.inside.schema) c.self.inside.seen.items = record { lawful = c.self.invariant.lawful; numbered = c.self.invariant.numbered } in
    let all : c.last_list.result.now ≡ mutation_tokens c.self.inside.seen.items = last-shared arc_value _ _ _ _ c.last_list.ensures c.deref.ensures.value c.self.invariant.mutating in
    let n = below-count c.self.inside.seen.items c.last_list.result.now c.args.end c.count_below-count.result all c.count_below-count.ensures.count in
    let z = c.if-count-eq0.false in
    subst (λ (xs : List (Token Entry)). All (λ t. HasOrder t.value) xs) (sym (shared-under arc_value c.self.inside.mutations.items c.self.inside.seen.items c.args.end c.count_below-count.result c.index.result.now c.self.invariant.mutating n (omega (arith, z)) c.index.ensures))
    (under-pairs (arc_value c.self.inside.schema) c.self.inside.seen.items c.args.end k)
