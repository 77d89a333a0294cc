use Rattle.std.proofs.Common.{◌≡◌, ◌∙◌, sym, subst, arith}
use Rattle.std.specs.declared.option.Option.TheVariants.{Some, None}
use Rattle.std.specs.Arc.{arc_value}
use Rattle.rmt_model.specs.Lawful.{ver}
use Rattle.rmt_history.specs.Copies.{History, mutation_tokens}
use Rattle.rmt_history.specs.Mutations.{AreOrdered, HasOrder}
use Rattle.rmt_history.proofs.KeptLemmas.{AreKept, mutations-ordered}
use Rattle.rmt_history.proofs.SharedLemmas.{last-shared}
use Rattle.rmt_history.proofs.VersionLemmas.{answer-none, answer-some, settled-token, settled-order}
use Rattle.rmt_history.proofs.copy.LogCopy.ver.Goals as goal

pub count_settled-settled-requires : goal.count_settled-settled-requires
count_settled-settled-requires c =
    let k : AreKept (arc_value c.self.inside.schema) c.self.inside.seen.items = record { lawful = c.self.invariant.lawful; numbered = c.self.invariant.numbered } in
    let all : c.last_list-all.result.now ≡ mutation_tokens c.self.inside.seen.items = last-shared arc_value _ _ _ _ c.last_list-all.ensures c.deref.ensures.value c.self.invariant.mutating in
    subst (AreOrdered c.args.name.now) (sym all) (mutations-ordered (arc_value c.self.inside.schema) c.self.inside.seen.items c.args.name.now k)

pub returns-then-settled-eq0 : goal.returns-then-settled-eq0
returns-then-settled-eq0 c =
    let k : AreKept (arc_value c.self.inside.schema) c.self.inside.seen.items = record { lawful = c.self.invariant.lawful; numbered = c.self.invariant.numbered } in
    let all : c.last_list-all.result.now ≡ mutation_tokens c.self.inside.seen.items = last-shared arc_value _ _ _ _ c.last_list-all.ensures c.deref.ensures.value c.self.invariant.mutating in
    let z = c.if-settled-eq0.true in
    subst (λ (h : History). 0 ≡ ver h.log c.args.name.now) c.self.view_is
    (answer-none (arc_value c.self.inside.schema) c.self.inside.seen.items c.last_list-all.result.now c.args.name.now c.count_settled-settled.result k all c.count_settled-settled.ensures.count (omega (arith, z)))

pub number_in-requires : goal.number_in-requires
number_in-requires c =
    let k : AreKept (arc_value c.self.inside.schema) c.self.inside.seen.items = record { lawful = c.self.invariant.lawful; numbered = c.self.invariant.numbered } in
    let all : c.last_list-all.result.now ≡ mutation_tokens c.self.inside.seen.items = last-shared arc_value _ _ _ _ c.last_list-all.ensures c.deref.ensures.value c.self.invariant.mutating in
    let z = c.if-settled-eq0.false in
    subst HasOrder (sym c.value.ensures)
    (settled-order (arc_value c.self.inside.schema) c.self.inside.seen.items _ c.index-all-last.result k
    (settled-token c.self.inside.seen.items c.last_list-all.result.now c.args.name.now c.count_settled-settled.result c.index-all-last.result all c.count_settled-settled.ensures.count (omega (arith, z)) c.count_settled-settled.ensures.bound c.index-all-last.is))

pub returns-in_default : goal.returns-in_default
returns-in_default c =
    let k : AreKept (arc_value c.self.inside.schema) c.self.inside.seen.items = record { lawful = c.self.invariant.lawful; numbered = c.self.invariant.numbered } in
    let all : c.last_list-all.result.now ≡ mutation_tokens c.self.inside.seen.items = last-shared arc_value _ _ _ _ c.last_list-all.ensures c.deref.ensures.value c.self.invariant.mutating in
    let z = c.if-settled-eq0.false in
    subst (λ (h : History). 0 ≡ ver h.log c.args.name.now) c.self.view_is
    (answer-some (arc_value c.self.inside.schema) c.self.inside.seen.items c.last_list-all.result.now c.args.name.now c.count_settled-settled.result c.index-all-last.result c.value.result.now c.partition.result None k all c.count_settled-settled.ensures.count (omega (arith, z)) c.count_settled-settled.ensures.bound c.index-all-last.is c.value.ensures c.partition.ensures (sym c.in_default.is ∙ c.number_in.ensures))

pub returns : goal.returns
returns c =
    let k : AreKept (arc_value c.self.inside.schema) c.self.inside.seen.items = record { lawful = c.self.invariant.lawful; numbered = c.self.invariant.numbered } in
    let all : c.last_list-all.result.now ≡ mutation_tokens c.self.inside.seen.items = last-shared arc_value _ _ _ _ c.last_list-all.ensures c.deref.ensures.value c.self.invariant.mutating in
    let z = c.if-settled-eq0.false in
    subst (λ (h : History). c.in-Some.number ≡ ver h.log c.args.name.now) c.self.view_is
    (answer-some (arc_value c.self.inside.schema) c.self.inside.seen.items c.last_list-all.result.now c.args.name.now c.count_settled-settled.result c.index-all-last.result c.value.result.now c.partition.result (Some c.in-Some.number) k all c.count_settled-settled.ensures.count (omega (arith, z)) c.count_settled-settled.ensures.bound c.index-all-last.is c.value.ensures c.partition.ensures (sym c.in-Some.is ∙ c.number_in.ensures))
