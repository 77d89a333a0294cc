use Rattle.std.proofs.Common.{◌∙◌, sym}
use Rattle.std.specs.Arc.{arc_value}
use Rattle.rmt_supply.proofs.TakenLemmas.{token-read, takes-old, some-mutations}
use Rattle.rmt_supply.proofs.own_parts.take_ready.Goals as goal

pub mutations_to-requires : goal.mutations_to-requires
mutations_to-requires c =
    let r = c.args.replica.now in
    let t = token-read c.entry.result (λ t. t.now) c.copy.result.now r c.args.i c.unwrap-token.result c.entry.ensures.entry c.entry.ensures.place c.entry.ensures.cell c.unwrap-token.ensures c.copy.ensures.log c.copy.ensures.cells in
    let m = c.in-Mutate in
    some-mutations r c.args.i c.unwrap-token.result.now.value m.old m.new m.upto m.count m.mcount c.copy.ensures.standing t.entry (sym c.value.ensures ∙ m.is)

pub returns-in_ok-old-in-Mutate : goal.returns-in_ok-old-in-Mutate
returns-in_ok-old-in-Mutate c =
    let r = c.args.replica.now in
    let t = token-read c.entry.result (λ t. t.now) c.copy.result.now r c.args.i c.unwrap-token.result c.entry.ensures.entry c.entry.ensures.place c.entry.ensures.cell c.unwrap-token.ensures c.copy.ensures.log c.copy.ensures.cells in
    let m = c.in-Mutate in
    let old = c.in_ok-old-in-Mutate in
    takes-old r c.args.i (arc_value old.old) (arc_value c.in_ok-mutations-in-Mutate.mutations) c.in_ok-mutate-in-Mutate.mutate c.unwrap-token.result.now m.old m.new m.upto m.count m.mcount c.requires.ready t (sym c.value.ensures ∙ m.is)
    old.ensures.active old.ensures.named c.in_ok-mutations-in-Mutate.ensures c.in_ok-mutate-in-Mutate.ensures
