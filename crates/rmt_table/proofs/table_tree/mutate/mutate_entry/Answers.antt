use Rattle.std.proofs.Common.{◌≡◌, ◌∙◌, ℕ, arith, sym, ap}
use Rattle.std.specs.declared.option.Option.{Option}
use Rattle.std.specs.declared.option.Option.TheVariants.{Some, None}
use Rattle.rmt_history.specs.Mutations.{number_among}
use Rattle.rmt_table.proofs.Mutated.{mutation-below, mutation-number, mutation-order, through-fits, renamed, mutate-entry}
use Rattle.rmt_table.proofs.table_tree.mutate.mutate_entry.Goals as goal

pub unreachable-requires : goal.unreachable-requires
unreachable-requires c =
    let l = mutation-below c.args.copy.now.log c.args.upto c.args.old.now.partition c.requires.pending.number c.requires.pending.at in
    let e = c.in_default.ensures.entry in
    omega (arith, l, e)

pub number_among-requires : goal.number_among-requires
number_among-requires c =
    mutation-order c.args.copy.now.schema c.args.copy.now.log c.args.upto c.in-Some.token.now.value c.in-Mutation.id c.in-Mutation.numbers c.as_slice.result.now c.in-Mutation.command c.requires.lawful c.in-Some.ensures.entry (sym c.value.ensures ∙ c.in-Mutation.is) c.as_slice.ensures

pub unreachable-requires-in_default-number_among : goal.unreachable-requires-in_default-number_among
unreachable-requires-in_default-number_among c =
    let f : ◌≡◌ {A = Option ℕ} None (Some c.requires.pending.number) =
    c.in_default-number_among.ensures ∙ ap (λ xs. number_among xs c.partition.result) c.as_slice.ensures ∙ ap (number_among c.in-Mutation.numbers) c.partition.ensures
    ∙ mutation-number c.args.copy.now.schema c.args.copy.now.log c.args.upto c.in-Some.token.now.value c.in-Mutation.id c.in-Mutation.numbers c.in-Mutation.command c.args.old.now.partition c.requires.pending.number c.requires.lawful c.in-Some.ensures.entry (sym c.value.ensures ∙ c.in-Mutation.is) c.requires.pending.at in
    cc

pub overflow_cast-result : goal.overflow_cast-result
overflow_cast-result c =
    let l = mutation-below c.args.copy.now.log c.args.upto c.args.old.now.partition c.requires.pending.number c.requires.pending.at in
    let f = c.requires.few in
    omega (arith, l, f)

pub overflow_add-result : goal.overflow_add-result
overflow_add-result c =
    let t = through-fits c.args.copy.now.schema c.args.copy.now.log c.args.upto c.in-Some.token.now.value c.in-Mutation.id c.in-Mutation.numbers c.in-Mutation.command c.requires.lawful c.in-Some.ensures.entry (sym c.value.ensures ∙ c.in-Mutation.is) c.requires.few in
    omega (arith, t)

pub returns : goal.returns
returns c =
    mutate-entry c.args.copy.now.schema c.args.copy.now.log c.args.upto c.in-Some.token.now.value c.in-Mutation.id c.in-Mutation.numbers c.in-Mutation.command c.args.old.now c.requires.lawful c.in-Some.ensures.entry (sym c.value.ensures ∙ c.in-Mutation.is) c.requires.pending
    c.in-Some-number_among.number (c.in-Some-number_among.ensures ∙ ap (λ xs. number_among xs c.partition.result) c.as_slice.ensures ∙ ap (number_among c.in-Mutation.numbers) c.partition.ensures)
    c.new-new.result (c.new-new.ensures ∙ renamed c.args.old.now c.partition-2.result c.min.result c.max.result c.level.result c.in-Some-number_among.number c.partition-2.ensures c.min.ensures c.max.ensures.value c.level.ensures)
    c.block_count.result c.block_count.ensures
