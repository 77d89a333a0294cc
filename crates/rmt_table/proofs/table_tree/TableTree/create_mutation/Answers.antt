use Rattle.std.proofs.Common.{ℕ, inl, None, refl, sym, ap, ◌∙◌}
use Rattle.rmt_row.specs.Token.{Token}
use Rattle.rmt_entries.specs.declared.entry.Entry.{Entry}
use Rattle.rmt_entries.specs.declared.entry.Entry.TheVariants.{Mutation}
use Rattle.rmt_history.specs.Copies.{entries}
use Rattle.rmt_model.specs.Lawful.{mutation_count}
use Rattle.rmt_table_model.specs.Numbers.{Nexts}
use Rattle.rmt_table_model.specs.Nodes.{numbers_ops}
use Rattle.rmt_table.specs.MutationOps.{mutation_ops}
use Rattle.rmt_table.specs.contracts.table_tree.TableTree.{the_view}
use Rattle.rmt_table.proofs.LengthLemmas.{room-left}
use Rattle.rmt_table.proofs.AppendLemmas.{placed-snoc, entries-more, tree-row}
use Rattle.rmt_table_model.specs.Held.{Held}
use Rattle.rmt_table.proofs.ChangeLimits.{limit_error}
use Rattle.rmt_table.proofs.Mutations.{mutation-few, mutation-fine, mutation-entry, mutation-small, mutation-ops, mutation-kept, mutation-creates}
use Rattle.rmt_table.proofs.table_tree.TableTree.create_mutation.Goals as goal

pub append_mutation-requires-clause-in_range : goal.append_mutation-requires-clause-in_range
append_mutation-requires-clause-in_range c =
    mutation-entry (the_view c.self.inside) c.self.inside.log.tokens _ c.self.invariant c.args.self.now c.self.view_is c.args.command c.requires.fits c.requires.in_range None (sym (ap limit_error c.in_ok-numbers.ensures.all)) refl
    c.self.inside.mutations c.in_ok-numbers.numbers refl (c.in_ok-numbers.ensures.numbers ∙ ap (λ (k : Held). k.next) (sym c.self.view_is))

pub take_each-requires : goal.take_each-requires
take_each-requires c = record {
  small = mutation-small (the_view c.self.inside) c.self.inside.log.tokens _ c.self.invariant c.args.self.now c.self.view_is c.args.command c.requires.fits c.requires.in_range None (sym (ap limit_error c.in_ok-numbers.ensures.all)) refl
      c.self.inside.partitions.numbers refl;
}

pub invariant_of-self-2 : goal.invariant_of-self-2
invariant_of-self-2 c =
    tree-row _ _ _ _ c.append_mutation.ensures.row (
    mutation-kept (the_view c.self.inside) c.self.inside.log.tokens _ c.self.invariant c.args.self.now c.self.view_is c.args.command c.requires.fits c.requires.in_range None (sym (ap limit_error c.in_ok-numbers.ensures.all)) refl
    c.append_mutation.new.tree (mutation_ops c.self.inside.mutations c.log_len-place.result c.in_ok-numbers.numbers c.args.command)
    (mutation-ops (the_view c.self.inside) c.self.inside.log.tokens _ c.self.invariant c.args.self.now c.self.view_is c.args.command c.requires.fits c.requires.in_range None (sym (ap limit_error c.in_ok-numbers.ensures.all)) refl
    c.self.inside.mutations c.log_len-place.result c.in_ok-numbers.numbers c.in_ok-numbers.numbers (numbers_ops c.in_ok-numbers.numbers) (mutation_ops c.self.inside.mutations c.log_len-place.result c.in_ok-numbers.numbers c.args.command) refl c.log_len-place.ensures (c.in_ok-numbers.ensures.numbers ∙ ap (λ (k : Held). k.next) (sym c.self.view_is)) refl refl refl)
    c.in_ok-token.ensures.tree
    (entries c.append_mutation.new.log.tokens)
    (entries-more c.self.inside.log.tokens c.append_mutation.new.log.tokens c.in_ok-token.token (Mutation (mutation_count (the_view c.self.inside).log) (the_view c.self.inside).next c.args.command) c.in_ok-token.ensures.log
    (ap (λ (t : Token Entry). t.value) c.in_ok-token.ensures.token ∙ ap (λ (i : ℕ). Mutation i c.in_ok-numbers.numbers c.args.command) c.self.invariant.counted.mutations ∙ ap (λ (ns : Nexts). Mutation (mutation_count (the_view c.self.inside).log) ns c.args.command) (c.in_ok-numbers.ensures.numbers ∙ ap (λ (k : Held). k.next) (sym c.self.view_is))))
    c.take_each.new.self.numbers c.take_each.ensures c.append_mutation.new.log.tokens
    (placed-snoc (the_view c.self.inside).row c.self.inside.log.tokens c.append_mutation.new.log.tokens c.in_ok-token.token _ c.in_ok-token.ensures.log c.in_ok-token.ensures.token
    (room-left (the_view c.self.inside) c.self.inside.log.tokens c.self.inside.log.tokens _ c.self.invariant refl (inl (mutation-few (the_view c.self.inside) c.self.inside.log.tokens _ c.self.invariant c.args.self.now c.self.view_is c.args.command c.requires.fits c.requires.in_range None (sym (ap limit_error c.in_ok-numbers.ensures.all)) refl)))
    c.self.invariant.places))

pub returns-clause-creates : goal.returns-clause-creates
returns-clause-creates c =
    mutation-creates (the_view c.self.inside) c.self.inside.log.tokens _ c.self.invariant c.args.self.now c.self.view_is c.args.command c.requires.fits c.requires.in_range None (sym (ap limit_error c.in_ok-numbers.ensures.all)) refl
    c.append_mutation.new.tree (mutation_ops c.self.inside.mutations c.log_len-place.result c.in_ok-numbers.numbers c.args.command)
    (mutation-ops (the_view c.self.inside) c.self.inside.log.tokens _ c.self.invariant c.args.self.now c.self.view_is c.args.command c.requires.fits c.requires.in_range None (sym (ap limit_error c.in_ok-numbers.ensures.all)) refl
    c.self.inside.mutations c.log_len-place.result c.in_ok-numbers.numbers c.in_ok-numbers.numbers (numbers_ops c.in_ok-numbers.numbers) (mutation_ops c.self.inside.mutations c.log_len-place.result c.in_ok-numbers.numbers c.args.command) refl c.log_len-place.ensures (c.in_ok-numbers.ensures.numbers ∙ ap (λ (k : Held). k.next) (sym c.self.view_is)) refl refl refl)
    c.in_ok-token.ensures.tree
    (entries c.append_mutation.new.log.tokens)
    (entries-more c.self.inside.log.tokens c.append_mutation.new.log.tokens c.in_ok-token.token (Mutation (mutation_count (the_view c.self.inside).log) (the_view c.self.inside).next c.args.command) c.in_ok-token.ensures.log
    (ap (λ (t : Token Entry). t.value) c.in_ok-token.ensures.token ∙ ap (λ (i : ℕ). Mutation i c.in_ok-numbers.numbers c.args.command) c.self.invariant.counted.mutations ∙ ap (λ (ns : Nexts). Mutation (mutation_count (the_view c.self.inside).log) ns c.args.command) (c.in_ok-numbers.ensures.numbers ∙ ap (λ (k : Held). k.next) (sym c.self.view_is))))
    c.take_each.new.self.numbers c.take_each.ensures

pub append_mutation-requires-clause-fine : goal.append_mutation-requires-clause-fine
append_mutation-requires-clause-fine c =
    mutation-fine (the_view c.self.inside) c.self.inside.log.tokens _ c.self.invariant c.args.self.now c.self.view_is c.args.command c.requires.fits c.requires.in_range None (sym (ap limit_error c.in_ok-numbers.ensures.all)) refl
    (mutation_ops c.self.inside.mutations c.log_len-place.result c.in_ok-numbers.numbers c.args.command)
    (mutation-ops (the_view c.self.inside) c.self.inside.log.tokens _ c.self.invariant c.args.self.now c.self.view_is c.args.command c.requires.fits c.requires.in_range None (sym (ap limit_error c.in_ok-numbers.ensures.all)) refl
    c.self.inside.mutations c.log_len-place.result c.in_ok-numbers.numbers c.in_ok-numbers.numbers (numbers_ops c.in_ok-numbers.numbers) (mutation_ops c.self.inside.mutations c.log_len-place.result c.in_ok-numbers.numbers c.args.command) refl c.log_len-place.ensures (c.in_ok-numbers.ensures.numbers ∙ ap (λ (k : Held). k.next) (sym c.self.view_is)) refl refl refl)

pub append_mutation-requires-clause-room : goal.append_mutation-requires-clause-room
append_mutation-requires-clause-room c =
    room-left (the_view c.self.inside) c.self.inside.log.tokens c.self.inside.log.tokens _ c.self.invariant refl (inl (mutation-few (the_view c.self.inside) c.self.inside.log.tokens _ c.self.invariant c.args.self.now c.self.view_is c.args.command c.requires.fits c.requires.in_range None (sym (ap limit_error c.in_ok-numbers.ensures.all)) refl))
