use Rattle.std.proofs.Common.{◌≡◌, ◌<◌, refl, sym, ap, subst, arith, ◌∙◌, length, List}
use Rattle.std.specs.declared.option.Option.TheVariants.{Some}
use Rattle.rmt_row.specs.Token.{Token}
use Rattle.rmt_entries.specs.declared.entry.Entry.{Entry}
use Rattle.rmt_model.specs.Words.{Each}
use Rattle.rmt_model.specs.Lawful.{entry_at}
use Rattle.rmt_history.specs.Copies.{IsLogOf, HasRowOf}
use Rattle.rmt_history.proofs.Copied.{length-entries}
use Rattle.rmt_table_model.specs.Held.{Held}
use Rattle.rmt_table.specs.TableTrees.{IsCopyOf}
use Rattle.rmt_table.proofs.Pulls.{meets, of-row}
use Rattle.rmt_table.specs.contracts.table_tree.TableTree.{the_view}
use Rattle.rmt_table.proofs.table_tree.TableTree.meet.Goals as goal

pub meet_tokens-requires : goal.meet_tokens-requires
meet_tokens-requires c = record {
  row = subst (Each (HasRowOf c.args.copy.now)) (sym (c.as_slice.ensures ∙ c.tokens.ensures))
      (of-row (the_view c.self.inside) c.self.inside.log.tokens _ c.self.invariant c.args.copy.now (subst (λ (h : Held). IsLogOf h.row c.args.copy.now) (sym c.self.view_is) c.requires.row));
}

pub returns-clause-of : goal.returns-clause-of
returns-clause-of c = λ yes. subst (λ (h : Held). IsCopyOf h c.args.copy.now) c.self.view_is
    (meets (the_view c.self.inside) c.self.inside.log.tokens _ c.self.invariant refl c.args.copy.now (c.requires.schema ∙ ap (λ (h : Held). h.schema) (sym c.self.view_is))
    (subst (λ (h : Held). IsLogOf h.row c.args.copy.now) (sym c.self.view_is) c.requires.row)
    (let a = c.len.ensures in let b = c.len-2.ensures.len in let e = c.if-len.false in let n = length-entries c.self.inside.log.tokens in omega (arith, a, b, e, n))
    (subst (λ (ts : List (Token Entry)). Each (λ t. t.place < length c.args.copy.now.log → entry_at c.args.copy.now.log t.place ≡ Some t.value) ts) (c.as_slice.ensures ∙ c.tokens.ensures) c.meet_tokens.ensures))
