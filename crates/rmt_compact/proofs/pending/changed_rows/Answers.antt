use Rattle.std.proofs.Common.{◌∙◌, All, List, sym, ap, subst}
use Rattle.std.proofs.lemmas.List.Elements.{All-filter}
use Rattle.std.specs.declared.option.Option.TheVariants.{Some}
use Rattle.rmt_entries.specs.declared.entry.Entry.{Entry}
use Rattle.rmt_row.specs.Token.{Token}
use Rattle.rmt_changes.specs.Changes.{applied_all, between, in_range, mutates}
use Rattle.rmt_changes.specs.Laws.{EntryFits}
use Rattle.rmt_part.specs.Lineages.{entries_of}
use Rattle.rmt_compact.proofs.MutatedPartLemmas.{due-rows}
use Rattle.rmt_compact.proofs.pending.changed_rows.Goals as goal

pub changed_rows-requires-clause-fit : goal.changed_rows-requires-clause-fit
changed_rows-requires-clause-fit c =
    subst (All (λ (t : Token Entry). EntryFits c.args.schema.now t.value)) (sym (c.deref.ensures.value ∙ c.in_ok-due.ensures.exact))
    (All-filter (λ (t : Token Entry). mutates c.args.partition (in_range c.args.low (Some c.args.high)) t.value) (λ (t : Token Entry). EntryFits c.args.schema.now t.value) c.args.tokens.now c.requires.fit)

pub returns-clause-rows : goal.returns-clause-rows
returns-clause-rows c =
    due-rows c.in_ok-rows.rows.rows c.args.body.now.rows c.in_ok-changed.changed.rows c.deref.result.now c.args.tokens.now c.args.partition (between c.args.low c.args.high)
    (λ row. ap (λ (ts : List (Token Entry)). applied_all (entries_of ts) row) c.deref.ensures.value ∙ c.in_ok-due.ensures.all row)
    c.in_ok-changed.ensures.rows (ap (λ r. r.rows) c.in_ok-rows.ensures ∙ c.data.ensures.rows)
