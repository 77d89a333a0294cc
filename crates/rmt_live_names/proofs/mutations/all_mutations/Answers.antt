use Rattle.std.proofs.Common.{All, ◌∙◌, [], ap, subst, sym}
use Rattle.rmt_entries.specs.declared.entry.Entry.{Entry}
use Rattle.rmt_row.specs.Token.{Token}
use Rattle.rmt_changes.specs.Changes.{entries_of}
use Rattle.rmt_model.specs.Words.{Each}
use Rattle.rmt_history.specs.Mutations.{HasOrder, IsTokenBelow, mutations_below}
use Rattle.rmt_live_names.proofs.MutationTokens.{all-below, tokens-fit, tokens-count, token-places}
use Rattle.rmt_live_names.proofs.mutations.all_mutations.Goals as goal

pub returns-in-Some-clause-entries : goal.returns-in-Some-clause-entries
returns-in-Some-clause-entries c =
    let log = c.args.copy.now.log in
    ap entries_of (c.as_slice.ensures ∙ c.deref.ensures) ∙ (c.in-Some.ensures.tokens.entries ∙ (ap (mutations_below log) c.len.ensures.len ∙ all-below log))

pub returns-in-Some-clause-fit : goal.returns-in-Some-clause-fit
returns-in-Some-clause-fit c =
    let log = c.args.copy.now.log in
    tokens-fit c.args.copy.now.schema log c.as_slice.result.now c.len.ensures.lawful
    (ap entries_of (c.as_slice.ensures ∙ c.deref.ensures) ∙ (c.in-Some.ensures.tokens.entries ∙ (ap (mutations_below log) c.len.ensures.len ∙ all-below log)))

pub returns-in-Some-clause-ordered : goal.returns-in-Some-clause-ordered
returns-in-Some-clause-ordered c = subst (All (λ (t : Token Entry). HasOrder t.value)) (sym (c.as_slice.ensures ∙ c.deref.ensures)) c.in-Some.ensures.ordered

pub returns-in-Some-clause-count : goal.returns-in-Some-clause-count
returns-in-Some-clause-count c =
    let log = c.args.copy.now.log in
    tokens-count c.args.copy.now.schema log c.as_slice.result.now c.len.ensures.lawful
    (ap entries_of (c.as_slice.ensures ∙ c.deref.ensures) ∙ (c.in-Some.ensures.tokens.entries ∙ (ap (mutations_below log) c.len.ensures.len ∙ all-below log)))

pub returns-in-Some-clause-places : goal.returns-in-Some-clause-places
returns-in-Some-clause-places c =
    let log = c.args.copy.now.log in
    token-places c.args.copy.now _ c.as_slice.result.now c.len.ensures.lawful
    (ap entries_of (c.as_slice.ensures ∙ c.deref.ensures) ∙ (c.in-Some.ensures.tokens.entries ∙ (ap (mutations_below log) c.len.ensures.len ∙ all-below log)))
    (subst (Each (IsTokenBelow c.args.copy.now c.len.result)) (sym (c.as_slice.ensures ∙ c.deref.ensures)) c.in-Some.ensures.tokens.places)

pub returns-in-None-clause-count : goal.returns-in-None-clause-count
returns-in-None-clause-count c =
    let log = c.args.copy.now.log in
    tokens-count c.args.copy.now.schema log [] c.len.ensures.lawful (sym c.in-None.ensures.tokens ∙ (ap (mutations_below log) c.len.ensures.len ∙ all-below log))

pub returns-in-None-clause-entries : goal.returns-in-None-clause-entries
returns-in-None-clause-entries c =
    let log = c.args.copy.now.log in
    sym c.in-None.ensures.tokens ∙ (ap (mutations_below log) c.len.ensures.len ∙ all-below log)
