use Rattle.std.proofs.Common.{◌≡◌, ◌∙◌, List, Bool, sym, ap, [], ◌∷◌, ◌++◌}
use Rattle.rmt_entries.specs.declared.entry.Entry.{Entry}
use Rattle.rmt_row.specs.Token.{Token}
use Rattle.rmt_changes.specs.Changes.{applied_all, entries_of, in_range, mutates}
use Rattle.rmt_changes.proofs.DueLemmas.{kept-next, passed-next, kept-end, due-changed}
use Rattle.rmt_changes.proofs.due.due_mutations.Goals.{then-is_due+in_ok-copy+in_ok-push, else-is_due}
use Rattle.rmt_changes.proofs.due.due_mutations.Goals as goal

pub tokens-preserved : goal.tokens-preserved
tokens-preserved c =
    let test : Token Entry → Bool = λ t. mutates c.args.partition (in_range c.args.low c.args.high) t.value in
    let tested : c.is_due.result ≡ test c.token-item.result = c.is_due.ensures ∙ ap (mutates c.args.partition (in_range c.args.low c.args.high)) c.value.ensures in
    elim c.if-is_due.branch [
      | then-is_due+in_ok-copy+in_ok-push w ↦
          let pushed : w.push.new.self.items ≡ c.tokens.due.items ++ c.token-item.result ∷ [] =
          w.in_ok-push.ensures.items ∙ ap (λ (t : Token Entry). c.tokens.due.items ++ t ∷ []) w.in_ok-copy.ensures in
          ap (λ v. v.items) w.due-is
          ∙ kept-next test c.args.tokens.now c.tokens.token-index c.token-item.result c.tokens.due.items w.push.new.self.items c.token-item.is c.tokens-test.true
          (sym tested ∙ w.if-is_due.true) c.tokens.invariant pushed
      | else-is_due w ↦
          ap (λ v. v.items) w.due-is
          ∙ passed-next test c.args.tokens.now c.tokens.token-index c.token-item.result c.tokens.due.items c.token-item.is c.tokens-test.true
          (sym tested ∙ w.if-is_due.false) c.tokens.invariant
    ]

pub returns-clause-exact : goal.returns-clause-exact
returns-clause-exact c =
    kept-end (λ (t : Token Entry). mutates c.args.partition (in_range c.args.low c.args.high) t.value) c.args.tokens.now c.tokens.token-index c.tokens.due.items c.tokens-test.false c.tokens.invariant

pub returns-clause-all : goal.returns-clause-all
returns-clause-all c = λ row.
    ap (λ (ts : List (Token Entry)). applied_all (entries_of ts) row)
    (kept-end (λ (t : Token Entry). mutates c.args.partition (in_range c.args.low c.args.high) t.value) c.args.tokens.now c.tokens.token-index c.tokens.due.items c.tokens-test.false c.tokens.invariant)
    ∙ due-changed c.args.partition (in_range c.args.low c.args.high) c.args.tokens.now row
