use Rattle.std.proofs.Common.{◌≡◌, ◌∙◌, ◌≤◌, ℕ, Bool, true, List, [], ◌∷◌, sym, ap, subst, arith}
use Rattle.std.specs.Prelude.{⊤}
use Rattle.std.specs.Arc.{arc_value}
use Rattle.rmt_values.specs.Rows.{Shape}
use Rattle.rmt_state.specs.States.{StateView}
use Rattle.rmt_known.specs.KnownTables.{Known, new_known}
use Rattle.rmt_workers.specs.Closing.{AreAtRest}
use Rattle.rmt_workers.proofs.CallerLemmas.{new-at-rest}
use Rattle.rmt_workers.proofs.tests.carried_of.Goals as goal

pub returns-clause-rest : goal.returns-clause-rest
returns-clause-rest c =
    let is : c.in_ok-own.own ≡ new_known (arc_value c.in_ok-same.same) 2 = c.in_ok-own.ensures ∙ ap (λ (x : Shape). new_known x 2) (c.in_ok-shared.ensures ∙ sym c.in_ok-same.ensures) in
    subst (λ (us : List Bool). AreAtRest (λ k b. ⊤) us c.in_ok-known.known.items c.in_ok-states.states.items) (sym c.in_ok-up.ensures.items)
    (subst (λ (ks : List Known). AreAtRest (λ k b. ⊤) (true ∷ true ∷ []) ks c.in_ok-states.states.items) (sym c.in_ok-known.ensures.items)
    (subst (λ (ss : List StateView). AreAtRest (λ k b. ⊤) (true ∷ true ∷ []) (c.in_ok-own.own ∷ []) ss) (sym c.in_ok-states.ensures.items)
    (new-at-rest (λ b. ⊤) (arc_value c.in_ok-same.same) (true ∷ true ∷ []) c.in_ok-own.own c.in_ok-state.state c.in_ok-state.ensures (omega arith) is, tt)))
