use Rattle.std.proofs.Common.{◌≡◌, ℕ, ◌≤◌, inl, List, [], ◌∷◌, length, refl, arith}
use Rattle.rmt_model.specs.Words.{Has, Each}
use Rattle.rmt_events.specs.Views.{Replica}
use Rattle.rmt_events.specs.Whole.{HasNoted, IsMet}
use Rattle.rmt_names.specs.Names.{Name}
use Rattle.rmt_events_tests.proofs.excluded.a_quorum_is_met_by_replicas.Goals as goal

-- one of one or more
first-noted : (xs : List Replica) (a : Name) (by : List ℕ) → 1 ≤ length by → Each (HasNoted xs a) by → ((x : Replica) → Has xs x → Has x.noted a → ⊥) → ⊥
first-noted xs a [] l e f = absurd (omega (arith, l))
first-noted xs a (k ∷ by) l e f = f e.0.replica e.0.is_in e.0.noted

pub returns : goal.returns
returns c = λ s a e none need w.
    let m = w.notes.last a e in
    let n = need m.need m.asked in
    let o = m.enough in
    first-noted s.replicas a m.by (omega (arith, n, o)) m.each none
