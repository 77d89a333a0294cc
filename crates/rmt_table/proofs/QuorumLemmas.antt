-- Why an insert that asks for a quorum isn't taken.
use Rattle.std.proofs.Common.{◌≡◌, ℕ, ◌<◌, ◌≤◌, length, Option, Some, None, refl, sym, arith, ◌∙◌}
use Rattle.std.specs.Option.{option_map}
use Rattle.rmt_names.specs.Names.{Name}
use Rattle.rmt_model.specs.Quorum.{Pending}
use Rattle.rmt_events.specs.Views.{Table}
use Rattle.rmt_events.specs.TableRefusals.{AreTooFew, MeetsPending, HasQuorum}

module _ (t : Table) (need live : ℕ) (is : live ≡ length t.sessions) where
  pub too-few : (told : ℕ) → told ≡ live → live < need → AreTooFew t need told need
  too-few told e l = (e ∙ is, refl, omega (arith, e, l))

  pub asks-none : need ≤ live → need < 2 → HasQuorum t need
  asks-none m l = record { enough = omega (arith, is, m); quiet = λ k. absurd (omega (arith, k, l)) }

  pub none-waits : need ≤ live → (o : Option Name) → o ≡ option_map (λ p. p.part) t.quorum.pending → o ≡ None → HasQuorum t need
  none-waits m o e n = record { enough = omega (arith, is, m); quiet = λ k. go t.quorum.pending (sym e ∙ n) }
    where
      go : (p : Option Pending) → option_map (λ (q : Pending). q.part) p ≡ None → p ≡ None
      go None f = refl
      go (Some q) f = absurd (cc)

  pub one-waits : need ≤ live → 2 ≤ need → (o : Option Name) (a : Name) → o ≡ option_map (λ p. p.part) t.quorum.pending → o ≡ Some a → MeetsPending t need a
  one-waits m k o a e f = let g = go t.quorum.pending refl (sym e ∙ f) in (omega (arith, is, m), k, g.0, g.1, g.2)
    where
      go : (p : Option Pending) → t.quorum.pending ≡ p → option_map (λ (q : Pending). q.part) p ≡ Some a → (q : Pending) × (t.quorum.pending ≡ Some q) × (q.part ≡ a)
      go None i f = absurd (cc)
      go (Some q) i f = (q, i, cc)
