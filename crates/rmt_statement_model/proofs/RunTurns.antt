-- RUN: which events its turns are drawn from.
use Rattle.std.proofs.Common.{◌≡◌, ℕ, zero, suc, inl, inr, Bool, true, false, cond, List, [], ◌∷◌, length, refl, nat_eq, nat_le, ◌%◌}
use Rattle.std.specs.Prelude.{slice_get}
use Rattle.std.specs.declared.option.Option.{Option}
use Rattle.std.specs.declared.option.Option.TheVariants.{Some, None}
use Rattle.rmt_names.specs.Names.{Name}
use Rattle.rmt_model.specs.Words.{Has}
use Rattle.rmt_model.proofs.Drops.{some-same}
use Rattle.rmt_events.specs.Views.{Replica}
use Rattle.rmt_events.specs.Clusters.{Cluster}
use Rattle.rmt_events.specs.Draws.{Turn, turn, turn_with, turn_at, pending, merge_or_pull, mutate_or_pull, apply_or_pull, chosen, next_mutation, drawn, stepped}
use Rattle.rmt_events.specs.Whole.{IsWhole}
use Rattle.rmt_statement_model.specs.Shows.{ups}
use Rattle.rmt_statement_model.proofs.UpLaws.{KeepsSessions, up-of}
use Rattle.rmt_statement_model.proofs.LockSteps.{TakesNoLock}
use Rattle.rmt_events.specs.declared.event.Event.{Event}
use Rattle.rmt_events.specs.declared.event.Event.TheVariants as ev

-- the events that turns are drawn from, where these replicas are up: only one of them restarts
abbrev pub IsOfTurn : (ℕ → Bool) → Event → Type 0
IsOfTurn up (ev.Pull k) = Unit {0}
IsOfTurn up (ev.Apply k i) = Unit {0}
IsOfTurn up (ev.Merge k names) = Unit {0}
IsOfTurn up (ev.Mutate k part upto) = Unit {0}
IsOfTurn up (ev.Restart k) = up k ≡ true
IsOfTurn up e = ⊥

-- what stands at a place is among them
get-has : (xs : List Replica) (i : ℕ) (z : Replica) → slice_get xs i ≡ Some z → Has xs z
get-has [] i z e = absurd (cc)
get-has (x ∷ xs) zero z e = inl (some-same x z e)
get-has (x ∷ xs) (suc i) z e = inr (get-has xs i z e)

-- a turn is one of them
pub turn-is : (s : Cluster) (x : ℕ) → IsWhole s → IsOfTurn (ups s) (turn s x).event
turn-is s x w = given (drawn (stepped x) % 8) (stepped (stepped x)) (slice_get s.replicas (drawn (stepped (stepped x)) % length s.replicas)) (λ z q. get-has s.replicas (drawn (stepped (stepped x)) % length s.replicas) z q)
  where
    merges : (k : ℕ) (o : Option (List Name)) → IsOfTurn (ups s) (merge_or_pull k o)
    merges k None = tt
    merges k (Some names) = tt

    mutates : (k : ℕ) (o : Option (Name × ℕ)) → IsOfTurn (ups s) (mutate_or_pull k o)
    mutates k None = tt
    mutates k (Some m) = tt

    applies : (y k : ℕ) (is : List ℕ) → IsOfTurn (ups s) (apply_or_pull y k is).event
    applies y k [] = tt
    applies y k (i ∷ is) = tt

    restarts : (k : ℕ) (b : Bool) → ups s k ≡ b → IsOfTurn (ups s) (cond b (ev.Restart k) (ev.Pull k))
    restarts k true e = e
    restarts k false e = tt

    at : (a y : ℕ) (z : Replica) → Has s.replicas z → IsOfTurn (ups s) (turn_at a y z).event
    at a y z h = first (nat_le a 1) (nat_le a 4) (nat_eq a 5) (nat_eq a 6)
      where
        first : (b d e f : Bool) → IsOfTurn (ups s) (Turn.event (
            cond b (record { event = ev.Pull z.number; state = y })
            (cond d (apply_or_pull y z.number (pending z))
            (cond e (record { event = merge_or_pull z.number (chosen z.log 10); state = y })
            (cond f (record { event = mutate_or_pull z.number (next_mutation z.log); state = y })
            (record { event = cond z.up (ev.Restart z.number) (ev.Pull z.number); state = y }))))))
        first true d e f = tt
        first false true e f = applies y z.number (pending z)
        first false false true f = merges z.number (chosen z.log 10)
        first false false false true = mutates z.number (next_mutation z.log)
        first false false false false = restarts z.number z.up (up-of s.replicas z w.rising h)

    given : (a y : ℕ) (o : Option Replica) → ((z : Replica) → o ≡ Some z → Has s.replicas z) → IsOfTurn (ups s) (turn_with a y o).event
    given a y None f = tt
    given a y (Some z) f = at a y z (f z refl)

-- it ends no session, and begins none where there is none
pub turn-sessions : (up : ℕ → Bool) (e : Event) → IsOfTurn up e → KeepsSessions up e
turn-sessions up (ev.Kill k) q = absurd q
turn-sessions up (ev.Restart k) q = q
turn-sessions up e q = tt

-- it takes no number for a block
pub turn-locks : (up : ℕ → Bool) (e : Event) → IsOfTurn up e → TakesNoLock e
turn-locks up (ev.Allocate k b need) q = absurd q
turn-locks up (ev.Again id) q = absurd q
turn-locks up e q = tt
