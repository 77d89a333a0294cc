-- A new table with its replicas is whole.
use Rattle.std.proofs.Common.{◌≡◌, ℕ, Bool, true, List, [], refl, sym, subst, arith}
use Rattle.rmt_values.specs.Rows.{Shape}
use Rattle.rmt_model.specs.Words.{Has}
use Rattle.rmt_model.proofs.Lists.{Each-all}
use Rattle.rmt_model.proofs.Standing.{fair-none}
use Rattle.rmt_events.specs.Views.{Replica}
use Rattle.rmt_events.specs.Whole.{Follows, IsWhole}
use Rattle.rmt_events.specs.Starts.{new_replica, new_cluster, AreNew}
use Rattle.rmt_events.proofs.Moves.{goes-on-refl}

new-follows : (schema : Shape) (sessions : List ℕ) (replicas : List Replica) (number : ℕ) (up : Bool) → (up ≡ true → Has sessions number) × (Has sessions number → up ≡ true) → Follows (new_cluster schema sessions replicas) (new_replica number up)
new-follows schema sessions replicas number up s =
    record {
      stands = record { lawful = tt; marks = refl; fair = fair-none [] _ (λ i. refl); parts = tt; notes = tt };
      prefix = goes-on-refl [];
      session = s;
      sources = λ p n need digest h. absurd h;
      blocks = tt;
      waiting = tt;
    }

pub whole-start : (schema : Shape) (sessions : List ℕ) (replicas : List Replica) → AreNew sessions replicas → IsWhole (new_cluster schema sessions replicas)
whole-start schema sessions replicas n =
    record {
      table = record { lawful = tt; ordered = tt; taken = tt; used = λ p i u. absurd u; locks = tt; window = refl; quorum = record { others = []; pending = refl; last = tt; newest = tt }; values = omega arith };
      rising = n.rising;
      follow = Each-all (Follows (new_cluster schema sessions replicas)) replicas (λ x h. let k = n.each x h in subst (Follows (new_cluster schema sessions replicas)) (sym k.0) (new-follows schema sessions replicas x.number x.up (k.1, k.2)));
      committed = λ i p m source need digest q. absurd (cc);
      attempts = tt;
      apart = tt;
      counted = refl;
      notes = record { pending = λ q e. absurd (cc); last = λ a e. absurd (cc) };
    }
