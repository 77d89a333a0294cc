-- A merge over a lock: each event with the state that it leads to.
use Rattle.std.proofs.Common.{◌≡◌, ℕ, ◌≤◌, inl, inr, true, false, List, [], ◌∷◌, refl, arith, ap}
use Rattle.std.specs.Str.{bytes_eq}
use Rattle.std.specs.declared.option.Option.TheVariants.{None}
use Rattle.rmt_values.specs.declared.column.Column.{Column}
use Rattle.rmt_values.specs.Rows.{Shape}
use Rattle.rmt_names.specs.Names.{Name, block_name}
use Rattle.rmt_queue.specs.Marks.{grown}
use Rattle.rmt_events.specs.Views.{Lock}
use Rattle.rmt_events.specs.Clusters.{Cluster}
use Rattle.rmt_events.specs.Starts.{new_replica}
use Rattle.rmt_events.specs.TableRefusals.{IsInFlight}
use Rattle.rmt_events.specs.Steps.{Step, After}
use Rattle.rmt_events_tests.specs.WorkedEvents.{Shared, IsRow, of_one_column, two_replicas, in_flight}
use Rattle.rmt_events.specs.declared.step_refused.StepRefused.TheVariants as rf
use Rattle.rmt_events.specs.declared.event.Event.TheVariants as ev
use Rattle.rmt_events.specs.declared.reply.Reply.TheVariants as rp
use Rattle.rmt_events_tests.proofs.ComputedSteps.{with_event, allocated, allocates, staged, stages, committed, commits, pulled, pulls}
use Rattle.rmt_events_tests.proofs.WorkedDrop.{row_block, attempt_of, holding, under, lock_of, unkept}

module _ (schema : Shape) (column : Column) (one two five : Shared) (d1 d2 d5 : List ℕ) (e1 : IsRow one 1 d1) (e2 : IsRow two 2 d2) (e5 : IsRow five 5 d5) (apart : bytes_eq d5 d1 ≡ false) where
  abbrev s0 : Cluster
  s0 = two_replicas (of_one_column schema column)

  abbrev s1 : Cluster
  s1 = with_event (allocated s0 1 (row_block 1 d1)) (ev.Allocate 1 one 0) (rp.Attempt 0 0)

  k1 : Step s0 (ev.Allocate 1 one 0) (rp.Attempt 0 0) s1
  k1 = allocates s0 1 one (row_block 1 d1) e1 (inl refl) (record { enough = omega arith; quiet = λ l. refl }) refl refl

  abbrev s2 : Cluster
  s2 = with_event (allocated s1 1 (row_block 2 d2)) (ev.Allocate 1 two 0) (rp.Attempt 1 1)

  k2 : Step s1 (ev.Allocate 1 two 0) (rp.Attempt 1 1) s2
  k2 = allocates s1 1 two (row_block 2 d2) e2 (inl refl) (record { enough = omega arith; quiet = λ l. refl }) refl refl

  abbrev s3 : Cluster
  s3 = with_event (allocated s2 1 (row_block 5 d5)) (ev.Allocate 1 five 0) (rp.Attempt 2 2)

  k3 : Step s2 (ev.Allocate 1 five 0) (rp.Attempt 2 2) s3
  k3 = allocates s2 1 five (row_block 5 d5) e5 (inl refl) (record { enough = omega arith; quiet = λ l. refl }) refl refl

  abbrev s4 : Cluster
  s4 = with_event (staged s3 (attempt_of 0 1 (row_block 1 d1) 0) (new_replica 1 true)) (ev.Stage 0) (rp.Done)

  k4 : Step s3 (ev.Stage 0) (rp.Done) s4
  k4 = stages s3 0 (attempt_of 0 1 (row_block 1 d1) 0) (new_replica 1 true) (record { is_in = inr (inr (inl refl)); id_is = refl }) (record { is_in = inl refl; number = refl }) refl

  abbrev s5 : Cluster
  s5 = with_event (staged s4 (attempt_of 2 1 (row_block 5 d5) 2) (holding 1 (under 0 (row_block 1 d1) ∷ []))) (ev.Stage 2) (rp.Done)

  k5 : Step s4 (ev.Stage 2) (rp.Done) s5
  k5 = stages s4 2 (attempt_of 2 1 (row_block 5 d5) 2) (holding 1 (under 0 (row_block 1 d1) ∷ [])) (record { is_in = inl refl; id_is = refl }) (record { is_in = inl refl; number = refl }) refl

  abbrev s6 : Cluster
  s6 = with_event (committed s5 0 (attempt_of 0 1 (row_block 1 d1) 0)) (ev.Commit 0) (rp.Entry 0)

  k6 : Step s5 (ev.Commit 0) (rp.Entry 0) s6
  k6 = commits s5 0 (attempt_of 0 1 (row_block 1 d1) 0) (holding 1 (under 0 (row_block 1 d1) ∷ under 2 (row_block 5 d5) ∷ [])) (record { is_in = inr (inr (inl refl)); id_is = refl }) (record { is_in = inl refl; number = refl }) (record { is_in = inl refl; partition = refl }) (record { enough = omega arith; quiet = λ l. refl }) (record { lock = lock_of 0 1; is_in = inl refl; partition = refl; number = refl }) refl refl

  abbrev s7 : Cluster
  s7 = with_event (committed s6 2 (attempt_of 2 1 (row_block 5 d5) 2)) (ev.Commit 2) (rp.Entry 1)

  k7 : Step s6 (ev.Commit 2) (rp.Entry 1) s7
  k7 = commits s6 2 (attempt_of 2 1 (row_block 5 d5) 2) (holding 1 (under 0 (row_block 1 d1) ∷ under 2 (row_block 5 d5) ∷ [])) (record { is_in = inl refl; id_is = refl }) (record { is_in = inl refl; number = refl }) (record { is_in = inr (inl refl); partition = refl }) (record { enough = omega arith; quiet = λ l. refl }) (record { lock = lock_of 2 1; is_in = inr (inl refl); partition = refl; number = refl }) (unkept d5 d1 (block_name None 0) apart refl) refl

  abbrev s8 : Cluster
  s8 = with_event (pulled s7 1 (holding 1 (under 0 (row_block 1 d1) ∷ under 2 (row_block 5 d5) ∷ []))) (ev.Pull 1) (rp.Pulled 2)

  k8 : Step s7 (ev.Pull 1) (rp.Pulled 2) s8
  k8 = pulls s7 1 (holding 1 (under 0 (row_block 1 d1) ∷ under 2 (row_block 5 d5) ∷ [])) (record { is_in = inl refl; number = refl }) refl

  abbrev names : List Name
  names = block_name None 0 ∷ block_name None 2 ∷ []

  -- the one lock is the lowest in the range
  lowest : (m : ℕ) → IsInFlight s8.table names m → 1 ≤ m
  lowest m h = elim h.0.is_in [
    | inl e ↦ let f = ap (λ (l : Lock). l.number) e in let g = h.0.number in omega (arith, f, g)
    | inr e ↦ absurd e
  ]

  abbrev s9 : Cluster
  s9 = with_event s8 (ev.Merge 1 names) (rp.Refused (rf.InFlight 1))

  k9 : Step s8 (ev.Merge 1 names) (rp.Refused (rf.InFlight 1)) s9
  k9 = record {
    after = s8;
    does = inr (record {
      why = rf.InFlight 1;
      cause = (
        record (holding 1 (under 0 (row_block 1 d1) ∷ under 2 (row_block 5 d5) ∷ [])) { log = s7.table.log; done = grown [] 2 },
        record { at = record { is_in = inl refl; number = refl }; up = refl },
        (record { left = []; right = []; among = refl }, (refl, tt)),
        (
          refl,
          (record { version = refl; quiet = λ part h. h }, tt),
          ((record { lock = lock_of 1 1; is_in = inl refl; partition = refl; number = refl }), record { partition = refl; low = (let k : 0 ≤ 1 = omega arith in k); high = (let k : 1 ≤ 2 = omega arith in k) }),
          lowest,
        ),
      );
      answer = refl;
      unchanged = refl;
    });
    stored = refl;
  }

  -- the whole list
  pub refused : (s : Cluster) × After (two_replicas (of_one_column schema column)) (in_flight one two five) s
  refused = (s9, (s8, (s7, (s6, (s5, (s4, (s3, (s2, (s1, (s0, refl, k1), k2), k3), k4), k5), k6), k7), k8), k9))
