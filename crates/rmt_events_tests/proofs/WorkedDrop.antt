-- A drop overtakes an insert, and two attempts of one block: each event with the state that it leads to.
use Rattle.std.proofs.Common.{◌≡◌, ℕ, inl, inr, true, false, List, [], ◌∷◌, refl, arith, ◌<◌}
use Rattle.std.proofs.lemmas.Bool.Decides.{nat_tests}
use Rattle.std.specs.Str.{bytes_eq}
use Rattle.std.specs.declared.option.Option.TheVariants.{Some, None}
use Rattle.rmt_values.specs.declared.value.Value.TheVariants.{UInt}
use Rattle.rmt_values.specs.declared.column.Column.{Column}
use Rattle.rmt_values.specs.declared.checked_mutation.CheckedMutation.{CheckedMutation}
use Rattle.rmt_values.specs.Rows.{Shape}
use Rattle.rmt_values.specs.Commands.{CommandFits}
use Rattle.rmt_names.specs.Names.{Name, block_name}
use Rattle.rmt_events.specs.Views.{Block, Staged, Replica, Lock}
use Rattle.rmt_events.specs.Clusters.{Attempt, Cluster}
use Rattle.rmt_events.specs.Starts.{new_replica}
use Rattle.rmt_events.specs.TableCalls.{kept_part}
use Rattle.rmt_events.specs.Steps.{Step, After}
use Rattle.rmt_events_tests.specs.WorkedEvents.{Shared, IsRow, of_one_column, two_replicas, overtaken}
use Rattle.rmt_events.specs.declared.step_refused.StepRefused.TheVariants as rf
use Rattle.rmt_events.specs.declared.event.Event.TheVariants as ev
use Rattle.rmt_events.specs.declared.reply.Reply.TheVariants as rp
use Rattle.rmt_events_tests.proofs.ComputedSteps.{with_event, allocated, allocates, staged, stages, committed, commits, lock-gone, ended, loses, renewed, renews, with_mutation, creates, dropped, drops}

-- bytes equal themselves
bytes-same : (d : List ℕ) → bytes_eq d d ≡ true
bytes-same [] = refl
bytes-same (x ∷ d) = let r = bytes-same d in grind (arith, nat_tests)

abbrev pub row_block : ℕ → List ℕ → Block
row_block n digest = record { partition = None; digest = digest; rows = (UInt n ∷ []) ∷ [] }

abbrev pub attempt_of : ℕ → ℕ → Block → ℕ → Attempt
attempt_of id k b n = record { id = id; replica = k; block = b; number = n; need = 0 }

abbrev pub holding : ℕ → List Staged → Replica
holding k zs = record (new_replica k true) { staged = zs }

abbrev pub under : ℕ → Block → Staged
under n b = record { number = n; block = b }

abbrev pub lock_of : ℕ → ℕ → Lock
lock_of n k = record { partition = None; number = n; owner = k }

-- an id that differs from the one id that is kept
pub unkept : (d e : List ℕ) (a : Name) → bytes_eq d e ≡ false → a.partition ≡ None → kept_part (record { digest = e; part = a } ∷ []) None d ≡ None
unkept d e a f p = grind (arith, nat_tests)

-- an id that is the newest one kept
kept-newest : (d e : List ℕ) (a b : Name) → a.partition ≡ None → kept_part (record { digest = d; part = a } ∷ record { digest = e; part = b } ∷ []) None d ≡ Some a
kept-newest d e a b p = let r = bytes-same d in grind (arith, nat_tests)

module _ (schema : Shape) (column : Column) (one two five : Shared) (d1 d2 d5 : List ℕ) (command : CheckedMutation) (e1 : IsRow one 1 d1) (e2 : IsRow two 2 d2) (e5 : IsRow five 5 d5) (apart : bytes_eq d5 d1 ≡ false) (fits : CommandFits (of_one_column schema column) command) where
  abbrev s0 : Cluster
  s0 = two_replicas (of_one_column schema column)

  abbrev s1 : Cluster
  s1 = with_event (allocated s0 1 (row_block 1 d1)) (ev.Allocate 1 one 0) (rp.Attempt 0 0)

  k1 : Step s0 (ev.Allocate 1 one 0) (rp.Attempt 0 0) s1
  k1 = allocates s0 1 one (row_block 1 d1) e1 (inl refl) (record { enough = omega arith; quiet = λ l. refl }) refl refl

  abbrev s2 : Cluster
  s2 = with_event (allocated s1 2 (row_block 2 d2)) (ev.Allocate 2 two 0) (rp.Attempt 1 1)

  k2 : Step s1 (ev.Allocate 2 two 0) (rp.Attempt 1 1) s2
  k2 = allocates s1 2 two (row_block 2 d2) e2 (inr (inl refl)) (record { enough = omega arith; quiet = λ l. refl }) refl refl

  abbrev s3 : Cluster
  s3 = with_event (staged s2 (attempt_of 1 2 (row_block 2 d2) 1) (new_replica 2 true)) (ev.Stage 1) (rp.Done)

  k3 : Step s2 (ev.Stage 1) (rp.Done) s3
  k3 = stages s2 1 (attempt_of 1 2 (row_block 2 d2) 1) (new_replica 2 true) (record { is_in = inl refl; id_is = refl }) (record { is_in = inr (inl refl); number = refl }) refl

  abbrev s4 : Cluster
  s4 = with_event (committed s3 1 (attempt_of 1 2 (row_block 2 d2) 1)) (ev.Commit 1) (rp.Entry 0)

  k4 : Step s3 (ev.Commit 1) (rp.Entry 0) s4
  k4 = commits s3 1 (attempt_of 1 2 (row_block 2 d2) 1) (holding 2 (under 1 (row_block 2 d2) ∷ [])) (record { is_in = inl refl; id_is = refl }) (record { is_in = inr (inl refl); number = refl }) (record { is_in = inl refl; partition = refl }) (record { enough = omega arith; quiet = λ l. refl }) (record { lock = lock_of 1 2; is_in = inr (inl refl); partition = refl; number = refl }) refl refl

  abbrev s5 : Cluster
  s5 = with_event (with_mutation s4 command) (ev.CreateMutation command) (rp.Entry 1)

  k5 : Step s4 (ev.CreateMutation command) (rp.Entry 1) s5
  k5 = creates s4 command fits refl

  abbrev s6 : Cluster
  s6 = with_event (dropped s5 None) (ev.DropPartition None) (rp.Entry 2)

  k6 : Step s5 (ev.DropPartition None) (rp.Entry 2) s6
  k6 = drops s5 None (let k : 0 < 3 = omega arith in k) refl

  abbrev s7 : Cluster
  s7 = with_event (staged s6 (attempt_of 0 1 (row_block 1 d1) 0) (new_replica 1 true)) (ev.Stage 0) (rp.Done)

  k7 : Step s6 (ev.Stage 0) (rp.Done) s7
  k7 = stages s6 0 (attempt_of 0 1 (row_block 1 d1) 0) (new_replica 1 true) (record { is_in = inl refl; id_is = refl }) (record { is_in = inl refl; number = refl }) refl

  abbrev s8 : Cluster
  s8 = with_event (s7) (ev.Commit 0) (rp.Refused (rf.LockGone 0))

  k8 : Step s7 (ev.Commit 0) (rp.Refused (rf.LockGone 0)) s8
  k8 = lock-gone s7 0 (attempt_of 0 1 (row_block 1 d1) 0) (record { is_in = inl refl; id_is = refl }) (record { replica = (holding 1 (under 0 (row_block 1 d1) ∷ [])); at = (record { is_in = inl refl; number = refl }); staged = (record { is_in = inl refl; partition = refl }) }) (λ l. l.is_in)

  abbrev s9 : Cluster
  s9 = with_event (renewed s8 0 (attempt_of 0 1 (row_block 1 d1) 0)) (ev.Again 0) (rp.Attempt 0 4)

  k9 : Step s8 (ev.Again 0) (rp.Attempt 0 4) s9
  k9 = renews s8 0 (attempt_of 0 1 (row_block 1 d1) 0) (record { is_in = inl refl; id_is = refl }) (λ l. l.is_in) (inl refl) (record { enough = omega arith; quiet = λ l. refl }) refl refl

  abbrev s10 : Cluster
  s10 = with_event (staged s9 (attempt_of 0 1 (row_block 1 d1) 4) (holding 1 (under 0 (row_block 1 d1) ∷ []))) (ev.Stage 0) (rp.Done)

  k10 : Step s9 (ev.Stage 0) (rp.Done) s10
  k10 = stages s9 0 (attempt_of 0 1 (row_block 1 d1) 4) (holding 1 (under 0 (row_block 1 d1) ∷ [])) (record { is_in = inl refl; id_is = refl }) (record { is_in = inl refl; number = refl }) refl

  abbrev s11 : Cluster
  s11 = with_event (committed s10 0 (attempt_of 0 1 (row_block 1 d1) 4)) (ev.Commit 0) (rp.Entry 3)

  k11 : Step s10 (ev.Commit 0) (rp.Entry 3) s11
  k11 = commits s10 0 (attempt_of 0 1 (row_block 1 d1) 4) (holding 1 (under 0 (row_block 1 d1) ∷ under 4 (row_block 1 d1) ∷ [])) (record { is_in = inl refl; id_is = refl }) (record { is_in = inl refl; number = refl }) (record { is_in = inr (inl refl); partition = refl }) (record { enough = omega arith; quiet = λ l. refl }) (record { lock = lock_of 4 1; is_in = inl refl; partition = refl; number = refl }) refl refl

  abbrev s12 : Cluster
  s12 = with_event (allocated s11 1 (row_block 5 d5)) (ev.Allocate 1 five 0) (rp.Attempt 2 5)

  k12 : Step s11 (ev.Allocate 1 five 0) (rp.Attempt 2 5) s12
  k12 = allocates s11 1 five (row_block 5 d5) e5 (inl refl) (record { enough = omega arith; quiet = λ l. refl }) (unkept d5 d1 (block_name None 4) apart refl) refl

  abbrev s13 : Cluster
  s13 = with_event (allocated s12 2 (row_block 5 d5)) (ev.Allocate 2 five 0) (rp.Attempt 3 6)

  k13 : Step s12 (ev.Allocate 2 five 0) (rp.Attempt 3 6) s13
  k13 = allocates s12 2 five (row_block 5 d5) e5 (inr (inl refl)) (record { enough = omega arith; quiet = λ l. refl }) (unkept d5 d1 (block_name None 4) apart refl) refl

  abbrev s14 : Cluster
  s14 = with_event (staged s13 (attempt_of 2 1 (row_block 5 d5) 5) (holding 1 (under 0 (row_block 1 d1) ∷ under 4 (row_block 1 d1) ∷ []))) (ev.Stage 2) (rp.Done)

  k14 : Step s13 (ev.Stage 2) (rp.Done) s14
  k14 = stages s13 2 (attempt_of 2 1 (row_block 5 d5) 5) (holding 1 (under 0 (row_block 1 d1) ∷ under 4 (row_block 1 d1) ∷ [])) (record { is_in = inr (inl refl); id_is = refl }) (record { is_in = inl refl; number = refl }) refl

  abbrev s15 : Cluster
  s15 = with_event (staged s14 (attempt_of 3 2 (row_block 5 d5) 6) (holding 2 (under 1 (row_block 2 d2) ∷ []))) (ev.Stage 3) (rp.Done)

  k15 : Step s14 (ev.Stage 3) (rp.Done) s15
  k15 = stages s14 3 (attempt_of 3 2 (row_block 5 d5) 6) (holding 2 (under 1 (row_block 2 d2) ∷ [])) (record { is_in = inl refl; id_is = refl }) (record { is_in = inr (inl refl); number = refl }) refl

  abbrev s16 : Cluster
  s16 = with_event (committed s15 3 (attempt_of 3 2 (row_block 5 d5) 6)) (ev.Commit 3) (rp.Entry 4)

  k16 : Step s15 (ev.Commit 3) (rp.Entry 4) s16
  k16 = commits s15 3 (attempt_of 3 2 (row_block 5 d5) 6) (holding 2 (under 1 (row_block 2 d2) ∷ under 6 (row_block 5 d5) ∷ [])) (record { is_in = inl refl; id_is = refl }) (record { is_in = inr (inl refl); number = refl }) (record { is_in = inr (inl refl); partition = refl }) (record { enough = omega arith; quiet = λ l. refl }) (record { lock = lock_of 6 2; is_in = inr (inl refl); partition = refl; number = refl }) (unkept d5 d1 (block_name None 4) apart refl) refl

  abbrev s17 : Cluster
  s17 = with_event (ended s16 2 (attempt_of 2 1 (row_block 5 d5) 5) (holding 1 (under 0 (row_block 1 d1) ∷ under 4 (row_block 1 d1) ∷ under 5 (row_block 5 d5) ∷ []))) (ev.Commit 2) (rp.Refused (rf.Duplicate (block_name None 6)))

  k17 : Step s16 (ev.Commit 2) (rp.Refused (rf.Duplicate (block_name None 6))) s17
  k17 = loses s16 2 (attempt_of 2 1 (row_block 5 d5) 5) (holding 1 (under 0 (row_block 1 d1) ∷ under 4 (row_block 1 d1) ∷ under 5 (row_block 5 d5) ∷ [])) (rf.Duplicate (block_name None 6)) (record { is_in = inl refl; id_is = refl }) (record { is_in = inl refl; number = refl }) (record { is_in = inr (inr (inl refl)); partition = refl }) (record { lock = lock_of 5 1; is_in = inl refl; partition = refl; number = refl }) ((record { enough = omega arith; quiet = λ l. refl }), kept-newest d5 d1 (block_name None 6) (block_name None 4) refl)

  -- the whole list
  pub overtakes : (s : Cluster) × After (two_replicas (of_one_column schema column)) (overtaken one two five command) s
  overtakes = (s17, (s16, (s15, (s14, (s13, (s12, (s11, (s10, (s9, (s8, (s7, (s6, (s5, (s4, (s3, (s2, (s1, (s0, refl, k1), k2), k3), k4), k5), k6), k7), k8), k9), k10), k11), k12), k13), k14), k15), k16), k17))
