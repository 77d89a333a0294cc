-- Kills between every two events: each event with the state that it leads to.
use Rattle.std.proofs.Common.{◌≡◌, ℕ, ◌<◌, ◌≤◌, inl, inr, true, false, List, [], ◌∷◌, refl, arith, ap}
use Rattle.std.specs.declared.option.Option.{Option}
use Rattle.std.specs.declared.option.Option.TheVariants.{Some, None}
use Rattle.rmt_values.specs.declared.column.Column.{Column}
use Rattle.rmt_values.specs.Rows.{Shape}
use Rattle.rmt_names.specs.Names.{Name, block_name}
use Rattle.rmt_entries.specs.Entries.{result_name}
use Rattle.rmt_entries.specs.declared.entry.Entry.{Entry}
use Rattle.rmt_entries.specs.declared.entry.Entry.TheVariants.{Get, DropRange}
use Rattle.rmt_model.specs.Lawful.{is_mutation}
use Rattle.rmt_model.proofs.Drops.{some-same}
use Rattle.rmt_queue.specs.Marks.{grown}
use Rattle.rmt_events.specs.Views.{Replica}
use Rattle.rmt_events.specs.ReplicaCalls.{with_entry_done, without_range}
use Rattle.rmt_events.specs.Clusters.{Cluster, with_replica}
use Rattle.rmt_events.specs.Starts.{new_replica}
use Rattle.rmt_events.specs.Steps.{Step, After}
use Rattle.rmt_events_tests.specs.WorkedEvents.{Shared, IsRow, of_one_column, two_replicas, killed_beside, killed_at}
use Rattle.rmt_events.specs.declared.applied.Applied.TheVariants as ap_
use Rattle.rmt_events.specs.declared.step_refused.StepRefused.TheVariants as rf
use Rattle.rmt_events.specs.declared.event.Event.TheVariants as ev
use Rattle.rmt_events.specs.declared.reply.Reply.TheVariants as rp
use Rattle.rmt_events_tests.proofs.ComputedSteps.{with_event, allocated, allocates, staged, stages, committed, commits, lock-gone, dropped, drops, pulled, pulls, down, killed, kills, restarted, restarts, no-session}
use Rattle.rmt_events_tests.proofs.WorkedDrop.{row_block, attempt_of, holding, under, lock_of}

-- an entry that is no mutation
no-mutation : (e f : Entry) → ◌≡◌ {A = Option Entry} (Some e) (Some f) → is_mutation f ≡ true → is_mutation e ≡ false → ⊥
no-mutation e f s m n = let g = ap is_mutation (some-same e f s) in absurd (cc)

-- an entry that makes no part
no-result : (e f : Entry) (a : Name) → ◌≡◌ {A = Option Entry} (Some e) (Some f) → result_name f ≡ Some a → result_name e ≡ None → ⊥
no-result e f a s m n = let g = ap result_name (some-same e f s) in absurd (cc)

module _ (schema : Shape) (column : Column) (one : Shared) (d1 : List ℕ) (e1 : IsRow one 1 d1) where
  abbrev s0 : Cluster
  s0 = two_replicas (of_one_column schema column)

  abbrev s1 : Cluster
  s1 = with_event (allocated s0 2 (row_block 1 d1)) (ev.Allocate 2 one 0) (rp.Attempt 0 0)

  k1 : Step s0 (ev.Allocate 2 one 0) (rp.Attempt 0 0) s1
  k1 = allocates s0 2 one (row_block 1 d1) e1 (inr (inl refl)) (record { enough = omega arith; quiet = λ l. refl }) refl refl

  abbrev s2 : Cluster
  s2 = with_event (killed s1 1 (new_replica 1 true)) (ev.Kill 1) (rp.Done)

  k2 : Step s1 (ev.Kill 1) (rp.Done) s2
  k2 = kills s1 1 (new_replica 1 true) (record { is_in = inl refl; number = refl })

  abbrev s3 : Cluster
  s3 = with_event (staged s2 (attempt_of 0 2 (row_block 1 d1) 0) (new_replica 2 true)) (ev.Stage 0) (rp.Done)

  k3 : Step s2 (ev.Stage 0) (rp.Done) s3
  k3 = stages s2 0 (attempt_of 0 2 (row_block 1 d1) 0) (new_replica 2 true) (record { is_in = inl refl; id_is = refl }) (record { is_in = inr (inl refl); number = refl }) refl

  abbrev s4 : Cluster
  s4 = with_event (killed s3 1 (new_replica 1 false)) (ev.Kill 1) (rp.Done)

  k4 : Step s3 (ev.Kill 1) (rp.Done) s4
  k4 = kills s3 1 (new_replica 1 false) (record { is_in = inl refl; number = refl })

  abbrev s5 : Cluster
  s5 = with_event (committed s4 0 (attempt_of 0 2 (row_block 1 d1) 0)) (ev.Commit 0) (rp.Entry 0)

  k5 : Step s4 (ev.Commit 0) (rp.Entry 0) s5
  k5 = commits s4 0 (attempt_of 0 2 (row_block 1 d1) 0) (holding 2 (under 0 (row_block 1 d1) ∷ [])) (record { is_in = inl refl; id_is = refl }) (record { is_in = inr (inl refl); number = refl }) (record { is_in = inl refl; partition = refl }) (record { enough = omega arith; quiet = λ l. refl }) (record { lock = lock_of 0 2; is_in = inl refl; partition = refl; number = refl }) refl refl

  abbrev s6 : Cluster
  s6 = with_event (killed s5 1 (new_replica 1 false)) (ev.Kill 1) (rp.Done)

  k6 : Step s5 (ev.Kill 1) (rp.Done) s6
  k6 = kills s5 1 (new_replica 1 false) (record { is_in = inl refl; number = refl })

  abbrev s7 : Cluster
  s7 = with_event (dropped s6 None) (ev.DropPartition None) (rp.Entry 1)

  k7 : Step s6 (ev.DropPartition None) (rp.Entry 1) s7
  k7 = drops s6 None (let k : 0 < 1 = omega arith in k) refl

  abbrev s8 : Cluster
  s8 = with_event (killed s7 1 (new_replica 1 false)) (ev.Kill 1) (rp.Done)

  k8 : Step s7 (ev.Kill 1) (rp.Done) s8
  k8 = kills s7 1 (new_replica 1 false) (record { is_in = inl refl; number = refl })

  abbrev s9 : Cluster
  s9 = with_event (pulled s8 2 (holding 2 (under 0 (row_block 1 d1) ∷ []))) (ev.Pull 2) (rp.Pulled 2)

  k9 : Step s8 (ev.Pull 2) (rp.Pulled 2) s9
  k9 = pulls s8 2 (holding 2 (under 0 (row_block 1 d1) ∷ [])) (record { is_in = inr (inl refl); number = refl }) refl

  abbrev s10 : Cluster
  s10 = with_event (killed s9 1 (new_replica 1 false)) (ev.Kill 1) (rp.Done)

  k10 : Step s9 (ev.Kill 1) (rp.Done) s10
  k10 = kills s9 1 (new_replica 1 false) (record { is_in = inl refl; number = refl })

  -- the second replica with its copy
  abbrev x : Replica
  x = record (holding 2 (under 0 (row_block 1 d1) ∷ [])) { log = s8.table.log; done = grown [] 2 }

  abbrev y : Replica
  y = record (with_entry_done (with_entry_done x 0) 1) { parts = without_range None 1 [] }

  abbrev s11 : Cluster
  s11 = with_event (record s10 { replicas = with_replica s10.replicas 2 (with_entry_done x 0) }) (ev.Apply 2 0) (rp.Applied ap_.Dropped)

  k11 : Step s10 (ev.Apply 2 0) (rp.Applied ap_.Dropped) s11
  k11 = record {
    after = record s10 { replicas = with_replica s10.replicas 2 (with_entry_done x 0) };
    does = inl (record {
      comes = ap_.Dropped;
      at = record {
        old = x;
        new = with_entry_done x 0;
        at = record { is_in = inr (inl refl); number = refl };
        up = refl;
        does = (
          (let k : 0 < 2 = omega arith in k),
          (
            λ h. elim h [ inl e ↦ absurd (cc) | inr (inl m) ↦ no-mutation (Get None 0 d1 2 0) m.entry m.stands m.is refl | inr (inr c) ↦ c.covered.is_in ],
            record { cause = inr (record { name = block_name None 0; makes = record { entry = Get None 0 d1 2 0; stands = refl; makes = refl }; dropped = inr (inl refl, (refl, (let k : 0 ≤ 1 = omega arith in k))) }); change = refl },
          ),
        );
        change = refl;
      };
      answer = refl;
    });
    stored = refl;
  }

  abbrev s12 : Cluster
  s12 = with_event (killed s11 1 (new_replica 1 false)) (ev.Kill 1) (rp.Done)

  k12 : Step s11 (ev.Kill 1) (rp.Done) s12
  k12 = kills s11 1 (new_replica 1 false) (record { is_in = inl refl; number = refl })

  abbrev s13 : Cluster
  s13 = with_event (record s12 { replicas = with_replica s12.replicas 2 y }) (ev.Apply 2 1) (rp.Applied ap_.Installed)

  k13 : Step s12 (ev.Apply 2 1) (rp.Applied ap_.Installed) s13
  k13 = record {
    after = record s12 { replicas = with_replica s12.replicas 2 y };
    does = inl (record {
      comes = ap_.Installed;
      at = record {
        old = with_entry_done x 0;
        new = y;
        at = record { is_in = inr (inl refl); number = refl };
        up = refl;
        does = (
          (let k : 1 < 2 = omega arith in k),
          inl (
            record {
              open_entry = λ h. elim h [ inl e ↦ absurd (cc) | inr (inl m) ↦ no-mutation (DropRange None 1) m.entry m.stands m.is refl | inr (inr c) ↦ c.covered.is_in ];
              not_dropped = λ g. no-result (DropRange None 1) g.makes.entry g.name g.makes.stands g.makes.makes refl;
            },
            record { partition = None; number = 1; stands = refl; change = refl },
          ),
        );
        change = refl;
      };
      answer = refl;
    });
    stored = refl;
  }

  -- the whole list
  pub beside : (s : Cluster) × After (two_replicas (of_one_column schema column)) (killed_beside one) s
  beside = (s13, (s12, (s11, (s10, (s9, (s8, (s7, (s6, (s5, (s4, (s3, (s2, (s1, (s0, refl, k1), k2), k3), k4), k5), k6), k7), k8), k9), k10), k11), k12), k13))

  abbrev t0 : Cluster
  t0 = two_replicas (of_one_column schema column)

  abbrev t1 : Cluster
  t1 = with_event (allocated t0 1 (row_block 1 d1)) (ev.Allocate 1 one 0) (rp.Attempt 0 0)

  j1 : Step t0 (ev.Allocate 1 one 0) (rp.Attempt 0 0) t1
  j1 = allocates t0 1 one (row_block 1 d1) e1 (inl refl) (record { enough = omega arith; quiet = λ l. refl }) refl refl

  abbrev t2 : Cluster
  t2 = with_event (killed t1 1 (new_replica 1 true)) (ev.Kill 1) (rp.Done)

  j2 : Step t1 (ev.Kill 1) (rp.Done) t2
  j2 = kills t1 1 (new_replica 1 true) (record { is_in = inl refl; number = refl })

  abbrev t3 : Cluster
  t3 = with_event (restarted t2 1 (new_replica 1 false)) (ev.Restart 1) (rp.Done)

  j3 : Step t2 (ev.Restart 1) (rp.Done) t3
  j3 = restarts t2 1 (new_replica 1 false) (record { is_in = inl refl; number = refl })

  abbrev t4 : Cluster
  t4 = with_event (staged t3 (attempt_of 0 1 (row_block 1 d1) 0) (new_replica 1 true)) (ev.Stage 0) (rp.Done)

  j4 : Step t3 (ev.Stage 0) (rp.Done) t4
  j4 = stages t3 0 (attempt_of 0 1 (row_block 1 d1) 0) (new_replica 1 true) (record { is_in = inl refl; id_is = refl }) (record { is_in = inl refl; number = refl }) refl

  abbrev t5 : Cluster
  t5 = with_event (killed t4 1 (holding 1 (under 0 (row_block 1 d1) ∷ []))) (ev.Kill 1) (rp.Done)

  j5 : Step t4 (ev.Kill 1) (rp.Done) t5
  j5 = kills t4 1 (holding 1 (under 0 (row_block 1 d1) ∷ [])) (record { is_in = inl refl; number = refl })

  abbrev t6 : Cluster
  t6 = with_event (t5) (ev.Commit 0) (rp.Refused (rf.LockGone 0))

  j6 : Step t5 (ev.Commit 0) (rp.Refused (rf.LockGone 0)) t6
  j6 = lock-gone t5 0 (attempt_of 0 1 (row_block 1 d1) 0) (record { is_in = inl refl; id_is = refl }) (record { replica = (record (holding 1 (under 0 (row_block 1 d1) ∷ [])) { up = false }); at = (record { is_in = inl refl; number = refl }); staged = (record { is_in = inl refl; partition = refl }) }) (λ l. l.is_in)

  abbrev t7 : Cluster
  t7 = with_event (killed t6 1 (record (holding 1 (under 0 (row_block 1 d1) ∷ [])) { up = false })) (ev.Kill 1) (rp.Done)

  j7 : Step t6 (ev.Kill 1) (rp.Done) t7
  j7 = kills t6 1 (record (holding 1 (under 0 (row_block 1 d1) ∷ [])) { up = false }) (record { is_in = inl refl; number = refl })

  abbrev t8 : Cluster
  t8 = with_event (t7) (ev.Again 0) (rp.Refused rf.NoSession)

  j8 : Step t7 (ev.Again 0) (rp.Refused rf.NoSession) t8
  j8 = no-session t7 0 (attempt_of 0 1 (row_block 1 d1) 0) (record { is_in = inl refl; id_is = refl }) (λ l. l.is_in) (λ h. elim h [ inl e ↦ absurd (cc) | inr e ↦ absurd e ])

  abbrev t9 : Cluster
  t9 = with_event (killed t8 1 (record (holding 1 (under 0 (row_block 1 d1) ∷ [])) { up = false })) (ev.Kill 1) (rp.Done)

  j9 : Step t8 (ev.Kill 1) (rp.Done) t9
  j9 = kills t8 1 (record (holding 1 (under 0 (row_block 1 d1) ∷ [])) { up = false }) (record { is_in = inl refl; number = refl })

  abbrev t10 : Cluster
  t10 = with_event (restarted t9 1 (record (holding 1 (under 0 (row_block 1 d1) ∷ [])) { up = false })) (ev.Restart 1) (rp.Done)

  j10 : Step t9 (ev.Restart 1) (rp.Done) t10
  j10 = restarts t9 1 (record (holding 1 (under 0 (row_block 1 d1) ∷ [])) { up = false }) (record { is_in = inl refl; number = refl })

  abbrev t11 : Cluster
  t11 = with_event (killed t10 1 (holding 1 (under 0 (row_block 1 d1) ∷ []))) (ev.Kill 1) (rp.Done)

  j11 : Step t10 (ev.Kill 1) (rp.Done) t11
  j11 = kills t10 1 (holding 1 (under 0 (row_block 1 d1) ∷ [])) (record { is_in = inl refl; number = refl })

  abbrev t12 : Cluster
  t12 = with_event (t11) (ev.Pull 1) (rp.Refused rf.Down)

  j12 : Step t11 (ev.Pull 1) (rp.Refused rf.Down) t12
  j12 = down t11 1 (record (holding 1 (under 0 (row_block 1 d1) ∷ [])) { up = false }) (record { is_in = inl refl; number = refl }) refl

  -- the whole list
  pub at-home : (s : Cluster) × After (two_replicas (of_one_column schema column)) (killed_at one) s
  at-home = (t12, (t11, (t10, (t9, (t8, (t7, (t6, (t5, (t4, (t3, (t2, (t1, (t0, refl, j1), j2), j3), j4), j5), j6), j7), j8), j9), j10), j11), j12))
