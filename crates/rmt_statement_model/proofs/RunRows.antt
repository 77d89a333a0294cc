-- RUN: its turns leave a table as it is, but for entries of background work.
use Rattle.std.proofs.Common.{◌≡◌, ◌≤◌, ◌+◌, ℕ, zero, suc, inl, inr, Bool, true, List, [], ◌∷◌, ◌++◌, length, length-append, refl, sym, ap, subst, ◌∙◌, arith}
use Rattle.std.specs.declared.option.Option.{Option}
use Rattle.std.specs.declared.option.Option.TheVariants.{Some, None}
use Rattle.rmt_values.specs.Rows.{Shape}
use Rattle.rmt_names.specs.Names.{Name}
use Rattle.rmt_entries.specs.declared.entry.Entry.{Entry}
use Rattle.rmt_entries.specs.declared.entry.Entry.TheVariants.{Get, Merge, Mutate, Mutation, DropRange}
use Rattle.rmt_model.specs.Words.{Each}
use Rattle.rmt_model.specs.Lawful.{Lawful}
use Rattle.rmt_model.specs.Quorum.{Quorum, quorum_after_note}
use Rattle.rmt_model.specs.EntryLimits.{worker_limit}
use Rattle.rmt_events.specs.Views.{Table}
use Rattle.rmt_events.specs.Sound.{IsSoundTable}
use Rattle.rmt_events.specs.Clusters.{Cluster}
use Rattle.rmt_events.specs.Whole.{IsWhole}
use Rattle.rmt_events.specs.ClusterChanges.{Declines}
use Rattle.rmt_events.specs.Steps.{Does, Step}
use Rattle.rmt_events.specs.Draws.{turn, Runs, NotesAfter, noting}
use Rattle.rmt_events.proofs.WholeSteps.{whole-step}
use Rattle.rmt_events.proofs.RunLemmas.{whole-runs}
use Rattle.rmt_statement_model.specs.TableStates.{TableState}
use Rattle.rmt_statement_model.specs.BackgroundWork.{IsOfWorker, HadRoom, quorum_after_notes, Works}
use Rattle.rmt_statement_model.specs.Shows.{Shows, Leads, HoldsNone, ups}
use Rattle.rmt_statement_model.proofs.SwitchLaws.{IsNoSwitch}
use Rattle.rmt_statement_model.proofs.UpLaws.{up-of, ups-step}
use Rattle.rmt_statement_model.proofs.ShownSteps.{TellsNoCommit, shows-quiet}
use Rattle.rmt_statement_model.proofs.AttemptSteps.{quiet-shows}
use Rattle.rmt_statement_model.proofs.LockSteps.{none-held}
use Rattle.rmt_statement_model.proofs.RestartRows.{restarted-shows}
use Rattle.rmt_statement_model.proofs.GainedEntries.{IsOfNoBlock, GainsEntry, gains-stored, gained-shows}
use Rattle.rmt_statement_model.proofs.NoteRows.{noted-shows}
use Rattle.rmt_statement_model.proofs.RunTurns.{IsOfTurn, turn-is, turn-sessions, turn-locks}
use Rattle.rmt_events.specs.declared.event.Event.{Event}
use Rattle.rmt_events.specs.declared.event.Event.TheVariants as ev
use Rattle.rmt_events.specs.declared.reply.Reply.{Reply}
use Rattle.rmt_events.specs.declared.step_refused.StepRefused.{StepRefused}

-- ---- work after work

-- the log of a state that a whole cluster shows is lawful
shown-lawful : (s : Cluster) (t : TableState) → IsWhole s → Shows s t → Lawful t.schema t.log
shown-lawful s t w h = subst (λ (c : Shape). Lawful c t.log) (sym h.table.schema) (subst (λ (l : List Entry). Lawful s.table.schema l) (sym h.table.log) (IsSoundTable.lawful w.table))

-- no work leaves the table
pub works-none : (up : ℕ → Bool) (t : TableState) (n : ℕ) → Lawful t.schema t.log → Works up n t t
works-none up t n l = record { gained = []; workers = tt; within = omega arith; room = tt; lawful = l; noted = []; live = tt; change = refl }

-- the entries of both are of workers
each-both : (xs ys : List Entry) → Each IsOfWorker xs → Each IsOfWorker ys → Each IsOfWorker (xs ++ ys)
each-both [] ys e f = f
each-both (x ∷ xs) ys e f = (e.0, each-both xs ys e.1 f)

-- those that noted in both are up
live-both : (up : ℕ → Bool) (xs ys : List ℕ) → Each (λ r. up r ≡ true) xs → Each (λ r. up r ≡ true) ys → Each (λ r. up r ≡ true) (xs ++ ys)
live-both up [] ys e f = f
live-both up (x ∷ xs) ys e f = (e.0, live-both up xs ys e.1 f)

-- notes after notes
notes-both : (xs ys : List ℕ) (q : Quorum) → quorum_after_notes (xs ++ ys) q ≡ quorum_after_notes xs (quorum_after_notes ys q)
notes-both [] ys q = refl
notes-both (x ∷ xs) ys q = ap (λ (z : Quorum). quorum_after_note x z) (notes-both xs ys q)

-- a log behind both
joined-log : (xs ys zs : List Entry) → (xs ++ ys) ++ zs ≡ xs ++ (ys ++ zs)
joined-log [] ys zs = refl
joined-log (x ∷ xs) ys zs = ap (λ (l : List Entry). x ∷ l) (joined-log xs ys zs)

-- both were within the limit
room-both : (xs ys log : List Entry) → HadRoom xs (ys ++ log) → HadRoom ys log → HadRoom (xs ++ ys) log
room-both [] ys log e f = f
room-both (x ∷ xs) ys log e f = (ap worker_limit (joined-log xs ys log) ∙ e.0, room-both xs ys log e.1 f)

-- work in some turns and then in more is work in all of them
pub works-then : (up : ℕ → Bool) (t u v : TableState) (m n : ℕ) → Works up m t u → Works up n u v → Works up (n + m) t v
works-then up t u v m n f g =
    record {
      gained = g.gained ++ f.gained;
      workers = each-both g.gained f.gained g.workers f.workers;
      within = few;
      room = room-both g.gained f.gained t.log (subst (λ (l : List Entry). HadRoom g.gained l) (ap (λ (x : TableState). x.log) f.change) g.room) f.room;
      lawful = subst (λ (l : List Entry). Lawful t.schema l) (sym long) (subst (λ (c : Shape). Lawful c (g.gained ++ u.log)) (ap (λ (x : TableState). x.schema) f.change) g.lawful);
      noted = g.noted ++ f.noted;
      live = live-both up g.noted f.noted g.live f.live;
      change = g.change
          ∙ (ap (λ (x : TableState). record x { log = g.gained ++ u.log; quorum = quorum_after_notes g.noted u.quorum }) f.change
          ∙ (ap (λ (l : List Entry). record t { log = l; quorum = quorum_after_notes g.noted u.quorum }) (sym long)
          ∙ ap (λ (q : Quorum). record t { log = (g.gained ++ f.gained) ++ t.log; quorum = q })
          (ap (λ (q : Quorum). quorum_after_notes g.noted q) (ap (λ (x : TableState). x.quorum) f.change) ∙ sym (notes-both g.noted f.noted t.quorum))));
    }
  where
    few : length (g.gained ++ f.gained) ≤ n + m
    few = omega (arith, length-append g.gained f.gained, f.within, g.within)

    long : (g.gained ++ f.gained) ++ t.log ≡ g.gained ++ u.log
    long = joined-log g.gained f.gained t.log ∙ ap (λ (l : List Entry). g.gained ++ l) (sym (ap (λ (x : TableState). x.log) f.change))

-- ---- one event

-- the cluster shows the table as it was
still : (s u : Cluster) (t : TableState) → IsWhole s → Shows s t → Shows u t → Leads u (Works (ups s) 1 t)
still s u t w h k = record { state = t; holds = works-none (ups s) t 1 (shown-lawful s t w h); shows = k }

-- a refused event leaves the table
declined-move : (s u : Cluster) (e : Event) (reply : Reply) (Cause : StepRefused → Type 0) → IsWhole s → IsNoSwitch e → (k : Step s e reply u) → Declines s Cause reply k.after → TellsNoCommit e reply → (t : TableState) → Shows s t → Leads u (Works (ups s) 1 t)
declined-move s u e reply Cause w z k d n t h = still s u t w h (shows-quiet s u e reply t w z k (ap (λ (x : Cluster). x.table) d.unchanged) (ap (λ (x : Cluster). x.events) d.unchanged) n h)

-- an entry of a worker is no block's
worker-no-block : (x : Entry) → IsOfWorker x → IsOfNoBlock x
worker-no-block (Merge name sources count) q = tt
worker-no-block (Mutate old name upto count mcount) q = tt
worker-no-block (Get p n digest source need) q = absurd q
worker-no-block (Mutation id numbers command) q = absurd q
worker-no-block (DropRange p n) q = absurd q

-- an entry of a worker enters the log
gained-move : (s u : Cluster) (e : Event) (reply : Reply) (x : Entry) → IsWhole s → IsNoSwitch e → Step s e reply u → GainsEntry s u x → IsOfWorker x → worker_limit s.table.log ≡ None → u.table.next ≡ s.table.next → u.table.quorum ≡ s.table.quorum → (t : TableState) → Shows s t → Leads u (Works (ups s) 1 t)
gained-move s u e reply x w z k g q b n m t h =
    let shows : Shows u (record t { log = x ∷ t.log; next = t.next; quorum = t.quorum }) =
    gained-shows s u e reply x t t.next t.quorum w z k g (worker-no-block x q) (h.table.next ∙ sym n) (h.table.quorum ∙ sym m) h in
    record {
      state = record t { log = x ∷ t.log };
      holds = record { gained = x ∷ []; workers = (q, tt); within = omega arith; room = (ap worker_limit h.table.log ∙ b, tt); lawful = shown-lawful u (record t { log = x ∷ t.log }) (whole-step s u e reply w k) shows; noted = []; live = tt; change = refl };
      shows = shows;
    }

-- a merge
pub merge-move : (s u : Cluster) (k : ℕ) (names : List Name) (reply : Reply) → IsWhole s → Step s (ev.Merge k names) reply u → (t : TableState) → Shows s t → Leads u (Works (ups s) 1 t)
merge-move s u k names reply w st t h = go st.does
  where
    go : Does s (ev.Merge k names) reply st.after → Leads u (Works (ups s) 1 t)
    go (inl d) =
        let q : st.after.table ≡ d.appends.at.new = ap (λ (x : Cluster). x.table) d.appends.at.change in
        gained-move s u (ev.Merge k names) reply (Merge d.name names d.count) w tt st
        (gains-stored s u (ev.Merge k names) reply (Merge d.name names d.count) st
        (ap (λ (x : Table). x.schema) q ∙ ap (λ (x : Table). x.schema) d.appends.at.does.change)
        (ap (λ (x : Table). x.log) q ∙ ap (λ (x : Table). x.log) d.appends.at.does.change)
        (ap (λ (x : Cluster). x.events) d.appends.at.change) (λ xs i. refl))
        tt d.appends.at.does.within
        (ap (λ (x : Cluster). x.table.next) st.stored ∙ (ap (λ (x : Table). x.next) q ∙ ap (λ (x : Table). x.next) d.appends.at.does.change))
        (ap (λ (x : Cluster). x.table.quorum) st.stored ∙ (ap (λ (x : Table). x.quorum) q ∙ ap (λ (x : Table). x.quorum) d.appends.at.does.change)) t h
    go (inr d) = declined-move s u (ev.Merge k names) reply _ w tt st d (λ xs i. refl) t h

-- a mutate
pub mutate-move : (s u : Cluster) (k : ℕ) (part : Name) (upto : ℕ) (reply : Reply) → IsWhole s → Step s (ev.Mutate k part upto) reply u → (t : TableState) → Shows s t → Leads u (Works (ups s) 1 t)
mutate-move s u k part upto reply w st t h = go st.does
  where
    go : Does s (ev.Mutate k part upto) reply st.after → Leads u (Works (ups s) 1 t)
    go (inl d) =
        let q : st.after.table ≡ d.appends.at.new = ap (λ (x : Cluster). x.table) d.appends.at.change in
        gained-move s u (ev.Mutate k part upto) reply (Mutate part d.name upto d.count d.mcount) w tt st
        (gains-stored s u (ev.Mutate k part upto) reply (Mutate part d.name upto d.count d.mcount) st
        (ap (λ (x : Table). x.schema) q ∙ ap (λ (x : Table). x.schema) d.appends.at.does.change)
        (ap (λ (x : Table). x.log) q ∙ ap (λ (x : Table). x.log) d.appends.at.does.change)
        (ap (λ (x : Cluster). x.events) d.appends.at.change) (λ xs i. refl))
        tt d.appends.at.does.within
        (ap (λ (x : Cluster). x.table.next) st.stored ∙ (ap (λ (x : Table). x.next) q ∙ ap (λ (x : Table). x.next) d.appends.at.does.change))
        (ap (λ (x : Cluster). x.table.quorum) st.stored ∙ (ap (λ (x : Table). x.quorum) q ∙ ap (λ (x : Table). x.quorum) d.appends.at.does.change)) t h
    go (inr d) = declined-move s u (ev.Mutate k part upto) reply _ w tt st d (λ xs i. refl) t h

-- what such an event does to the table
turn-move : (s u : Cluster) (e : Event) (reply : Reply) → IsWhole s → IsOfTurn (ups s) e → Step s e reply u → (t : TableState) → Shows s t → Leads u (Works (ups s) 1 t)
turn-move s u (ev.Pull k) reply w q st t h = still s u t w h (quiet-shows s u (ev.Pull k) reply w tt st t h)
turn-move s u (ev.Apply k i) reply w q st t h = still s u t w h (quiet-shows s u (ev.Apply k i) reply w tt st t h)
turn-move s u (ev.Merge k names) reply w q st t h = merge-move s u k names reply w st t h
turn-move s u (ev.Mutate k part upto) reply w q st t h = mutate-move s u k part upto reply w st t h
turn-move s u (ev.Restart k) reply w q st t h = still s u t w h (restarted-shows s u k reply w st t h)
turn-move s u e reply w q st t h = absurd q

-- ---- a note

-- a note of a replica that is up, or nothing
note-move : (s u : Cluster) (k : ℕ) (reply : Reply) → IsWhole s → Step s (ev.Note k) reply u → (t : TableState) → Shows s t → Leads u (Works (ups s) 0 t)
note-move s u k reply w st t h = go st.does
  where
    quiet : st.after ≡ s → Leads u (Works (ups s) 0 t)
    quiet e = record {
      state = t;
      holds = works-none (ups s) t 0 (shown-lawful s t w h);
      shows = shows-quiet s u (ev.Note k) reply t w tt st (ap (λ (x : Cluster). x.table) e) (ap (λ (x : Cluster). x.events) e) (λ xs i. refl) h;
    }

    go : Does s (ev.Note k) reply st.after → Leads u (Works (ups s) 0 t)
    go (inl d) = record {
      state = record t { quorum = quorum_after_note k t.quorum };
      holds = record {
        gained = [];
        workers = tt;
        within = omega arith;
        room = tt;
        lawful = shown-lawful s t w h;
        noted = k ∷ [];
        live = (subst (λ (j : ℕ). ups s j ≡ true) d.is.at.number (up-of s.replicas d.old w.rising d.is.at.is_in ∙ d.is.up), tt);
        change = refl;
      };
      shows = noted-shows s u k reply w st (ap (λ (x : Cluster). x.table) st.stored ∙ (ap (λ (x : Cluster). x.table) d.change ∙ d.call)) t h;
    }
    go (inr (inl d)) = quiet d.unchanged
    go (inr (inr d)) = quiet d.unchanged

-- the note after an event, where there is one
note-after : (o : Option ℕ) (s u : Cluster) → IsWhole s → NotesAfter o s u → (t : TableState) → Shows s t → Leads u (Works (ups s) 0 t)
note-after None s u w n t h = record { state = t; holds = works-none (ups s) t 0 (shown-lawful s t w h); shows = subst (λ (y : Cluster). Shows y t) (sym n) h }
note-after (Some k) s u w n t h = note-move s u k n.0 w n.1 t h

note-ups : (o : Option ℕ) (s u : Cluster) → IsWhole s → NotesAfter o s u → ups u ≡ ups s
note-ups None s u w n = ap ups n
note-ups (Some k) s u w n = ups-step s u (ev.Note k) n.0 w tt n.1

note-free : (o : Option ℕ) (s u : Cluster) → NotesAfter o s u → HoldsNone s → HoldsNone u
note-free None s u n i = subst HoldsNone (sym n) i
note-free (Some k) s u n i = none-held s u (ev.Note k) n.0 tt n.1 i

-- ---- RUN

-- the same replicas are up
pub run-ups : (s u : Cluster) (seed n x : ℕ) → IsWhole s → Runs s seed n u x → ups u ≡ ups s
run-ups s u seed zero x w r = ap ups r.0
run-ups s u seed (suc n) x w r =
    let m = whole-runs s seed n r.0 r.1 w r.2 in
    let e = (turn r.0 r.1).event in
    let d = r.3 in
    note-ups (noting r.0 e d.mid) d.mid u (whole-step r.0 d.mid e d.reply m d.step) d.notes
    ∙ (ups-step r.0 d.mid e d.reply m (turn-sessions (ups r.0) e (turn-is r.0 r.1 m)) d.step ∙ run-ups s r.0 seed n r.1 w r.2)

-- the log gains entries of background work alone, one a turn at most, and replicas that are up are noted
pub run-row : (s u : Cluster) (seed n x : ℕ) → IsWhole s → Runs s seed n u x → (t : TableState) → Shows s t → Leads u (Works (ups s) n t)
run-row s u seed zero x w r t h =
    record { state = t; holds = works-none (ups s) t 0 (shown-lawful s t w h); shows = subst (λ (y : Cluster). Shows y t) (sym r.0) h }
run-row s u seed (suc n) x w r t h =
    let f = run-row s r.0 seed n r.1 w r.2 t h in
    let m = whole-runs s seed n r.0 r.1 w r.2 in
    let e = (turn r.0 r.1).event in
    let d = r.3 in
    let g = turn-move r.0 d.mid e d.reply m (turn-is r.0 r.1 m) d.step f.state f.shows in
    let k = note-after (noting r.0 e d.mid) d.mid u (whole-step r.0 d.mid e d.reply m d.step) d.notes g.state g.shows in
    let same : ups r.0 ≡ ups s = run-ups s r.0 seed n r.1 w r.2 in
    let still : ups d.mid ≡ ups s = ups-step r.0 d.mid e d.reply m (turn-sessions (ups r.0) e (turn-is r.0 r.1 m)) d.step ∙ same in
    let all : 0 + (1 + n) ≡ suc n = omega arith in
    record {
      state = k.state;
      holds = subst (λ (j : ℕ). Works (ups s) j t k.state) all
          (works-then (ups s) t g.state k.state (1 + n) 0
          (works-then (ups s) t f.state g.state n 1 f.holds (subst (λ (up : ℕ → Bool). Works up 1 f.state g.state) same g.holds))
          (subst (λ (up : ℕ → Bool). Works up 0 g.state k.state) still k.holds));
      shows = k.shows;
    }

-- no insert gets under way
pub run-free : (s u : Cluster) (seed n x : ℕ) → IsWhole s → Runs s seed n u x → HoldsNone s → HoldsNone u
run-free s u seed zero x w r i = subst HoldsNone (sym r.0) i
run-free s u seed (suc n) x w r i =
    let m = whole-runs s seed n r.0 r.1 w r.2 in
    let e = (turn r.0 r.1).event in
    let d = r.3 in
    note-free (noting r.0 e d.mid) d.mid u d.notes (none-held r.0 d.mid e d.reply (turn-locks (ups r.0) e (turn-is r.0 r.1 m)) d.step (run-free s r.0 seed n r.1 w r.2 i))
