-- A quorum is gathered: a replica that knows the Get of the part that waits notes it, and another one copies it first.
use Rattle.std.proofs.Common.{◌≡◌, ℕ, suc, ◌<◌, ◌≤◌, ◌⊎◌, inl, inr, Bool, true, false, cond, ◌&&◌, ◌||◌, List, length, refl, sym, ap, subst, arith, ◌∙◌, nat_eq, nat_lt}
use Rattle.std.proofs.lemmas.Bool.Decides.{nat_tests}
use Rattle.std.specs.declared.option.Option.{Option}
use Rattle.std.specs.declared.option.Option.TheVariants.{Some, None}
use Rattle.rmt_names.specs.Names.{block_name}
use Rattle.rmt_entries.specs.declared.entry.Entry.{Entry}
use Rattle.rmt_entries.specs.declared.entry.Entry.TheVariants.{Get}
use Rattle.rmt_model.specs.Live.{Dropped}
use Rattle.rmt_model.specs.Lawful.{entry_at, IsPrefix}
use Rattle.rmt_model.specs.Fair.{CoveredBy}
use Rattle.rmt_model.specs.Quorum.{Pending, Quorum, IsPending, noted_with, noted_by, quorum_after_note}
use Rattle.rmt_model.specs.CopiedParts.{names_of}
use Rattle.rmt_model.proofs.Lists.{Each-at}
use Rattle.rmt_events.specs.Views.{Replica, Table}
use Rattle.rmt_events.specs.Sound.{IsSoundTable}
use Rattle.rmt_events.specs.Clusters.{Cluster}
use Rattle.rmt_events.specs.Whole.{Follows, IsWhole}
use Rattle.rmt_events.specs.ClusterChanges.{IsNumbered}
use Rattle.rmt_events.specs.ApplyEvents.{LacksPart, NoApply, WaitsAt}
use Rattle.rmt_events.specs.Steps.{NotesNothing, NoNote, Does, Step}
use Rattle.rmt_events.proofs.Copies.{dropped-behind, entry-front}
use Rattle.rmt_events.proofs.WholeSteps.{whole-step}
use Rattle.rmt_statement_model.specs.TableStates.{TableState, learned}
use Rattle.rmt_statement_model.specs.QuorumCopies.{is_asked, copied, copied_where}
use Rattle.rmt_statement_model.specs.Gathered.{copied_to}
use Rattle.rmt_statement_model.specs.Shows.{Knows, Shows, fetching_of, ups}
use Rattle.rmt_statement_model.specs.Attempts.{KnowsPending, HasPending}
use Rattle.rmt_statement_model.proofs.UpLaws.{not-down, up-step}
use Rattle.rmt_statement_model.proofs.SwitchLaws.{fetching-told, switch-step}
use Rattle.rmt_statement_model.proofs.NoteRows.{noted-shows}
use Rattle.rmt_statement_model.proofs.LostSourceLaws.{IsThere, made-mark, unknown-there, up-there}
use Rattle.rmt_statement_model.proofs.AttemptSteps.{IsPulled, IsApplied, HasWholeLog, own-log, own-entry, never-past, pulled, applied-shows}
use Rattle.rmt_events.specs.declared.event.Event.TheVariants as ev
use Rattle.rmt_events.specs.declared.reply.Reply.{Reply}
use Rattle.rmt_events.specs.declared.reply.Reply.TheVariants as rp
use Rattle.rmt_events.specs.declared.step_refused.StepRefused.{StepRefused}
use Rattle.rmt_events.specs.declared.step_refused.StepRefused.TheVariants as rf

-- ---- what is known of a part that waits

-- a place that is learned is known
pub learned-here : (known : ℕ → ℕ → Bool) (r place : ℕ) → learned known r place r place ≡ true
learned-here known r place =
    let a : nat_eq r r ≡ true = grind (arith, nat_tests) in
    let b : nat_eq place place ≡ true = grind (arith, nat_tests) in
    rw (a, b) refl

-- what was known is so still
learned-still : (known : ℕ → ℕ → Bool) (k i r place : ℕ) → known r place ≡ true → learned known k i r place ≡ true
learned-still known k i r place e = go (nat_eq r k && nat_eq place i)
  where
    go : (b : Bool) → b || known r place ≡ true
    go true = refl
    go false = e

-- a note leaves the part that waits, or none waits then
note-part : (k : ℕ) (q : Quorum) (p : Pending) → (quorum_after_note k q).pending ≡ Some p → (z : Pending) × (q.pending ≡ Some z) × (p.part ≡ z.part)
note-part k q p e = go q.pending refl e
  where
    more : (z : Pending) (xs : List ℕ) (b : Bool) → Quorum.pending (cond b (record { pending = Some (record { part = z.part; need = z.need; noted = xs }); last = q.last }) (record { pending = None; last = Some z.part })) ≡ Some p → p.part ≡ z.part
    more z xs true h = let g : p ≡ record { part = z.part; need = z.need; noted = xs } = cc in ap (λ (y : Pending). y.part) g
    more z xs false h = absurd (cc)

    go : (o : Option Pending) → q.pending ≡ o → (noted_by k q o).pending ≡ Some p → (z : Pending) × (q.pending ≡ Some z) × (p.part ≡ z.part)
    go None r h = absurd (let g = h in cc)
    go (Some z) r h = (z, r, more z (noted_with k z.noted) (nat_lt (length (noted_with k z.noted)) z.need) h)

-- the writer's Get is known still where another replica has copied it
pub copied-pending : (t : TableState) (place r k : ℕ) → KnowsPending t place r → KnowsPending (copied place k t) place r
copied-pending t place r k c = record {
  partition = c.partition;
  number = c.number;
  digest = c.digest;
  source = c.source;
  need = c.need;
  entry = c.entry;
  known = learned-still t.known k place r place c.known;
  named = λ q e. let z = note-part k t.quorum q e in z.2 ∙ c.named z.0 z.1;
}

-- so it is where it was noted
pub noted-pending : (t : TableState) (place r k : ℕ) → KnowsPending t place r → KnowsPending (record t { quorum = quorum_after_note k t.quorum }) place r
noted-pending t place r k c = record {
  partition = c.partition;
  number = c.number;
  digest = c.digest;
  source = c.source;
  need = c.need;
  entry = c.entry;
  known = c.known;
  named = λ q e. let z = note-part k t.quorum q e in z.2 ∙ c.named z.0 z.1;
}

-- ---- a note

-- the part that waits isn't dropped
waiting-kept : (s : Cluster) (q : Pending) → IsWhole s → s.table.quorum.pending ≡ Some q → Dropped s.table.log q.part → ⊥
waiting-kept s q w e =
    let is = IsSoundTable.quorum w.table in
    (subst (λ (o : Option Pending). IsPending s.table.log o is.others) e is.pending).1

-- the block of a Get that is known at a replica, and isn't dropped, is covered there
known-covered : (s : Cluster) (t : TableState) (place r : ℕ) (y : Replica) → IsWhole s → Shows s t → IsNumbered s r y → (c : KnowsPending t place r) → (Dropped s.table.log (block_name c.partition c.number) → ⊥) → CoveredBy (names_of y.parts) (block_name c.partition c.number)
known-covered s t place r y w h at c kept = at-mark (before place (length y.log))
  where
    get : Entry
    get = Get c.partition c.number c.digest c.source c.need

    knows : Knows y (t.known r)
    knows = subst (λ j. Knows y (t.known j)) at.number (h.table.knows y at.is_in)

    prefix : IsPrefix y.log s.table.log
    prefix = Follows.prefix (Each-at (Follows s) s.replicas y w.follow at.is_in)

    stands : place < length y.log → entry_at y.log place ≡ Some get
    stands b = entry-front prefix.gained y.log place get b (subst (λ (z : List Entry). entry_at z place ≡ Some get) (h.table.log ∙ prefix.is) c.entry)

    before : (j m : ℕ) → (j < m) ⊎ (m ≤ j)
    before j m = grind arith

    at-mark : (place < length y.log) ⊎ (length y.log ≤ place) → CoveredBy (names_of y.parts) (block_name c.partition c.number)
    at-mark (inr b) = let q = knows.within place b in let k = c.known in absurd (cc)
    at-mark (inl b) = elim (knows.fair.answered (block_name c.partition c.number) (made-mark y.log place (t.known r) get (block_name c.partition c.number) (stands b) refl c.known)) [
      | inl d ↦ d
      | inr d ↦ absurd (kept (subst (λ (z : List Entry). Dropped z (block_name c.partition c.number)) (sym prefix.is) (dropped-behind prefix.gained y.log (block_name c.partition c.number) d)))
    ]

-- a replica that is up and knows the Get is noted, where a part waits
pub notes : (s u : Cluster) (place k : ℕ) (reply : Reply) (t : TableState) → IsWhole s → ups s k ≡ true → Shows s t → KnowsPending t place k → Step s (ev.Note k) reply u → u.table ≡ record s.table { quorum = quorum_after_note k s.table.quorum }
notes s u place k reply t w up h c st = ap (λ (x : Cluster). x.table) st.stored ∙ go st.does
  where
    -- where none waits nothing changes
    none : s.table.quorum.pending ≡ None → ◌≡◌ {A = Table} s.table (record s.table { quorum = quorum_after_note k s.table.quorum })
    none e = ap (λ (q : Quorum). record s.table { quorum = q }) (sym (ap (noted_by k s.table.quorum) e))

    nothing : (d : NotesNothing s k reply st.after) → (o : Option Pending) → s.table.quorum.pending ≡ o → st.after.table ≡ record s.table { quorum = quorum_after_note k s.table.quorum }
    nothing d None e = ap (λ (x : Cluster). x.table) d.unchanged ∙ none e
    nothing d (Some q) e =
        let named : q.part ≡ block_name c.partition c.number = c.named q (ap (λ (x : Quorum). x.pending) h.table.quorum ∙ e) in
        let covered = known-covered s t place k d.replica w h d.is.at c (λ x. waiting-kept s q w e (subst (Dropped s.table.log) (sym named) x)) in
        absurd (d.none q e (subst (CoveredBy (names_of d.replica.parts)) (sym named) covered))

    refused : (why : StepRefused) → NoNote s k why → ⊥
    refused rf.Down x = not-down s k w up x
    refused why x = x

    go : Does s (ev.Note k) reply st.after → st.after.table ≡ record s.table { quorum = quorum_after_note k s.table.quorum }
    go (inl d) = ap (λ (x : Cluster). x.table) d.change ∙ d.call
    go (inr (inl d)) = nothing d s.table.quorum.pending refl
    go (inr (inr d)) = absurd (refused d.why d.cause)

-- the cluster shows each table with the note
pub note-shows : (s u : Cluster) (place k : ℕ) (reply : Reply) → IsWhole s → ups s k ≡ true → HasPending s place k → Step s (ev.Note k) reply u → (t : TableState) → Shows s t → Shows u (record t { quorum = quorum_after_note k t.quorum })
note-shows s u place k reply w up c st t h = noted-shows s u k reply w st (notes s u place k reply c.state w up c.shows c.knows st) t h

-- it is known still who has the Get
pub note-pending : (s u : Cluster) (place r k : ℕ) → ((t : TableState) → Shows s t → Shows u (record t { quorum = quorum_after_note k t.quorum })) → HasPending s place r → HasPending u place r
note-pending s u place r k f c = record { state = record c.state { quorum = quorum_after_note k c.state.quorum }; shows = f c.state c.shows; knows = noted-pending c.state place r k c.knows }

-- ---- a copy

-- a replica that is up, may fetch, and has the whole log does a Get that another one knows which is up
refused-copy : (s : Cluster) (place r k : ℕ) (t : TableState) (why : StepRefused) → IsWhole s → ups s k ≡ true → fetching_of s k ≡ true → ups s r ≡ true → Shows s t → KnowsPending t place r → HasWholeLog s k → NoApply s k place why → ⊥
refused-copy s place r k t rf.Down w up f there h c l x = not-down s k w up x
refused-copy s place r k t rf.NotLive w up f there h c l x =
    never-past s place k x.0 (Get c.partition c.number c.digest c.source c.need) w (subst (λ (z : List Entry). entry_at z place ≡ Some (Get c.partition c.number c.digest c.source c.need)) h.table.log c.entry) l x.1.at x.2
refused-copy s place r k t (rf.NeedsPart name) w up f there h c l x =
    let get : Entry = Get c.partition c.number c.digest c.source c.need in
    let entry = subst (λ (z : List Entry). entry_at z place ≡ Some get) h.table.log c.entry in
    let own : x.1 ≡ get = own-entry s place k x.0 x.1 get w entry l x.2 in
    let waits = subst (WaitsAt s k place x.0) own x.2 in
    let lacks = subst (λ (e : Entry). LacksPart s k x.0 e name) own x.3 in
    let none = unknown-there s k place x.0 c.partition c.number c.source c.need c.digest name t.known w (own-log s k x.0 w l x.2.is.at) waits lacks (λ z i. h.table.knows z i) r there in
    let known = c.known in
    absurd (cc)
refused-copy s place r k t rf.FetchesStopped w up f there h c l x =
    let told = fetching-told s k x.0 w x.2.is.at in
    let stopped = x.3 in
    absurd (cc)
refused-copy s place r k t why w up f there h c l x = x

-- the Get is looked at then
copy-applies : (s u : Cluster) (place r k : ℕ) (reply : Reply) (t : TableState) → IsWhole s → ups s k ≡ true → fetching_of s k ≡ true → ups s r ≡ true → Shows s t → KnowsPending t place r → HasWholeLog s k → Step s (ev.Apply k place) reply u → IsApplied reply
copy-applies s u place r k reply t w up f there h c l st = go st.does
  where
    go : Does s (ev.Apply k place) reply st.after → IsApplied reply
    go (inl d) = subst (λ (y : Reply). IsApplied y) (sym d.answer) tt
    go (inr d) = absurd (refused-copy s place r k t d.why w up f there h c l d.cause)

-- its place is known there
copy-knows : (s u : Cluster) (place k : ℕ) (reply : Reply) (t : TableState) → IsApplied reply → IsWhole s → Step s (ev.Apply k place) reply u → Shows s t → Shows u (record t { known = learned t.known k place })
copy-knows s u place k (rp.Applied comes) t x w st h = applied-shows s u k place comes w st t h
copy-knows s u place k reply t x w st h = absurd x

-- the replica pulls the log, does the Get and notes the part
pub copies : (s m c u : Cluster) (place r k : ℕ) (x y z : Reply) → IsWhole s → ups s k ≡ true → fetching_of s k ≡ true → ups s r ≡ true → HasPending s place r
    → Step s (ev.Pull k) x m → Step m (ev.Apply k place) y c → Step c (ev.Note k) z u → (t : TableState) → Shows s t → Shows u (copied place k t)
copies s m c u place r k x y z w up f there p a b d t h = note-shows c u place k z wc upc known d (record t { known = learned t.known k place }) (shown t h)
  where
    wm : IsWhole m
    wm = whole-step s m (ev.Pull k) x w a

    wc : IsWhole c
    wc = whole-step m c (ev.Apply k place) y wm b

    upm : ups m k ≡ true
    upm = up-step s m (ev.Pull k) x k w tt a up

    upc : ups c k ≡ true
    upc = up-step m c (ev.Apply k place) y k wm tt b upm

    here : IsThere s.replicas k
    here = up-there s.replicas k up

    pull : IsPulled x × HasWholeLog m k × ((v : TableState) → Shows s v → Shows m v)
    pull = pulled s m k here.replica x w up (record { is_in = here.is_in; number = here.number }) a

    applied : IsApplied y
    applied = copy-applies m c place r k y p.state wm upm (ap (λ (g : ℕ → Bool). g k) (switch-step s m (ev.Pull k) x w tt a) ∙ f) (up-step s m (ev.Pull k) x r w tt a there) (pull.2 p.state p.shows) p.knows pull.1 b

    shown : (v : TableState) → Shows s v → Shows c (record v { known = learned v.known k place })
    shown v g = copy-knows m c place k y v applied wm b (pull.2 v g)

    known : HasPending c place k
    known = record {
      state = record p.state { known = learned p.state.known k place };
      shows = shown p.state p.shows;
      knows = record { partition = p.knows.partition; number = p.knows.number; digest = p.knows.digest; source = p.knows.source; need = p.knows.need; entry = p.knows.entry; known = learned-here p.state.known k place; named = p.knows.named };
    }

-- it is known still who has the Get
pub copies-pending : (s u : Cluster) (place r k : ℕ) → ((t : TableState) → Shows s t → Shows u (copied place k t)) → HasPending s place r → HasPending u place r
copies-pending s u place r k f c = record { state = copied place k c.state; shows = f c.state c.shows; knows = copied-pending c.state place r k c.knows }

-- ---- one replica after the other

-- who is asked is told by the cluster
pub asked-shown : (s : Cluster) (t : TableState) (up : ℕ → Bool) (r k : ℕ) → Shows s t → ups s ≡ up → is_asked t.quorum.pending up t.fetching r k ≡ is_asked s.table.quorum.pending (ups s) (fetching_of s) r k
asked-shown s t up r k h e =
    ap (λ (o : Option Pending). is_asked o up t.fetching r k) (ap (λ (q : Quorum). q.pending) h.table.quorum)
    ∙ (ap (λ (f : ℕ → Bool). is_asked s.table.quorum.pending up f r k) h.table.fetching ∙ ap (λ (g : ℕ → Bool). is_asked s.table.quorum.pending g (fetching_of s) r k) (sym e))

-- the next one
pub copied-next : (s u : Cluster) (t : TableState) (up : ℕ → Bool) (r place n : ℕ) (b : Bool) → Shows s (copied_to up r place n t) → ups s ≡ up → is_asked s.table.quorum.pending (ups s) (fetching_of s) r (suc n) ≡ b
    → Shows u (copied_where b place (suc n) (copied_to up r place n t)) → Shows u (copied_to up r place (suc n) t)
copied-next s u t up r place n b h e q k =
    subst (λ (c : Bool). Shows u (copied_where c place (suc n) (copied_to up r place n t))) (sym (asked-shown s (copied_to up r place n t) up r (suc n) h e ∙ q)) k
