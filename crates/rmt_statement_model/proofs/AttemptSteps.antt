-- A replica pulls the log and looks at an entry of it: why it goes so, and what the cluster shows then.
use Rattle.std.proofs.Common.{◌≡◌, ℕ, ◌⊎◌, ◌≤◌, inl, inr, true, List, length, refl, sym, ap, subst, arith, ◌∙◌}
use Rattle.std.specs.declared.option.Option.{Option}
use Rattle.std.specs.declared.option.Option.TheVariants.{Some}
use Rattle.rmt_names.specs.Names.{Name}
use Rattle.rmt_entries.specs.declared.entry.Entry.{Entry}
use Rattle.rmt_entries.specs.declared.entry.Entry.TheVariants.{Get}
use Rattle.rmt_model.specs.Words.{Has}
use Rattle.rmt_model.specs.Lawful.{entry_at}
use Rattle.rmt_model.proofs.Drops.{some-same, entry-below}
use Rattle.rmt_events.specs.Views.{Block, Staged, Replica}
use Rattle.rmt_events.specs.ReplicaCalls.{IsStaged}
use Rattle.rmt_events.specs.Clusters.{Cluster, with_replica}
use Rattle.rmt_events.specs.Whole.{IsWhole}
use Rattle.rmt_events.specs.ClusterChanges.{IsNumbered}
use Rattle.rmt_events.specs.ApplyEvents.{LacksBlock, LacksPart, NeedsFetch, NoApply, WaitsAt}
use Rattle.rmt_events.specs.Steps.{PullsLog, NoPull, Does, Step}
use Rattle.rmt_events.proofs.WholeTries.{one-replica}
use Rattle.rmt_events.proofs.Drains.{nat-same}
use Rattle.rmt_statement_model.specs.TableStates.{TableState, learned}
use Rattle.rmt_statement_model.specs.Shows.{Shows, ups}
use Rattle.rmt_statement_model.specs.Inserts.{Asked}
use Rattle.rmt_statement_model.specs.Attempts.{IsStagedAt, IsAccepted}
use Rattle.rmt_statement_model.proofs.Replaced.{has-kept, numbered-still, numbered-new}
use Rattle.rmt_statement_model.proofs.KnowsLaws.{learns-step}
use Rattle.rmt_statement_model.proofs.UpLaws.{not-down}
use Rattle.rmt_statement_model.proofs.ShownSteps.{shows-quiet}
use Rattle.rmt_events.specs.declared.event.Event.{Event}
use Rattle.rmt_events.specs.declared.event.Event.TheVariants as ev
use Rattle.rmt_events.specs.declared.reply.Reply.{Reply}
use Rattle.rmt_events.specs.declared.reply.Reply.TheVariants as rp
use Rattle.rmt_events.specs.declared.applied.Applied.{Applied}
use Rattle.rmt_events.specs.declared.step_refused.StepRefused.{StepRefused}
use Rattle.rmt_events.specs.declared.step_refused.StepRefused.TheVariants as rf

-- the log was pulled
abbrev pub IsPulled : Reply → Type 0
IsPulled (rp.Pulled n) = Unit {0}
IsPulled reply = ⊥

-- the entry was looked at
abbrev pub IsApplied : Reply → Type 0
IsApplied (rp.Applied comes) = Unit {0}
IsApplied reply = ⊥

-- the event is a Pull or an Apply
abbrev pub IsPullOrApply : Event → Type 0
IsPullOrApply (ev.Pull k) = Unit {0}
IsPullOrApply (ev.Apply k i) = Unit {0}
IsPullOrApply e = ⊥

-- the replica of the number has the whole log
pub record HasWholeLog (s : Cluster) (k : ℕ) : Type 0 where
  pub replica : Replica
  pub at : IsNumbered s k replica
  pub whole : replica.log ≡ s.table.log

-- ---- what is shown

-- a Pull and an Apply leave the table, whatever their replies
pub quiet-shows : (s u : Cluster) (e : Event) (reply : Reply) → IsWhole s → IsPullOrApply e → Step s e reply u → (t : TableState) → Shows s t → Shows u t
quiet-shows s u (ev.Pull k) reply w q st t h = go st.does
  where
    go : Does s (ev.Pull k) reply st.after → Shows u t
    go (inl d) = shows-quiet s u (ev.Pull k) reply t w tt st (ap (λ (x : Cluster). x.table) d.at.change) (ap (λ (x : Cluster). x.events) d.at.change) (λ xs i. refl) h
    go (inr d) = shows-quiet s u (ev.Pull k) reply t w tt st (ap (λ (x : Cluster). x.table) d.unchanged) (ap (λ (x : Cluster). x.events) d.unchanged) (λ xs i. refl) h
quiet-shows s u (ev.Apply k i) reply w q st t h = go st.does
  where
    go : Does s (ev.Apply k i) reply st.after → Shows u t
    go (inl d) = shows-quiet s u (ev.Apply k i) reply t w tt st (ap (λ (x : Cluster). x.table) d.at.change) (ap (λ (x : Cluster). x.events) d.at.change) (λ xs i. refl) h
    go (inr d) = shows-quiet s u (ev.Apply k i) reply t w tt st (ap (λ (x : Cluster). x.table) d.unchanged) (ap (λ (x : Cluster). x.events) d.unchanged) (λ xs i. refl) h
quiet-shows s u e reply w q st t h = absurd q

-- ---- the log is pulled

-- a replica that is up isn't refused
refused-pull : (s : Cluster) (k : ℕ) (why : StepRefused) → IsWhole s → ups s k ≡ true → NoPull s k why → ⊥
refused-pull s k rf.Down w up c = not-down s k w up c
refused-pull s k why w up c = c

-- the replica has the whole log then
whole-log : (s u : Cluster) (k : ℕ) (reply : Reply) → (st : Step s (ev.Pull k) reply u) → PullsLog s k reply st.after → HasWholeLog u k
whole-log s u k reply st d =
    record {
      replica = d.at.new;
      at = numbered-new s u k d.at.old d.at.new (ap (λ (x : Cluster). x.replicas) st.stored ∙ ap (λ (x : Cluster). x.replicas) d.at.change) (ap (λ (z : Replica). z.number) d.at.does) d.at.at;
      whole = ap (λ (z : Replica). z.log) d.at.does ∙ sym (ap (λ (x : Cluster). x.table.log) st.stored ∙ ap (λ (x : Cluster). x.table.log) d.at.change);
    }

-- the log is pulled, and what is shown stays
pub pulled : (s u : Cluster) (k : ℕ) (x : Replica) (reply : Reply) → IsWhole s → ups s k ≡ true → IsNumbered s k x → Step s (ev.Pull k) reply u → IsPulled reply × HasWholeLog u k × ((t : TableState) → Shows s t → Shows u t)
pulled s u k x reply w up at st = go st.does
  where
    go : Does s (ev.Pull k) reply st.after → IsPulled reply × HasWholeLog u k × ((t : TableState) → Shows s t → Shows u t)
    go (inl d) = (subst (λ (y : Reply). IsPulled y) (sym d.answer) tt, whole-log s u k reply st d, λ t h. quiet-shows s u (ev.Pull k) reply w tt st t h)
    go (inr d) = absurd (refused-pull s k d.why w up d.cause)

-- what is staged at a replica stays staged
staged-pulls : (s u : Cluster) (k r : ℕ) (b : Block) (n : ℕ) (reply : Reply) → IsWhole s → IsStagedAt s r b n → (st : Step s (ev.Pull k) reply u) → PullsLog s k reply st.after → IsStagedAt u r b n
staged-pulls s u k r b n reply w a st d = go (nat-same a.replica.number k)
  where
    replicas-are : u.replicas ≡ with_replica s.replicas k d.at.new
    replicas-are = ap (λ (x : Cluster). x.replicas) st.stored ∙ ap (λ (x : Cluster). x.replicas) d.at.change

    go : (a.replica.number ≡ k) ⊎ (a.replica.number ≡ k → ⊥) → IsStagedAt u r b n
    go (inl q) =
        let same : d.at.old ≡ a.replica = one-replica s d.at.old a.replica w d.at.at.is_in a.at.is_in (d.at.at.number ∙ sym q) in
        let is : d.at.new.staged ≡ a.replica.staged = ap (λ (z : Replica). z.staged) d.at.does ∙ ap (λ (z : Replica). z.staged) same in
        let m : k ≡ r = sym q ∙ a.at.number in
        record {
          replica = d.at.new;
          at = subst (λ j. IsNumbered u j d.at.new) m (numbered-new s u k d.at.old d.at.new replicas-are (ap (λ (z : Replica). z.number) d.at.does) d.at.at);
          staged = record { is_in = subst (λ (zs : List Staged). Has zs (record { number = n; block = b })) (sym is) a.staged.is_in; partition = a.staged.partition };
        }
    go (inr q) = record {
      replica = a.replica;
      at = record { is_in = subst (λ (xs : List Replica). Has xs a.replica) (sym replicas-are) (has-kept s.replicas k a.replica d.at.new a.at.is_in q); number = a.at.number };
      staged = a.staged;
    }

-- a block that is accepted stays so
pub pulled-accepted : (s u : Cluster) (k place : ℕ) (a : Asked) (b : Block) (n : ℕ) (reply : Reply) → IsWhole s → IsAccepted s place a b n → Step s (ev.Pull k) reply u → IsAccepted u place a b n
pulled-accepted s u k place a b n reply w z st = go st.does
  where
    entry : st.after.table.log ≡ s.table.log → entry_at u.table.log place ≡ Some (Get b.partition n b.digest a.writer a.need)
    entry e = subst (λ (l : List Entry). entry_at l place ≡ Some (Get b.partition n b.digest a.writer a.need)) (sym (ap (λ (x : Cluster). x.table.log) st.stored ∙ e)) z.entry

    go : Does s (ev.Pull k) reply st.after → IsAccepted u place a b n
    go (inl d) = record { entry = entry (ap (λ (x : Cluster). x.table.log) d.at.change); staged = staged-pulls s u k a.writer b n reply w z.staged st d }
    go (inr d) = record {
      entry = entry (ap (λ (x : Cluster). x.table.log) d.unchanged);
      staged = record {
        replica = z.staged.replica;
        at = numbered-still s u a.writer z.staged.replica (ap (λ (x : Cluster). x.replicas) st.stored ∙ ap (λ (x : Cluster). x.replicas) d.unchanged) z.staged.at;
        staged = z.staged.staged;
      };
    }

-- ---- the entry is looked at

-- a Get that lacks its part lacks its block
part-lacks-block : (s : Cluster) (k : ℕ) (x : Replica) (p : Option ℕ) (n source need : ℕ) (digest : List ℕ) (e : Entry) (a : Name) → e ≡ Get p n digest source need → LacksPart s k x e a → LacksBlock x p n
part-lacks-block s k x p n source need digest e a q c = (subst (λ (y : Entry). LacksPart s k x y a) q c).1

-- so does one that is to be fetched
fetch-lacks-block : (s : Cluster) (k : ℕ) (x : Replica) (p : Option ℕ) (n source need : ℕ) (digest : List ℕ) (e : Entry) → e ≡ Get p n digest source need → NeedsFetch s k x e → LacksBlock x p n
fetch-lacks-block s k x p n source need digest e q c = (subst (λ (y : Entry). NeedsFetch s k x y) q c).0

-- the replica of the number has the block staged
own-block : (s : Cluster) (r : ℕ) (b : Block) (n : ℕ) (x : Replica) → IsWhole s → IsStagedAt s r b n → IsNumbered s r x → IsStaged x b.partition n b
own-block s r b n x w a at = subst (λ (z : Replica). IsStaged z b.partition n b) (one-replica s a.replica x w a.at.is_in at.is_in (a.at.number ∙ sym at.number)) a.staged

-- it has the whole log
pub own-log : (s : Cluster) (r : ℕ) (x : Replica) → IsWhole s → HasWholeLog s r → IsNumbered s r x → x.log ≡ s.table.log
own-log s r x w l at = subst (λ (z : Replica). z.log ≡ s.table.log) (one-replica s l.replica x w l.at.is_in at.is_in (l.at.number ∙ sym at.number)) l.whole

-- the entry that waits at the place is the block's Get
pub own-entry : (s : Cluster) (place k : ℕ) (x : Replica) (e get : Entry) → IsWhole s → entry_at s.table.log place ≡ Some get → HasWholeLog s k → WaitsAt s k place x e → e ≡ get
own-entry s place k x e get w a l z =
    some-same e get (sym z.at ∙ (ap (λ (y : List Entry). entry_at y place) (own-log s k x w l z.is.at) ∙ a))

-- an entry that is in the log stands in the copy of a replica that has the whole log
pub never-past : (s : Cluster) (place k : ℕ) (x : Replica) (get : Entry) → IsWhole s → entry_at s.table.log place ≡ Some get → HasWholeLog s k → IsNumbered s k x → length x.log ≤ place → ⊥
never-past s place k x get w a l at m =
    let e = ap (λ (y : List Entry). length y) (own-log s k x w l at) in
    let i = entry-below s.table.log place get a in
    absurd (omega (arith, e, m, i))

-- a block that is accepted and staged is done at its replica
refused-apply : (s : Cluster) (place : ℕ) (a : Asked) (b : Block) (n : ℕ) (why : StepRefused) → IsWhole s → ups s a.writer ≡ true → IsAccepted s place a b n → HasWholeLog s a.writer → NoApply s a.writer place why → ⊥
refused-apply s place a b n rf.Down w up z l c = not-down s a.writer w up c
refused-apply s place a b n rf.NotLive w up z l c = never-past s place a.writer c.0 (Get b.partition n b.digest a.writer a.need) w z.entry l c.1.at c.2
refused-apply s place a b n (rf.NeedsPart name) w up z l c =
    part-lacks-block s a.writer c.0 b.partition n a.writer a.need b.digest c.1 name (own-entry s place a.writer c.0 c.1 (Get b.partition n b.digest a.writer a.need) w z.entry l c.2) c.3 b (own-block s a.writer b n c.0 w z.staged c.2.is.at)
refused-apply s place a b n rf.FetchesStopped w up z l c =
    fetch-lacks-block s a.writer c.0 b.partition n a.writer a.need b.digest c.1 (own-entry s place a.writer c.0 c.1 (Get b.partition n b.digest a.writer a.need) w z.entry l c.2) c.4 b (own-block s a.writer b n c.0 w z.staged c.2.is.at)
refused-apply s place a b n why w up z l c = c

-- the entry of the block is looked at
pub apply-reply : (s u : Cluster) (place : ℕ) (a : Asked) (b : Block) (n : ℕ) (reply : Reply) → IsWhole s → ups s a.writer ≡ true → IsAccepted s place a b n → HasWholeLog s a.writer → Step s (ev.Apply a.writer place) reply u → IsApplied reply
apply-reply s u place a b n reply w up z l st = go st.does
  where
    go : Does s (ev.Apply a.writer place) reply st.after → IsApplied reply
    go (inl d) = subst (λ (y : Reply). IsApplied y) (sym d.answer) tt
    go (inr d) = absurd (refused-apply s place a b n d.why w up z l d.cause)

-- its place is known there then
pub applied-shows : (s u : Cluster) (k i : ℕ) (comes : Applied) → IsWhole s → Step s (ev.Apply k i) (rp.Applied comes) u → (t : TableState) → Shows s t → Shows u (record t { known = learned t.known k i })
applied-shows s u k i comes w st t h =
    let v = quiet-shows s u (ev.Apply k i) (rp.Applied comes) w tt st t h in
    record {
      table = record { schema = v.table.schema; log = v.table.log; next = v.table.next; quorum = v.table.quorum; fetching = v.table.fetching; knows = learns-step s u k i comes t.known w st h.table.knows };
      blocks = v.blocks;
    }
