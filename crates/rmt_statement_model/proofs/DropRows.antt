-- ALTER .. DROP PARTITION: what its events reply, and what the cluster shows then.
use Rattle.std.proofs.Common.{◌≡◌, ℕ, ◌+◌, ◌<◌, inl, inr, Bool, true, cond, List, ◌∷◌, length, refl, sym, ap, subst, arith, ◌∙◌, nat_eq}
use Rattle.std.proofs.lemmas.Bool.Decides.{nat_tests}
use Rattle.std.specs.declared.option.Option.{Option}
use Rattle.std.specs.declared.option.Option.TheVariants.{Some}
use Rattle.rmt_values.specs.declared.limit.Limit.{Limit}
use Rattle.rmt_entries.specs.declared.entry.Entry.{Entry}
use Rattle.rmt_entries.specs.declared.entry.Entry.TheVariants.{DropRange}
use Rattle.rmt_model.specs.Lawful.{entry_at}
use Rattle.rmt_model.proofs.Drops.{some-same, entry-below}
use Rattle.rmt_model.specs.Quorum.{quorum_after_drop}
use Rattle.rmt_model.specs.BlockNumbers.{next_number, with_next}
use Rattle.rmt_model.specs.EntryLimits.{drop_limit}
use Rattle.rmt_events.specs.Views.{Replica}
use Rattle.rmt_events.specs.Clusters.{Cluster}
use Rattle.rmt_events.specs.Whole.{IsWhole}
use Rattle.rmt_events.specs.ClusterChanges.{IsNumbered}
use Rattle.rmt_events.specs.ApplyEvents.{LacksPart, NeedsFetch, NoApply, WaitsAt}
use Rattle.rmt_events.specs.TableRefusals.{NoDrop}
use Rattle.rmt_events.specs.Steps.{Does, Step}
use Rattle.rmt_events.proofs.WholeSteps.{whole-step}
use Rattle.rmt_events.proofs.WholeTries.{one-replica}
use Rattle.rmt_reply.specs.declared.refusal.Refusal.TheVariants.{LimitReached}
use Rattle.rmt_statement_model.specs.TableStates.{TableState, learned}
use Rattle.rmt_statement_model.specs.Drops.{with_drop, Drops, DropsNothing, LacksDrop}
use Rattle.rmt_statement_model.specs.Shows.{Shows, ups, Leads}
use Rattle.rmt_statement_model.proofs.UpLaws.{not-down}
use Rattle.rmt_statement_model.proofs.ShownSteps.{shows-quiet}
use Rattle.rmt_statement_model.proofs.AttemptSteps.{HasWholeLog, IsApplied, quiet-shows, applied-shows}
use Rattle.rmt_statement_model.proofs.DropEntries.{next-shown, newest, newest-place, newest-log, drop-shows}
use Rattle.rmt_events.specs.declared.event.Event.TheVariants as ev
use Rattle.rmt_events.specs.declared.reply.Reply.{Reply}
use Rattle.rmt_events.specs.declared.reply.Reply.TheVariants as rp
use Rattle.rmt_events.specs.declared.applied.Applied.{Applied}
use Rattle.rmt_events.specs.declared.step_refused.StepRefused.{StepRefused}
use Rattle.rmt_events.specs.declared.step_refused.StepRefused.TheVariants as rf

-- ---- what is answered

-- the drop is made, or there is nothing to drop, or it passes a limit
abbrev pub IsDropReply : Reply → Type 0
IsDropReply (rp.Entry i) = Unit {0}
IsDropReply rp.Done = Unit {0}
IsDropReply (rp.Refused (rf.LimitReached limit value)) = Unit {0}
IsDropReply reply = ⊥

-- a drop is refused for a limit alone
refused-drop : (s : Cluster) (p : Option ℕ) (why : StepRefused) → NoDrop s.table p why → IsDropReply (rp.Refused why)
refused-drop s p (rf.LimitReached limit value) c = tt
refused-drop s p why c = absurd c

-- nothing else is answered
pub drop-reply : (s u : Cluster) (p : Option ℕ) (reply : Reply) → Step s (ev.DropPartition p) reply u → IsDropReply reply
drop-reply s u p reply k = go k.does
  where
    go : Does s (ev.DropPartition p) reply k.after → IsDropReply reply
    go (inl d) = subst (λ (y : Reply). IsDropReply y) (sym d.1.answer) tt
    go (inr (inl d)) = subst (λ (y : Reply). IsDropReply y) (sym d.answer) tt
    go (inr (inr d)) = subst (λ (y : Reply). IsDropReply y) (sym d.answer) (refused-drop s p d.why d.cause)

-- ---- nothing is dropped

-- what the state says of the limit of one more drop is what the table says
limit-shown : (s : Cluster) (t : TableState) (p : Option ℕ) → Shows s t → drop_limit t.next t.log p ≡ drop_limit s.table.next s.table.log p
limit-shown s t p h = ap (λ (x : List (Option ℕ × ℕ)). drop_limit x t.log p) h.table.next ∙ ap (λ (l : List Entry). drop_limit s.table.next l p) h.table.log

-- a partition exists where the table says so
exists-shown : (s : Cluster) (t : TableState) (p : Option ℕ) → Shows s t → 0 < next_number s.table.next p → 0 < next_number t.next p
exists-shown s t p h l = subst (λ i. 0 < i) (sym (next-shown s t p h)) l

-- the partition doesn't exist, and nothing changes
pub drop-nothing-row : (s u : Cluster) (p : Option ℕ) → IsWhole s → Step s (ev.DropPartition p) rp.Done u → (t : TableState) → Shows s t → Leads u (λ v. DropsNothing t p 0 v)
drop-nothing-row s u p w k t h = go k.does
  where
    go : Does s (ev.DropPartition p) rp.Done k.after → Leads u (λ v. DropsNothing t p 0 v)
    go (inl d) = let e = d.1.answer in absurd (cc)
    go (inr (inl d)) = record {
      state = t;
      holds = record { absent = next-shown s t p h ∙ d.absent; number = refl; unchanged = refl };
      shows = shows-quiet s u (ev.DropPartition p) rp.Done t w tt k (ap (λ (x : Cluster). x.table) d.unchanged) (ap (λ (x : Cluster). x.events) d.unchanged) (λ xs i. refl) h;
    }
    go (inr (inr d)) = let e = d.answer in absurd (cc)

-- one more drop would pass the limit, and nothing changes
pub drop-refused : (s u : Cluster) (p : Option ℕ) (limit : Limit) (value : ℕ) → IsWhole s → Step s (ev.DropPartition p) (rp.Refused (rf.LimitReached limit value)) u → (t : TableState) → Shows s t → Leads u (λ v. LacksDrop t p (LimitReached limit value) v)
drop-refused s u p limit value w k t h = go k.does
  where
    go : Does s (ev.DropPartition p) (rp.Refused (rf.LimitReached limit value)) k.after → Leads u (λ v. LacksDrop t p (LimitReached limit value) v)
    go (inl d) = let e = d.1.answer in absurd (cc)
    go (inr (inl d)) = let e = d.answer in absurd (cc)
    go (inr (inr d)) =
        let e : d.why ≡ rf.LimitReached limit value = let q = d.answer in cc in
        let c = subst (λ (y : StepRefused). NoDrop s.table p y) e d.cause in
        record {
          state = t;
          holds = record { exists = exists-shown s t p h c.0; limit = limit; value = value; reached = limit-shown s t p h ∙ c.1; reply = refl; unchanged = refl };
          shows = shows-quiet s u (ev.DropPartition p) (rp.Refused (rf.LimitReached limit value)) t w tt k (ap (λ (x : Cluster). x.table) d.unchanged) (ap (λ (x : Cluster). x.events) d.unchanged) (λ xs i. refl) h;
        }

-- ---- a drop enters the log

-- the entry at the place is a drop under the partition's next number
pub record DropsAt (s : Cluster) (p : Option ℕ) (place : ℕ) (u : Cluster) : Type 0 where
  pub number : ℕ
  pub given : number ≡ next_number s.table.next p
  pub entry : entry_at u.table.log place ≡ Some (DropRange p number)

-- it is where the reply is its place
pub dropped-at : (s u : Cluster) (p : Option ℕ) (place : ℕ) → Step s (ev.DropPartition p) (rp.Entry place) u → DropsAt s p place u
dropped-at s u p place k =
    let d = newest s u p place k in
    record {
      number = d.n;
      given = d.appends.at.does.number;
      entry = subst (λ (l : List Entry). entry_at l place ≡ Some (DropRange p d.n)) (sym (ap (λ (x : Cluster). x.table.log) k.stored ∙ newest-log s k.after p place d))
          (ap (λ (y : Bool). cond y (Some (DropRange p d.n)) (entry_at s.table.log place)) (same-place place (length s.table.log) (newest-place s k.after p place d)));
    }
  where
    same-place : (i j : ℕ) → i ≡ j → nat_eq i j ≡ true
    same-place i j e = grind (arith, nat_tests)

-- the blocks below the partition's next number are dropped, and the drop is known at the replica
pub drop-row : (s a b u : Cluster) (r : ℕ) (p : Option ℕ) (place : ℕ) (reply : Reply) (comes : Applied) → IsWhole s → Step s (ev.DropPartition p) (rp.Entry place) a → Step a (ev.Pull r) reply b → Step b (ev.Apply r place) (rp.Applied comes) u → (t : TableState) → Shows s t → Leads u (λ v. Drops t r p (next_number s.table.next p) v)
drop-row s a b u r p place reply comes w drop pull apply t h =
    let d = newest s a p place drop in
    let wa = whole-step s a (ev.DropPartition p) (rp.Entry place) w drop in
    let wb = whole-step a b (ev.Pull r) reply wa pull in
    let state = record t { log = DropRange p (next_number t.next p) ∷ t.log; next = with_next t.next p (next_number t.next p + 1); quorum = quorum_after_drop p (next_number t.next p) t.quorum } in
    let last = applied-shows b u r place comes wb apply state (quiet-shows a b (ev.Pull r) reply wa tt pull state (drop-shows s a p place w drop d t h)) in
    let at : place ≡ length t.log = newest-place s drop.after p place d ∙ ap (λ (l : List Entry). length l) (sym h.table.log) in
    record {
      state = with_drop t r p;
      holds = record {
        exists = exists-shown s t p h d.appends.at.does.exists;
        room = limit-shown s t p h ∙ d.appends.at.does.within;
        number = sym (next-shown s t p h);
        change = refl;
      };
      shows = subst (λ i. Shows u (record state { known = learned t.known r i })) at last;
    }

-- ---- the drop's entry is looked at

-- the replica of the number has the whole log
own-log : (s : Cluster) (r : ℕ) (x : Replica) → IsWhole s → HasWholeLog s r → IsNumbered s r x → x.log ≡ s.table.log
own-log s r x w l at = subst (λ (z : Replica). z.log ≡ s.table.log) (one-replica s l.replica x w l.at.is_in at.is_in (l.at.number ∙ sym at.number)) l.whole

-- the entry that waits at the place is the drop
own-entry : (s : Cluster) (r place : ℕ) (p : Option ℕ) (n : ℕ) (x : Replica) (e : Entry) → IsWhole s → HasWholeLog s r → entry_at s.table.log place ≡ Some (DropRange p n) → WaitsAt s r place x e → e ≡ DropRange p n
own-entry s r place p n x e w l q k = some-same e (DropRange p n) (sym k.at ∙ (ap (λ (y : List Entry). entry_at y place) (own-log s r x w l k.is.at) ∙ q))

-- nothing keeps a drop in the copy of a replica that is up from being done
refused-apply : (s : Cluster) (r place : ℕ) (p : Option ℕ) (n : ℕ) (why : StepRefused) → IsWhole s → ups s r ≡ true → HasWholeLog s r → entry_at s.table.log place ≡ Some (DropRange p n) → NoApply s r place why → ⊥
refused-apply s r place p n rf.Down w up l q c = not-down s r w up c
refused-apply s r place p n rf.NotLive w up l q c =
    let e = ap (λ (y : List Entry). length y) (own-log s r c.0 w l c.1.at) in
    let m = c.2 in
    let i = entry-below s.table.log place (DropRange p n) q in
    absurd (omega (arith, e, m, i))
refused-apply s r place p n (rf.NeedsPart name) w up l q c = subst (λ (y : Entry). LacksPart s r c.0 y name) (own-entry s r place p n c.0 c.1 w l q c.2) c.3
refused-apply s r place p n rf.FetchesStopped w up l q c = subst (λ (y : Entry). NeedsFetch s r c.0 y) (own-entry s r place p n c.0 c.1 w l q c.2) c.4
refused-apply s r place p n why w up l q c = c

-- the entry of a drop is looked at by a replica that is up and has the whole log
pub drop-applied : (s u : Cluster) (r place : ℕ) (p : Option ℕ) (n : ℕ) (reply : Reply) → IsWhole s → ups s r ≡ true → HasWholeLog s r → entry_at s.table.log place ≡ Some (DropRange p n) → Step s (ev.Apply r place) reply u → IsApplied reply
drop-applied s u r place p n reply w up l q st = go st.does
  where
    go : Does s (ev.Apply r place) reply st.after → IsApplied reply
    go (inl d) = subst (λ (y : Reply). IsApplied y) (sym d.answer) tt
    go (inr d) = absurd (refused-apply s r place p n d.why w up l q d.cause)
