-- What the merge of all live names of one partition comes to.
use Rattle.std.proofs.Common.{◌≡◌, ℕ, ◌≤◌, inl, inr, true, Bool, cond, List, [], ◌∷◌, length, refl, sym, ap, subst, arith, ◌∙◌, nat_eq, get_or}
use Rattle.std.proofs.lemmas.Bool.Decides.{nat_tests}
use Rattle.std.specs.declared.option.Option.{Option}
use Rattle.std.specs.declared.option.Option.TheVariants.{Some}
use Rattle.rmt_names.specs.Names.{Name, merged_name}
use Rattle.rmt_entries.specs.declared.entry.Entry.{Entry}
use Rattle.rmt_entries.specs.declared.entry.Entry.TheVariants.{Merge}
use Rattle.rmt_model.specs.Quorum.{quorum_after_note}
use Rattle.rmt_model.specs.Words.{Has}
use Rattle.rmt_model.specs.Lawful.{entry_at, IsMerge, Merges}
use Rattle.rmt_reply.specs.declared.refusal.Refusal.{Refusal}
use Rattle.rmt_reply.specs.declared.refusal.Refusal.TheVariants.{LimitReached, Unmergeable}
use Rattle.rmt_events.specs.Views.{Replica, Table}
use Rattle.rmt_events.specs.Clusters.{Cluster}
use Rattle.rmt_events.specs.ClusterChanges.{IsNumbered}
use Rattle.rmt_events.specs.Whole.{IsWhole}
use Rattle.rmt_events.specs.Steps.{Does, Step}
use Rattle.rmt_events.specs.declared.event.Event.TheVariants as ev
use Rattle.rmt_events.specs.declared.reply.Reply.{Reply}
use Rattle.rmt_events.specs.declared.reply.Reply.TheVariants as rp
use Rattle.rmt_events.specs.declared.step_refused.StepRefused.{StepRefused}
use Rattle.rmt_events.specs.declared.step_refused.StepRefused.TheVariants as rf
use Rattle.rmt_statement_model.specs.TableStates.{TableState, synced}
use Rattle.rmt_statement_model.specs.Optimizes.{live_of, Optimizes, CantOptimize}
use Rattle.rmt_statement_model.specs.Shows.{Shows, Leads, IsIdle, IsUpToDate, ups}
use Rattle.rmt_statement_model.proofs.UpLaws.{ups-step}
use Rattle.rmt_statement_model.proofs.LockSteps.{none-held}
use Rattle.rmt_statement_model.proofs.MergeReplies.{IsMergeReply, merge-reply}
use Rattle.rmt_statement_model.proofs.OptimizeRows.{merged-row, one-row, differ-row, in-quorum-row, no-entry-row}
use Rattle.rmt_acts.specs.Optimizing.{OptimizesOne, IsMergeAt, IsToldAs}
use Rattle.rmt_acts.specs.Syncing.{HasDoneGets}
use Rattle.rmt_acts.proofs.SyncActs.{gets-done, gets-done-still}

-- ---- the live names

-- a replica that is up to date has the whole log
pub whole-log : (s : Cluster) (r : ℕ) (log : List Entry) → IsUpToDate s r → ((x : Replica) → IsNumbered s r x → log ≡ x.log) → log ≡ s.table.log
whole-log s r log d f = f d.replica d.at ∙ d.whole

-- what is live of a partition at a replica that is up to date
pub names-told : (s : Cluster) (r : ℕ) (p : Option ℕ) (log : List Entry) (names : List Name) → names ≡ live_of log p → IsUpToDate s r → ((x : Replica) → IsNumbered s r x → log ≡ x.log) → names ≡ live_of s.table.log p
names-told s r p log names e d f = e ∙ ap (λ (l : List Entry). live_of l p) (whole-log s r log d f)

-- two names or more
pub record AreSeveral (names : List Name) : Type 0 where
  pub first : Name
  pub second : Name
  pub rest : List Name
  pub are : names ≡ first ∷ second ∷ rest

several : (names : List Name) (a : Name) → Has names a → (length names ≡ 1 → ⊥) → AreSeveral names
several [] a h l = absurd h
several (x ∷ []) a h l = absurd (l refl)
several (x ∷ y ∷ rest) a h l = record { first = x; second = y; rest = rest; are = refl }

-- one name alone
pub only-one : (names : List Name) (a : Name) → length names ≡ 1 → a ≡ get_or names 0 a → names ≡ a ∷ []
only-one [] a l e = absurd (omega (arith, l))
only-one (x ∷ []) a l e = ap (λ (y : Name). y ∷ []) (sym e)
only-one (x ∷ y ∷ names) a l e = absurd (omega (arith, l))

-- ---- one live name

-- it stays, and the replica is brought up to date
pub stays-alone : (s u : Cluster) (r : ℕ) (p : Option ℕ) (a : Name) → live_of s.table.log p ≡ a ∷ [] → ((t : TableState) → Shows s t → Shows u (synced r t)) → (t : TableState) → Shows s t → Leads u (OptimizesOne t r p a)
stays-alone s u r p a e f t h =
    let v = one-row s p a e t h in
    record { state = synced r v.state; holds = record { mid = v.state; optimizes = v.holds; syncs = refl }; shows = f v.state v.shows }

-- ---- the merge of all

-- a merge of all live names of a partition, where no insert is under way and its replica is up to date
pub record MergesAll (s : Cluster) (r : ℕ) (p : Option ℕ) (names : List Name) (reply : Reply) (u : Cluster) : Type 0 where
  pub whole : IsWhole s
  pub idle : IsIdle s r
  pub up_to_date : IsUpToDate s r
  pub live : names ≡ live_of s.table.log p
  pub are : AreSeveral names
  pub step : Step s (ev.Merge r names) reply u

-- names that aren't one alone, and are all live names of a partition that has one
pub merges-all : (s u : Cluster) (r : ℕ) (p : Option ℕ) (a : Name) (log : List Entry) (names : List Name) (reply : Reply) → IsWhole s → IsIdle s r → IsUpToDate s r → Has (live_of s.table.log p) a
    → names ≡ live_of log p → ((x : Replica) → IsNumbered s r x → log ≡ x.log) → (length names ≡ 1 → ⊥) → Step s (ev.Merge r names) reply u → MergesAll s r p names reply u
merges-all s u r p a log names reply w i d h e f n step =
    let live = names-told s r p log names e d f in
    record { whole = w; idle = i; up_to_date = d; live = live; are = several names a (subst (λ (ns : List Name). Has ns a) (sym live) h) n; step = step }

-- the same with the names told
module _ (s : Cluster) (r : ℕ) (p : Option ℕ) (names : List Name) (reply : Reply) (u : Cluster) (m : MergesAll s r p names reply u) where
  told-live : live_of s.table.log p ≡ m.are.first ∷ m.are.second ∷ m.are.rest
  told-live = sym m.live ∙ m.are.are

  told-step : Step s (ev.Merge r (m.are.first ∷ m.are.second ∷ m.are.rest)) reply u
  told-step = subst (λ (ns : List Name). Step s (ev.Merge r ns) reply u) m.are.are m.step

  -- it is merged, or refused for one of three causes
  pub answers : IsMergeReply reply
  answers = merge-reply s u r p m.are.first m.are.second m.are.rest reply m.whole m.idle m.up_to_date told-live told-step

  -- the same replicas are up
  pub merge-ups : ups u ≡ ups s
  merge-ups = ups-step s u (ev.Merge r names) reply m.whole tt m.step

  -- no insert gets under way
  pub merge-idle : IsIdle u r
  merge-idle = record { up = ap (λ (f : ℕ → Bool). f r) merge-ups ∙ m.idle.up; free = none-held s u (ev.Merge r names) reply tt m.step m.idle.free }

-- a reply that is neither doesn't come
pub no-other : (reply : Reply) → IsMergeReply reply → ((i : ℕ) → reply ≡ rp.Entry i → ⊥) → ((why : StepRefused) → reply ≡ rp.Refused why → ⊥) → ⊥
no-other (rp.Entry i) a f g = f i refl
no-other (rp.Refused why) a f g = g why refl
no-other reply a f g = absurd a

-- ---- it is refused

-- the cause is one that a statement's reply tells
pub cause-told : (why : StepRefused) → IsMergeReply (rp.Refused why) → (x : Refusal) × IsToldAs why x
cause-told (rf.Differ left right) a = (Unmergeable left right, inl refl)
cause-told (rf.InQuorum left right part) a = (Unmergeable left right, inr (part, refl))
cause-told (rf.LimitReached limit value) a = (LimitReached limit value, refl)
cause-told why a = absurd a

-- the names can't be merged for it
pub refused-merge : (s u : Cluster) (r : ℕ) (p : Option ℕ) (names : List Name) (why : StepRefused) (x : Refusal) → IsToldAs why x → MergesAll s r p names (rp.Refused why) u → (t : TableState) → Shows s t → Leads u (λ v. CantOptimize t p x × (v ≡ t))
refused-merge s u r p names why (Unmergeable left right) (inr e) m t h =
    in-quorum-row s u r p names left right e.0 m.whole (sym m.live) (subst (λ (y : StepRefused). Step s (ev.Merge r names) (rp.Refused y) u) e.1 m.step) t h
refused-merge s u r p names why (Unmergeable left right) (inl e) m t h =
    differ-row s u r p names left right m.whole (sym m.live) (subst (λ (y : StepRefused). Step s (ev.Merge r names) (rp.Refused y) u) e m.step) t h
refused-merge s u r p names why (LimitReached limit value) e m t h =
    no-entry-row s u r p names limit value m.whole (subst (λ (ns : List Name). 2 ≤ length ns) (sym m.are.are) (omega arith)) (sym m.live) (subst (λ (y : StepRefused). Step s (ev.Merge r names) (rp.Refused y) u) e m.step) t h
refused-merge s u r p names why x e m t h = absurd e

-- a cluster of the same table and replicas is as much up to date
up-to-date-same : (s u : Cluster) (r : ℕ) → u.table ≡ s.table → u.replicas ≡ s.replicas → IsUpToDate s r → IsUpToDate u r
up-to-date-same s u r e f d = record {
  replica = d.replica;
  at = record { is_in = subst (λ (xs : List Replica). Has xs d.replica) (sym f) d.at.is_in; number = d.at.number };
  whole = d.whole ∙ ap (λ (x : Table). x.log) (sym e);
  drained = d.drained;
  allowed = d.allowed;
  noted = subst (λ (x : Table). quorum_after_note r x.quorum ≡ x.quorum) (sym e) d.noted;
}

-- so is one whose merge was refused
pub refused-whole : (s u : Cluster) (r : ℕ) (p : Option ℕ) (names : List Name) (why : StepRefused) → MergesAll s r p names (rp.Refused why) u → IsUpToDate u r
refused-whole s u r p names why m = go m.step.does
  where
    go : Does s (ev.Merge r names) (rp.Refused why) m.step.after → IsUpToDate u r
    go (inl a) = let e = a.appends.answer in absurd (cc)
    go (inr a) =
        up-to-date-same s u r (ap (λ (x : Cluster). x.table) m.step.stored ∙ ap (λ (x : Cluster). x.table) a.unchanged)
        (ap (λ (x : Cluster). x.replicas) m.step.stored ∙ ap (λ (x : Cluster). x.replicas) a.unchanged) m.up_to_date

-- ---- it enters the log

-- the newest entry of the log
newest : (e : Entry) (log : List Entry) → entry_at (e ∷ log) (length log) ≡ Some e
newest e log = let q : nat_eq (length log) (length log) ≡ true = grind (arith, nat_tests) in ap (λ (b : Bool). cond b (Some e) (entry_at log (length log))) q

-- the merge is at the place, under the name that the names give together
pub record IsPlaced (u : Cluster) (place : ℕ) (names : List Name) (name : Name) : Type 0 where
  pub count : ℕ
  pub at : entry_at u.table.log place ≡ Some (Merge name names count)

pub placed : (s u : Cluster) (r : ℕ) (p : Option ℕ) (names : List Name) (place : ℕ) → (m : MergesAll s r p names (rp.Entry place) u) → IsPlaced u place names (merged_name m.are.first (m.are.second ∷ m.are.rest))
placed s u r p names place m = go m.step.does
  where
    go : Does s (ev.Merge r names) (rp.Entry place) m.step.after → IsPlaced u place names (merged_name m.are.first (m.are.second ∷ m.are.rest))
    go (inr a) = let e = a.answer in absurd (cc)
    go (inl a) = record { count = a.count; at = at }
      where
        log : u.table.log ≡ Merge a.name names a.count ∷ s.table.log
        log =
            ap (λ (x : Cluster). x.table.log) m.step.stored
            ∙ (ap (λ (x : Cluster). x.table.log) a.appends.at.change ∙ ap (λ (x : Table). x.log) a.appends.at.does.change)

        name : a.name ≡ merged_name m.are.first (m.are.second ∷ m.are.rest)
        name = Merges.name (subst (λ (ns : List Name). IsMerge s.table.log a.name ns a.count) m.are.are a.appends.at.does.meets)

        is-place : place ≡ length s.table.log
        is-place = let e = a.appends.answer in cc

        at : entry_at u.table.log place ≡ Some (Merge (merged_name m.are.first (m.are.second ∷ m.are.rest)) names a.count)
        at =
            ap (λ (l : List Entry). entry_at l place) log
            ∙ (ap (entry_at (Merge a.name names a.count ∷ s.table.log)) is-place
            ∙ (newest (Merge a.name names a.count) s.table.log ∙ ap (λ (x : Name). Some (Merge x names a.count)) name))

-- the replica has done each Get still
pub merge-gets : (s u : Cluster) (r : ℕ) (p : Option ℕ) (names : List Name) (place : ℕ) → MergesAll s r p names (rp.Entry place) u → HasDoneGets u r
merge-gets s u r p names place m = go m.step.does
  where
    go : Does s (ev.Merge r names) (rp.Entry place) m.step.after → HasDoneGets u r
    go (inr a) = let e = a.answer in absurd (cc)
    go (inl a) = gets-done-still s u r (Merge a.name names a.count) tt
        (ap (λ (x : Cluster). x.replicas) m.step.stored ∙ ap (λ (x : Cluster). x.replicas) a.appends.at.change)
        (ap (λ (x : Cluster). x.table.log) m.step.stored ∙ (ap (λ (x : Cluster). x.table.log) a.appends.at.change ∙ ap (λ (x : Table). x.log) a.appends.at.does.change))
        (gets-done s r m.whole m.up_to_date)

-- the replica's copy has it there
pub has-merge : (s m : Cluster) (r : ℕ) (p : Option ℕ) (names : List Name) (place : ℕ) (log : List Entry) → MergesAll s r p names (rp.Entry place) m → log ≡ m.table.log → IsMergeAt log place
has-merge s m r p names place log y e = let k = placed s m r p names place y in (_, names, k.count, ap (λ (l : List Entry). entry_at l place) e ∙ k.at)

-- all are one, and the replica is brought up to date
pub becomes-one : (s m u : Cluster) (r : ℕ) (p : Option ℕ) (names : List Name) (place : ℕ) (log : List Entry) (name : Name) → MergesAll s r p names (rp.Entry place) m → log ≡ m.table.log
    → ((a : Name) (sources : List Name) (count : ℕ) → entry_at log place ≡ Some (Merge a sources count) → name ≡ a) → ((t : TableState) → Shows m t → Shows u (synced r t))
    → (t : TableState) → Shows s t → Leads u (OptimizesOne t r p name)
becomes-one s m u r p names place log name y e f g t h =
    let k = placed s m r p names place y in
    let is : name ≡ merged_name y.are.first (y.are.second ∷ y.are.rest) = f _ names k.count (ap (λ (l : List Entry). entry_at l place) e ∙ k.at) in
    let v = merged-row s m r p y.are.first y.are.second y.are.rest place y.whole (told-live s r p names (rp.Entry place) m y) (told-step s r p names (rp.Entry place) m y) t h in
    record {
      state = synced r v.state;
      holds = record { mid = v.state; optimizes = subst (λ (x : Name). Optimizes t p x v.state) (sym is) v.holds; syncs = refl };
      shows = g v.state v.shows;
    }
