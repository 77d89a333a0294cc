-- Which locks there are: none where no attempt begins, that of an attempt until its commit, and none after it.
use Rattle.std.proofs.Common.{◌≡◌, ℕ, inl, inr, ◌&&◌, Bool, false, not, cond, List, [], ◌∷◌, ap, subst, arith, ◌∙◌, nat_eq, filter}
use Rattle.std.proofs.lemmas.Bool.Decides.{nat_tests}
use Rattle.std.specs.declared.option.Option.{Option}
use Rattle.std.specs.Arc.{arc_value}
use Rattle.rmt_names.specs.Names.{rank}
use Rattle.rmt_events.specs.Views.{Block, Lock, Table}
use Rattle.rmt_events.specs.TableCalls.{holds_number, locks_without, with_lock}
use Rattle.rmt_events.specs.Clusters.{without_kinds, Attempt, Cluster}
use Rattle.rmt_events.specs.Whole.{IsWhole}
use Rattle.rmt_events.specs.InsertEvents.{EndsAttempt, NoCommit}
use Rattle.rmt_events.specs.Steps.{Does, Step}
use Rattle.rmt_statement_model.specs.Shows.{HoldsNone}
use Rattle.rmt_statement_model.specs.Inserts.{Asked}
use Rattle.rmt_statement_model.specs.Attempts.{IsCommitReply, attempt_of}
use Rattle.rmt_statement_model.proofs.AttemptBegins.{Offered}
use Rattle.rmt_statement_model.proofs.AttemptStages.{IsReady, one-attempt}
use Rattle.rmt_events.specs.declared.event.Event.{Event}
use Rattle.rmt_events.specs.declared.event.Event.TheVariants as ev
use Rattle.rmt_events.specs.declared.reply.Reply.{Reply}
use Rattle.rmt_events.specs.declared.reply.Reply.TheVariants as rp
use Rattle.rmt_events.specs.declared.step_refused.StepRefused.{StepRefused}
use Rattle.rmt_events.specs.declared.step_refused.StepRefused.TheVariants as rf

-- the event takes no number for a block
abbrev pub TakesNoLock : Event → Type 0
TakesNoLock (ev.Allocate k b need) = ⊥
TakesNoLock (ev.Again id) = ⊥
TakesNoLock e = Unit {0}

-- ---- no lock is held

-- the locks are those that pass a test
none-left : (s : Cluster) (u : Table) (test : Lock → Bool) → u.locks ≡ filter test s.table.locks → HoldsNone s → u.locks ≡ []
none-left s u test e h = e ∙ ap (λ (xs : List Lock). filter test xs) h

-- an attempt ends
none-ends : (s u : Cluster) (id : ℕ) → EndsAttempt s id u → HoldsNone s → HoldsNone u
none-ends s u id e h = ap (λ (x : Cluster). x.table.locks) e.change ∙ none-left s e.table (λ k. not (holds_number e.attempt.block.partition e.attempt.number k)) (ap (λ (x : Table). x.locks) e.unlocks) h

-- what the event does, before it is stored
none-does : (s u : Cluster) (e : Event) (r : Reply) → TakesNoLock e → Does s e r u → HoldsNone s → HoldsNone u
none-does s u (ev.Allocate k b need) r q d h = absurd q
none-does s u (ev.Again id) r q d h = absurd q
none-does s u (ev.Stage id) r q (inl d) h = ap (λ (x : Cluster). x.table.locks) d.at.change ∙ h
none-does s u (ev.Stage id) r q (inr d) h = ap (λ (x : Cluster). x.table.locks) d.unchanged ∙ h
none-does s u (ev.Commit id) r q (inl d) h =
    ap (λ (x : Cluster). x.table.locks) d.change ∙ none-left s d.table (λ k. not (holds_number d.attempt.block.partition d.attempt.number k)) (ap (λ (x : Table). x.locks) d.call.change) h
none-does s u (ev.Commit id) r q (inr (inl d)) h = none-ends s u id d.ends h
none-does s u (ev.Commit id) r q (inr (inr d)) h = ap (λ (x : Cluster). x.table.locks) d.unchanged ∙ h
none-does s u (ev.Abandon id) r q (inl d) h = none-ends s u id d.0 h
none-does s u (ev.Abandon id) r q (inr d) h = ap (λ (x : Cluster). x.table.locks) d.unchanged ∙ h
none-does s u (ev.Pull k) r q (inl d) h = ap (λ (x : Cluster). x.table.locks) d.at.change ∙ h
none-does s u (ev.Pull k) r q (inr d) h = ap (λ (x : Cluster). x.table.locks) d.unchanged ∙ h
none-does s u (ev.Apply k i) r q (inl d) h = ap (λ (x : Cluster). x.table.locks) d.at.change ∙ h
none-does s u (ev.Apply k i) r q (inr d) h = ap (λ (x : Cluster). x.table.locks) d.unchanged ∙ h
none-does s u (ev.Merge k sources) r q (inl d) h = ap (λ (x : Cluster). x.table.locks) d.appends.at.change ∙ (ap (λ (x : Table). x.locks) d.appends.at.does.change ∙ h)
none-does s u (ev.Merge k sources) r q (inr d) h = ap (λ (x : Cluster). x.table.locks) d.unchanged ∙ h
none-does s u (ev.Mutate k part upto) r q (inl d) h = ap (λ (x : Cluster). x.table.locks) d.appends.at.change ∙ (ap (λ (x : Table). x.locks) d.appends.at.does.change ∙ h)
none-does s u (ev.Mutate k part upto) r q (inr d) h = ap (λ (x : Cluster). x.table.locks) d.unchanged ∙ h
none-does s u (ev.CreateMutation command) r q (inl d) h = ap (λ (x : Cluster). x.table.locks) d.at.change ∙ (ap (λ (x : Table). x.locks) d.at.does.change ∙ h)
none-does s u (ev.CreateMutation command) r q (inr d) h = ap (λ (x : Cluster). x.table.locks) d.unchanged ∙ h
none-does s u (ev.DropPartition p) r q (inl d) h = ap (λ (x : Cluster). x.table.locks) d.1.at.change ∙ none-left s d.1.at.new _ (ap (λ (x : Table). x.locks) d.1.at.does.change) h
none-does s u (ev.DropPartition p) r q (inr (inl d)) h = ap (λ (x : Cluster). x.table.locks) d.unchanged ∙ h
none-does s u (ev.DropPartition p) r q (inr (inr d)) h = ap (λ (x : Cluster). x.table.locks) d.unchanged ∙ h
none-does s u (ev.Kill k) r q d h = ap (λ (x : Cluster). x.table.locks) d.change ∙ none-left s d.table _ (ap (λ (x : Table). x.locks) d.closes) h
none-does s u (ev.Restart k) r q d h = ap (λ (x : Cluster). x.table.locks) d.change ∙ (ap (λ (x : Table). x.locks) d.opens ∙ none-left s d.closed _ (ap (λ (x : Table). x.locks) d.closes) h)
none-does s u (ev.Note k) r q (inl d) h = ap (λ (x : Cluster). x.table.locks) d.change ∙ (ap (λ (x : Table). x.locks) d.call ∙ h)
none-does s u (ev.Note k) r q (inr (inl d)) h = ap (λ (x : Cluster). x.table.locks) d.unchanged ∙ h
none-does s u (ev.Note k) r q (inr (inr d)) h = ap (λ (x : Cluster). x.table.locks) d.unchanged ∙ h
none-does s u (ev.Fetches k allowed) r q d h = ap (λ (x : Cluster). x.table.locks) d.change ∙ h

-- where no lock is held, none is held after an event that takes none
pub none-held : (s u : Cluster) (e : Event) (r : Reply) → TakesNoLock e → Step s e r u → HoldsNone s → HoldsNone u
none-held s u e r q k h = ap (λ (x : Cluster). x.table.locks) k.stored ∙ none-does s k.after e r q k.does h

-- ---- the lock of an attempt

-- an attempt that begins has the one lock
pub begun-lock : (s u : Cluster) (r need : ℕ) (raw : Offered) (id n : ℕ) → HoldsNone s → Step s (ev.Allocate r raw need) (rp.Attempt id n) u → u.table.locks ≡ record { partition = (without_kinds (arc_value raw)).partition; number = n; owner = r } ∷ []
begun-lock s u r need raw id n h k = go k.does
  where
    go : Does s (ev.Allocate r raw need) (rp.Attempt id n) k.after → u.table.locks ≡ record { partition = (without_kinds (arc_value raw)).partition; number = n; owner = r } ∷ []
    go (inl d) =
        let m : d.number ≡ n = let q = d.answer in cc in
        ap (λ (x : Cluster). x.table.locks) k.stored
        ∙ (ap (λ (x : Cluster). x.table.locks) d.change
        ∙ (ap (λ (x : Table). x.locks) d.call.change
        ∙ (ap (λ (xs : List Lock). with_lock (record { partition = (without_kinds (arc_value raw)).partition; number = d.number; owner = r }) xs) h
        ∙ ap (λ i. record { partition = (without_kinds (arc_value raw)).partition; number = i; owner = r } ∷ []) m)))
    go (inr d) = let e = d.answer in absurd (cc)

-- a block that gets no number takes none
pub refused-lock : (s u : Cluster) (r need : ℕ) (raw : Offered) (why : StepRefused) → HoldsNone s → Step s (ev.Allocate r raw need) (rp.Refused why) u → HoldsNone u
refused-lock s u r need raw why h k = go k.does
  where
    go : Does s (ev.Allocate r raw need) (rp.Refused why) k.after → HoldsNone u
    go (inl d) = let e = d.answer in absurd (cc)
    go (inr d) = ap (λ (x : Cluster). x.table.locks) k.stored ∙ (ap (λ (x : Cluster). x.table.locks) d.unchanged ∙ h)

-- the locks stay while a block is staged
pub staged-lock : (s u : Cluster) (id : ℕ) (reply : Reply) → Step s (ev.Stage id) reply u → u.table.locks ≡ s.table.locks
staged-lock s u id reply k = ap (λ (x : Cluster). x.table.locks) k.stored ∙ go k.does
  where
    go : Does s (ev.Stage id) reply k.after → k.after.table.locks ≡ s.table.locks
    go (inl d) = ap (λ (x : Cluster). x.table.locks) d.at.change
    go (inr d) = ap (λ (x : Cluster). x.table.locks) d.unchanged

-- none is left without the one lock
lock-gone : (p : Option ℕ) (n o : ℕ) → locks_without (record { partition = p; number = n; owner = o } ∷ []) p n ≡ []
lock-gone p n o = ap (λ (c : Bool). cond c (record { partition = p; number = n; owner = o } ∷ []) []) (same (rank p) n)
  where
    same : (i j : ℕ) → not (nat_eq i i && nat_eq j j) ≡ false
    same i j = grind (arith, nat_tests)

-- a commit that leaves all as it was answers none of these
no-commit : (s : Cluster) (id : ℕ) (why : StepRefused) → NoCommit s id why → IsCommitReply (rp.Refused why) → ⊥
no-commit s id (rf.LimitReached limit value) c a = c
no-commit s id why c a = a

-- the lock of an attempt goes with its commit
pub committed-lock : (s u : Cluster) (id : ℕ) (a : Asked) (b : Block) (n o : ℕ) (reply : Reply) → IsWhole s → IsReady s id a b n → s.table.locks ≡ record { partition = b.partition; number = n; owner = o } ∷ [] → Step s (ev.Commit id) reply u → IsCommitReply reply → HoldsNone u
committed-lock s u id a b n o reply w ready h k c = ap (λ (x : Cluster). x.table.locks) k.stored ∙ go k.does
  where
    -- the locks without that of the attempt are none
    gone : (z : Attempt) → z ≡ attempt_of id a b n → locks_without s.table.locks z.block.partition z.number ≡ []
    gone z q =
        ap (λ (x : Attempt). locks_without s.table.locks x.block.partition x.number) q
        ∙ (ap (λ (xs : List Lock). locks_without xs b.partition n) h ∙ lock-gone b.partition n o)

    go : Does s (ev.Commit id) reply k.after → k.after.table.locks ≡ []
    go (inl d) =
        ap (λ (x : Cluster). x.table.locks) d.change
        ∙ (ap (λ (x : Table). x.locks) d.call.change ∙ gone d.attempt (one-attempt s d.attempt (attempt_of id a b n) w d.is.is_in ready.is_open.there d.is.id_is))
    go (inr (inl d)) =
        let e = d.ends in
        ap (λ (x : Cluster). x.table.locks) e.change
        ∙ (ap (λ (x : Table). x.locks) e.unlocks ∙ gone e.attempt (one-attempt s e.attempt (attempt_of id a b n) w e.is.is_in ready.is_open.there e.is.id_is))
    go (inr (inr d)) = absurd (no-commit s id d.why d.cause (subst (λ (y : Reply). IsCommitReply y) d.answer c))
