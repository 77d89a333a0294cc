-- The events that insert one block, one after the other.
use Rattle.std.proofs.Common.{◌≡◌, ℕ, Bool, ◌∙◌, true, false, cond, [], arith, nat_le, refl, ap, subst, sym}
use Rattle.std.proofs.lemmas.Bool.Decides.{nat_tests}
use Rattle.std.specs.declared.option.Option.TheVariants.{Some}
use Rattle.rmt_names.specs.Names.{block_name}
use Rattle.rmt_model.specs.Quorum.{Pending, Quorum, quorum_after_block}
use Rattle.rmt_statement_model.specs.Inserts.{Asked}
use Rattle.std.specs.declared.sync.Arc.{Arc}
use Rattle.std.specs.declared.alloc.Global.{Global}
use Rattle.std.specs.Arc.{arc_value}
use Rattle.rmt_values.specs.declared.limit.Limit.{Limit}
use Rattle.rmt_names.specs.Names.{Name}
use Rattle.rmt_block.specs.declared.block.Block.{Block as Raw}
use Rattle.rmt_events.specs.Views.{Block}
use Rattle.rmt_events.specs.Clusters.{Attempt, Cluster, without_kinds}
use Rattle.rmt_events.specs.Whole.{HasReplica, IsWhole}
use Rattle.rmt_events.specs.Steps.{Step}
use Rattle.rmt_events.specs.declared.applied.Applied.{Applied}
use Rattle.rmt_events.specs.declared.event.Event.TheVariants as ev
use Rattle.rmt_events.specs.declared.reply.Reply.{Reply}
use Rattle.rmt_events.specs.declared.reply.Reply.TheVariants as rp
use Rattle.rmt_events.specs.declared.step_refused.StepRefused.TheVariants as rf
use Rattle.rmt_events.proofs.WholeSteps.{whole-step}
use Rattle.rmt_statement_model.specs.TableStates.{TableState, learned}
use Rattle.rmt_statement_model.specs.Shows.{HoldsNone, IsIdle, Shows, ups}
use Rattle.rmt_statement_model.specs.Attempts.{attempt_of, IsOpen, IsAllocateReply, IsCommitReply}
use Rattle.rmt_statement_model.proofs.UpLaws.{ups-step, up-step}
use Rattle.rmt_statement_model.proofs.LockSteps.{none-held, begun-lock, refused-lock, staged-lock, committed-lock}
use Rattle.rmt_statement_model.proofs.AttemptBegins.{allocate-reply, begun, declined, duplicate, no-number}
use Rattle.rmt_statement_model.proofs.InsertRows.{AreCounted, quorum-none, quorum-few, quorum-waits}
use Rattle.rmt_statement_model.proofs.AttemptStages.{staged, one-attempt}
use Rattle.rmt_statement_model.proofs.AttemptCommits.{commit-reply, committed, no-room}
use Rattle.rmt_statement_model.proofs.AttemptSteps.{IsApplied, quiet-shows, pulled, pulled-accepted, apply-reply, applied-shows}
use Rattle.rmt_acts.specs.Inserting.{IsBegun, Begins, HasAttempt, IsUpWith, WaitsAlone, IsCommitted, Commits, HasGet}
use Rattle.rmt_acts.specs.declared.begun.Begun.{Begun}
use Rattle.rmt_acts.specs.declared.begun.Begun.TheVariants as begins
use Rattle.rmt_acts.specs.declared.committed.Committed.{Committed}
use Rattle.rmt_acts.specs.declared.committed.Committed.TheVariants as commits

-- a block as an event has it
abbrev pub Offered : Type 0
Offered = Arc Raw Global

-- ---- Allocate

pub begins-attempt : (s u : Cluster) (a : Asked) (raw : Offered) (b : Block) (id n : ℕ) → without_kinds (arc_value raw) ≡ b → IsWhole s → AreCounted s → HoldsNone s → Step s (ev.Allocate a.writer raw a.need) (rp.Attempt id n) u → Begins s a b (begins.Attempt id n) u
begins-attempt s u a raw b id n e w c f k =
    let x = begun s u a raw id n w k in
    subst (λ (z : Block). Begins s a z (begins.Attempt id n) u) e
    (x.0, begun-lock s u a.writer a.need raw id n f k, λ t h. let g = x.2 t h in record { is_new = record { quorum = quorum-none s t a.need c h x.1; unkept = g.unkept }; room = g.number; given = g.given; shows = g.shows })

pub begins-few : (s u : Cluster) (a : Asked) (raw : Offered) (b : Block) (live need : ℕ) → without_kinds (arc_value raw) ≡ b → IsWhole s → AreCounted s → HoldsNone s → Step s (ev.Allocate a.writer raw a.need) (rp.Refused (rf.TooFewLive live need)) u → Begins s a b (begins.TooFewLive live need) u
begins-few s u a raw b live need e w c f k =
    let d = declined s u a raw (rf.TooFewLive live need) w k in
    (refused-lock s u a.writer a.need raw (rf.TooFewLive live need) f k, λ t h. (quorum-few s t a.need live need c d.cause.1, d.shows t h))

pub begins-waits : (s u : Cluster) (a : Asked) (raw : Offered) (b : Block) (part : Name) → without_kinds (arc_value raw) ≡ b → IsWhole s → AreCounted s → HoldsNone s → Step s (ev.Allocate a.writer raw a.need) (rp.Refused (rf.QuorumPending part)) u → Begins s a b (begins.QuorumPending part) u
begins-waits s u a raw b part e w c f k =
    let d = declined s u a raw (rf.QuorumPending part) w k in
    (refused-lock s u a.writer a.need raw (rf.QuorumPending part) f k, λ t h. (quorum-waits s t a.need part c h d.cause.1, d.shows t h))

pub begins-duplicate : (s u : Cluster) (a : Asked) (raw : Offered) (b : Block) (part : Name) → without_kinds (arc_value raw) ≡ b → IsWhole s → AreCounted s → HoldsNone s → Step s (ev.Allocate a.writer raw a.need) (rp.Refused (rf.Duplicate part)) u → Begins s a b (begins.Duplicate part) u
begins-duplicate s u a raw b part e w c f k =
    let d = duplicate s u a raw part w k in
    subst (λ (z : Block). Begins s a z (begins.Duplicate part) u) e (refused-lock s u a.writer a.need raw (rf.Duplicate part) f k, λ t h. let g = d.1 t h in (quorum-none s t a.need c h d.0, g.0, g.1))

pub begins-full : (s u : Cluster) (a : Asked) (raw : Offered) (b : Block) (limit : Limit) (value : ℕ) → without_kinds (arc_value raw) ≡ b → IsWhole s → AreCounted s → HoldsNone s → Step s (ev.Allocate a.writer raw a.need) (rp.Refused (rf.LimitReached limit value)) u → Begins s a b (begins.Full limit value) u
begins-full s u a raw b limit value e w c f k =
    let d = no-number s u a raw limit value w k in
    subst (λ (z : Block). Begins s a z (begins.Full limit value) u) e
    (refused-lock s u a.writer a.need raw (rf.LimitReached limit value) f k, λ t h. let g = d.1 t h in (record { quorum = quorum-none s t a.need c h d.0; unkept = g.0 }, g.1, g.2))

-- how an insert begins, whatever its reply was
pub begins-by : (s u : Cluster) (a : Asked) (raw : Offered) (b : Block) (reply : Reply) (x : Begun) → without_kinds (arc_value raw) ≡ b → IsWhole s → AreCounted s → HoldsNone s → Step s (ev.Allocate a.writer raw a.need) reply u → IsBegun reply x → Begins s a b x u
begins-by s u a raw b reply (begins.Attempt id n) e w c f k i = begins-attempt s u a raw b id n e w c f (subst (λ (y : Reply). Step s (ev.Allocate a.writer raw a.need) y u) i k)
begins-by s u a raw b reply (begins.TooFewLive live need) e w c f k i = begins-few s u a raw b live need e w c f (subst (λ (y : Reply). Step s (ev.Allocate a.writer raw a.need) y u) i k)
begins-by s u a raw b reply (begins.QuorumPending part) e w c f k i = begins-waits s u a raw b part e w c f (subst (λ (y : Reply). Step s (ev.Allocate a.writer raw a.need) y u) i k)
begins-by s u a raw b reply (begins.Duplicate part) e w c f k i = begins-duplicate s u a raw b part e w c f (subst (λ (y : Reply). Step s (ev.Allocate a.writer raw a.need) y u) i k)
begins-by s u a raw b reply (begins.Full limit value) e w c f k i = begins-full s u a raw b limit value e w c f (subst (λ (y : Reply). Step s (ev.Allocate a.writer raw a.need) y u) i k)

pub allocate-answers : (s u : Cluster) (r need : ℕ) (raw : Offered) (reply : Reply) → IsWhole s → ups s r ≡ true → HasReplica s.replicas r → Step s (ev.Allocate r raw need) reply u → IsAllocateReply reply
allocate-answers s u r need raw reply w up h k = allocate-reply s u r need raw reply h.replica w up (record { is_in = h.is_in; number = h.numbered }) k

-- ---- Stage and Commit

-- after a commit a part that waits is that of the block, where it asks for a quorum
waits-alone : (u : Cluster) (a : Asked) (b : Block) (n : ℕ) (old : Quorum) → u.table.quorum ≡ quorum_after_block (block_name b.partition n) a.need old → WaitsAlone u a b n
waits-alone u a b n old e asked q p = go (nat_le 2 a.need) (let l : nat_le 2 a.need ≡ true = grind (arith, nat_tests) in l) (sym (ap (λ (x : Quorum). x.pending) e) ∙ p)
  where
    go : (c : Bool) → c ≡ true → cond c (Some (record { part = block_name b.partition n; need = a.need; noted = [] })) old.pending ≡ Some q → q.part ≡ block_name b.partition n
    go true r h = let g : q ≡ record { part = block_name b.partition n; need = a.need; noted = [] } = cc in ap (λ (y : Pending). y.part) g
    go false r h = absurd (cc)

pub commits-entry : (s m u : Cluster) (id place : ℕ) (reply : Reply) → IsWhole s → IsUpWith s id → Step s (ev.Stage id) reply m → Step m (ev.Commit id) (rp.Entry place) u → Commits s id (commits.Entry place) u
commits-entry s m u id place reply w up k l = λ a b n o.
    let st = staged s m id a b n reply w (up a b n o) o k in
    let c = committed m u id a b n place (whole-step s m (ev.Stage id) reply w k) st.1 l in
    (c.0, waits-alone u a b n m.table.quorum c.1, λ t h. let g = c.2 t (st.2 t h) in record { room = g.room; placed = g.placed; shows = g.shows })

pub commits-full : (s m u : Cluster) (id : ℕ) (reply : Reply) (limit : Limit) (value : ℕ) → IsWhole s → IsUpWith s id → Step s (ev.Stage id) reply m → Step m (ev.Commit id) (rp.Refused (rf.LimitReached limit value)) u → Commits s id (commits.Full limit value) u
commits-full s m u id reply limit value w up k l = λ a b n o t h.
    let st = staged s m id a b n reply w (up a b n o) o k in
    no-room m u id a b n limit value (whole-step s m (ev.Stage id) reply w k) st.1 l t (st.2 t h)

-- what a commit comes to, whatever its reply was
pub commits-by : (s m u : Cluster) (id : ℕ) (reply answer : Reply) (x : Committed) → IsWhole s → IsUpWith s id → Step s (ev.Stage id) reply m → Step m (ev.Commit id) answer u → IsCommitted answer x → Commits s id x u
commits-by s m u id reply answer (commits.Entry place) w up k l i = commits-entry s m u id place reply w up k (subst (λ (y : Reply). Step m (ev.Commit id) y u) i l)
commits-by s m u id reply answer (commits.Full limit value) w up k l i = commits-full s m u id reply limit value w up k (subst (λ (y : Reply). Step m (ev.Commit id) y u) i l)

pub commit-answers : (s m u : Cluster) (id : ℕ) (reply answer : Reply) → IsWhole s → IsUpWith s id → HasAttempt s id → Step s (ev.Stage id) reply m → Step m (ev.Commit id) answer u → IsCommitReply answer
commit-answers s m u id reply answer w up a k l =
    let st = staged s m id a.asked a.block a.number reply w (up a.asked a.block a.number a.is_open) a.is_open k in
    commit-reply m u id a.asked a.block a.number answer (whole-step s m (ev.Stage id) reply w k) st.1 l

-- no number is held then
pub commit-free : (s m u : Cluster) (id : ℕ) (reply answer : Reply) → IsWhole s → IsUpWith s id → HasAttempt s id → Step s (ev.Stage id) reply m → Step m (ev.Commit id) answer u → HoldsNone u
commit-free s m u id reply answer w up a k l =
    let st = staged s m id a.asked a.block a.number reply w (up a.asked a.block a.number a.is_open) a.is_open k in
    committed-lock m u id a.asked a.block a.number a.asked.writer answer (whole-step s m (ev.Stage id) reply w k) st.1 (staged-lock s m id reply k ∙ a.only) l
    (commit-answers s m u id reply answer w up a k l)

-- the same replicas are up
pub commit-ups : (s m u : Cluster) (id : ℕ) (reply answer : Reply) → IsWhole s → Step s (ev.Stage id) reply m → Step m (ev.Commit id) answer u → ups u ≡ ups s
commit-ups s m u id reply answer w k l = ups-step m u (ev.Commit id) answer (whole-step s m (ev.Stage id) reply w k) tt l ∙ ups-step s m (ev.Stage id) reply w tt k

-- an open attempt of an id is the only one
pub up-with : (s : Cluster) (id : ℕ) (a : Asked) (b : Block) (n : ℕ) → IsWhole s → IsOpen s id a b n → ups s a.writer ≡ true → IsUpWith s id
up-with s id a b n w o up = λ q c m p.
    let e = one-attempt s (attempt_of id q c m) (attempt_of id a b n) w p.there o.there refl in
    subst (λ j. ups s j ≡ true) (sym (ap (λ (x : Attempt). x.replica) e)) up

-- ---- Pull and Apply

pub gets : (s m u : Cluster) (r place : ℕ) (reply : Reply) (comes : Applied) → IsWhole s → Step s (ev.Pull r) reply m → Step m (ev.Apply r place) (rp.Applied comes) u → (t : TableState) → Shows s t → Shows u (record t { known = learned t.known r place })
gets s m u r place reply comes w k l t h = applied-shows m u r place comes (whole-step s m (ev.Pull r) reply w k) l t (quiet-shows s m (ev.Pull r) reply w tt k t h)

-- the Get is done, whatever it came to
pub gets-by : (s m u : Cluster) (r place : ℕ) (reply answer : Reply) → IsApplied answer → IsWhole s → Step s (ev.Pull r) reply m → Step m (ev.Apply r place) answer u → (t : TableState) → Shows s t → Shows u (record t { known = learned t.known r place })
gets-by s m u r place reply (rp.Applied comes) x w k l t h = gets s m u r place reply comes w k l t h
gets-by s m u r place reply (rp.Attempt _ _) x w k l t h = elim x [ ]
gets-by s m u r place reply (rp.Entry _) x w k l t h = elim x [ ]
gets-by s m u r place reply (rp.Pulled _) x w k l t h = elim x [ ]
gets-by s m u r place reply (rp.Noted _) x w k l t h = elim x [ ]
gets-by s m u r place reply rp.Done x w k l t h = elim x [ ]
gets-by s m u r place reply (rp.Refused _) x w k l t h = elim x [ ]

pub get-answers : (s m u : Cluster) (a : Asked) (place : ℕ) (reply answer : Reply) → IsWhole s → ups s a.writer ≡ true → HasGet s place a → Step s (ev.Pull a.writer) reply m → Step m (ev.Apply a.writer place) answer u → IsApplied answer
get-answers s m u a place reply answer w up g k l =
    let at = g.is.staged.at in
    let p = pulled s m a.writer g.is.staged.replica reply w up at k in
    apply-reply m u place a g.block g.number answer (whole-step s m (ev.Pull a.writer) reply w k) (up-step s m (ev.Pull a.writer) reply a.writer w tt k up)
    (pulled-accepted s m a.writer place a g.block g.number reply w g.is k) p.1 l

pub get-ups : (s m u : Cluster) (r place : ℕ) (reply answer : Reply) → IsWhole s → Step s (ev.Pull r) reply m → Step m (ev.Apply r place) answer u → ups u ≡ ups s
get-ups s m u r place reply answer w k l = ups-step m u (ev.Apply r place) answer (whole-step s m (ev.Pull r) reply w k) tt l ∙ ups-step s m (ev.Pull r) reply w tt k

pub get-idle : (s m u : Cluster) (r place : ℕ) (reply answer : Reply) → IsWhole s → IsIdle s r → Step s (ev.Pull r) reply m → Step m (ev.Apply r place) answer u → IsIdle u r
get-idle s m u r place reply answer w i k l = record {
  up = ap (λ (f : ℕ → Bool). f r) (get-ups s m u r place reply answer w k l) ∙ i.up;
  free = none-held m u (ev.Apply r place) answer tt l (none-held s m (ev.Pull r) reply tt k i.free);
}

-- a replica is idle where it is up as before, and no number is held
pub idle-as : (s u : Cluster) (r : ℕ) → ups u ≡ ups s → ups s r ≡ true → HoldsNone u → IsIdle u r
idle-as s u r e up f = record { up = ap (λ (g : ℕ → Bool). g r) e ∙ up; free = f }
