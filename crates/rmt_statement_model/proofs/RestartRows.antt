-- KILL, RESTART and SYSTEM RESTART REPLICA: the session of one replica ends, and it begins another one.
use Rattle.std.proofs.Common.{◌≡◌, ℕ, Bool, true, false, cond, refl, sym, ap, arith, ◌∙◌, nat_eq}
use Rattle.std.proofs.Math.Path.{fun_ext}
use Rattle.std.proofs.lemmas.Bool.Decides.{nat_tests}
use Rattle.rmt_events.specs.Views.{Replica, Table}
use Rattle.rmt_events.specs.Clusters.{Cluster}
use Rattle.rmt_events.specs.Whole.{IsWhole}
use Rattle.rmt_events.specs.Steps.{Kills, Restarts, Step}
use Rattle.rmt_events.proofs.WholeSteps.{whole-step}
use Rattle.rmt_statement_model.specs.TableStates.{TableState}
use Rattle.rmt_statement_model.specs.Shows.{Shows, HoldsNone, up_at, ups}
use Rattle.rmt_statement_model.proofs.UpLaws.{up-with}
use Rattle.rmt_statement_model.proofs.ShownSteps.{keeps-stored, shows-next}
use Rattle.rmt_statement_model.proofs.LockSteps.{none-held}
use Rattle.rmt_events.specs.declared.reply.Reply.{Reply}
use Rattle.rmt_events.specs.declared.event.Event.TheVariants as ev

-- ---- what is shown

-- the end of a session leaves shown what is shown
pub killed-shows : (s u : Cluster) (k : ℕ) (r : Reply) → IsWhole s → Step s (ev.Kill k) r u → (t : TableState) → Shows s t → Shows u t
killed-shows s u k r w st t h =
    let d : Kills s k r st.after = st.does in
    let q = ap (λ (x : Cluster). x.table) d.change ∙ d.closes in
    shows-next s u (ev.Kill k) r t t.next w tt st
    (keeps-stored s u (ev.Kill k) r st (ap (λ (x : Table). x.schema) q) (ap (λ (x : Table). x.log) q) (ap (λ (x : Table). x.quorum) q) (ap (λ (x : Cluster). x.events) d.change) (λ xs i. refl))
    (h.table.next ∙ sym (ap (λ (x : Cluster). x.table.next) st.stored ∙ ap (λ (x : Table). x.next) q)) h

-- so does the begin of another one
pub restarted-shows : (s u : Cluster) (k : ℕ) (r : Reply) → IsWhole s → Step s (ev.Restart k) r u → (t : TableState) → Shows s t → Shows u t
restarted-shows s u k r w st t h =
    let d : Restarts s k r st.after = st.does in
    let q = ap (λ (x : Cluster). x.table) d.change in
    shows-next s u (ev.Restart k) r t t.next w tt st
    (keeps-stored s u (ev.Restart k) r st
    (ap (λ (x : Table). x.schema) q ∙ (ap (λ (x : Table). x.schema) d.opens ∙ ap (λ (x : Table). x.schema) d.closes))
    (ap (λ (x : Table). x.log) q ∙ (ap (λ (x : Table). x.log) d.opens ∙ ap (λ (x : Table). x.log) d.closes))
    (ap (λ (x : Table). x.quorum) q ∙ (ap (λ (x : Table). x.quorum) d.opens ∙ ap (λ (x : Table). x.quorum) d.closes))
    (ap (λ (x : Cluster). x.events) d.change) (λ xs i. refl))
    (h.table.next ∙ sym (ap (λ (x : Cluster). x.table.next) st.stored ∙ (ap (λ (x : Table). x.next) q ∙ (ap (λ (x : Table). x.next) d.opens ∙ ap (λ (x : Table). x.next) d.closes)))) h

-- what is shown stays
pub restart-shows : (s m u : Cluster) (k : ℕ) (r q : Reply) → IsWhole s → Step s (ev.Kill k) r m → Step m (ev.Restart k) q u → (t : TableState) → Shows s t → Shows u t
restart-shows s m u k r q w kill wake t h = restarted-shows m u k q (whole-step s m (ev.Kill k) r w kill) wake t (killed-shows s m k r w kill t h)

-- ---- who is up then

-- no insert gets under way
pub restart-free : (s m u : Cluster) (k : ℕ) (r q : Reply) → Step s (ev.Kill k) r m → Step m (ev.Restart k) q u → HoldsNone s → HoldsNone u
restart-free s m u k r q kill wake i = none-held m u (ev.Restart k) q tt wake (none-held s m (ev.Kill k) r tt kill i)

-- the replica of the number is down, the others are up as before
pub killed-ups : (s u : Cluster) (k : ℕ) (r : Reply) → Step s (ev.Kill k) r u → (j : ℕ) → ups u j ≡ cond (nat_eq k j) false (ups s j)
killed-ups s u k r st j =
    let d : Kills s k r st.after = st.does in
    ap (λ (x : Cluster). up_at x.replicas j) st.stored ∙ (ap (λ (x : Cluster). up_at x.replicas j) d.change
    ∙ (up-with s.replicas k j d.old d.new d.at.is_in d.at.number (ap (λ (v : Replica). v.number) d.dies ∙ d.at.number) ∙ ap (λ (b : Bool). cond (nat_eq k j) b (up_at s.replicas j)) (ap (λ (v : Replica). v.up) d.dies)))

-- it is up, the others are up as before
pub restarted-ups : (s u : Cluster) (k : ℕ) (r : Reply) → Step s (ev.Restart k) r u → (j : ℕ) → ups u j ≡ cond (nat_eq k j) true (ups s j)
restarted-ups s u k r st j =
    let d : Restarts s k r st.after = st.does in
    ap (λ (x : Cluster). up_at x.replicas j) st.stored ∙ (ap (λ (x : Cluster). up_at x.replicas j) d.change
    ∙ (up-with s.replicas k j d.old d.new d.at.is_in d.at.number (ap (λ (v : Replica). v.number) d.wakes ∙ d.at.number) ∙ ap (λ (b : Bool). cond (nat_eq k j) b (up_at s.replicas j)) (ap (λ (v : Replica). v.up) d.wakes)))

-- where it was up, all are up as before
pub restart-ups : (s m u : Cluster) (k : ℕ) (r q : Reply) → Step s (ev.Kill k) r m → Step m (ev.Restart k) q u → ups s k ≡ true → ups u ≡ ups s
restart-ups s m u k r q kill wake up = fun_ext (λ j. restarted-ups m u k q wake j ∙ go j (nat_eq k j) refl)
  where
    go : (j : ℕ) (b : Bool) → nat_eq k j ≡ b → cond b true (ups m j) ≡ ups s j
    go j true e = sym up ∙ ap (λ i. ups s i) (let n : k ≡ j = grind (arith, nat_tests) in n)
    go j false e = killed-ups s m k r kill j ∙ ap (λ (b : Bool). cond b false (ups s j)) e
