-- A note: what the cluster shows then.
use Rattle.std.proofs.Common.{◌≡◌, ℕ, inl, inr, Bool, true, false, cond, List, [], ◌∷◌, length, refl, sym, ap, arith, ◌∙◌, nat_eq, nat_lt}
use Rattle.std.proofs.lemmas.Bool.Decides.{nat_tests}
use Rattle.std.specs.declared.option.Option.{Option}
use Rattle.std.specs.declared.option.Option.TheVariants.{Some, None}
use Rattle.rmt_entries.specs.declared.entry.Entry.{Entry}
use Rattle.rmt_model.specs.Quorum.{Pending, Quorum, noted_with, quorum_noted, noted_by, quorum_after_note}
use Rattle.rmt_events.specs.Views.{Table}
use Rattle.rmt_events.specs.Clusters.{Cluster, committed_at, blocks_in}
use Rattle.rmt_events.specs.Whole.{IsWhole}
use Rattle.rmt_events.specs.Steps.{Does, Step}
use Rattle.rmt_events.proofs.Moves.{blocks-same}
use Rattle.rmt_statement_model.specs.TableStates.{TableState}
use Rattle.rmt_statement_model.specs.Shows.{Shows}
use Rattle.rmt_statement_model.proofs.SwitchLaws.{switch-step}
use Rattle.rmt_statement_model.proofs.KnowsLaws.{knows-step}
use Rattle.rmt_events.specs.declared.event.Event.{Event}
use Rattle.rmt_events.specs.declared.event.Event.TheVariants as ev
use Rattle.rmt_events.specs.declared.reply.Reply.{Reply}

-- ---- a second note

-- a replica that is noted isn't noted twice
noted-again : (r : ℕ) (xs : List ℕ) → noted_with r (noted_with r xs) ≡ noted_with r xs
noted-again r [] = let a : nat_lt r r ≡ false = grind (arith, nat_tests) in let b : nat_eq r r ≡ true = grind (arith, nat_tests) in rw (a, b) refl
noted-again r (x ∷ xs) = go (nat_lt x r) (nat_eq x r) refl refl (noted-again r xs)
  where
    go : (b c : Bool) → nat_lt x r ≡ b → nat_eq x r ≡ c → noted_with r (noted_with r xs) ≡ noted_with r xs
        → noted_with r (cond b (x ∷ noted_with r xs) (cond c (x ∷ xs) (r ∷ x ∷ xs))) ≡ cond b (x ∷ noted_with r xs) (cond c (x ∷ xs) (r ∷ x ∷ xs))
    go true c p q e = rw p (ap (λ (l : List ℕ). x ∷ l) e)
    go false true p q e = rw (p, q) refl
    go false false p q e = let a : nat_lt r r ≡ false = grind (arith, nat_tests) in let b : nat_eq r r ≡ true = grind (arith, nat_tests) in rw (a, b) refl

-- another note of the same replica changes nothing
pub note-again : (r : ℕ) (q : Quorum) → quorum_after_note r (quorum_after_note r q) ≡ quorum_after_note r q
note-again r q = go q.pending refl
  where
    waiting : Pending → Quorum
    waiting p = record { pending = Some (record { part = p.part; need = p.need; noted = noted_with r p.noted }); last = q.last }

    met : Pending → Quorum
    met p = record { pending = None; last = Some p.part }

    more : (p : Pending) (b : Bool) → nat_lt (length (noted_with r p.noted)) p.need ≡ b → quorum_after_note r (cond b (waiting p) (met p)) ≡ cond b (waiting p) (met p)
    more p true e =
        ap (λ (l : List ℕ). quorum_noted (record { part = p.part; need = p.need; noted = noted_with r p.noted }) l q.last) (noted-again r p.noted)
        ∙ ap (λ (b : Bool). cond b (waiting p) (met p)) e
    more p false e = refl

    go : (o : Option Pending) → q.pending ≡ o → quorum_after_note r (noted_by r q o) ≡ noted_by r q o
    go None e = ap (noted_by r q) e
    go (Some p) e = more p (nat_lt (length (noted_with r p.noted)) p.need) refl

-- ---- what is shown

-- a note leaves what was committed
note-commits : (s u : Cluster) (k : ℕ) (reply : Reply) → Step s (ev.Note k) reply u → (i : ℕ) → committed_at u.events i ≡ committed_at s.events i
note-commits s u k reply st i = ap (λ (x : Cluster). committed_at x.events i) st.stored ∙ ap (λ (xs : List (Event × Reply)). committed_at xs i) (go st.does)
  where
    go : Does s (ev.Note k) reply st.after → st.after.events ≡ s.events
    go (inl d) = ap (λ (x : Cluster). x.events) d.change
    go (inr (inl d)) = ap (λ (x : Cluster). x.events) d.unchanged
    go (inr (inr d)) = ap (λ (x : Cluster). x.events) d.unchanged

-- the cluster shows the table with the note
pub noted-shows : (s u : Cluster) (k : ℕ) (reply : Reply) → IsWhole s → Step s (ev.Note k) reply u → u.table ≡ record s.table { quorum = quorum_after_note k s.table.quorum } → (t : TableState) → Shows s t → Shows u (record t { quorum = quorum_after_note k t.quorum })
noted-shows s u k reply w st e t h =
    record {
      table = record {
        schema = h.table.schema ∙ sym (ap (λ (x : Table). x.schema) e);
        log = h.table.log ∙ sym log;
        next = h.table.next ∙ sym (ap (λ (x : Table). x.next) e);
        quorum = ap (λ (q : Quorum). quorum_after_note k q) h.table.quorum ∙ sym (ap (λ (x : Table). x.quorum) e);
        fetching = h.table.fetching ∙ sym (switch-step s u (ev.Note k) reply w tt st);
        knows = knows-step s u (ev.Note k) reply t.known w st h.table.knows;
      };
      blocks = h.blocks ∙ (sym (blocks-same s.table.log s.events u.events (λ i l. note-commits s u k reply st i)) ∙ ap (λ (l : List Entry). blocks_in l u.events) (sym log));
    }
  where
    log : u.table.log ≡ s.table.log
    log = ap (λ (x : Table). x.log) e
