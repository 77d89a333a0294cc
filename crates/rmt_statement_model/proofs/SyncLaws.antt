-- What a replica does with its log leaves shown what is shown, and one that has done all of it knows the whole log.
use Rattle.std.proofs.Common.{◌≡◌, ◌∙◌, ℕ, inl, inr, Bool, List, [], ◌∷◌, length, sym, ap, subst}
use Rattle.rmt_entries.specs.declared.entry.Entry.{Entry}
use Rattle.rmt_model.specs.Words.{Each}
use Rattle.rmt_events.specs.Clusters.{Cluster}
use Rattle.rmt_events.specs.Whole.{IsWhole}
use Rattle.rmt_events.specs.Steps.{Step, After}
use Rattle.rmt_events.proofs.WholeSteps.{whole-after}
use Rattle.rmt_events.specs.declared.event.Event.{Event}
use Rattle.rmt_events.specs.declared.event.Event.TheVariants as ev
use Rattle.rmt_events.specs.declared.reply.Reply.{Reply}
use Rattle.rmt_model.specs.Quorum.{Quorum, quorum_after_note}
use Rattle.rmt_statement_model.specs.TableStates.{TableState, learned_to, synced}
use Rattle.rmt_statement_model.specs.Shows.{EachKnows, Shows, ups, IsUpToDate}
use Rattle.rmt_statement_model.proofs.KnowsLaws.{drained-known}
use Rattle.rmt_statement_model.proofs.AttemptSteps.{IsPullOrApply, quiet-shows}
use Rattle.rmt_statement_model.proofs.UpLaws.{KeepsSessions, ups-step}

-- pulls and applied entries leave shown what is shown
pub after-shows : (s u : Cluster) (events : List (Event × Reply)) → IsWhole s → After s events u → Each (λ x. IsPullOrApply x.0) events → (t : TableState) → Shows s t → Shows u t
after-shows s u [] w a p t h = subst (λ (x : Cluster). Shows x t) (sym a) h
after-shows s u (x ∷ rest) w a p t h = quiet-shows a.0 u x.0 x.1 (whole-after s a.0 rest w a.1) p.0 a.2 t (after-shows s a.0 rest w a.1 p.1 t h)

-- no session ends by them, and none begins
keeps-sessions : (up : ℕ → Bool) (e : Event) → IsPullOrApply e → KeepsSessions up e
keeps-sessions up (ev.Pull k) q = tt
keeps-sessions up (ev.Apply k i) q = tt
keeps-sessions up e q = absurd q

-- the same replicas are up
pub after-ups : (s u : Cluster) (events : List (Event × Reply)) → IsWhole s → After s events u → Each (λ x. IsPullOrApply x.0) events → ups u ≡ ups s
after-ups s u [] w a p = ap ups a
after-ups s u (x ∷ rest) w a p = ups-step a.0 u x.0 x.1 (whole-after s a.0 rest w a.1) (keeps-sessions (ups a.0) x.0 p.0) a.2 ∙ after-ups s a.0 rest w a.1 p.1

-- a replica that has the whole log and has done all of it knows every place
pub synced-shows : (u : Cluster) (k : ℕ) (t : TableState) → IsWhole u → IsUpToDate u k → Shows u t → Shows u (synced k t)
synced-shows u k t w d h =
    record {
      table = record {
        schema = h.table.schema;
        log = h.table.log;
        next = h.table.next;
        quorum = ap (λ (q : Quorum). quorum_after_note k q) h.table.quorum ∙ d.noted;
        fetching = h.table.fetching;
        knows = subst (λ n. EachKnows u.replicas (learned_to t.known k n)) (ap (λ (l : List Entry). length l) (sym h.table.log))
            (subst (λ j. EachKnows u.replicas (learned_to t.known j (length u.table.log))) d.at.number (drained-known u d.replica t.known w d.at.is_in d.whole d.drained h.table.knows));
      };
      blocks = h.blocks;
    }

-- a pull, and an entry that is looked at, leave the table as it is
step-table : (s u : Cluster) (e : Event) (reply : Reply) → IsPullOrApply e → Step s e reply u → u.table ≡ s.table
step-table s u (ev.Pull k) reply q st = ap (λ (x : Cluster). x.table) st.stored ∙ elim st.does [ inl d ↦ ap (λ (x : Cluster). x.table) d.at.change | inr d ↦ ap (λ (x : Cluster). x.table) d.unchanged ]
step-table s u (ev.Apply k i) reply q st = ap (λ (x : Cluster). x.table) st.stored ∙ elim st.does [ inl d ↦ ap (λ (x : Cluster). x.table) d.at.change | inr d ↦ ap (λ (x : Cluster). x.table) d.unchanged ]
step-table s u e reply q st = absurd q

-- and so do many
pub after-table : (s u : Cluster) (events : List (Event × Reply)) → After s events u → Each (λ x. IsPullOrApply x.0) events → u.table ≡ s.table
after-table s u [] a e = ap (λ (x : Cluster). x.table) a
after-table s u (x ∷ rest) a e = step-table a.0 u x.0 x.1 e.0 a.2 ∙ after-table s a.0 rest a.1 e.1
