-- What a client tells of a table that it finds under a lock from what it knew: which work was done since.
use Rattle.std.proofs.Common.{◌≡◌, ℕ, ◌≤◌, inr, true, List, [], ◌∷◌, ◌++◌, refl, sym, ap, subst, ◌∙◌}
use Rattle.rmt_entries.specs.declared.entry.Entry.{Entry}
use Rattle.rmt_model.specs.Words.{Each}
use Rattle.rmt_model.specs.Lawful.{Lawful}
use Rattle.rmt_model.specs.Quorum.{Quorum}
use Rattle.rmt_model.specs.EntryLimits.{worker_count}
use Rattle.rmt_statement_model.specs.BackgroundWork.{IsOfWorker, quorum_after_notes}
use Rattle.rmt_statement_model.specs.Waits.{MutatesOrComes}
use Rattle.rmt_statement_model.specs.Books.{GainsWork}
use Rattle.rmt_clients.specs.Clients.{Client, MayBeNoted, seeing, SeesHere}
use Rattle.rmt_clients.proofs.QuorumNotes.{notes-tell, notes-after}
use Rattle.rmt_clients.proofs.ClientWaits.{MutatesPartsHere}

-- the log that is found goes on from the client's by entries of workers, within their limit, and the quorum from the client's by notes
pub record MeetsHere (p : Client) (log : List Entry) (quorum : Quorum) : Type 0 where
  pub work : GainsWork p.log log
  pub few : worker_count log ≤ 32768
  pub lawful : Lawful p.schema log
  pub noted : MayBeNoted p.quorum quorum

-- the client once it has taken both over
abbrev pub taking : List Entry → Quorum → Client → Client
taking log quorum p = record p { log = log; quorum = quorum }

-- what workers did, and that this is all
pub record Met (p : Client) (log : List Entry) (quorum : Quorum) : Type 0 where
  pub gained : List Entry
  pub noted : List ℕ
  pub sees : SeesHere p gained
  pub is : taking log quorum p ≡ seeing gained noted p

pub meets : (p : Client) (log : List Entry) (quorum : Quorum) → MeetsHere p log quorum → Met p log quorum
meets p log quorum h =
    let told : (noted : List ℕ) × (quorum ≡ quorum_after_notes noted p.quorum) = notes-tell p.quorum quorum h.noted in
    record {
      gained = h.work.gained;
      noted = told.0;
      sees = record {
        workers = h.work.workers;
        few = subst (λ (l : List Entry). worker_count l ≤ 32768) h.work.is h.few;
        lawful = subst (λ (l : List Entry). Lawful p.schema l) h.work.is h.lawful;
      };
      is = ap (λ (l : List Entry). taking l quorum p) h.work.is ∙ ap (λ (q : Quorum). taking (h.work.gained ++ p.log) q p) told.1;
    }

-- ---- twice

append-both : (xs ys zs : List Entry) → xs ++ (ys ++ zs) ≡ (xs ++ ys) ++ zs
append-both [] ys zs = refl
append-both (x ∷ xs) ys zs = ap (λ (l : List Entry). x ∷ l) (append-both xs ys zs)

-- what the client saw in two steps it has seen in one
pub seeing-both : (more gained : List Entry) (notes noted : List ℕ) (p : Client) → seeing more notes (seeing gained noted p) ≡ seeing (more ++ gained) (notes ++ noted) p
seeing-both more gained notes noted p = ap (λ (l : List Entry). taking l (quorum_after_notes notes (quorum_after_notes noted p.quorum)) p) (append-both more gained p.log) ∙ ap (λ (q : Quorum). taking ((more ++ gained) ++ p.log) q p) (sym (notes-after notes noted p.quorum))

Each-both : {A : Type 0} (P : A → Type 0) (xs ys : List A) → Each P xs → Each P ys → Each P (xs ++ ys)
Each-both P [] ys a b = b
Each-both P (x ∷ xs) ys a b = (a.0, Each-both P xs ys a.1 b)

-- and it was all work of workers
pub sees-both : (p : Client) (more gained : List Entry) (noted : List ℕ) → SeesHere p gained → SeesHere (seeing gained noted p) more → SeesHere p (more ++ gained)
sees-both p more gained noted s m = record {
  workers = Each-both IsOfWorker more gained m.workers s.workers;
  few = subst (λ (l : List Entry). worker_count l ≤ 32768) (append-both more gained p.log) m.few;
  lawful = subst (λ (l : List Entry). Lawful p.schema l) (append-both more gained p.log) m.lawful;
}

-- entries of workers that came while parts were mutated
pub mutates-amid : (p : Client) (id : ℕ) (gained : List Entry) (noted : List ℕ) (more : List Entry) → MutatesPartsHere p id gained → SeesHere (seeing gained noted p) more → MutatesPartsHere p id (more ++ gained)
mutates-amid p id gained noted more h m = record {
  numbers = h.numbers;
  command = h.command;
  place = h.place;
  at = h.at;
  mutates = Each-both (MutatesOrComes true p.log h.place id) more gained (come more m.workers) h.mutates;
  few = subst (λ (l : List Entry). worker_count l ≤ 32768) (append-both more gained p.log) m.few;
  lawful = subst (λ (l : List Entry). Lawful p.schema l) (append-both more gained p.log) m.lawful;
}
  where
    come : (xs : List Entry) → Each IsOfWorker xs → Each (MutatesOrComes true p.log h.place id) xs
    come [] w = tt
    come (x ∷ xs) w = (inr (refl, w.0), come xs w.1)
