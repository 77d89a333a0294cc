-- A client's WAIT MUTATION: parts are mutated until none waits, among workers.
use Rattle.std.proofs.Common.{◌≡◌, ℕ, ◌≤◌, inl, inr, true, List, [], ◌∷◌, ◌++◌, refl}
use Rattle.std.specs.declared.option.Option.{Option}
use Rattle.std.specs.declared.option.Option.TheVariants.{Some}
use Rattle.rmt_values.specs.declared.checked_mutation.CheckedMutation.{CheckedMutation}
use Rattle.rmt_values.specs.declared.limit.Limit.{Limit}
use Rattle.rmt_entries.specs.declared.entry.Entry.{Entry}
use Rattle.rmt_entries.specs.declared.entry.Entry.TheVariants.{Get, Merge, Mutate, Mutation, DropRange}
use Rattle.rmt_model.specs.Words.{Each}
use Rattle.rmt_model.specs.Lawful.{Lawful, entry_at}
use Rattle.rmt_model.specs.EntryLimits.{worker_count, worker_limit}
use Rattle.rmt_events.specs.Views.{Block}
use Rattle.rmt_reply.specs.declared.refusal.Refusal.TheVariants.{LimitReached}
use Rattle.rmt_statement_model.specs.TableStates.{TableState}
use Rattle.rmt_statement_model.specs.BackgroundWork.{IsOfWorker}
use Rattle.rmt_statement_model.specs.Waits.{NonePending, SomePending, MutatesOrComes, MutatesParts, WaitsFor, LacksEntries}
use Rattle.rmt_statement_model.proofs.WorkerEntries.{gained-room}
use Rattle.rmt_clients.specs.Clients.{Client, Fits, seeing, after_work, ChangesInto, SeesHere}
use Rattle.rmt_clients.proofs.ClientRests.{fits-all, fits-rested, rests-so}
use Rattle.rmt_clients.proofs.ClientDrains.{DrainsHere, drained-here}

-- ---- parts are mutated

-- the log has gained entries that mutate parts up to a mutation of an id, and others of workers
pub record MutatesPartsHere (p : Client) (id : ℕ) (gained : List Entry) : Type 0 where
  pub numbers : List (Option ℕ × ℕ)
  pub command : CheckedMutation
  pub place : ℕ
  pub at : entry_at p.log place ≡ Some (Mutation id numbers command)
  pub mutates : Each (MutatesOrComes true p.log place id) gained
  pub few : worker_count (gained ++ p.log) ≤ 32768
  pub lawful : Lawful p.schema (gained ++ p.log)

mutates-worker : (log : List Entry) (place id : ℕ) (e : Entry) → MutatesOrComes true log place id e → IsOfWorker e
mutates-worker log place id e (inr c) = c.1
mutates-worker log place id (Mutate old name upto count mcount) (inl m) = tt
mutates-worker log place id (Merge name sources count) (inl m) = absurd m
mutates-worker log place id (Get p n digest source need) (inl m) = absurd m
mutates-worker log place id (Mutation k numbers command) (inl m) = absurd m
mutates-worker log place id (DropRange p n) (inl m) = absurd m

-- all of them are entries of workers
pub mutates-workers : (log : List Entry) (place id : ℕ) (gained : List Entry) → Each (MutatesOrComes true log place id) gained → Each IsOfWorker gained
mutates-workers log place id [] m = tt
mutates-workers log place id (e ∷ gained) m = (mutates-worker log place id e m.0, mutates-workers log place id gained m.1)

-- one more of them, where the log that the client saw first is a prefix of the one that it sees
pub mutates-next : (p : Client) (id : ℕ) (gained : List Entry) (e : Entry) → (h : MutatesPartsHere p id gained) → MutatesOrComes true p.log h.place id e → worker_count (e ∷ (gained ++ p.log)) ≤ 32768 → Lawful p.schema (e ∷ (gained ++ p.log)) → MutatesPartsHere p id (e ∷ gained)
mutates-next p id gained e h m few l = record { numbers = h.numbers; command = h.command; place = h.place; at = h.at; mutates = (m, h.mutates); few = few; lawful = l }

pub parts-mutated-here : (O : Block → Type 0) (p : Client) (id : ℕ) (gained : List Entry) (noted : List ℕ) → MutatesPartsHere p id gained → (t : TableState) → Fits O p t → MutatesParts true t id (after_work gained noted t)
parts-mutated-here O p id gained noted h = fits-all O p (λ (t : TableState). MutatesParts true t id (after_work gained noted t)) (λ blocks a. record {
  numbers = h.numbers;
  command = h.command;
  place = h.place;
  at = h.at;
  gained = gained;
  mutates = h.mutates;
  room = gained-room gained p.log (mutates-workers p.log h.place id gained h.mutates) h.few;
  lawful = h.lawful;
  noted = noted;
  by_workers = inr refl;
  change = refl;
})

-- ---- the wait ends

-- no part waits any more in the log as the client has seen it; a rest, and the replica is brought up to date
pub waited : (O : Block → Type 0) (p : Client) (r id : ℕ) (gained : List Entry) (noted : List ℕ) (later : List Entry) (notes : List ℕ) (q : Client) → MutatesPartsHere p id gained → NonePending (gained ++ p.log) id → SeesHere (seeing gained noted p) later → DrainsHere (seeing later notes (seeing gained noted p)) r q → (t : TableState) → Fits O p t → ChangesInto O q (WaitsFor true t r id)
waited O p r id gained noted later notes q h none s d t f =
    let m : Fits O (seeing gained noted p) (after_work gained noted t) = fits-rested O p gained noted (mutates-workers p.log h.place id gained h.mutates) t f in
    let c = drained-here O (seeing later notes (seeing gained noted p)) r q d (after_work later notes (after_work gained noted t)) (fits-rested O (seeing gained noted p) later notes s.workers (after_work gained noted t) m) in
    record {
      after = c.after;
      change = record {
        mid = after_work gained noted t;
        mutates = parts-mutated-here O p id gained noted h t f;
        carried = fits-all O (seeing gained noted p) (λ (u : TableState). NonePending u.log id) (λ blocks a. none) (after_work gained noted t) m;
        end = after_work later notes (after_work gained noted t);
        rests = rests-so O (seeing gained noted p) later notes s (after_work gained noted t) m;
        change = c.change;
      };
      fits = c.fits;
    }

-- a part waits still in the log as the client has seen it, and one more entry would pass a limit
pub record LacksEntriesHere (p : Client) (id : ℕ) (limit : Limit) (value : ℕ) : Type 0 where
  pub waits : SomePending p.log id
  pub reached : worker_limit p.log ≡ Some (limit, value)

pub lacks-entries : (O : Block → Type 0) (p : Client) (r id : ℕ) (limit : Limit) (value : ℕ) (gained : List Entry) (noted : List ℕ) (later : List Entry) (notes : List ℕ) (q : Client) → MutatesPartsHere p id gained → LacksEntriesHere (seeing gained noted p) id limit value → SeesHere (seeing gained noted p) later → DrainsHere (seeing later notes (seeing gained noted p)) r q → (t : TableState) → Fits O p t → ChangesInto O q (LacksEntries true t r id (LimitReached limit value))
lacks-entries O p r id limit value gained noted later notes q h w s d t f =
    let m : Fits O (seeing gained noted p) (after_work gained noted t) = fits-rested O p gained noted (mutates-workers p.log h.place id gained h.mutates) t f in
    let c = drained-here O (seeing later notes (seeing gained noted p)) r q d (after_work later notes (after_work gained noted t)) (fits-rested O (seeing gained noted p) later notes s.workers (after_work gained noted t) m) in
    record {
      after = c.after;
      change = record {
        mid = after_work gained noted t;
        mutates = parts-mutated-here O p id gained noted h t f;
        waits = fits-all O (seeing gained noted p) (λ (u : TableState). SomePending u.log id) (λ blocks a. w.waits) (after_work gained noted t) m;
        limit = limit;
        value = value;
        reached = fits-all O (seeing gained noted p) (λ (u : TableState). worker_limit u.log ≡ Some (limit, value)) (λ blocks a. w.reached) (after_work gained noted t) m;
        reply = refl;
        end = after_work later notes (after_work gained noted t);
        rests = rests-so O (seeing gained noted p) later notes s (after_work gained noted t) m;
        change = c.change;
      };
      fits = c.fits;
    }
