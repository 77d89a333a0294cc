-- A WAIT MUTATION among workers: parts are mutated one after the other, and whatever else workers do comes in between.
use Rattle.std.proofs.Common.{◌≡◌, ◌<◌, inl, inr, ℕ, Bool, true, List, [], ◌∷◌, ◌++◌, refl, sym, ap, subst, arith, ◌∙◌}
use Rattle.std.specs.Prelude.{MatchOption}
use Rattle.std.specs.declared.option.Option.{Option}
use Rattle.std.specs.declared.option.Option.TheVariants.{Some, None}
use Rattle.rmt_entries.specs.declared.entry.Entry.{Entry}
use Rattle.rmt_model.specs.Words.{Each}
use Rattle.rmt_model.specs.Lawful.{mutation_count}
use Rattle.rmt_model.specs.EntryLimits.{worker_limit}
use Rattle.rmt_events.specs.Views.{Block}
use Rattle.rmt_reply.specs.declared.refusal.Refusal.{Refusal}
use Rattle.rmt_live_names.specs.Places.{IsPlaceOf}
use Rattle.rmt_statement_model.specs.TableStates.{TableState, synced}
use Rattle.rmt_statement_model.specs.BackgroundWork.{IsOfWorker}
use Rattle.rmt_statement_model.specs.Rests.{Rests}
use Rattle.rmt_statement_model.specs.Waits.{MutatesOrComes, MutatesParts, NonePending, SomePending}
use Rattle.rmt_statement_model.specs.ActOutcomes.{WaitsOr}
use Rattle.rmt_statement_model.proofs.WorkerEntries.{mutations-stay}
use Rattle.rmt_clients.specs.Clients.{Client, Fits, RestsAnd, SeesHere, after_work, seeing}
use Rattle.rmt_clients.proofs.ClientMeets.{mutates-amid, seeing-both}
use Rattle.rmt_clients.proofs.ClientRests.{fits-rested}
use Rattle.rmt_clients.proofs.ClientWaits.{MutatesPartsHere, mutates-workers, parts-mutated-here}
use Rattle.rmt_pass.specs.Passes.{PassView, KeepsPass, TakesStep, client_at}
use Rattle.rmt_pass.specs.MutateSteps.{LacksEntry, MutatesOneMore}
use Rattle.rmt_pass.specs.declared.mutated.Mutated.{Mutated}
use Rattle.rmt_pass.specs.declared.mutated.Mutated.TheVariants as mutated
use Rattle.rmt_pass.proofs.CallerLemmas.{wait-more, wait-seen}
use Rattle.rmt_workers.specs.Crews.{Saw}
use Rattle.rmt_workers.specs.CrewWaits.{HasMutated, MutatesAll, MutatesSeen}
use Rattle.rmt_workers.proofs.StepLemmas.{keeps-both}

-- ---- what was mutated since

parts-of : (id : ℕ) (first now : Client) → (h : HasMutated id first now) → MutatesPartsHere first id h.gained
parts-of id first now h = record { numbers = h.numbers; command = h.command; place = h.place; at = h.at; mutates = h.mutates; few = h.few; lawful = h.lawful }

of-parts : (id : ℕ) (first now : Client) (gained : List Entry) (noted : List ℕ) → MutatesPartsHere first id gained → now ≡ seeing gained noted first → HasMutated id first now
of-parts id first now gained noted h e = record { numbers = h.numbers; command = h.command; place = h.place; at = h.at; gained = gained; noted = noted; mutates = h.mutates; few = h.few; lawful = h.lawful; seen = e }

-- nothing yet, but what workers did
pub none-mutated : (id place : ℕ) (old mid : PassView) (k : ℕ) → IsPlaceOf (client_at old k).log id place → Saw old k mid → HasMutated id (client_at old k) (client_at mid k)
none-mutated id place old mid k at s = record {
  numbers = at.0;
  command = at.1;
  place = place;
  at = at.2;
  gained = s.gained;
  noted = s.noted;
  mutates = come s.gained s.sees.workers;
  few = s.sees.few;
  lawful = s.sees.lawful;
  seen = s.seen;
}
  where
    come : (xs : List Entry) → Each IsOfWorker xs → Each (MutatesOrComes true (client_at old k).log place id) xs
    come [] w = tt
    come (x ∷ xs) w = (inr (refl, w.0), come xs w.1)

-- what workers did since came in between
pub mutated-amid : (id : ℕ) (first : Client) (old mid : PassView) (k : ℕ) → Saw old k mid → HasMutated id first (client_at old k) → HasMutated id first (client_at mid k)
mutated-amid id first old mid k s h =
    of-parts id first (client_at mid k) (s.gained ++ h.gained) (s.noted ++ h.noted)
    (mutates-amid first id h.gained h.noted s.gained (parts-of id first (client_at old k) h) (subst (λ (p : Client). SeesHere p s.gained) h.seen s.sees))
    (s.seen ∙ (ap (λ (p : Client). seeing s.gained s.noted p) h.seen ∙ seeing-both s.gained h.gained s.noted h.noted first))

-- one part more
pub mutated-more : (id : ℕ) (first now new : Client) → HasMutated id first now → MutatesOneMore id now new → HasMutated id first new
mutated-more id first now new h m =
    let one : MutatesOneMore id (seeing h.gained h.noted first) new = subst (λ (p : Client). MutatesOneMore id p new) h.seen m in
    of-parts id first new (one.entry ∷ h.gained) h.noted (wait-more first new id h.gained h.noted (parts-of id first now h) one) (wait-seen first new id h.gained h.noted one)

-- what became of the first part that waited, for whatever the client knew first
module _ (old new : PassView) (k id : ℕ) (m : Mutated) (s : MutatesSeen old k id m new) where
  seen-as : (n : Mutated) → m ≡ n → MutatesSeen old k id n new
  seen-as n e = subst (λ (x : Mutated). MutatesSeen old k id x new) e s

  pub part-more : m ≡ mutated.Part → (first : Client) → HasMutated id first (client_at old k) → HasMutated id first (client_at new k)
  part-more e first h =
      let one = seen-as mutated.Part e in
      mutated-more id first (client_at one.mid k) (client_at new k) (mutated-amid id first old one.mid k one.saw h) one.mutates

  pub part-none : (begin : PassView) → m ≡ mutated.NonePending → ((first : Client) → HasMutated id first (client_at begin k) → HasMutated id first (client_at old k)) → MutatesAll begin k id None new
  part-none begin e since =
      let end = seen-as mutated.NonePending e in
      record {
        since = λ first h. subst (λ (c : Client). HasMutated id first c) (sym end.mutates.0) (mutated-amid id first old end.mid k end.saw (since first h));
        ends = subst (λ (c : Client). NonePending c.log id) (sym end.mutates.0) end.mutates.1;
      }

  pub part-refused : (begin : PassView) (why : Refusal) → m ≡ mutated.Refused why → ((first : Client) → HasMutated id first (client_at begin k) → HasMutated id first (client_at old k)) → MutatesAll begin k id (Some why) new
  part-refused begin why e since =
      let end = seen-as (mutated.Refused why) e in
      record {
        since = λ first h. subst (λ (c : Client). HasMutated id first c) (sym end.mutates.0) (mutated-amid id first old end.mid k end.saw (since first h));
        ends = subst (λ (c : Client). LacksEntry c id why) (sym end.mutates.0) end.mutates.1;
      }

-- ---- the mutation is there still

pub saw-known : (id : ℕ) (old mid : PassView) (k : ℕ) → Saw old k mid → id < mutation_count (client_at old k).log → id < mutation_count (client_at mid k).log
saw-known id old mid k s h =
    let a : mutation_count (client_at mid k).log ≡ mutation_count (client_at old k).log = ap (λ (p : Client). mutation_count p.log) s.seen ∙ mutations-stay s.gained (client_at old k).log s.sees.workers in
    omega (arith, a, h)

more-known : (id : ℕ) (now new : Client) → MutatesOneMore id now new → id < mutation_count now.log → id < mutation_count new.log
more-known id now new m h =
    let a : mutation_count new.log ≡ mutation_count now.log = ap (λ (p : Client). mutation_count p.log) m.seen ∙ mutations-stay (m.entry ∷ []) now.log (mutates-workers now.log m.place id (m.entry ∷ []) (inl m.mutates, tt)) in
    omega (arith, a, h)

pub part-known : (old new : PassView) (k id : ℕ) (m : Mutated) → MutatesSeen old k id m new → m ≡ mutated.Part → id < mutation_count (client_at old k).log → id < mutation_count (client_at new k).log
part-known old new k id m s e h =
    let one = seen-as old new k id m s mutated.Part e in
    more-known id (client_at one.mid k) (client_at new k) one.mutates (saw-known id old one.mid k one.saw h)

-- ---- the wait ends

-- no part waits, or one entry more would pass a limit, and the replica is up to date
waits-so : (O : Block → Type 0) (up : ℕ → Bool) (now : Client) (r id : ℕ) (refused : Option Refusal) (t mid end u : TableState) → MutatesParts true t id mid → Fits O now mid → MatchOption refused (NonePending now.log id) (LacksEntry now id) → Rests true mid end → u ≡ synced r end → WaitsOr true up r id refused t u
waits-so O up now r id None t mid end u m f none rests e = record {
  mid = mid;
  mutates = m;
  carried = subst (λ (l : List Entry). NonePending l id) f.knows.log none;
  end = end;
  rests = rests;
  change = e;
}
waits-so O up now r id (Some why) t mid end u m f lacks rests e = inr record {
  mid = mid;
  mutates = m;
  waits = subst (λ (l : List Entry). SomePending l id) f.knows.log lacks.waits;
  limit = lacks.limit;
  value = lacks.value;
  reached = subst (λ (l : List Entry). worker_limit l ≡ Some (lacks.limit, lacks.value)) f.knows.log lacks.reached;
  reply = lacks.reply;
  end = end;
  rests = rests;
  change = e;
}

pub waits-or : (O : ℕ → Block → Type 0) (up : ℕ → Bool) (old now new : PassView) (k r id : ℕ) (refused : Option Refusal) → HasMutated id (client_at old k) (client_at now k) → KeepsPass old k now → MatchOption refused (NonePending (client_at now k).log id) (LacksEntry (client_at now k) id) → TakesStep O now k (λ t u. u ≡ synced r t) new → TakesStep O old k (λ t u. WaitsOr true up r id refused t u) new
waits-or O up old now new k r id refused h keeps ends step = record {
  steps = λ clear t f.
      let p = client_at old k in
      let mid : TableState = after_work h.gained h.noted t in
      let fits : Fits (O k) (client_at now k) mid = subst (λ (c : Client). Fits (O k) c mid) (sym h.seen) (fits-rested (O k) p h.gained h.noted (mutates-workers p.log h.place id h.gained h.mutates) t f) in
      let s : RestsAnd (O k) (client_at new k) (λ at u. u ≡ synced r at) mid = step.steps clear mid fits in
      record {
        at = t;
        rests = inl refl;
        comes = record {
          after = s.comes.after;
          change = waits-so (O k) up (client_at now k) r id refused t mid s.at s.comes.after (parts-mutated-here (O k) p id h.gained h.noted (parts-of id p (client_at now k) h) t f) fits ends s.rests s.comes.change;
          fits = s.comes.fits;
        };
      };
  keeps = keeps-both old now new k keeps step.keeps;
  goes = step.goes;
}
