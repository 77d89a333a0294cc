-- An entry of background work that is appended to the log of a table, or isn't.
use Rattle.std.proofs.Common.{◌≡◌, ℕ, zero, suc, ◌<◌, Bool, true, false, List, [], ◌∷◌, refl, length, set, get_or, sym, ap, subst, arith, ◌∙◌}
use Rattle.std.specs.Prelude.{MatchBool}
use Rattle.rmt_names.specs.Names.{Name}
use Rattle.rmt_entries.specs.declared.entry.Entry.{Entry}
use Rattle.rmt_entries.specs.declared.entry.Entry.TheVariants.{Merge, Mutate}
use Rattle.rmt_events.specs.Views.{Table}
use Rattle.rmt_table_model.specs.Held.{Held}
use Rattle.rmt_statement_model.specs.BackgroundWork.{IsOfWorker}
use Rattle.rmt_statement_model.specs.Books.{GainsWork, GainWork}
use Rattle.rmt_shared.specs.SharedTables.{logs_of, ChangesTable, GainsMerge, GainsMutate, AppendsMerge, AppendsMutate}
use Rattle.rmt_shared.proofs.NamedLemmas.{map-length, map-set, set-own, log-at}

-- the log of the table goes on by the entry
merge-log : (sources : List Name) (old new : Held) (m : GainsMerge old sources new) → new.log ≡ Merge m.name sources m.count ∷ old.log
merge-log sources old new m = ap (λ (t : Table). t.log) m.assigns.change

mutate-log : (part : Name) (upto : ℕ) (old new : Held) (m : GainsMutate old part upto new) → new.log ≡ Mutate part m.name upto m.count m.mcount ∷ old.log
mutate-log part upto old new m = ap (λ (t : Table). t.log) m.assigns.change

-- the table at a place changes so, or nothing does
pub changes-one : (done : Bool) (Change : Held → Held → Type 0) (tables : List Held) (k : ℕ) (old new : Held) → k < length tables → old ≡ get_or tables k old → MatchBool done (Change old new) (new ≡ old) → MatchBool done (ChangesTable tables k Change (set tables k new)) (set tables k new ≡ tables)
changes-one true Change tables k old new here at m = record { table = old; is = at; after = new; change = m; rest = refl }
changes-one false Change tables k old new here at m = set-own tables k old new here at m

-- ---- what the logs gain

-- nothing
pub gain-none : (logs : List (List Entry)) → GainWork logs logs
gain-none [] = tt
gain-none (l ∷ logs) = (record { gained = []; is = refl; workers = tt }, gain-none logs)

pub gain-same : (logs now : List (List Entry)) → now ≡ logs → GainWork logs now
gain-same logs now e = subst (GainWork logs) (sym e) (gain-none logs)

-- background work in one of them
gain-one : (logs : List (List Entry)) (k : ℕ) (l : List Entry) → k < length logs → GainsWork (get_or logs k []) l → GainWork logs (set logs k l)
gain-one [] k l h g = absurd (omega (arith, h))
gain-one (x ∷ logs) zero l h g = (g, gain-none logs)
gain-one (x ∷ logs) (suc k) l h g = (record { gained = []; is = refl; workers = tt }, gain-one logs k l (omega (arith, h)) g)

logs-here : (tables : List Held) (k : ℕ) → k < length tables → k < length (logs_of tables)
logs-here tables k h = let m = map-length (λ (x : Held). x.log) tables in omega (arith, m, h)

-- an entry of background work enters the log of one table
work-in : (tables now : List Held) (k : ℕ) (old new : Held) (e : Entry) → k < length tables → old ≡ get_or tables k old → now ≡ set tables k new → new.log ≡ e ∷ old.log → IsOfWorker e → GainWork (logs_of tables) (logs_of now)
work-in tables now k old new e h at rest log w =
    subst (GainWork (logs_of tables)) (sym (ap logs_of rest ∙ map-set (λ (x : Held). x.log) tables k new))
    (gain-one (logs_of tables) k new.log (logs-here tables k h) (record { gained = e ∷ []; is = log ∙ ap (λ (l : List Entry). e ∷ l) (sym (log-at tables k old h at)); workers = (w, tt) }))

pub merge-works : (tables now : List Held) (k : ℕ) (done : Bool) (sources : List Name) → k < length tables → MatchBool done (AppendsMerge tables k sources now) (now ≡ tables) → GainWork (logs_of tables) (logs_of now)
merge-works tables now k true sources h a = work-in tables now k a.table a.after (Merge a.change.name sources a.change.count) h a.is a.rest (merge-log sources a.table a.after a.change) tt
merge-works tables now k false sources h a = gain-same (logs_of tables) (logs_of now) (ap logs_of a)

pub mutate-works : (tables now : List Held) (k : ℕ) (done : Bool) (part : Name) (upto : ℕ) → k < length tables → MatchBool done (AppendsMutate tables k part upto now) (now ≡ tables) → GainWork (logs_of tables) (logs_of now)
mutate-works tables now k true part upto h a = work-in tables now k a.table a.after (Mutate part a.change.name upto a.change.count a.change.mcount) h a.is a.rest (mutate-log part upto a.table a.after a.change) tt
mutate-works tables now k false part upto h a = gain-same (logs_of tables) (logs_of now) (ap logs_of a)
