-- A client's mutates of the parts that wait for a mutation.
use Rattle.std.proofs.Common.{◌≡◌, ℕ, ◌+◌, ◌<◌, inl, inr, Bool, true, false, not, cond, nat_le, List, [], ◌∷◌, length, refl, sym, ap, subst, arith, ◌∙◌}
use Rattle.std.proofs.lemmas.Bool.Decides.{nat_tests}
use Rattle.std.proofs.lemmas.List.Sums.{sum_by-cons}
use Rattle.std.specs.declared.option.Option.{Option}
use Rattle.std.specs.declared.option.Option.TheVariants.{Some, None}
use Rattle.rmt_values.specs.Rows.{Shape}
use Rattle.rmt_values.specs.declared.limit.Limit.{Limit}
use Rattle.rmt_values.specs.declared.limit.Limit.TheVariants as limits
use Rattle.rmt_names.specs.Names.{Name}
use Rattle.rmt_entries.specs.declared.entry.Entry.{Entry}
use Rattle.rmt_entries.specs.declared.entry.Entry.TheVariants.{Mutate}
use Rattle.rmt_model.specs.Words.{Has}
use Rattle.rmt_model.specs.Live.{live}
use Rattle.rmt_model.specs.Lawful.{Lawful}
use Rattle.rmt_model.specs.Choices.{last_pending, or_next, next_among}
use Rattle.rmt_model.specs.EntryLimits.{is_client, worker_count, worker_limit}
use Rattle.rmt_model.proofs.Drops.{some-same, entry-below}
use Rattle.rmt_events.specs.LogEvents.{IsMutable}
use Rattle.rmt_table_model.specs.Held.{Held}
use Rattle.rmt_statement_model.specs.Waits.{NonePending, SomePending}
use Rattle.rmt_statement_model.proofs.PendingPlaces.{last-at}
use Rattle.rmt_statement_model.proofs.PendingLaws.{none-pending, some-pending, new-carried, pending-mutable}
use Rattle.rmt_live_names.specs.Places.{IsPlaceOf}
use Rattle.rmt_clients.specs.Clients.{Client, seeing}
use Rattle.rmt_shared.specs.SharedTables.{GainsMutate}
use Rattle.rmt_pass.specs.Passes.{SeesAs}
use Rattle.rmt_pass.specs.MutateSteps.{MutatesOneMore}

-- ---- the first part that waits

-- it is one of the names, and the place is the last one of a mutation that is pending for it
pub record IsFirst (log : List Entry) (upto : ℕ) (names : List Name) (part : Name) (last : ℕ) : Type 0 where
  pub is_in : Has names part
  pub pending : last_pending log part upto ≡ Some last

pub first-waits : (log : List Entry) (upto : ℕ) (names : List Name) (part : Name) (last : ℕ) → next_among log upto names ≡ Some (part, last) → IsFirst log upto names part last
first-waits log upto [] part last e = absurd (cc)
first-waits log upto (a ∷ names) part last e = go (last_pending log a upto) refl e (first-waits log upto names part last)
  where
    go : (o : Option ℕ) → last_pending log a upto ≡ o → or_next a o (next_among log upto names) ≡ Some (part, last) → (next_among log upto names ≡ Some (part, last) → IsFirst log upto names part last) → IsFirst log upto (a ∷ names) part last
    go None q w f = let r = f w in record { is_in = inr r.is_in; pending = r.pending }
    go (Some i) q w f =
        let s = some-same (a, i) (part, last) w in
        let n : a ≡ part = ap (λ (z : Name × ℕ). z.0) s in
        record { is_in = inl n; pending = ap (λ (x : Name). last_pending log x upto) (sym n) ∙ (q ∙ ap (λ (z : Name × ℕ). Some z.1) s) }

-- where none is found, none waits
none-waits : (log : List Entry) (upto : ℕ) (names : List Name) → next_among log upto names ≡ None → (a : Name) → Has names a → last_pending log a upto ≡ None
none-waits log upto [] e a h = absurd h
none-waits log upto (x ∷ names) e a h = go (last_pending log x upto) refl e h (λ w k. none-waits log upto names w a k)
  where
    go : (o : Option ℕ) → last_pending log x upto ≡ o → or_next x o (next_among log upto names) ≡ None → Has (x ∷ names) a → (next_among log upto names ≡ None → Has names a → last_pending log a upto ≡ None) → last_pending log a upto ≡ None
    go (Some i) q w k f = absurd (cc)
    go None q w (inl s) f = ap (λ (y : Name). last_pending log y upto) (sym s) ∙ q
    go None q w (inr k) f = f w k

-- the place of a mutation is below the length
pub place-below : (log : List Entry) (id place : ℕ) → IsPlaceOf log id place → place < length log
place-below log id place p = entry-below log place _ p.2

module _ (schema : Shape) (log : List Entry) (lawful : Lawful schema log) (id place : ℕ) (at : IsPlaceOf log id place) where
  pub none-left : next_among log (place + 1) (live log) ≡ None → NonePending log id
  none-left e = none-pending schema log place id at.0 at.1 lawful at.2 (none-waits log (place + 1) (live log) e)

  pub some-left : (part : Name) (last : ℕ) → IsFirst log (place + 1) (live log) part last → SomePending log id
  some-left part last f = some-pending schema log place id last at.0 at.1 part lawful at.2 f.is_in f.pending

  pub first-mutable : (part : Name) (last : ℕ) → IsFirst log (place + 1) (live log) part last → IsMutable log part last
  first-mutable part last f = (pending-mutable schema log (place + 1) part last lawful f.is_in f.pending).0

-- ---- it is mutated

-- below the limit of worker entries there is room for one more
room-below : (log : List Entry) → worker_limit log ≡ None → worker_count log < 32768
room-below log e = go (nat_le 32768 (worker_count log)) refl e
  where
    go : (b : Bool) → nat_le 32768 (worker_count log) ≡ b → cond {A = Option (Limit × ℕ)} b (Some (limits.WorkerEntries, worker_count log)) None ≡ None → worker_count log < 32768
    go true q w = absurd (cc)
    go false q w = grind (arith, nat_tests)

pub mutates-one-more : (m q : Client) (t u : Held) (id place : ℕ) (part : Name) (last : ℕ) → SeesAs m t → Lawful t.schema t.log → IsPlaceOf m.log id place → last_pending m.log part (place + 1) ≡ Some last → (g : GainsMutate t part last u) → q ≡ seeing (Mutate part g.name last g.count g.mcount ∷ []) [] m → MutatesOneMore id m q
mutates-one-more m q t u id place part last s lawful at pending g is = record {
  place = place;
  is_place = at;
  entry = e;
  mutates = (omega (arith, below), new-carried m.schema m.log place id last g.count g.mcount part g.name at.0 at.1 more at.2 pending);
  few = omega (arith, room, count);
  lawful = more;
  seen = is;
}
  where
    e : Entry
    e = Mutate part g.name last g.count g.mcount

    below : last < place + 1
    below = (last-at m.log part (place + 1) last pending).below

    more : Lawful m.schema (Mutate part g.name last g.count g.mcount ∷ m.log)
    more = subst (λ (c : Shape). Lawful c (Mutate part g.name last g.count g.mcount ∷ m.log)) (sym s.schema)
        (subst (λ (x : List Entry). Lawful t.schema (Mutate part g.name last g.count g.mcount ∷ x)) (sym s.log) (lawful, g.assigns.meets))

    room : worker_count m.log < 32768
    room = room-below m.log (ap worker_limit s.log ∙ g.assigns.within)

    count : worker_count (Mutate part g.name last g.count g.mcount ∷ m.log) ≡ 1 + worker_count m.log
    count = sum_by-cons (λ x. cond (not (is_client x)) 1 0) (Mutate part g.name last g.count g.mcount) m.log
