-- A replica stays of its cell row.
use Rattle.std.proofs.Common.{◌≡◌, ℕ, Bool, true, false, cond, List, [], ◌∷◌, length, take, filter, sym, ap, subst, ◌∙◌}
use Rattle.std.specs.Prelude.{IfSome, MatchOption}
use Rattle.std.specs.declared.option.Option.{Option}
use Rattle.std.specs.declared.option.Option.TheVariants.{Some, None}
use Rattle.std.specs.declared.result.Result.{Result}
use Rattle.std.specs.declared.result.Result.TheVariants.{Ok, Err}
use Rattle.rmt_entries.specs.declared.entry.Entry.{Entry}
use Rattle.rmt_entries.specs.declared.entry.Entry.TheVariants.{Get, Merge, Mutate, Mutation, DropRange}
use Rattle.rmt_model.specs.Words.{Each}
use Rattle.rmt_model.specs.Live.{before}
use Rattle.rmt_model.specs.Lawful.{entry_at}
use Rattle.rmt_history.specs.Copies.{IsLogOf}
use Rattle.rmt_history.proofs.ListLemmas.{take-none}
use Rattle.rmt_part.specs.Lineages.{PartValue}
use Rattle.rmt_part.specs.CellRows.{IsPartOfRow}
use Rattle.rmt_partset.specs.ActiveParts.{Replace, after, put_in}
use Rattle.rmt_replica.specs.declared.supply.Supply.{Supply}
use Rattle.rmt_replica.specs.Supplies.{supplied}
use Rattle.rmt_events.specs.declared.applied.Applied.{Applied}
use Rattle.rmt_events.specs.declared.applied.Applied.TheVariants as applied
use Rattle.rmt_replica.specs.declared.apply_error.ApplyError.{ApplyError}
use Rattle.rmt_replica.specs.Answers.{IsChange, PartsAfter, settled}
use Rattle.rmt_replica.specs.Replicas.{ReplicaView, copy_of}
use Rattle.rmt_replica.specs.ReplicaRows.{IsReplicaOfRow}

each-filter : (P : PartValue → Type 0) (test : PartValue → Bool) (xs : List PartValue) → Each P xs → Each P (filter test xs)
each-filter P test [] f = tt
each-filter P test (x ∷ xs) f = go (test x) (each-filter P test xs f.1)
  where
    go : (b : Bool) → Each P (filter test xs) → Each P (cond b (x ∷ filter test xs) (filter test xs))
    go true g = (f.0, g)
    go false g = g

each-put : (P : PartValue → Type 0) (new : PartValue) (xs : List PartValue) → P new → Each P xs → Each P (put_in new xs)
each-put P new [] p f = (p, tt)
each-put P new (x ∷ xs) p f = go (before x.name new.name) (each-put P new xs p f.1)
  where
    go : (b : Bool) → Each P (put_in new xs) → Each P (cond b (x ∷ put_in new xs) (new ∷ x ∷ xs))
    go true g = (f.0, g)
    go false g = (p, f)

-- a new replica
pub new-of-row : (row : List ℕ) (r : ReplicaView) → r.log ≡ [] → r.cells ≡ [] → r.parts ≡ [] → IsReplicaOfRow row r
new-of-row row r l c p = record {
  copy = c ∙ sym (ap (λ (log : List Entry). take (length log) row) l ∙ take-none row);
  parts = subst (Each (IsPartOfRow row)) (sym p) tt;
}

-- the same copy, and parts of the row
pub parts-of-row : (row : List ℕ) (old : ReplicaView) (i : ℕ) (parts : List PartValue) → IsReplicaOfRow row old → Each (IsPartOfRow row) parts → IsReplicaOfRow row (record (settled old i) { parts = parts })
parts-of-row row old i parts of f = record { copy = of.copy; parts = f }

-- a replica that has settled an entry
pub settled-of-row : (row : List ℕ) (old : ReplicaView) (i : ℕ) → IsReplicaOfRow row old → IsReplicaOfRow row (settled old i)
settled-of-row row old i of = record { copy = of.copy; parts = of.parts }

-- parts after one of the row was put in
put-of-row : (row : List ℕ) (given : Option PartValue) (old new : List PartValue) → IfSome given (IsPartOfRow row) → Each (IsPartOfRow row) old → MatchOption given ⊥ (λ part. new ≡ after (Replace part) old) → Each (IsPartOfRow row) new
put-of-row row None old new g f m = absurd m
put-of-row row (Some part) old new g f m = subst (Each (IsPartOfRow row)) (sym m) (each-put (IsPartOfRow row) part _ g (each-filter (IsPartOfRow row) _ old f))

-- parts after an entry was done
done-of-row : (row : List ℕ) (e : Option Entry) (old : ReplicaView) (i : ℕ) (supply : Supply) (new : List PartValue) → IfSome (supplied supply) (IsPartOfRow row) → Each (IsPartOfRow row) old.parts → PartsAfter e old i supply new → Each (IsPartOfRow row) new
done-of-row row None old i supply new g f a = absurd a
done-of-row row (Some (DropRange p n)) old i supply new g f a = subst (Each (IsPartOfRow row)) (sym a) (each-filter (IsPartOfRow row) _ old.parts f)
done-of-row row (Some (Get p n digest source need)) old i supply new g f a = put-of-row row (supplied supply) old.parts new g f a
done-of-row row (Some (Merge name sources count)) old i supply new g f a = put-of-row row (supplied supply) old.parts new g f a
done-of-row row (Some (Mutate part name upto count mcount)) old i supply new g f a = put-of-row row (supplied supply) old.parts new g f a
done-of-row row (Some (Mutation id numbers command)) old i supply new g f a = absurd a

-- after `apply` of a part of the row, whatever it answers
pub applied-of-row : (row : List ℕ) (old : ReplicaView) (i : ℕ) (supply : Supply) (result : Result Applied ApplyError) (new : ReplicaView) → IsChange old i supply result new → IsReplicaOfRow row old → IfSome (supplied supply) (IsPartOfRow row) → IsReplicaOfRow row new
applied-of-row row old i supply (Err e) new c of g = subst (IsReplicaOfRow row) (sym c) of
applied-of-row row old i supply (Ok applied.Already) new c of g = subst (IsReplicaOfRow row) (sym c) (settled-of-row row old i of)
applied-of-row row old i supply (Ok applied.Dropped) new c of g = subst (IsReplicaOfRow row) (sym c) (settled-of-row row old i of)
applied-of-row row old i supply (Ok applied.Installed) new c of g =
    subst (IsReplicaOfRow row) (sym c.others) (parts-of-row row old i new.parts of (done-of-row row (entry_at old.log i) old i supply new.parts g of.parts c.parts))

-- after a pull
pub pulled-of-row : (row : List ℕ) (old new : ReplicaView) → IsReplicaOfRow row old → new.parts ≡ old.parts → IsLogOf row (copy_of new) → IsReplicaOfRow row new
pulled-of-row row old new of p c = record { copy = c; parts = subst (Each (IsPartOfRow row)) (sym p) of.parts }
