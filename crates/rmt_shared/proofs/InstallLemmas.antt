-- A replica holds offered blocks alone, whatever it was told to do of its log.
use Rattle.std.proofs.Common.{◌≡◌, ℕ, Bool, true, false, cond, List, [], ◌∷◌, filter, sym, subst}
use Rattle.std.specs.Prelude.{IfSome, MatchOption}
use Rattle.std.specs.Map.{remove_entry}
use Rattle.std.specs.BTreeMap.{is_at}
use Rattle.std.specs.declared.option.Option.{Option}
use Rattle.std.specs.declared.option.Option.TheVariants.{Some, None}
use Rattle.std.specs.declared.result.Result.{Result}
use Rattle.std.specs.declared.result.Result.TheVariants.{Ok, Err}
use Rattle.rmt_entries.specs.declared.entry.Entry.{Entry}
use Rattle.rmt_entries.specs.declared.entry.Entry.TheVariants.{Get, Merge, Mutate, Mutation, DropRange}
use Rattle.rmt_block.specs.Blocks.{BlockView}
use Rattle.rmt_model.specs.Words.{Each}
use Rattle.rmt_model.specs.Live.{before}
use Rattle.rmt_model.specs.Lawful.{entry_at}
use Rattle.rmt_events.specs.Views.{Block}
use Rattle.rmt_events.specs.Clusters.{without_kinds}
use Rattle.rmt_events.specs.declared.applied.Applied.{Applied}
use Rattle.rmt_events.specs.declared.applied.Applied.TheVariants as applied
use Rattle.rmt_part.specs.Lineages.{PartValue}
use Rattle.rmt_partset.specs.ActiveParts.{Replace, after, put_in}
use Rattle.rmt_replica.specs.declared.block_number.BlockNumber.{BlockNumber}
use Rattle.rmt_replica.specs.declared.supply.Supply.{Supply}
use Rattle.rmt_replica.specs.declared.apply_error.ApplyError.{ApplyError}
use Rattle.rmt_replica.specs.Supplies.{supplied}
use Rattle.rmt_replica.specs.StagedBlocks.{Staged, number_cmp}
use Rattle.rmt_replica.specs.Answers.{IsChange, PartsAfter, settled, released}
use Rattle.rmt_replica.specs.Replicas.{ReplicaView}
use Rattle.rmt_shared.specs.SharedTables.{NamedTable, name_at}
use Rattle.rmt_shared.specs.SharedReplicas.{IsSharedReplica, HoldsOnly, IsMadeOf, FitsColumns}
use Rattle.rmt_part.specs.CellRows.{IsPartOfRow}
use Rattle.rmt_replica.proofs.RowLemmas.{applied-of-row}

each-filter : (P : PartValue → Type 0) (test : PartValue → Bool) (xs : List PartValue) → Each P xs → Each P (filter test xs)
each-filter P test [] f = tt
each-filter P test (x ∷ xs) f = go (test x) (each-filter P test xs f.1)
  where
    go : (b : Bool) → Each P (filter test xs) → Each P (cond b (x ∷ filter test xs) (filter test xs))
    go true g = (f.0, g)
    go false g = g

each-put : (P : PartValue → Type 0) (new : PartValue) (xs : List PartValue) → P new → Each P xs → Each P (put_in new xs)
each-put P new [] p f = (p, tt)
each-put P new (x ∷ xs) p f = go (before x.name new.name) (each-put P new xs p f.1)
  where
    go : (b : Bool) → Each P (put_in new xs) → Each P (cond b (x ∷ put_in new xs) (new ∷ x ∷ xs))
    go true g = (f.0, g)
    go false g = (p, f)

-- ---- staged blocks

pub each-without : (Q : BlockNumber × BlockView → Type 0) (test : BlockNumber → Bool) (xs : Staged) → Each Q xs → Each Q (remove_entry test xs)
each-without Q test [] f = tt
each-without Q test (x ∷ xs) f = go (test x.0) (each-without Q test xs f.1)
  where
    go : (b : Bool) → Each Q (remove_entry test xs) → Each Q (cond b xs (x ∷ remove_entry test xs))
    go true g = f.1
    go false g = (f.0, g)

each-released : (Q : BlockNumber × BlockView → Type 0) (e : Option Entry) (staged : Staged) → Each Q staged → Each Q (released e staged)
each-released Q None staged f = f
each-released Q (Some (Get p n digest source need)) staged f = each-without Q (is_at (number_cmp (record { partition = p; number = n }))) staged f
each-released Q (Some (Merge new sources count)) staged f = f
each-released Q (Some (Mutate old new upto count mcount)) staged f = f
each-released Q (Some (Mutation id numbers command)) staged f = f
each-released Q (Some (DropRange p n)) staged f = f

-- ---- parts

put-parts : (P : PartValue → Type 0) (given : Option PartValue) (old new : List PartValue) → IfSome given P → Each P old → MatchOption given ⊥ (λ part. new ≡ after (Replace part) old) → Each P new
put-parts P None old new g f m = absurd m
put-parts P (Some part) old new g f m = subst (Each P) (sym m) (each-put P part _ g (each-filter P _ old f))

done-parts : (P : PartValue → Type 0) (e : Option Entry) (old : ReplicaView) (i : ℕ) (supply : Supply) (new : List PartValue) → IfSome (supplied supply) P → Each P old.parts → PartsAfter e old i supply new → Each P new
done-parts P None old i supply new g f a = absurd a
done-parts P (Some (DropRange p n)) old i supply new g f a = subst (Each P) (sym a) (each-filter P _ old.parts f)
done-parts P (Some (Get p n digest source need)) old i supply new g f a = put-parts P (supplied supply) old.parts new g f a
done-parts P (Some (Merge name sources count)) old i supply new g f a = put-parts P (supplied supply) old.parts new g f a
done-parts P (Some (Mutate part name upto count mcount)) old i supply new g f a = put-parts P (supplied supply) old.parts new g f a
done-parts P (Some (Mutation id numbers command)) old i supply new g f a = absurd a

-- ---- the replica

module _ (Offered : Block → Type 0) where
  settled-holds : (old : ReplicaView) (i : ℕ) → HoldsOnly Offered old → HoldsOnly Offered (settled old i)
  settled-holds old i f = record { staged = each-released (λ s. Offered (without_kinds s.1)) (entry_at old.log i) old.staged f.staged; parts = f.parts }

  applied-holds : (old : ReplicaView) (i : ℕ) (supply : Supply) (result : Result Applied ApplyError) (new : ReplicaView) → IsChange old i supply result new → HoldsOnly Offered old → IfSome (supplied supply) (IsMadeOf Offered) → HoldsOnly Offered new
  applied-holds old i supply (Err e) new c f g = subst (HoldsOnly Offered) (sym c) f
  applied-holds old i supply (Ok applied.Already) new c f g = subst (HoldsOnly Offered) (sym c) (settled-holds old i f)
  applied-holds old i supply (Ok applied.Dropped) new c f g = subst (HoldsOnly Offered) (sym c) (settled-holds old i f)
  applied-holds old i supply (Ok applied.Installed) new c f g = subst (HoldsOnly Offered) (sym c.others) (record {
    staged = each-released (λ s. Offered (without_kinds s.1)) (entry_at old.log i) old.staged f.staged;
    parts = done-parts (IsMadeOf Offered) (entry_at old.log i) old i supply new.parts g f.parts c.parts;
  })

-- it stays one of its table
pub applied-replica : (names : List NamedTable) (replicas : ℕ) (Offered : ℕ → Block → Type 0) (table : ℕ) (old : ReplicaView) (i : ℕ) (supply : Supply) (result : Result Applied ApplyError) (new : ReplicaView) → IsChange old i supply result new → IsSharedReplica names replicas Offered (record { table = table; replica = old })
    → IfSome (supplied supply) (IsPartOfRow (name_at names table).row) → IfSome (supplied supply) (IsMadeOf (Offered table)) → IsSharedReplica names replicas Offered (record { table = table; replica = new })
applied-replica names replicas Offered table old i supply (Err e) new c s row made = subst (λ (r : ReplicaView). IsSharedReplica names replicas Offered (record { table = table; replica = r })) (sym c) s
applied-replica names replicas Offered table old i supply (Ok applied.Already) new c s row made = subst (λ (r : ReplicaView). IsSharedReplica names replicas Offered (record { table = table; replica = r })) (sym c) (record {
  number = s.number;
  few = s.few;
  schema = s.schema;
  row = record { copy = s.row.copy; parts = s.row.parts };
  blocks = settled-holds (Offered table) old i s.blocks;
  fitting = each-released (λ z. FitsColumns (name_at names table).schema z.1) (entry_at old.log i) old.staged s.fitting;
})
applied-replica names replicas Offered table old i supply (Ok applied.Dropped) new c s row made = subst (λ (r : ReplicaView). IsSharedReplica names replicas Offered (record { table = table; replica = r })) (sym c) (record {
  number = s.number;
  few = s.few;
  schema = s.schema;
  row = record { copy = s.row.copy; parts = s.row.parts };
  blocks = settled-holds (Offered table) old i s.blocks;
  fitting = each-released (λ z. FitsColumns (name_at names table).schema z.1) (entry_at old.log i) old.staged s.fitting;
})
applied-replica names replicas Offered table old i supply (Ok applied.Installed) new c s row made =
    let of = applied-of-row (name_at names table).row old i supply (Ok applied.Installed) new c s.row row in
    let holds = applied-holds (Offered table) old i supply (Ok applied.Installed) new c s.blocks made in
    subst (λ (r : ReplicaView). IsSharedReplica names replicas Offered (record { table = table; replica = r })) (sym c.others) (record {
      number = s.number;
      few = s.few;
      schema = s.schema;
      row = record { copy = s.row.copy; parts = of.parts };
      blocks = record { staged = each-released (λ z. Offered table (without_kinds z.1)) (entry_at old.log i) old.staged s.blocks.staged; parts = holds.parts };
      fitting = each-released (λ z. FitsColumns (name_at names table).schema z.1) (entry_at old.log i) old.staged s.fitting;
    })
