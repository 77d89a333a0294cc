-- A replica stays one of its table, whatever reaches it from outside of its log.
use Rattle.std.proofs.Common.{◌≡◌, ℕ, Bool, List, [], ◌∷◌, sym, subst}
use Rattle.std.specs.Prelude.{OnOk, OnErr}
use Rattle.std.specs.BTreeMap.{insert_entry, is_at}
use Rattle.std.specs.Ordering.{match_ordering}
use Rattle.std.specs.declared.cmp.Ordering.{Ordering}
use Rattle.std.specs.declared.cmp.Ordering.TheVariants.{Less, Equal, Greater}
use Rattle.std.specs.declared.result.Result.{Result}
use Rattle.std.specs.declared.result.Result.TheVariants.{Ok, Err}
use Rattle.rmt_block.specs.Blocks.{BlockView}
use Rattle.rmt_model.specs.Words.{Each}
use Rattle.rmt_events.specs.Views.{Block}
use Rattle.rmt_events.specs.Clusters.{without_kinds}
use Rattle.rmt_replica.specs.declared.block_number.BlockNumber.{BlockNumber}
use Rattle.rmt_replica.specs.declared.replica_error.ReplicaError.{ReplicaError}
use Rattle.rmt_replica.specs.StagedBlocks.{Staged, number_cmp, with_staged, without}
use Rattle.rmt_replica.specs.Replicas.{ReplicaView}
use Rattle.rmt_shared.specs.SharedTables.{NamedTable, name_at}
use Rattle.rmt_shared.specs.SharedReplicas.{IsSharedReplica, FitsColumns}
use Rattle.rmt_shared.specs.ReplicaSupplies.{IsBlockOfNamed}
use Rattle.rmt_shared.proofs.InstallLemmas.{each-without}

each-insert : {K V : Type 0} (P : V → Type 0) (cmp : K → K → Ordering) (es : List (K × V)) (k : K) (x : V) → P x → Each (λ z. P z.1) es → Each (λ z. P z.1) (insert_entry cmp es k x)
each-insert P cmp [] k x p f = (p, tt)
each-insert {K} {V} P cmp (e ∷ es) k x p f = go (cmp k e.0) (each-insert P cmp es k x p f.1)
  where
    go : (o : Ordering) → Each (λ z. P z.1) (insert_entry cmp es k x) → Each (λ z. P z.1) (match_ordering o ((k, x) ∷ e ∷ es) ((e.0, x) ∷ es) (e ∷ insert_entry cmp es k x))
    go Less h = (p, f)
    go Equal h = (p, f.1)
    go Greater h = (f.0, h)

module _ (names : List NamedTable) (replicas : ℕ) (Offered : ℕ → Block → Type 0) (table : ℕ) where
  abbrev pub Shared : ReplicaView → Type 0
  Shared r = IsSharedReplica names replicas Offered (record { table = table; replica = r })

  -- other marks, up or down, with or without fetches, and with other blocks of the table that are staged
  with-staged : (old : ReplicaView) (up fetches : Bool) (done : List Bool) (staged : Staged) → Shared old → Each (λ z. Offered table (without_kinds z.1)) staged → Each (λ z. FitsColumns (name_at names table).schema z.1) staged → Shared (record old { up = up; fetches = fetches; done = done; staged = staged })
  with-staged old up fetches done staged s offered fit = record {
    number = s.number;
    few = s.few;
    schema = s.schema;
    row = record { copy = s.row.copy; parts = s.row.parts };
    blocks = record { staged = offered; parts = s.blocks.parts };
    fitting = fit;
  }

  pub staged-shared : (old : ReplicaView) (at : BlockNumber) (b : BlockView) → Shared old → IsBlockOfNamed (name_at names table) (Offered table) b → Shared (record old { staged = with_staged old.staged at b })
  staged-shared old at b s f = with-staged old old.up old.fetches old.done (with_staged old.staged at b) s
      (each-insert (λ x. Offered table (without_kinds x)) number_cmp old.staged at b f.offered s.blocks.staged)
      (each-insert (FitsColumns (name_at names table).schema) number_cmp old.staged at b f.fit s.fitting)

  -- after `stage`, whatever it answers
  pub stage-shared : (old new : ReplicaView) (at : BlockNumber) (b : BlockView) (result : Result (Unit {0}) ReplicaError) → Shared old → IsBlockOfNamed (name_at names table) (Offered table) b → OnOk result (new ≡ record old { staged = with_staged old.staged at b }) → OnErr result (new ≡ old) → Shared new
  stage-shared old new at b (Ok x) s f ok err = subst Shared (sym ok) (staged-shared old at b s f)
  stage-shared old new at b (Err e) s f ok err = subst Shared (sym err) s

  pub unstage-shared : (old new : ReplicaView) (at : BlockNumber) → Shared old → new ≡ record old { staged = without old.staged at } → Shared new
  unstage-shared old new at s e = subst Shared (sym e) (with-staged old old.up old.fetches old.done (without old.staged at) s
      (each-without (λ z. Offered table (without_kinds z.1)) (is_at (number_cmp at)) old.staged s.blocks.staged)
      (each-without (λ z. FitsColumns (name_at names table).schema z.1) (is_at (number_cmp at)) old.staged s.fitting))

  -- up or down, with or without fetches, and with other marks
  pub turned-shared : (old new : ReplicaView) (up fetches : Bool) (done : List Bool) → Shared old → new ≡ record old { up = up; fetches = fetches; done = done } → Shared new
  turned-shared old new up fetches done s e = subst Shared (sym e) (with-staged old up fetches done old.staged s s.blocks.staged s.fitting)
