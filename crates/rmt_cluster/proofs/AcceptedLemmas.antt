-- What is staged for an entry of the log is the block that it accepted.
use Rattle.std.proofs.Common.{◌≡◌, ℕ, inl, inr, Bool, true, false, cond, List, [], ◌∷◌, length, map, refl, sym, ap, subst, ◌∙◌, nat_eq}
use Rattle.std.specs.Prelude.{IfSome}
use Rattle.std.specs.List.{All}
use Rattle.std.specs.Arc.{arc_value}
use Rattle.std.specs.declared.option.Option.{Option}
use Rattle.std.specs.declared.option.Option.TheVariants.{Some, None}
use Rattle.rmt_values.specs.Rows.{Shape, fits}
use Rattle.rmt_entries.specs.declared.entry.Entry.TheVariants as entries
use Rattle.rmt_block.specs.Blocks.{BlockView}
use Rattle.rmt_model.specs.Words.{Has, Each}
use Rattle.rmt_model.specs.Lawful.{entry_at}
use Rattle.rmt_model.specs.Content.{Row}
use Rattle.rmt_model.proofs.Lists.{Each-at}
use Rattle.rmt_replica.specs.Replicas.{ReplicaView, IsStandingReplica}
use Rattle.rmt_replica.specs.StagedBlocks.{staged_at}
use Rattle.rmt_replica.specs.SeenReplica.{shown}
use Rattle.rmt_replica.proofs.StagedViews.{found}
use Rattle.rmt_events.specs.Views.{Block}
use Rattle.rmt_events.specs.Clusters.{Cluster, block_of, committed_at, without_kinds}
use Rattle.rmt_events.specs.Whole.{Follows, IsRightlyStaged, IsCommitted}
use Rattle.rmt_events.specs.declared.event.Event.{Event}
use Rattle.rmt_events.specs.declared.event.Event.TheVariants as ev
use Rattle.rmt_events.specs.declared.reply.Reply.{Reply}
use Rattle.rmt_events.specs.declared.reply.Reply.TheVariants as rp
use Rattle.rmt_supply.specs.PartSources.{IsAccepted}
use Rattle.rmt_state.specs.States.{StateView, cluster_of}
use Rattle.rmt_cluster.specs.Attempts.{OpenAttempts}
use Rattle.rmt_cluster.specs.Acting.{KeepsAccepted}
use Rattle.rmt_cluster.specs.Clusters.{IsTaken, IsCluster}

-- ---- the blocks of the events

-- the rows fit the table's columns
abbrev FitColumns : Shape → List Row → Type 0
FitColumns schema rows = All (λ row. fits schema.columns row ≡ true) rows

abbrev AreTaken : Shape → ℕ → List (Event × Reply) → Type 0
AreTaken schema count events = Each (λ x. IsTaken schema count x.0) events

rows-of : (b c : Block) → ◌≡◌ {A = Option Block} (Some b) (Some c) → b.rows ≡ c.rows
rows-of b c e = cc

-- the block of an attempt
tried : (schema : Shape) (count : ℕ) (events : List (Event × Reply)) (a : ℕ) (b : Block) → AreTaken schema count events → block_of events a ≡ Some b → FitColumns schema b.rows
tried schema count [] a b t e = absurd (cc)
tried schema count ((ev.Allocate k x need, rp.Attempt id n) ∷ rest) a b t e = go (nat_eq id a) e (tried schema count rest a b t.1)
  where
    go : (c : Bool) → cond c (Some (without_kinds (arc_value x))) (block_of rest a) ≡ Some b → (block_of rest a ≡ Some b → FitColumns schema b.rows) → FitColumns schema b.rows
    go true q f = subst (FitColumns schema) (rows-of (without_kinds (arc_value x)) b q) t.0.2
    go false q f = f q
tried schema count ((ev.Allocate k x need, rp.Entry j) ∷ rest) a b t e = tried schema count rest a b t.1 e
tried schema count ((ev.Allocate k x need, rp.Applied j) ∷ rest) a b t e = tried schema count rest a b t.1 e
tried schema count ((ev.Allocate k x need, rp.Pulled j) ∷ rest) a b t e = tried schema count rest a b t.1 e
tried schema count ((ev.Allocate k x need, rp.Noted j) ∷ rest) a b t e = tried schema count rest a b t.1 e
tried schema count ((ev.Allocate k x need, rp.Done) ∷ rest) a b t e = tried schema count rest a b t.1 e
tried schema count ((ev.Allocate k x need, rp.Refused j) ∷ rest) a b t e = tried schema count rest a b t.1 e
tried schema count ((ev.Again id, r) ∷ rest) a b t e = tried schema count rest a b t.1 e
tried schema count ((ev.Stage id, r) ∷ rest) a b t e = tried schema count rest a b t.1 e
tried schema count ((ev.Commit id, r) ∷ rest) a b t e = tried schema count rest a b t.1 e
tried schema count ((ev.Abandon id, r) ∷ rest) a b t e = tried schema count rest a b t.1 e
tried schema count ((ev.Pull k, r) ∷ rest) a b t e = tried schema count rest a b t.1 e
tried schema count ((ev.Apply k i, r) ∷ rest) a b t e = tried schema count rest a b t.1 e
tried schema count ((ev.Merge k names, r) ∷ rest) a b t e = tried schema count rest a b t.1 e
tried schema count ((ev.Mutate k old upto, r) ∷ rest) a b t e = tried schema count rest a b t.1 e
tried schema count ((ev.CreateMutation command, r) ∷ rest) a b t e = tried schema count rest a b t.1 e
tried schema count ((ev.DropPartition p, r) ∷ rest) a b t e = tried schema count rest a b t.1 e
tried schema count ((ev.Kill k, r) ∷ rest) a b t e = tried schema count rest a b t.1 e
tried schema count ((ev.Restart k, r) ∷ rest) a b t e = tried schema count rest a b t.1 e
tried schema count ((ev.Note k, r) ∷ rest) a b t e = tried schema count rest a b t.1 e
tried schema count ((ev.Fetches k allowed, r) ∷ rest) a b t e = tried schema count rest a b t.1 e

-- the block that was committed at a place
committed : (schema : Shape) (count : ℕ) (events : List (Event × Reply)) (i : ℕ) (b : Block) → AreTaken schema count events → committed_at events i ≡ Some b → FitColumns schema b.rows
committed schema count [] i b t e = absurd (cc)
committed schema count ((ev.Commit a, rp.Entry j) ∷ rest) i b t e = go (nat_eq j i) e (committed schema count rest i b t.1)
  where
    go : (c : Bool) → cond c (block_of rest a) (committed_at rest i) ≡ Some b → (committed_at rest i ≡ Some b → FitColumns schema b.rows) → FitColumns schema b.rows
    go true q f = tried schema count rest a b t.1 q
    go false q f = f q
committed schema count ((ev.Commit a, rp.Attempt id n) ∷ rest) i b t e = committed schema count rest i b t.1 e
committed schema count ((ev.Commit a, rp.Applied j) ∷ rest) i b t e = committed schema count rest i b t.1 e
committed schema count ((ev.Commit a, rp.Pulled j) ∷ rest) i b t e = committed schema count rest i b t.1 e
committed schema count ((ev.Commit a, rp.Noted j) ∷ rest) i b t e = committed schema count rest i b t.1 e
committed schema count ((ev.Commit a, rp.Done) ∷ rest) i b t e = committed schema count rest i b t.1 e
committed schema count ((ev.Commit a, rp.Refused j) ∷ rest) i b t e = committed schema count rest i b t.1 e
committed schema count ((ev.Allocate k x need, r) ∷ rest) i b t e = committed schema count rest i b t.1 e
committed schema count ((ev.Again id, r) ∷ rest) i b t e = committed schema count rest i b t.1 e
committed schema count ((ev.Stage id, r) ∷ rest) i b t e = committed schema count rest i b t.1 e
committed schema count ((ev.Abandon id, r) ∷ rest) i b t e = committed schema count rest i b t.1 e
committed schema count ((ev.Pull k, r) ∷ rest) i b t e = committed schema count rest i b t.1 e
committed schema count ((ev.Apply k j, r) ∷ rest) i b t e = committed schema count rest i b t.1 e
committed schema count ((ev.Merge k names, r) ∷ rest) i b t e = committed schema count rest i b t.1 e
committed schema count ((ev.Mutate k old upto, r) ∷ rest) i b t e = committed schema count rest i b t.1 e
committed schema count ((ev.CreateMutation command, r) ∷ rest) i b t e = committed schema count rest i b t.1 e
committed schema count ((ev.DropPartition p, r) ∷ rest) i b t e = committed schema count rest i b t.1 e
committed schema count ((ev.Kill k, r) ∷ rest) i b t e = committed schema count rest i b t.1 e
committed schema count ((ev.Restart k, r) ∷ rest) i b t e = committed schema count rest i b t.1 e
committed schema count ((ev.Note k, r) ∷ rest) i b t e = committed schema count rest i b t.1 e
committed schema count ((ev.Fetches k allowed, r) ∷ rest) i b t e = committed schema count rest i b t.1 e

-- ---- what is staged

has-shown : (rs : List ReplicaView) (r : ReplicaView) → Has rs r → Has (map shown rs) (shown r)
has-shown [] r h = absurd h
has-shown (x ∷ rs) r (inl e) = inl (ap shown e)
has-shown (x ∷ rs) r (inr h) = inr (has-shown rs r h)

digest-of : (b c : Block) → ◌≡◌ {A = Option Block} (Some b) (Some c) → b.digest ≡ c.digest
digest-of b c e = cc

-- the block that is staged for a Get of a cluster
staged-accepted : (s : StateView) (a : OpenAttempts) (events : List (Event × Reply)) (i : ℕ) (p : Option ℕ) (n source need : ℕ) (digest : List ℕ) (r : ReplicaView) (b : BlockView) → IsCluster s a events → Has s.replicas r → IsStandingReplica r
    → entry_at s.tree.log i ≡ Some (entries.Get p n digest source need) → staged_at r.staged (record { partition = p; number = n }) ≡ Some b → IsAccepted s.tree.schema (entries.Get p n digest source need) b
staged-accepted s a events i p n source need digest r b c h t at q = record {
  gets = (sym f.1, sym k.same_id ∙ digest-of k.block (without_kinds b) (sym k.is ∙ stands));
  fit = committed s.tree.schema (length s.replicas) events i (without_kinds b) c.taken stands;
}
  where
    z : Cluster
    z = cluster_of s a.made a.open_ones events

    f : Has (shown r).staged (record { number = n; block = without_kinds b }) × (b.partition ≡ p)
    f = found (record { partition = p; number = n }) r.staged b t.waiting.own q

    right : IsRightlyStaged z (record { number = n; block = without_kinds b })
    right = Each-at (IsRightlyStaged z) (shown r).staged _ (Follows.waiting (Each-at (Follows z) (map shown s.replicas) (shown r) c.whole.follow (has-shown s.replicas r h))) f.0

    stands : committed_at events i ≡ Some (without_kinds b)
    stands = right.of_get i source need digest (subst (λ (o : Option ℕ). entry_at s.tree.log i ≡ Some (entries.Get o n digest source need)) (sym f.1) at)

    k : IsCommitted z i p digest
    k = (c.whole.committed i p n source need digest at).0

pub keeps-accepted : (s : StateView) (a : OpenAttempts) (events : List (Event × Reply)) → IsCluster s a events → KeepsAccepted s
keeps-accepted s a events c r h t i (entries.Get p n digest source need) at = go (staged_at r.staged (record { partition = p; number = n })) refl
  where
    go : (o : Option BlockView) → staged_at r.staged (record { partition = p; number = n }) ≡ o → IfSome o (IsAccepted s.tree.schema (entries.Get p n digest source need))
    go None q = tt
    go (Some b) q = staged-accepted s a events i p n source need digest r b c h t at q
keeps-accepted s a events c r h t i (entries.Merge new sources count) at = tt
keeps-accepted s a events c r h t i (entries.Mutate old new upto count mcount) at = tt
keeps-accepted s a events c r h t i (entries.Mutation id numbers command) at = tt
keeps-accepted s a events c r h t i (entries.DropRange p n) at = tt
