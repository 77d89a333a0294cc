-- What was taken out of a replica, and what is built of it.
use Rattle.std.proofs.Common.{◌≡◌, ℕ, ◌+◌, ◌≤◌, ◌∙◌, List, [], length, map, refl, sym, ap, subst}
use Rattle.std.specs.Prelude.{slice_get, IfSome, MatchOption}
use Rattle.std.specs.Arc.{arc_value}
use Rattle.std.specs.declared.option.Option.{Option}
use Rattle.std.specs.declared.option.Option.TheVariants.{Some, None}
use Rattle.rmt_values.specs.Rows.{Shape}
use Rattle.rmt_names.specs.Names.{Name}
use Rattle.rmt_entries.specs.declared.entry.Entry.{Entry}
use Rattle.rmt_entries.specs.declared.entry.Entry.TheVariants.{Merge, Mutate}
use Rattle.rmt_row.specs.Token.{Token}
use Rattle.rmt_block.specs.Blocks.{BlockView}
use Rattle.rmt_model.specs.Words.{Has}
use Rattle.rmt_model.specs.Lawful.{entry_at}
use Rattle.rmt_model.proofs.Drops.{entry-has}
use Rattle.rmt_history.specs.Copies.{History}
use Rattle.rmt_history.specs.Mutations.{mutations_below, AreTokensBelow}
use Rattle.rmt_part.specs.Lineages.{PartValue, IsPart}
use Rattle.rmt_partset.specs.ActiveParts.{part_names}
use Rattle.rmt_compact.specs.NewParts.{IsOfBlock, IsMerged, IsMutated}
use Rattle.rmt_compact.proofs.MutatedPartLemmas.{has-mutations}
use Rattle.rmt_replica.specs.Replicas.{ReplicaView, IsStandingReplica, copy_of}
use Rattle.rmt_replica.specs.Answers as own
use Rattle.rmt_replica.specs.declared.why.Why.TheVariants as whys
use Rattle.rmt_replica.specs.declared.supply.Supply.{Supply}
use Rattle.rmt_replica.specs.declared.supply.Supply.TheVariants as supplies
use Rattle.rmt_supply.specs.declared.taken.Taken.{Taken}
use Rattle.rmt_supply.specs.declared.taken.Taken.TheVariants as taken
use Rattle.rmt_supply.specs.PartSources.{AreOfOneTable, IsAccepted, NeedsNone, Does, IsBuilt, Suits, AreActive, IsOfStaged}
use Rattle.rmt_supply.specs.TakenParts.{IsTokenAt, IsTaken, TakesBlock, TakesSources, TakesOld, CanBuild, HasAccepted, BuildsPart, IsSupplyOf}
use Rattle.rmt_supply.proofs.OwnParts.{merge-of, merged-made, mutate-of, mutated-made}
use Rattle.rmt_supply.proofs.SearchLemmas.{accepted-here, merged-built, mutated-built, staged-built}

-- ---- what is taken

-- the token of an entry that was read of a replica's copy
pub token-read : {A : Type 0} (o : Option A) (see : A → Token Entry) (copy : History) (r : ReplicaView) (i : ℕ) (x : A) → MatchOption o (length copy.log ≤ i) (λ t. entry_at copy.log i ≡ Some (see t).value) → IfSome o (λ t. (see t).place ≡ i) → IfSome o (λ t. slice_get copy.cells i ≡ Some (see t).cell) → o ≡ Some x → copy.log ≡ r.log → copy.cells ≡ r.cells → IsTokenAt r i (see x)
token-read {A} o see copy r i x m p c e l k = record {
  entry = subst (λ (es : List Entry). entry_at es i ≡ Some (see x).value) l (subst (λ (v : Option A). MatchOption v (length copy.log ≤ i) (λ t. entry_at copy.log i ≡ Some (see t).value)) e m);
  place = subst (λ (v : Option A). IfSome v (λ t. (see t).place ≡ i)) e p;
  cell = subst (λ (cs : List ℕ). slice_get cs i ≡ Some (see x).cell) k (subst (λ (v : Option A). IfSome v (λ t. slice_get copy.cells i ≡ Some (see t).cell)) e c);
}

pub ready-token : (r : ReplicaView) (i : ℕ) (v : Entry) → own.IsWhy r i whys.Ready → entry_at r.log i ≡ Some v → own.IsReady r v
ready-token r i v h q = subst (λ (o : Option Entry). IfSome o (own.IsReady r)) q h.1

pub takes-old : (r : ReplicaView) (i : ℕ) (old : PartValue) (tokens : List (Token Entry)) (mutate token : Token Entry) (name new : Name) (upto count mcount : ℕ) → own.IsWhy r i whys.Ready → IsTokenAt r i token → token.value ≡ Mutate name new upto count mcount → Has r.parts old → old.name ≡ name
    → AreTokensBelow (copy_of r) (upto + 1) (mutations_below r.log (upto + 1)) tokens → mutate ≡ token → TakesOld r i old tokens mutate
takes-old r i old tokens mutate token name new upto count mcount w t v h n b e =
    subst (TakesOld r i old tokens) (sym e) (record { ready = w; token = t; new = new; upto = upto; count = count; mcount = mcount; entry = v ∙ ap (λ (a : Name). Mutate a new upto count mcount) (sym n); active = h; below = b })

-- there is a mutation up to the last that a Mutate of the copy applies
pub some-mutations : (r : ReplicaView) (i : ℕ) (v : Entry) (name new : Name) (upto count mcount : ℕ) → IsStandingReplica r → entry_at r.log i ≡ Some v → v ≡ Mutate name new upto count mcount → mutations_below r.log (upto + 1) ≡ [] → ⊥
some-mutations r i v name new upto count mcount s q e = has-mutations r.schema r.log name new upto count mcount s.lawful (subst (Has r.log) e (entry-has r.log i v q))

-- ---- what was taken can be built

-- sources that were taken are active
sources-active : (r : ReplicaView) (i : ℕ) (parts : List PartValue) (merge : Token Entry) → TakesSources r i parts merge → AreActive r (part_names parts) parts
sources-active r i parts merge h = record { named = refl; active = h.active }

merge-there : (r : ReplicaView) (i : ℕ) (parts : List PartValue) (merge : Token Entry) → (h : TakesSources r i parts merge) → entry_at r.log i ≡ Some (Merge h.new (part_names parts) h.count)
merge-there r i parts merge h = h.token.entry ∙ ap (λ (e : Entry). Some e) h.entry

mutate-there : (r : ReplicaView) (i : ℕ) (old : PartValue) (tokens : List (Token Entry)) (mutate : Token Entry) → (h : TakesOld r i old tokens mutate) → entry_at r.log i ≡ Some (Mutate old.name h.new h.upto h.count h.mcount)
mutate-there r i old tokens mutate h = h.token.entry ∙ ap (λ (e : Entry). Some e) h.entry

pub can-build : (r : ReplicaView) (i : ℕ) (t : Taken) → IsStandingReplica r → IsTaken r i t → CanBuild t
can-build r i taken.Nothing s h = tt
can-build r i (taken.Block block get) s h = tt
can-build r i (taken.Sources sources merge) s h =
    let parts = map arc_value sources.items in
    merge-of r i h.new (part_names parts) h.count parts merge s (merge-there r i parts merge h) (sources-active r i parts merge h) h.token.place h.entry
can-build r i (taken.Old old tokens mutate) s h =
    let part = arc_value old in
    mutate-of r i part.name h.new h.upto h.count h.mcount part (arc_value tokens) mutate s (mutate-there r i part (arc_value tokens) mutate h) h.active refl h.below h.token.place h.entry
can-build r i (taken.Missing a) s h = tt

-- of a replica of one table, a block that was taken is the one that its entry accepted
pub taken-accepted : (replicas : List ReplicaView) (i at : ℕ) (r : ReplicaView) (schema : Shape) (t : Taken) → AreOfOneTable replicas i → slice_get replicas at ≡ Some r → IsStandingReplica r → r.schema ≡ schema → IsTaken r i t → HasAccepted schema t
taken-accepted replicas i at r schema taken.Nothing table there s q h = tt
taken-accepted replicas i at r schema (taken.Block block get) table there s q h =
    subst (λ (z : Shape). IsAccepted z get.value (arc_value block)) q
    (subst (λ (o : Option BlockView). IfSome o (IsAccepted r.schema get.value)) h.staged (accepted-here replicas i at r get.value table there s h.token.entry))
taken-accepted replicas i at r schema (taken.Sources sources merge) table there s q h = tt
taken-accepted replicas i at r schema (taken.Old old tokens mutate) table there s q h = tt
taken-accepted replicas i at r schema (taken.Missing a) table there s q h = tt

-- ---- what is built suits the entry

block-suits : (r : ReplicaView) (i : ℕ) (block : BlockView) (get : Token Entry) (schema : Shape) (part : PartValue) (replicas : List ReplicaView) → IsStandingReplica r → r.schema ≡ schema → TakesBlock r i block get → IsAccepted schema get.value block → IsOfBlock schema get block part → IsPart part → Does r i part × IsBuilt replicas r i part
block-suits r i block get schema part replicas s q h a b p =
    let staged : IsOfStaged schema r get part = record { block = block; staged = h.staged; accepted = a; is = b; is_part = p } in
    staged-built r i get part replicas s h.ready.0 (record { entry = h.token.entry; place = h.token.place }) (subst (λ (z : Shape). IsOfStaged z r get part) (sym q) staged)

sources-suit : (r : ReplicaView) (i : ℕ) (parts : List PartValue) (merge : Token Entry) (part : PartValue) (replicas : List ReplicaView) → IsStandingReplica r → TakesSources r i parts merge → IsMerged merge parts part → IsPart part → Does r i part × IsBuilt replicas r i part
sources-suit r i parts merge part replicas s h b p =
    merged-built r i merge.value h.new (part_names parts) h.count part replicas s h.ready.0 h.token.entry (ready-token r i merge.value h.ready h.token.entry) h.entry
    (merged-made r i h.new (part_names parts) h.count parts merge s (merge-there r i parts merge h) (sources-active r i parts merge h) h.token.place h.entry part b p)

old-suits : (r : ReplicaView) (i : ℕ) (old : PartValue) (tokens : List (Token Entry)) (mutate : Token Entry) (part : PartValue) (replicas : List ReplicaView) → IsStandingReplica r → TakesOld r i old tokens mutate → IsMutated mutate old tokens part → IsPart part → Does r i part × IsBuilt replicas r i part
old-suits r i old tokens mutate part replicas s h b p =
    mutated-built r i mutate.value old.name h.new h.upto h.count h.mcount part replicas s h.ready.0 h.token.entry (ready-token r i mutate.value h.ready h.token.entry) h.entry
    (mutated-made r i old.name h.new h.upto h.count h.mcount old tokens mutate s (mutate-there r i old tokens mutate h) h.active refl h.below h.token.place h.entry part b p)

-- a part that was built
suits-built : (replicas : List ReplicaView) (r : ReplicaView) (i : ℕ) (o : Option PartValue) (supply : Supply) (P : PartValue → Type 0) → MatchOption o ⊥ P → IfSome o IsPart → IsSupplyOf o supply
    → ((part : PartValue) → P part → IsPart part → Does r i part × IsBuilt replicas r i part) → Suits replicas r i supply
suits-built replicas r i o supplies.Nothing P b p u f = absurd (subst (λ (v : Option PartValue). MatchOption v ⊥ P) u b)
suits-built replicas r i o (supplies.Built x) P b p u f = f (arc_value x) (subst (λ (v : Option PartValue). MatchOption v ⊥ P) u b) (subst (λ (v : Option PartValue). IfSome v IsPart) u p)
suits-built replicas r i o (supplies.Fetched x) P b p u f = absurd u

-- no part
suits-none : (replicas : List ReplicaView) (r : ReplicaView) (i : ℕ) (o : Option PartValue) (supply : Supply) → NeedsNone r i → o ≡ None → IsSupplyOf o supply → Suits replicas r i supply
suits-none replicas r i o supplies.Nothing h e u = h
suits-none replicas r i o (supplies.Built x) h e u = absurd (cc)
suits-none replicas r i o (supplies.Fetched x) h e u = absurd u

-- what is built of what was taken suits the entry
pub taken-suits : (replicas : List ReplicaView) (r : ReplicaView) (i : ℕ) (schema : Shape) (t : Taken) (o : Option PartValue) (supply : Supply) → IsStandingReplica r → r.schema ≡ schema → IsTaken r i t → HasAccepted schema t → ((a : Name) → t ≡ taken.Missing a → ⊥) → BuildsPart schema t o → IfSome o IsPart → IsSupplyOf o supply → Suits replicas r i supply
taken-suits replicas r i schema taken.Nothing o supply s q h a m b p u = suits-none replicas r i o supply h b u
taken-suits replicas r i schema (taken.Block block get) o supply s q h a m b p u =
    suits-built replicas r i o supply (IsOfBlock schema get (arc_value block)) b p u (λ part. block-suits r i (arc_value block) get schema part replicas s q h a)
taken-suits replicas r i schema (taken.Sources sources merge) o supply s q h a m b p u =
    suits-built replicas r i o supply (IsMerged merge (map arc_value sources.items)) b p u (λ part. sources-suit r i (map arc_value sources.items) merge part replicas s h)
taken-suits replicas r i schema (taken.Old old tokens mutate) o supply s q h a m b p u =
    suits-built replicas r i o supply (IsMutated mutate (arc_value old) (arc_value tokens)) b p u (λ part. old-suits r i (arc_value old) (arc_value tokens) mutate part replicas s h)
taken-suits replicas r i schema (taken.Missing n) o supply s q h a m b p u = absurd (m n refl)
