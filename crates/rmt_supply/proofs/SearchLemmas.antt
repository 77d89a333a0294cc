-- What was found for an entry.
use Rattle.std.proofs.Common.{◌≡◌, ℕ, zero, suc, ◌<◌, ◌≤◌, inl, inr, List, [], ◌∷◌, length, refl, sym, subst, ◌∙◌, arith}
use Rattle.std.specs.Prelude.{slice_get, MatchOption, IfSome, IsSome}
use Rattle.std.specs.declared.option.Option.{Option}
use Rattle.std.specs.declared.option.Option.TheVariants.{Some, None}
use Rattle.rmt_values.specs.Rows.{Shape}
use Rattle.rmt_names.specs.Names.{Name}
use Rattle.rmt_entries.specs.declared.entry.Entry.{Entry}
use Rattle.rmt_entries.specs.declared.entry.Entry.TheVariants.{Get, Merge, Mutate, Mutation, DropRange}
use Rattle.rmt_row.specs.Token.{Token}
use Rattle.rmt_model.specs.Words.{Has}
use Rattle.rmt_model.specs.Lawful.{entry_at}
use Rattle.rmt_part.specs.Lineages.{PartValue}
use Rattle.rmt_replica.specs.Replicas.{ReplicaView, IsStandingReplica}
use Rattle.rmt_replica.specs.Answers as own
use Rattle.rmt_replica.specs.declared.why.Why.TheVariants as whys
use Rattle.rmt_replica.specs.SeenReplica.{shown}
use Rattle.rmt_replica.proofs.StateViews.{names-shown, inactive-seen}
use Rattle.rmt_events.specs.Clusters.{Cluster}
use Rattle.rmt_events.specs.ApplyEvents.{LacksPart}
use Rattle.rmt_events.proofs.Copies.{entry-behind}
use Rattle.rmt_supply.specs.PartSources.{staged_for, IsAccepted, AreOfOneTable, Does, IsBuilt, IsMissing, IsOfStaged, IsMadeOfActive, WaitsForBlock}
use Rattle.rmt_supply.proofs.OwnParts.{merged-from-parts, mutated-from-parts, made-does}
use Rattle.rmt_supply.proofs.StagedParts.{from-stage, staged-does}

-- a token of a copy's entry, at its place
pub record IsReadAt (log : List Entry) (i : ℕ) (token : Token Entry) : Type 0 where
  pub entry : entry_at log i ≡ Some token.value
  pub place : token.place ≡ i

pub token-there : {A : Type 0} (o : Option A) (f : A → Token Entry) (copy log : List Entry) (i : ℕ) (x : A) → MatchOption o (length copy ≤ i) (λ t. entry_at copy i ≡ Some (f t).value) → IfSome o (λ t. (f t).place ≡ i) → o ≡ Some x → copy ≡ log → IsReadAt log i (f x)
token-there o f copy log i x m p e l = record {
  entry = subst (λ (es : List Entry). entry_at es i ≡ Some (f x).value) l (subst (λ o. MatchOption o (length copy ≤ i) (λ t. entry_at copy i ≡ Some (f t).value)) e m);
  place = subst (λ o. IfSome o (λ t. (f t).place ≡ i)) e p;
}

-- ---- what a replica has itself

pub merged-built : (r : ReplicaView) (i : ℕ) (v : Entry) (new : Name) (sources : List Name) (count : ℕ) (part : PartValue) (replicas : List ReplicaView) → IsStandingReplica r → own.Waits r i → entry_at r.log i ≡ Some v → own.IsReady r v → v ≡ Merge new sources count → IsMadeOfActive r i part → Does r i part × IsBuilt replicas r i part
merged-built r i v new sources count part replicas t w q h e m = (
  made-does r i part m w,
  λ s c. inr (merged-from-parts r i new sources count part t (subst (λ (x : Entry). entry_at r.log i ≡ Some x) e q) (subst (own.IsReady r) e h) m s c.schema_is),
)

pub mutated-built : (r : ReplicaView) (i : ℕ) (v : Entry) (old new : Name) (upto count mcount : ℕ) (part : PartValue) (replicas : List ReplicaView) → IsStandingReplica r → own.Waits r i → entry_at r.log i ≡ Some v → own.IsReady r v → v ≡ Mutate old new upto count mcount → IsMadeOfActive r i part → Does r i part × IsBuilt replicas r i part
mutated-built r i v old new upto count mcount part replicas t w q h e m = (
  made-does r i part m w,
  λ s c. inr (mutated-from-parts r i old new upto count mcount part t (subst (λ (x : Entry). entry_at r.log i ≡ Some x) e q) (subst (own.IsReady r) e h) m s c.schema_is),
)

pub staged-built : (r : ReplicaView) (i : ℕ) (token : Token Entry) (part : PartValue) (replicas : List ReplicaView) → IsStandingReplica r → own.Waits r i → IsReadAt r.log i token → IsOfStaged r.schema r token part → Does r i part × IsBuilt replicas r i part
staged-built r i token part replicas t w q m = (
  staged-does r i token.value token part t q.entry q.place refl m w,
  λ s c. inl (from-stage r i token.value token part t q.entry q.place refl m s c.schema_is),
)

-- ---- what is missing

one-entry : (d e : Entry) → ◌≡◌ {A = Option Entry} (Some d) (Some e) → d ≡ e
one-entry d e q = cc

-- the first part that an entry lacks
lacked : (r : ReplicaView) (i : ℕ) (v : Entry) (a : Name) → entry_at r.log i ≡ Some v → IfSome (entry_at r.log i) (λ e. own.Lacks r e a) → own.Lacks r v a
lacked r i v a q h = subst (λ o. IfSome o (λ e. own.Lacks r e a)) q h

-- a source that isn't active
lacks-source : (s : Cluster) (r : ReplicaView) (v : Entry) (a : Name) → own.Lacks r v a → ((p : Option ℕ) (n : ℕ) (digest : List ℕ) (source need : ℕ) → v ≡ Get p n digest source need → ⊥) → LacksPart s r.number (shown r) v a
lacks-source s r (Get p n digest source need) a h g = absurd (g p n digest source need refl)
lacks-source s r (Merge new sources count) a h g = inactive-seen r sources a h
lacks-source s r (Mutate old new upto count mcount) a h g = inl (λ k. h.1 (subst (λ (names : List Name). Has names old) (names-shown r.parts) k), h.0)
lacks-source s r (Mutation id numbers command) a h g = absurd h
lacks-source s r (DropRange p n) a h g = absurd h

pub missing-source : (replicas : List ReplicaView) (r : ReplicaView) (i : ℕ) (v : Entry) (a : Name) → own.IsWhy r i (whys.NeedsPart a) → entry_at r.log i ≡ Some v → ((p : Option ℕ) (n : ℕ) (digest : List ℕ) (source need : ℕ) → v ≡ Get p n digest source need → ⊥) → IsMissing replicas r i a
missing-source replicas r i v a w q g = record {
  waits = w.0;
  lacks = λ s c e k. subst (λ (x : Entry). LacksPart s r.number (shown r) x a) (one-entry v e (sym q ∙ k)) (lacks-source s r v a (lacked r i v a q w.1) g);
}

-- a Get whose block isn't staged here waits for it
pub waits-for-block : (r : ReplicaView) (i : ℕ) (a : Name) (p : Option ℕ) (n : ℕ) (digest : List ℕ) (source need : ℕ) → own.IsWhy r i (whys.NeedsPart a) → entry_at r.log i ≡ Some (Get p n digest source need) → WaitsForBlock r i
waits-for-block r i a p n digest source need w q = record {
  waits = w.0;
  partition = p;
  number = n;
  source = source;
  need = need;
  digest = digest;
  at = q;
  none = (lacked r i (Get p n digest source need) a q w.1).0;
}

-- ---- the replica of a place

pub has-place : (rs : List ReplicaView) (j : ℕ) (r : ReplicaView) → slice_get rs j ≡ Some r → Has rs r
has-place [] j r e = absurd (cc)
has-place (x ∷ rs) zero r e = let q : x ≡ r = cc in inl q
has-place (x ∷ rs) (suc j) r e = inr (has-place rs j r e)

-- what is staged here for the entry is what it accepted
pub accepted-here : (replicas : List ReplicaView) (i j : ℕ) (r : ReplicaView) (e : Entry) → AreOfOneTable replicas i → slice_get replicas j ≡ Some r → IsStandingReplica r → entry_at r.log i ≡ Some e → IfSome (staged_for r e) (IsAccepted r.schema e)
accepted-here replicas i j r e a q t k =
    let h = has-place replicas j r q in
    let c = a.copies r h in
    subst (λ (z : Shape). IfSome (staged_for r e) (IsAccepted z e)) (sym c.0)
    (a.accepted r h t e (subst (λ (l : List Entry). entry_at l i ≡ Some e) (sym c.1.is) (entry-behind c.1.gained r.log i e k)))

-- what holds of the replica at a place holds of each that stands there
pub at-one : (rs : List ReplicaView) (j : ℕ) (r : ReplicaView) (P : ReplicaView → Type 0) → slice_get rs j ≡ Some r → P r → (x : ReplicaView) → slice_get rs j ≡ Some x → P x
at-one rs j r P e p x q = let s : r ≡ x = cc in subst P s p

-- the entry of a place within the copy is there
pub entry-there : {A : Type 0} (o : Option A) (f : A → Token Entry) (copy : List Entry) (i : ℕ) → MatchOption o (length copy ≤ i) (λ t. entry_at copy i ≡ Some (f t).value) → i < length copy → IsSome o
entry-there None f copy i m l = absurd (omega (arith, m, l))
entry-there (Some x) f copy i m l = refl
