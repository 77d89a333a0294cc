-- What a cluster's acts come to, in the words of the trait.
use Rattle.std.proofs.Common.{◌≡◌, ℕ, inl, Bool, false, cond, nat_eq, List, refl}
use Rattle.std.specs.declared.option.Option.{Option}
use Rattle.std.specs.declared.option.Option.TheVariants.{Some, None}
use Rattle.std.specs.declared.result.Result.{Result}
use Rattle.std.specs.declared.result.Result.TheVariants.{Ok, Err}
use Rattle.std.specs.Prelude.{IfOk, IfErr, OnOk}
use Rattle.rmt_values.specs.declared.checked_mutation.CheckedMutation.{CheckedMutation}
use Rattle.rmt_partset.specs.Snapshots.{NamedData, names_in}
use Rattle.rmt_events.specs.Clusters.{Cluster}
use Rattle.rmt_reply.specs.declared.refusal.Refusal.{Refusal}
use Rattle.rmt_statement_model.specs.TableStates.{TableState, synced, shown_at}
use Rattle.rmt_statement_model.specs.Rests.{Runs}
use Rattle.rmt_statement_model.specs.BackgroundWork.{Works}
use Rattle.rmt_statement_model.specs.Reads.{IsReading, IsSequentialReading, LacksLast}
use Rattle.rmt_statement_model.specs.Shows.{Leads, Shows, HoldsNone, IsIdle, KeepsUps, ups}
use Rattle.rmt_acts.specs.Changing.{MutatesTo, DropsTo}
use Rattle.rmt_acts.specs.Syncing.{SyncsReplica}
use Rattle.rmt_acts.specs.Waiting.{WaitsTo}
use Rattle.rmt_acting.specs.Stepped.{seen_of}
use Rattle.rmt_events.specs.ClusterChanges.{KeepsTable}
use Rattle.rmt_acting.specs.Acting.{KeepsShape, GoesOn, TurnsReplica, Brings, Stays}
use Rattle.rmt_statement_model.specs.ActOutcomes.{SyncsOr, MutatesOr, DropsOr, WaitsOr, ReadsParts, ReadsQuorum}

-- without workers nothing rests
pub brings : (s u : Cluster) (Change : TableState → TableState → Type 0) → ((t : TableState) → Shows s t → Leads u (Change t)) → Brings (seen_of s) Change (seen_of u)
brings s u Change f t h =
    let l = f t h in
    record { state = l.state; holds = record { at = t; rests = inl refl; change = l.holds }; shows = l.shows }

-- a change that is a function of the state
pub brings-to : (s u : Cluster) (change : TableState → TableState) → ((t : TableState) → Shows s t → Shows u (change t)) → Brings (seen_of s) (λ t v. v ≡ change t) (seen_of u)
brings-to s u change f = brings s u (λ t v. v ≡ change t) (λ t h. record { state = change t; holds = refl; shows = f t h })

pub syncs : (s u : Cluster) (r : ℕ) (refused : Option Refusal) → SyncsReplica s r refused u → Brings (seen_of s) (SyncsOr (ups s) r refused) (seen_of u)
syncs s u r None k = brings-to s u (synced r) k.shows
syncs s u r (Some refusal) k = brings s u (SyncsOr (ups s) r (Some refusal)) k

pub mutates : (s u : Cluster) (command : CheckedMutation) (made : Result ℕ Refusal) → MutatesTo s command made u → Brings (seen_of s) (MutatesOr command made) (seen_of u)
mutates s u command (Ok id) k = brings s u (MutatesOr command (Ok id)) k
mutates s u command (Err refusal) k = brings s u (MutatesOr command (Err refusal)) k

pub drops : (s u : Cluster) (r : ℕ) (p : Option ℕ) (below : Result ℕ Refusal) → DropsTo s r p below u → Brings (seen_of s) (DropsOr r p below) (seen_of u)
drops s u r p (Ok below) k = brings s u (DropsOr r p (Ok below)) k
drops s u r p (Err refusal) k = brings s u (DropsOr r p (Err refusal)) k

pub waits : (s u : Cluster) (r id : ℕ) (refused : Option Refusal) → WaitsTo s r id refused u → Brings (seen_of s) (WaitsOr false (ups s) r id refused) (seen_of u)
waits s u r id None k = brings s u (WaitsOr false (ups s) r id None) k
waits s u r id (Some refusal) k = brings s u (WaitsOr false (ups s) r id (Some refusal)) k

pub works : (s u : Cluster) (turns : ℕ) → ((t : TableState) → Shows s t → Leads u (Works (ups s) turns t)) → Brings (seen_of s) (Runs false (ups s) turns) (seen_of u)
works s u turns f = brings s u (Runs false (ups s) turns) (λ t h. let l = f t h in record { state = l.state; holds = inl l.holds; shows = l.shows })

-- what is read of a cluster leaves it as it is
pub reads : (s : Cluster) (r : ℕ) (parts : List NamedData) → ((t : TableState) → Shows s t → IsReading t r parts) → ((t : TableState) → Shows s t → Shows s (shown_at r (names_in parts) t)) → Brings (seen_of s) (ReadsParts r parts) (seen_of s)
reads s r parts f k = brings s s (ReadsParts r parts) (λ t h. record { state = shown_at r (names_in parts) t; holds = record { reading = f t h; change = refl }; shows = k t h })

pub reads-quorum : (s : Cluster) (r : ℕ) (found : Result (List NamedData) Refusal) → IfOk found (λ parts. (t : TableState) → Shows s t → IsSequentialReading t r parts)
    → IfOk found (λ parts. (t : TableState) → Shows s t → Shows s (shown_at r (names_in parts) t)) → IfErr found (λ why. (t : TableState) → Shows s t → LacksLast t r why) → Brings (seen_of s) (ReadsQuorum r found) (seen_of s)
reads-quorum s r (Ok parts) f k e = brings s s (ReadsQuorum r (Ok parts)) (λ t h. record { state = shown_at r (names_in parts) t; holds = record { reading = f t h; change = refl }; shows = k t h })
reads-quorum s r (Err refusal) f k e = brings s s (ReadsQuorum r (Err refusal)) (λ t h. record { state = t; holds = record { lacks = e t h; unchanged = refl }; shows = h })

-- ---- where no memory was left nothing is said

pub reads-ok : {E : Type 0} (s : Cluster) (r : ℕ) (read : Result (List NamedData) E) → IfOk read (λ parts. (t : TableState) → Shows s t → IsReading t r parts)
    → IfOk read (λ parts. (t : TableState) → Shows s t → Shows s (shown_at r (names_in parts) t)) → IfOk read (λ parts. Brings (seen_of s) (ReadsParts r parts) (seen_of s))
reads-ok s r (Ok parts) f k = reads s r parts f k
reads-ok s r (Err e) f k = tt

pub quorum-ok : {E : Type 0} (s : Cluster) (r : ℕ) (read : Result (Result (List NamedData) Refusal) E) → IfOk read (λ found. IfOk found (λ parts. (t : TableState) → Shows s t → IsSequentialReading t r parts))
    → IfOk read (λ found. IfOk found (λ parts. (t : TableState) → Shows s t → Shows s (shown_at r (names_in parts) t))) → IfOk read (λ found. IfErr found (λ why. (t : TableState) → Shows s t → LacksLast t r why))
    → IfOk read (λ found. Brings (seen_of s) (ReadsQuorum r found) (seen_of s))
quorum-ok s r (Ok found) f k e = reads-quorum s r found f k e
quorum-ok s r (Err e) f k q = tt

-- what is shown stays shown where nothing changed
pub stays-ok : {A E : Type 0} (result : Result A E) (s : Cluster) → OnOk result (Stays (seen_of s) (seen_of s))
stays-ok (Ok a) s = λ t h. h
stays-ok (Err e) s = tt

-- ---- what stays

-- an act that was done has left no insert under way, and the same replicas up
pub goes : {A E : Type 0} (result : Result A E) (s u : Cluster) → IfOk result (λ _. HoldsNone u) → KeepsUps s result u → OnOk result (GoesOn (seen_of s) (seen_of u))
goes (Ok a) s u f k = record { free = f; ups = k.ups }
goes (Err e) s u f k = tt

-- the same, where its replica is idle
pub goes-idle : {A E : Type 0} (result : Result A E) (s u : Cluster) (r : ℕ) → IfOk result (λ _. IsIdle u r) → KeepsUps s result u → OnOk result (GoesOn (seen_of s) (seen_of u))
goes-idle (Ok a) s u r f k = record { free = f.free; ups = k.ups }
goes-idle (Err e) s u r f k = tt

-- the same of an act that gives nothing
pub goes-done : {E : Type 0} (result : Result (Unit {0}) E) (s u : Cluster) → OnOk result (HoldsNone u) → KeepsUps s result u → OnOk result (GoesOn (seen_of s) (seen_of u))
goes-done (Ok a) s u f k = record { free = f; ups = k.ups }
goes-done (Err e) s u f k = tt

pub turns : {E : Type 0} (result : Result (Unit {0}) E) (s u : Cluster) (r : ℕ) (is_up : Bool) → OnOk result ((k : ℕ) → ups u k ≡ cond (nat_eq r k) is_up (ups s k)) → (HoldsNone s → OnOk result (HoldsNone u)) → OnOk result (TurnsReplica r is_up (seen_of s) (seen_of u))
turns (Ok a) s u r is_up f k = record { ups = f; free = k }
turns (Err e) s u r is_up f k = tt

-- a cluster keeps its shape where its table keeps its own
pub keeps : (s u : Cluster) → KeepsTable s u → KeepsShape (seen_of s) (seen_of u)
keeps s u k = record { shape = k.schema; count = k.replicas; place = refl; others = λ n d. refl }
