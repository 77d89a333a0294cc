-- Events one after the other, and what is left where no memory was left.
use Rattle.std.proofs.Common.{◌≡◌, ℕ, zero, suc, ◌≤◌, ◌⊎◌, inl, inr, Bool, true, false, nat_le, List, [], ◌∷◌, ◌++◌, refl, sym, subst, arith, append_assoc, append-nil}
use Rattle.std.specs.Prelude.{OnErr}
use Rattle.std.specs.declared.result.Result.{Result}
use Rattle.std.specs.declared.result.Result.TheVariants.{Ok, Err}
use Rattle.std.specs.declared.option.Option.{Option}
use Rattle.std.specs.declared.option.Option.TheVariants.{Some, None}
use Rattle.rmt_events.specs.Clusters.{Cluster}
use Rattle.rmt_events.specs.Steps.{Step, After}
use Rattle.rmt_events.specs.declared.event.Event.{Event}
use Rattle.rmt_events.specs.declared.event.Event.TheVariants as ev
use Rattle.rmt_events.specs.declared.reply.Reply.{Reply}
use Rattle.rmt_events.specs.declared.reply.Reply.TheVariants as rp
use Rattle.rmt_cluster.specs.Clusters.{Stops}
use Rattle.rmt_cluster.specs.Syncs.{Drains, Syncs, SyncsTo}
use Rattle.rmt_cluster.specs.declared.sync_error.SyncError.TheVariants as errors
use Rattle.rmt_reply.specs.declared.piece.Piece.{Piece}
use Rattle.rmt_reply.specs.declared.piece.Piece.TheVariants as pieces
use Rattle.rmt_reply.specs.declared.refusal.Refusal.{Refusal}
use Rattle.rmt_statement_model.specs.QuorumCopies.{is_asked}
use Rattle.rmt_statement_model.specs.Inserts.{Asked}
use Rattle.rmt_statement_model.specs.Shows.{fetching_of, ups}
use Rattle.rmt_acts.specs.StatementEvents.{Makes, CopiesWhere, GathersTo, GathersWhere, PieceEvents, TriesBlock, InsertEvents, FollowsUp, MergesOnce, MutatesOnce, AtMost, StopsAfter}

-- ---- one cluster comes from another by some events

pub record Reaches (s u : Cluster) : Type 0 where
  pub events : List (Event × Reply)
  pub after : After s events u

pub reaches-itself : (s : Cluster) → Reaches s s
reaches-itself s = record { events = []; after = refl }

after-after : (s m u : Cluster) (xs ys : List (Event × Reply)) → After s xs m → After m ys u → After s (ys ++ xs) u
after-after s m u xs [] f g = subst (After s xs) (sym g) f
after-after s m u xs (y ∷ ys) f g = (g.0, after-after s m g.0 xs ys f g.1, g.2)

pub reaches-then : (s m u : Cluster) → Reaches s m → Reaches m u → Reaches s u
reaches-then s m u f g = record { events = g.events ++ f.events; after = after-after s m u f.events g.events f.after g.after }

pub reaches-step : (s u : Cluster) (event : Event) (reply : Reply) → Step s event reply u → Reaches s u
reaches-step s u event reply k = record { events = (event, reply) ∷ []; after = (s, refl, k) }

pub reaches-made : (s u : Cluster) (events : List Event) → Makes s events u → Reaches s u
reaches-made s u [] f = subst (Reaches s) (sym f) (reaches-itself s)
reaches-made s u (event ∷ later) f = reaches-then s f.0 u (reaches-step s f.0 event f.1 f.2) (reaches-made f.0 u later f.3)

pub reaches-drained : (s u : Cluster) (r : ℕ) → Drains s r u → Reaches s u
reaches-drained s u r y = reaches-then s y.pulled u (reaches-step s y.pulled (ev.Pull r) y.reply y.pulls) (record { events = y.events; after = y.made })

pub reaches-synced : (s u : Cluster) (r : ℕ) → Syncs s r u → Reaches s u
reaches-synced s u r y = reaches-then s y.drained u (reaches-drained s y.drained r y.drains) (reaches-step y.drained u (ev.Note r) y.reply y.notes)

pub reaches-tried : (s u : Cluster) (a : Asked) → TriesBlock s a u → Reaches s u
reaches-tried s u a f = reaches-made s u (ev.Allocate a.writer f.block a.need ∷ []) f.makes

reaches-copied : (s u : Cluster) (b : Bool) (place k : ℕ) → CopiesWhere b s place k u → Reaches s u
reaches-copied s u true place k f = reaches-made s u (ev.Pull k ∷ ev.Apply k place ∷ ev.Note k ∷ []) f
reaches-copied s u false place k f = subst (Reaches s) (sym f) (reaches-itself s)

pub reaches-gathered : (s u : Cluster) (r place n : ℕ) → GathersTo s r place n u → Reaches s u
reaches-gathered s u r place zero f = reaches-made s u (ev.Note r ∷ []) f
reaches-gathered s u r place (suc n) f =
    reaches-then s f.0 u (reaches-gathered s f.0 r place n f.1) (reaches-copied f.0 u (is_asked f.0.table.quorum.pending (ups f.0) (fetching_of f.0) r (suc n)) place (suc n) f.2)

reaches-where : (s u : Cluster) (b : Bool) (r place : ℕ) → GathersWhere b s r place u → Reaches s u
reaches-where s u true r place f = reaches-gathered s u r place 8 f
reaches-where s u false r place f = subst (Reaches s) (sym f) (reaches-itself s)

pub reaches-piece : (s u : Cluster) (a : Asked) (piece : Piece) → PieceEvents s a piece u → Reaches s u
reaches-piece s u a (pieces.Part part) f =
    reaches-then s f.mid u (reaches-made s f.mid (ev.Allocate a.writer f.block a.need ∷ ev.Stage f.attempt ∷ ev.Commit f.attempt ∷ ev.Pull a.writer ∷ ev.Apply a.writer f.place ∷ []) f.makes)
    (reaches-where f.mid u (nat_le 2 a.need) a.writer f.place f.gathers)
reaches-piece s u a (pieces.Duplicate part) f = reaches-tried s u a f

-- more events after some
pub makes-more : (s m u : Cluster) (xs ys : List Event) → Makes s xs m → Makes m ys u → Makes s (xs ++ ys) u
makes-more s m u [] ys f g = subst (λ (x : Cluster). Makes x ys u) f g
makes-more s m u (x ∷ xs) ys f g = (f.0, f.1, f.2, makes-more f.0 m u xs ys f.3 g)

reaches-followed : (s u : Cluster) (r : ℕ) (reply : Reply) → FollowsUp s r reply u → Reaches s u
reaches-followed s u r (rp.Entry place) f = reaches-synced s u r f.syncs
reaches-followed s u r (rp.Attempt id n) f = subst (Reaches s) (sym f) (reaches-itself s)
reaches-followed s u r (rp.Applied applied) f = subst (Reaches s) (sym f) (reaches-itself s)
reaches-followed s u r (rp.Pulled n) f = subst (Reaches s) (sym f) (reaches-itself s)
reaches-followed s u r (rp.Noted noted) f = subst (Reaches s) (sym f) (reaches-itself s)
reaches-followed s u r rp.Done f = subst (Reaches s) (sym f) (reaches-itself s)
reaches-followed s u r (rp.Refused why) f = subst (Reaches s) (sym f) (reaches-itself s)

pub reaches-merged : (s u : Cluster) (r : ℕ) → MergesOnce r s u → Reaches s u
reaches-merged s u r f = reaches-then s f.mid u (reaches-step s f.mid (ev.Merge r f.sources) f.reply f.merges) (reaches-followed f.mid u r f.reply f.follows)

pub reaches-merges : (s u : Cluster) (r : ℕ) → (u ≡ s) ⊎ MergesOnce r s u → Reaches s u
reaches-merges s u r (inl e) = subst (Reaches s) (sym e) (reaches-itself s)
reaches-merges s u r (inr f) = reaches-merged s u r f

pub reaches-mutated : (s u : Cluster) (r : ℕ) → MutatesOnce r s u → Reaches s u
reaches-mutated s u r f = reaches-then s f.mid u (reaches-step s f.mid (ev.Mutate r f.old f.upto) f.reply f.mutates) (reaches-followed f.mid u r f.reply f.follows)

pub reaches-mutates : (s u : Cluster) (r : ℕ) → (u ≡ s) ⊎ MutatesOnce r s u → Reaches s u
reaches-mutates s u r (inl e) = subst (Reaches s) (sym e) (reaches-itself s)
reaches-mutates s u r (inr f) = reaches-mutated s u r f

-- ---- no memory was left

pub stops-there : (s m u : Cluster) (event : Event) → Reaches s m → Stops m event u → StopsAfter s u
stops-there s m u event f g = record { events = f.events; mid = m; made = f.after; event = event; stops = g }

-- between two events
pub stops-between : (s u : Cluster) → Reaches s u → StopsAfter s u
stops-between s u f = stops-there s u u (ev.Pull 0) f (inl refl)

-- at once
pub stops-first : (s u : Cluster) (event : Event) → Stops s event u → StopsAfter s u
stops-first s u event g = stops-there s s u event (reaches-itself s) g

pub stops-later : (s m u : Cluster) → Reaches s m → StopsAfter m u → StopsAfter s u
stops-later s m u f g = stops-there s g.mid u g.event (reaches-then s m g.mid f (record { events = g.events; after = g.made })) g.stops

-- in the midst of a sync
pub stops-syncing : (s u : Cluster) (r : ℕ) → SyncsTo s r (Err errors.Memory) u → StopsAfter s u
stops-syncing s u r (inl g) = stops-first s u (ev.Pull r) g
stops-syncing s u r (inr (inl g)) = stops-there s g.mid u (ev.Apply r g.entry) (reaches-drained s g.mid r g.drains) g.stops
stops-syncing s u r (inr (inr g)) = stops-there s g.mid u (ev.Note r) (reaches-drained s g.mid r g.drains) g.stops

-- what is left holds at an error
pub at-err : {A E : Type 0} (result : Result A E) (P : Type 0) → P → OnErr result P
at-err (Ok a) P p = tt
at-err (Err e) P p = p

-- ---- so many times at most

-- it may be more
pub at-most-more : (Once : Cluster → Cluster → Type 0) (s u : Cluster) (n m : ℕ) → n ≤ m → AtMost n Once s u → AtMost m Once s u
at-most-more Once s u zero zero l f = f
at-most-more Once s u zero (suc m) l f = inl (at-most-more Once s u zero m (omega arith) f)
at-most-more Once s u (suc n) zero l f = absurd (omega (arith, l))
at-most-more Once s u (suc n) (suc m) l (inl f) = inl (at-most-more Once s u n m (omega (arith, l)) f)
at-most-more Once s u (suc n) (suc m) l (inr f) = inr (f.0, at-most-more Once s f.0 n m (omega (arith, l)) f.1, f.2)

-- one more, or none
pub at-most-next : (Once : Cluster → Cluster → Type 0) (s m u : Cluster) (n : ℕ) → AtMost n Once s m → (u ≡ m) ⊎ Once m u → AtMost (suc n) Once s u
at-most-next Once s m u n f (inl e) = inl (subst (AtMost n Once s) (sym e) f)
at-most-next Once s m u n f (inr k) = inr (m, f, k)

-- ---- blocks one after the other

-- what comes after some pieces
abbrev pub AfterPieces : Cluster → Asked → List Piece → Cluster → Type 0
AfterPieces s r done u = (rest : List Piece) (refused : Option Refusal) (v : Cluster) → InsertEvents u r rest refused v → InsertEvents s r (done ++ rest) refused v

pub after-none : (s : Cluster) (r : Asked) → AfterPieces s r [] s
after-none s r = λ rest refused v k. k

pub after-piece : (s u v : Cluster) (r : Asked) (done : List Piece) (piece : Piece) → AfterPieces s r done u → PieceEvents u r piece v → AfterPieces s r (done ++ piece ∷ []) v
after-piece s u v r done piece f e = λ rest refused w k. subst (λ (ps : List Piece). InsertEvents s r ps refused w) (sym (append_assoc done (piece ∷ []) rest)) (f (piece ∷ rest) refused w (v, e, k))

-- no block is left
pub after-last : (s u : Cluster) (r : Asked) (done : List Piece) → AfterPieces s r done u → InsertEvents s r done None u
after-last s u r done f = subst (λ (ps : List Piece). InsertEvents s r ps None u) (append-nil done) (f [] None u refl)

-- the block at which it ends
pub after-refused : (s u v : Cluster) (r : Asked) (done : List Piece) (refusal : Refusal) → AfterPieces s r done u → InsertEvents u r [] (Some refusal) v → InsertEvents s r done (Some refusal) v
after-refused s u v r done refusal f e = subst (λ (ps : List Piece). InsertEvents s r ps (Some refusal) v) (append-nil done) (f [] (Some refusal) v e)
