-- An entry that a replica does, as a cluster sees it.
use Rattle.std.proofs.Common.{◌≡◌, ℕ, ◌+◌, ◌<◌, ◌≤◌, inl, inr, Bool, true, false, cond, not, List, [], ◌∷◌, length, refl, sym, ap, subst, ◌∙◌, arith, nat_eq}
use Rattle.std.proofs.lemmas.Bool.Decides.{nat_tests}
use Rattle.std.specs.Prelude.{slice_get, slice_set, IfOk, IfSome, MatchOption, OnErr}
use Rattle.std.specs.Arc.{arc_value}
use Rattle.std.specs.declared.alloc.AllocError.{AllocError}
use Rattle.std.specs.declared.option.Option.{Option}
use Rattle.std.specs.declared.option.Option.TheVariants.{Some}
use Rattle.std.specs.declared.result.Result.{Result}
use Rattle.std.specs.declared.result.Result.TheVariants.{Ok, Err}
use Rattle.rmt_names.specs.Names.{Name, Covers}
use Rattle.rmt_entries.specs.Entries.{result_name}
use Rattle.rmt_entries.specs.declared.entry.Entry.{Entry}
use Rattle.rmt_entries.specs.declared.entry.Entry.TheVariants as entries
use Rattle.rmt_model.specs.Words.{Has}
use Rattle.rmt_model.specs.Lawful.{entry_at, MakesAt}
use Rattle.rmt_table_model.specs.Held.{Held}
use Rattle.rmt_table.specs.TableTrees.{IsCopyOf}
use Rattle.rmt_part.specs.Lineages.{PartValue}
use Rattle.rmt_part.specs.CopiedPart.{copied}
use Rattle.rmt_partset.specs.ActiveParts.{Replace, after}
use Rattle.rmt_replica.specs.Replicas.{ReplicaView, IsStandingReplica, copy_of}
use Rattle.rmt_replica.specs.Supplies.{supplied}
use Rattle.rmt_replica.specs.Answers as own
use Rattle.rmt_replica.specs.declared.supply.Supply.{Supply}
use Rattle.rmt_replica.specs.declared.supply.Supply.TheVariants.{Nothing, Built, Fetched}
use Rattle.rmt_replica.specs.declared.apply_error.ApplyError.{ApplyError}
use Rattle.rmt_replica.specs.declared.apply_error.ApplyError.TheVariants as errors
use Rattle.rmt_replica.specs.SeenReplica.{shown}
use Rattle.rmt_replica.proofs.StateViews.{already-same, waits-same}
use Rattle.rmt_replica.proofs.CallViews.{settles-seen, drop-seen, part-seen}
use Rattle.rmt_events.specs.Views.{Replica}
use Rattle.rmt_events.specs.Clusters.{Attempt, Cluster}
use Rattle.rmt_events.specs.ClusterChanges.{AtReplica}
use Rattle.rmt_events.specs.ReplicaCalls.{Settles}
use Rattle.rmt_events.specs.ApplyEvents.{IsSupply, AppliesTo, NoApply, LacksPart, NeedsFetch}
use Rattle.rmt_events.specs.declared.event.Event.{Event}
use Rattle.rmt_events.specs.declared.event.Event.TheVariants as ev
use Rattle.rmt_events.specs.declared.reply.Reply.{Reply}
use Rattle.rmt_events.specs.declared.reply.Reply.TheVariants as rp
use Rattle.rmt_events.specs.declared.step_refused.StepRefused.TheVariants as rf
use Rattle.rmt_events.specs.declared.applied.Applied.{Applied}
use Rattle.rmt_events.specs.declared.applied.Applied.TheVariants as came
use Rattle.rmt_supply.specs.declared.found.Found.{Found}
use Rattle.rmt_supply.specs.declared.found.Found.TheVariants as found
use Rattle.rmt_supply.specs.PartSources.{AreOfOneTable, IsClusterOf, Does, Suits, IsMissing, IsStopped, IsFoundFor}
use Rattle.rmt_state.specs.States.{StateView, Belongs, AreNumbered, IsState, cluster_of, Acts}
use Rattle.rmt_cluster.specs.Acting.{KeepsAccepted}
use Rattle.rmt_cluster.specs.Causes.{IsApplyReply}
use Rattle.rmt_state.proofs.StateLemmas.{at-err, at-place}
use Rattle.rmt_state.proofs.PullLemmas.{changed-at, down-in, same-state}
use Rattle.rmt_state.proofs.AssignLemmas.{IsWorker, up-at, declined}

-- ---- what is refused

pub apply-down : (s : StateView) (k i j : ℕ) (x : ReplicaView) → IsWorker s k j x → x.up ≡ false → Acts s (ev.Apply k i) (rp.Refused rf.Down) s
apply-down s k i j x w u made attempts events =
    inr (declined s s.tree (λ c. NoApply c k i) rf.Down refl made attempts events (subst (λ m. NoApply (cluster_of s made attempts events) m i rf.Down) (sym w.numbered) (down-in s j x w.state w.there u made attempts events)))

pub apply-past : (s : StateView) (k i j : ℕ) (x : ReplicaView) → IsWorker s k j x → x.up ≡ true → length x.log ≤ i → Acts s (ev.Apply k i) (rp.Refused rf.NotLive) s
apply-past s k i j x w u l made attempts events = inr (declined s s.tree (λ c. NoApply c k i) rf.NotLive refl made attempts events (shown x, up-at s k j x w u made attempts events, l))

-- the cluster of a state is one of its replicas
cluster-of : (s : StateView) (k j : ℕ) (x : ReplicaView) → IsWorker s k j x → (made : ℕ) (attempts : List Attempt) (events : List (Event × Reply)) → IsClusterOf x.schema s.replicas (cluster_of s made attempts events)
cluster-of s k j x w made attempts events = record { schema_is = sym (Belongs.copy (at-place s.tree 1 s.replicas j x w.state.numbered w.there)).schema; replicas_are = refl }

pub apply-missing : (s : StateView) (k i j : ℕ) (x : ReplicaView) (a : Name) → IsWorker s k j x → x.up ≡ true → (e : Entry) → entry_at x.log i ≡ Some e → IsMissing s.replicas x i a → Acts s (ev.Apply k i) (rp.Refused (rf.NeedsPart a)) s
apply-missing s k i j x a w u e q m made attempts events =
    let n : x.number ≡ k = Belongs.numbered (at-place s.tree 1 s.replicas j x w.state.numbered w.there) ∙ sym w.numbered in
    let z = cluster_of s made attempts events in
    inr (declined s s.tree (λ c. NoApply c k i) (rf.NeedsPart a) refl made attempts events (
      shown x,
      e,
      record { is = up-at s k j x w u made attempts events; waits = (waits-same x i).0 m.waits; at = q },
      subst (λ v. LacksPart z v (shown x) e a) n (m.lacks z (cluster-of s k j x w made attempts events) e q),
    ))

pub apply-stopped : (s : StateView) (k i j : ℕ) (x : ReplicaView) → IsWorker s k j x → x.up ≡ true → (e : Entry) → entry_at x.log i ≡ Some e → IsStopped s.replicas x i → Acts s (ev.Apply k i) (rp.Refused rf.FetchesStopped) s
apply-stopped s k i j x w u e q m made attempts events =
    let n : x.number ≡ k = Belongs.numbered (at-place s.tree 1 s.replicas j x w.state.numbered w.there) ∙ sym w.numbered in
    let z = cluster_of s made attempts events in
    inr (declined s s.tree (λ c. NoApply c k i) rf.FetchesStopped refl made attempts events (
      shown x,
      e,
      record { is = up-at s k j x w u made attempts events; waits = (waits-same x i).0 m.waits; at = q },
      m.stopped,
      subst (λ v. NeedsFetch z v (shown x) e) n (m.needs z (cluster-of s k j x w made attempts events) e q),
    ))

-- ---- what is done

-- the parts once an entry that makes a part is done by the one that was supplied
replaced : (r : ReplicaView) (i : ℕ) (a : Name) (supply : Supply) (part : PartValue) (parts : List PartValue) → MakesAt r.log i a → supplied supply ≡ Some part → own.PartsAfter (entry_at r.log i) r i supply parts → parts ≡ after (Replace part) r.parts
replaced r i a supply part parts m g h = go m.entry m.makes (subst (λ (o : Option Entry). own.PartsAfter o r i supply parts) m.stands h)
  where
    told : own.InstallsSupplied r supply parts → parts ≡ after (Replace part) r.parts
    told t = subst (λ (o : Option PartValue). MatchOption o ⊥ (λ p. parts ≡ after (Replace p) r.parts)) g t

    go : (e : Entry) → result_name e ≡ Some a → own.PartsAfter (Some e) r i supply parts → parts ≡ after (Replace part) r.parts
    go (entries.Get p n digest source need) q t = told t
    go (entries.Merge new sources count) q t = told t
    go (entries.Mutate old new upto count mcount) q t = told t
    go (entries.Mutation id numbers command) q t = absurd (cc)
    go (entries.DropRange p n) q t = absurd (cc)

-- the supplied part, as events say where it comes from
supply-seen : (rs : List ReplicaView) (x : ReplicaView) (i : ℕ) (supply : Supply) (part : PartValue) (z : Cluster) → IsClusterOf x.schema rs z → Suits rs x i supply → supplied supply ≡ Some part → IsSupply z (shown x) i (copied part)
supply-seen rs x i Nothing part z c u g = absurd (cc)
supply-seen rs x i (Built p) part z c u g =
    let e : arc_value p ≡ part = cc in
    subst (λ (q : PartValue). IsSupply z (shown x) i (copied q)) e (elim (u.1 z c) [ inl h ↦ inl h | inr h ↦ inr (inl h) ])
supply-seen rs x i (Fetched p) part z c u g =
    let e : arc_value p ≡ part = cc in
    subst (λ (q : PartValue). IsSupply z (shown x) i (copied q)) e (elim (u.2 z c) [ inl h ↦ inr (inr (inl h)) | inr h ↦ inr (inr (inr h)) ])

-- what an entry came to at a replica that changed so
came-to : (s : StateView) (k j : ℕ) (x y : ReplicaView) (i : ℕ) (supply : Supply) (d : Applied) → IsWorker s k j x → IsStandingReplica x → Suits s.replicas x i supply → own.IsAnswer x i supply (Ok d) → own.IsChange x i supply (Ok d) y
    → (made : ℕ) (attempts : List Attempt) (events : List (Event × Reply)) → AppliesTo (cluster_of s made attempts events) i d (shown x) (shown y)
came-to s k j x y i supply came.Already w t u a c made attempts events =
    ((already-same x i).0 a.1, subst (λ (v : ReplicaView). Settles (shown x) i (shown v)) (sym c) (settles-seen x i t.waiting (inl a.1)))
came-to s k j x y i supply came.Dropped w t u a c made attempts events =
    (λ h. a.1 ((already-same x i).1 h), subst (λ (v : ReplicaView). Settles (shown x) i (shown v)) (sym c) (settles-seen x i t.waiting (inr a.2)))
came-to s k j x y i supply came.Installed w t u a c made attempts events = go a.3
  where
    z : Cluster
    z = cluster_of s made attempts events

    go : own.CanBeDone x i supply → AppliesTo z i came.Installed (shown x) (shown y)
    go (inl h) =
        let parts = subst (λ (o : Option Entry). own.PartsAfter o x i supply y.parts) h.2 c.parts in
        inl ((waits-same x i).0 a.1, drop-seen x i h.0 h.1 y t h.2 (c.others ∙ ap (λ (ps : List PartValue). record (own.settled x i) { parts = ps }) parts))
    go (inr h) =
        let v = h.2 in
        let parts = replaced x i h.0 supply v.part y.parts h.1 v.given c.parts in
        inr (record {
          part = copied v.part;
          supply = supply-seen s.replicas x i supply v.part z (cluster-of s k j x w made attempts events) u v.given;
          does = part-seen x i h.0 v.part y t ((waits-same x i).0 a.1) h.1 v.covers (c.others ∙ ap (λ (ps : List PartValue). record (own.settled x i) { parts = ps }) parts);
        })

apply-acts : (s : StateView) (k j : ℕ) (x y : ReplicaView) (i : ℕ) (supply : Supply) (d : Applied) → IsWorker s k j x → IsStandingReplica x → x.up ≡ true → i < length x.log → Suits s.replicas x i supply → own.IsAnswer x i supply (Ok d) → own.IsChange x i supply (Ok d) y
    → Acts s (ev.Apply k i) (rp.Applied d) (record s { replicas = slice_set s.replicas j y })
apply-acts s k j x y i supply d w t u l f a c made attempts events =
    let z = cluster_of s made attempts events in
    let D : Replica → Replica → Type 0 = λ v o. (i < length v.log) × AppliesTo z i d v o in
    inl (record {
      comes = d;
      at = subst (λ m. AtReplica z m D (cluster_of (record s { replicas = slice_set s.replicas j y }) made attempts events)) (sym w.numbered)
          (changed-at s (record s { replicas = slice_set s.replicas j y }) j x y D w.state w.there u (l, came-to s k j x y i supply d w t f a c made attempts events) refl refl made attempts events);
      answer = refl;
    })

-- ---- what can't come

serves-made : (x : ReplicaView) (i : ℕ) (a : Name) (supply : Supply) (part : PartValue) → MakesAt x.log i a → supplied supply ≡ Some part → Does x i part → own.Serves x a supply
serves-made x i a supply part m g d = record { part = part; given = g; covers = subst (Covers part.name) (one-name d.name d.makes) d.covers; within = d.within }
  where
    one-name : (b : Name) → MakesAt x.log i b → b ≡ a
    one-name b n = some-name b a (sym n.makes ∙ (ap result_name (some-entry n.entry m.entry (sym n.stands ∙ m.stands)) ∙ m.makes))
      where
        some-entry : (d e : Entry) → ◌≡◌ {A = Option Entry} (Some d) (Some e) → d ≡ e
        some-entry d e q = cc

        some-name : (c e : Name) → ◌≡◌ {A = Option Name} (Some c) (Some e) → c ≡ e
        some-name c e q = cc

-- what does an entry serves the name that it makes
serves : (rs : List ReplicaView) (x : ReplicaView) (i : ℕ) (a : Name) (supply : Supply) → own.Waits x i → MakesAt x.log i a → Suits rs x i supply → own.Serves x a supply
serves rs x i a Nothing w m (inl (inl h)) = absurd (w.open_entry h)
serves rs x i a Nothing w m (inl (inr h)) = absurd (w.not_dropped h)
serves rs x i a Nothing w m (inr h) = absurd (no-part m.entry m.makes (some-entry m.entry (entries.DropRange h.0 h.1) (sym m.stands ∙ h.2)))
  where
    some-entry : (d e : Entry) → ◌≡◌ {A = Option Entry} (Some d) (Some e) → d ≡ e
    some-entry d e q = cc

    no-part : (e : Entry) → result_name e ≡ Some a → e ≡ entries.DropRange h.0 h.1 → ⊥
    no-part e r q = absurd (let k = sym r ∙ ap result_name q in cc)
serves rs x i a (Built p) w m u = serves-made x i a (Built p) (arc_value p) m refl u.0
serves rs x i a (Fetched p) w m u = serves-made x i a (Fetched p) (arc_value p) m refl u.0

-- ---- what the search is given, and what the call is

entry-within : (log : List Entry) (i : ℕ) → i < length log → (e : Entry) × (entry_at log i ≡ Some e)
entry-within [] i l = absurd (omega (arith, l))
entry-within (x ∷ log) i l = go (nat_eq i (length log)) refl (entry-within log i)
  where
    go : (b : Bool) → nat_eq i (length log) ≡ b → (i < length log → (e : Entry) × (entry_at log i ≡ Some e)) → (e : Entry) × (entry_at (x ∷ log) i ≡ Some e)
    go true q f = (x, ap (λ (b : Bool). cond b (Some x) (entry_at log i)) q)
    go false q f =
        let k : i < length log = grind (arith, nat_tests) in
        let r = f k in
        (r.0, ap (λ (b : Bool). cond b (Some x) (entry_at log i)) q ∙ r.1)

has-replica : (tree : Held) (k : ℕ) (rs : List ReplicaView) (r : ReplicaView) → AreNumbered tree k rs → Has rs r → IsCopyOf tree (copy_of r)
has-replica tree k [] r n h = absurd h
has-replica tree k (x ∷ rs) r n (inl e) = subst (λ (v : ReplicaView). IsCopyOf tree (copy_of v)) e n.0.copy
has-replica tree k (x ∷ rs) r n (inr h) = has-replica tree (k + 1) rs r n.1 h

-- the replicas of a state are of one table
pub one-table : (s : StateView) (i : ℕ) → IsState s → KeepsAccepted s → AreOfOneTable s.replicas i
one-table s i w a = record {
  schema = s.tree.schema;
  log = s.tree.log;
  numbered = λ j r e. Belongs.numbered (at-place s.tree 1 s.replicas j r w.numbered e);
  copies = λ r h. let c = has-replica s.tree 1 s.replicas r w.numbered h in (c.schema, c.prefix);
  accepted = λ r h t e q. a r h t i e q;
}

pub suits-of-table : (rs : List ReplicaView) (x : ReplicaView) (i : ℕ) (supply : Supply) → Suits rs x i supply → IfSome (supplied supply) (own.IsOfTable x)
suits-of-table rs x i Nothing u = tt
suits-of-table rs x i (Built p) u = u.0.of_table
suits-of-table rs x i (Fetched p) u = u.0.of_table

pub missing-found : (rs qs : List ReplicaView) (x : ReplicaView) (i : ℕ) (a : Name) (f : Found) → qs ≡ rs → IsFoundFor qs x i f → f ≡ found.Missing a → IsMissing rs x i a
missing-found rs qs x i a f e h q = subst (λ (l : List ReplicaView). IsMissing l x i a) e (subst (λ (g : Found). IsFoundFor qs x i g) q h)

pub stopped-found : (rs qs : List ReplicaView) (x : ReplicaView) (i : ℕ) (f : Found) → qs ≡ rs → IsFoundFor qs x i f → f ≡ found.Stopped → IsStopped rs x i
stopped-found rs qs x i f e h q = subst (λ (l : List ReplicaView). IsStopped l x i) e (subst (λ (g : Found). IsFoundFor qs x i g) q h)

pub ready-found : (rs qs : List ReplicaView) (x : ReplicaView) (i : ℕ) (supply : Supply) (f : Found) → qs ≡ rs → IsFoundFor qs x i f → f ≡ found.Ready supply → Suits rs x i supply
ready-found rs qs x i supply f e h q = subst (λ (l : List ReplicaView). Suits l x i supply) e (subst (λ (g : Found). IsFoundFor qs x i g) q h)

pub apply-lacks : (s : StateView) (k i j : ℕ) (x : ReplicaView) (a : Name) → IsWorker s k j x → x.up ≡ true → i < length x.log → IsMissing s.replicas x i a → Acts s (ev.Apply k i) (rp.Refused (rf.NeedsPart a)) s
apply-lacks s k i j x a w u l m = let e = entry-within x.log i l in apply-missing s k i j x a w u e.0 e.1 m

pub apply-halts : (s : StateView) (k i j : ℕ) (x : ReplicaView) → IsWorker s k j x → x.up ≡ true → i < length x.log → IsStopped s.replicas x i → Acts s (ev.Apply k i) (rp.Refused rf.FetchesStopped) s
apply-halts s k i j x w u l m = let e = entry-within x.log i l in apply-stopped s k i j x w u e.0 e.1 m

-- where a fetched part is supplied, the replica may fetch
may-fetch : (rs : List ReplicaView) (x : ReplicaView) (i : ℕ) (supply : Supply) → Suits rs x i supply → own.is_stopped x supply ≡ true → ⊥
may-fetch rs x i Nothing u c = absurd (cc)
may-fetch rs x i (Built p) u c = absurd (cc)
may-fetch rs x i (Fetched p) u c = let f = ap not u.1 in absurd (let q = sym c ∙ f in cc)

-- ---- told by the replica's call

pub apply-told : (s : StateView) (k j : ℕ) (x y : ReplicaView) (i : ℕ) (supply : Supply) (r : Result Applied ApplyError) (q : Result Reply AllocError) → IsWorker s k j x → IsStandingReplica x → x.up ≡ true → i < length x.log → Suits s.replicas x i supply → own.IsAnswer x i supply r → own.IsChange x i supply r y
    → IsApplyReply r q → IfOk q (λ reply. Acts s (ev.Apply k i) reply (record s { replicas = slice_set s.replicas j y }))
apply-told s k j x y i supply (Ok d) q w t u l f a c e =
    subst (λ (o : Result Reply AllocError). IfOk o (λ reply. Acts s (ev.Apply k i) reply (record s { replicas = slice_set s.replicas j y }))) (sym e) (apply-acts s k j x y i supply d w t u l f a c)
apply-told s k j x y i supply (Err errors.Down) q w t u l f a c e = absurd (cc)
apply-told s k j x y i supply (Err errors.FetchesStopped) q w t u l f a c e = absurd (may-fetch s.replicas x i supply f a.2)
apply-told s k j x y i supply (Err (errors.NeedsPart b)) q w t u l f a c e = absurd (a.4 (serves s.replicas x i b supply a.1 a.3 f))
apply-told s k j x y i supply (Err errors.Memory) (Ok reply) w t u l f a c e = absurd (cc)
apply-told s k j x y i supply (Err errors.Memory) (Err z) w t u l f a c e = tt

-- where no memory was left nothing changed
pub apply-stays : (s : StateView) (j i : ℕ) (x y : ReplicaView) (supply : Supply) (r : Result Applied ApplyError) (q : Result Reply AllocError) → slice_get s.replicas j ≡ Some x → own.IsChange x i supply r y → IsApplyReply r q
    → OnErr q (record s { replicas = slice_set s.replicas j y } ≡ s)
apply-stays s j i x y supply (Ok d) q t c e = subst (λ (o : Result Reply AllocError). OnErr o (record s { replicas = slice_set s.replicas j y } ≡ s)) (sym e) tt
apply-stays s j i x y supply (Err z) q t c e = at-err q _ (same-state s.tree s.tree s.replicas j x y t c refl)
