-- What is sent to a replica that is down is refused, and what would bring one up to date that may not fetch.
use Rattle.std.proofs.Common.{◌≡◌, ◌∙◌, ℕ, inl, inr, Bool, true, false, cond, [], ◌∷◌, refl, ap, sym, subst}
use Rattle.std.specs.Prelude.{MatchOption}
use Rattle.std.specs.declared.option.Option.{Option}
use Rattle.std.specs.declared.option.Option.TheVariants.{Some, None}
use Rattle.rmt_values.specs.Rows.{Shape}
use Rattle.rmt_statement_model.specs.TableStates.{TableState}
use Rattle.rmt_acting.specs.Acting.{Sight}
use Rattle.rmt_statements.specs.declared.act.Act.{Act}
use Rattle.rmt_statements.specs.declared.act.Act.TheVariants as acts
use Rattle.rmt_statements.specs.declared.insert.Insert.{Insert}
use Rattle.rmt_reply.specs.declared.line.Line.TheVariants as lines
use Rattle.rmt_reply.specs.declared.refusal.Refusal.{Refusal}
use Rattle.rmt_reply.specs.declared.refusal.Refusal.TheVariants.{ReplicaDown, FetchesStopped}
use Rattle.rmt_play.specs.Checks.{first_of}
use Rattle.rmt_play.specs.ActRefusals.{refused_down, refused_stopped, act_refusal, act_refusals, down_refusal, id_refusal, stopped_refusal, syncs_first}
use Rattle.rmt_play.specs.ActSteps.{DoesAct, Declines, ExecutesAt, ExecutesThere, MayFetchFor, held_refusal}
use Rattle.rmt_play.specs.PlayerSteps.{IsOwnRefusal}
use Rattle.rmt_play.proofs.SightLemmas.{brings-none}

-- ---- what holds a replica

-- a replica that is down
pub held-down : {w : Bool} (s : Sight w) (r : ℕ) (act : Act) → s.ups r ≡ false → held_refusal s r act ≡ Some (ReplicaDown r)
held-down s r act e = rw e refl

-- one that is up
pub held-up : {w : Bool} (s : Sight w) (r : ℕ) (act : Act) → s.ups r ≡ true → held_refusal s r act ≡ stopped_refusal s.fetching r act
held-up s r act e = rw e (alone (stopped_refusal s.fetching r act))
  where
    alone : (o : Option Refusal) → first_of (None ∷ o ∷ []) ≡ o
    alone None = refl
    alone (Some w) = refl

-- one that is up and may not fetch
pub held-stopped : {w : Bool} (s : Sight w) (r : ℕ) (act : Act) → s.ups r ≡ true → syncs_first act ≡ true → s.fetching r ≡ false → held_refusal s r act ≡ Some (FetchesStopped r)
held-stopped s r act up first stopped = held-up s r act up ∙ rw (first, stopped) refl

-- one that is up, where the act doesn't bring it up to date
pub held-not : {w : Bool} (s : Sight w) (r : ℕ) (act : Act) → s.ups r ≡ true → syncs_first act ≡ false → held_refusal s r act ≡ None
held-not s r act up first = held-up s r act up ∙ rw first refl

-- one that is up and may fetch
pub held-free : {w : Bool} (s : Sight w) (r : ℕ) (act : Act) → s.ups r ≡ true → s.fetching r ≡ true → held_refusal s r act ≡ None
held-free s r act up f = held-up s r act up ∙ go (syncs_first act)
  where
    go : (b : Bool) → cond b (refused_stopped s.fetching r) None ≡ None
    go true = rw f refl
    go false = refl

-- nothing holds it
pub record IsFree {w : Bool} (s : Sight w) (r : ℕ) (act : Act) : Type 0 where
  pub up : s.ups r ≡ true
  pub fetches : MayFetchFor s r act

pub held-none : {w : Bool} (s : Sight w) (r : ℕ) (act : Act) → held_refusal s r act ≡ None → IsFree s r act
held-none s r act e = go (s.ups r) refl
  where
    fetches : (b : Bool) → s.fetching r ≡ b → s.ups r ≡ true → MayFetchFor s r act
    fetches true q up first = q
    fetches false q up first = let x = held-stopped s r act up first q in absurd (cc)

    go : (b : Bool) → s.ups r ≡ b → IsFree s r act
    go true q = record { up = q; fetches = fetches (s.fetching r) refl q }
    go false q = let x = held-down s r act q in absurd (cc)

-- ---- what is refused

-- the refusal, or that of the replica
abbrev or_held : Refusal → Option Refusal → Refusal
or_held held None = held
or_held held (Some why) = why

-- the first of the refusals that the replica has, or the one that stands before them
first-held : (o d p i : Option Refusal) (held : Refusal) → first_of (d ∷ p ∷ []) ≡ Some held → first_of (o ∷ d ∷ p ∷ i ∷ []) ≡ Some (or_held held o)
first-held (Some why) d p i held q = refl
first-held None (Some w) p i held q = q
first-held None None (Some w) i held q = q
first-held None None None i held q = absurd (cc)

-- the replica's own refusal is last, or first where the act has none
declines : {w : Bool} (s : Sight w) (t : TableState) (r : ℕ) (act : Act) (held : Refusal) (why : Option Refusal) → act_refusal t act ≡ why → first_of (down_refusal s.ups r act ∷ stopped_refusal t.fetching r act ∷ []) ≡ Some held → ExecutesAt s r act (lines.Refused (or_held held why)) s t t
declines s t r act held why own q =
    subst (λ (o : Option Refusal). MatchOption o (DoesAct s t r act (lines.Refused (or_held held why)) s t) (Declines s t (lines.Refused (or_held held why)) s t)) (sym first) (refl, refl, λ _. refl)
  where
    first : first_of (act_refusals s.ups t r act) ≡ Some (or_held held why)
    first = first-held (act_refusal t act) (down_refusal s.ups r act) (stopped_refusal t.fetching r act) (id_refusal t act) held q ∙ ap (λ (o : Option Refusal). Some (or_held held o)) own

-- an INSERT's replica is down
down-held : (up : ℕ → Bool) (r : ℕ) (held : Refusal) → first_of (refused_down up (Some r) ∷ None ∷ []) ≡ Some held → (up r ≡ false) × (held ≡ ReplicaDown r)
down-held up r held q = go (up r) refl q
  where
    go : (b : Bool) → up r ≡ b → first_of (cond b None (Some (ReplicaDown r)) ∷ None ∷ []) ≡ Some held → (up r ≡ false) × (held ≡ ReplicaDown r)
    go true e k = absurd (cc)
    go false e k = (e, cc)

-- an INSERT is refused for its columns, a bad row, or the replica
insert-declines : {w : Bool} (s : Sight w) (t : TableState) (r : ℕ) (insert : Insert) (held : Refusal) (why : Option Refusal) → (s.ups r ≡ false) × (held ≡ ReplicaDown r) → IsOwnRefusal t.schema (acts.Insert insert) why → ExecutesAt s r (acts.Insert insert) (lines.Refused (or_held held why)) s t t
insert-declines s t r insert held None d k =
    subst (λ (o : Option Refusal). MatchOption (first_of (o ∷ None ∷ None ∷ None ∷ [])) (DoesAct s t r (acts.Insert insert) (lines.Refused held) s t) (Declines s t (lines.Refused held) s t)) (sym k.1.known)
    (inr (inr (record { down = d.0; rows = k.0; read = k.1.read; reply = ap (λ (w : Refusal). lines.Refused w) d.1; unchanged = refl })), λ _. refl)
insert-declines s t r insert held (Some why) d (inl q) =
    subst (λ (o : Option Refusal). MatchOption (first_of (o ∷ None ∷ None ∷ None ∷ [])) (DoesAct s t r (acts.Insert insert) (lines.Refused why) s t) (Declines s t (lines.Refused why) s t)) (sym q) (refl, refl, λ _. refl)
insert-declines s t r insert held (Some why) d (inr b) =
    subst (λ (o : Option Refusal). MatchOption (first_of (o ∷ None ∷ None ∷ None ∷ [])) (DoesAct s t r (acts.Insert insert) (lines.Refused why) s t) (Declines s t (lines.Refused why) s t)) (sym b.known)
    (inr (inl (record { row = b.row; refused = b.refused; reply = ap (λ (w : Refusal). lines.Refused w) b.is; unchanged = refl })), λ _. refl)

each-declines : {w : Bool} (s : Sight w) (t : TableState) (r : ℕ) (act : Act) (held : Refusal) (why : Option Refusal) → first_of (refused_down s.ups (Some r) ∷ stopped_refusal t.fetching r act ∷ []) ≡ Some held → IsOwnRefusal t.schema act why → ExecutesAt s r act (lines.Refused (or_held held why)) s t t
each-declines s t r (acts.Insert insert) held why q k = insert-declines s t r insert held why (down-held s.ups r held q) k
each-declines s t r (acts.Select table query mode) held why q k = declines s t r (acts.Select table query mode) held why (k t refl) q
each-declines s t r (acts.Explain table query) held why q k = declines s t r (acts.Explain table query) held why (k t refl) q
each-declines s t r (acts.Mutate table command) held why q k = declines s t r (acts.Mutate table command) held why (k t refl) q
each-declines s t r (acts.DropPartition table word) held why q k = declines s t r (acts.DropPartition table word) held why (k t refl) q
each-declines s t r (acts.Optimize table word) held why q k = declines s t r (acts.Optimize table word) held why (k t refl) q
each-declines s t r (acts.ShowParts table) held why q k = declines s t r (acts.ShowParts table) held why (k t refl) q
each-declines s t r (acts.CheckTable table) held why q k = declines s t r (acts.CheckTable table) held why (k t refl) q
each-declines s t r (acts.WaitMutation table id) held why q k = declines s t r (acts.WaitMutation table id) held why (k t refl) q
each-declines s t r (acts.SyncReplica table) held why q k = declines s t r (acts.SyncReplica table) held why (k t refl) q
each-declines s t r (acts.RestartReplica table) held why q k = declines s t r (acts.RestartReplica table) held why (k t refl) q
each-declines s t r (acts.StopFetches table) held why q k = declines s t r (acts.StopFetches table) held why (k t refl) q
each-declines s t r (acts.StartFetches table) held why q k = declines s t r (acts.StartFetches table) held why (k t refl) q

-- whatever state was shown
pub held-refused : {w : Bool} (s : Sight w) (r : ℕ) (act : Act) (held : Refusal) (why : Option Refusal) → held_refusal s r act ≡ Some held → IsOwnRefusal s.shape act why → ExecutesThere s r act (lines.Refused (or_held held why)) s
held-refused s r act held why q k =
    brings-none s (ExecutesAt s r act (lines.Refused (or_held held why)) s)
    (λ t known. each-declines s t r act held why (subst (λ (f : ℕ → Bool). first_of (refused_down s.ups (Some r) ∷ stopped_refusal f r act ∷ []) ≡ Some held) (sym known.fetching) q)
    (subst (λ (c : Shape). IsOwnRefusal c act why) (sym known.schema) k))

-- the two ways
pub own-refused : {w : Bool} (s : Sight w) (r : ℕ) (act : Act) (held refusal : Refusal) → held_refusal s r act ≡ Some held → IsOwnRefusal s.shape act (Some refusal) → ExecutesThere s r act (lines.Refused refusal) s
own-refused s r act held refusal q k = held-refused s r act held (Some refusal) q k

pub replica-refused : {w : Bool} (s : Sight w) (r : ℕ) (act : Act) (held : Refusal) → held_refusal s r act ≡ Some held → IsOwnRefusal s.shape act None → ExecutesThere s r act (lines.Refused held) s
replica-refused s r act held q k = held-refused s r act held None q k
