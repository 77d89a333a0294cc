-- What an act comes to in its table, whatever executes it. No public clause cites this module.
use Rattle.std.specs.Prelude.{◌≡◌, ℕ, Bool, true, false, List, [], ◌∷◌, MatchOption}
use Rattle.std.specs.declared.option.Option.{Option}
use Rattle.std.specs.declared.option.Option.TheVariants.{Some}
use Rattle.rmt_values.specs.declared.query.Query.{Query}
use Rattle.rmt_expr.specs.Queries.{query_refusal}
use Rattle.rmt_events.specs.Clusters.{Cluster}
use Rattle.rmt_cluster.specs.Runs.{RunsAll}
use Rattle.rmt_statement_model.specs.TableStates.{TableState}
use Rattle.rmt_statements.specs.declared.act.Act.{Act}
use Rattle.rmt_statements.specs.declared.act.Act.TheVariants as acts
use Rattle.rmt_reply.specs.declared.line.Line.{Line}
use Rattle.rmt_reply.specs.declared.line.Line.TheVariants as lines
use Rattle.rmt_reply.specs.declared.refusal.Refusal.{Refusal}
use Rattle.rmt_acting.specs.Acting.{Sight, Brings}
use Rattle.rmt_play.specs.Checks.{first_of}
use Rattle.rmt_play.specs.ActRefusals.{refused_down, refused_query, act_refusal, act_refusals, id_refusal, stopped_refusal, syncs_first}
use Rattle.rmt_play.specs.Acts.{Acts}
use Rattle.rmt_play.specs.ActEvents.{ActEvents}
use Rattle.rmt_play.specs.RunStatement.{RunsTurns}

-- nothing changes, and this is the reply
abbrev pub Declines : {workers : Bool} → Sight workers → TableState → Line → Sight workers → TableState → Refusal → Type 0
Declines {workers} s t line u v refusal = (line ≡ lines.Refused refusal) × (v ≡ t) × (workers ≡ false → u.cluster ≡ s.cluster)

-- an act does what it says in its table; where no workers run, by its events
abbrev pub DoesAct : {workers : Bool} → Sight workers → TableState → ℕ → Act → Line → Sight workers → TableState → Type 0
DoesAct {workers} s t r act line u v = Acts workers s.ups t r act line v × (workers ≡ false → ActEvents s.cluster r act line u.cluster)

-- why an act is refused at a replica that is up
abbrev pub refusal_there : TableState → Act → Option Refusal
refusal_there t (acts.WaitMutation table id) = id_refusal t (acts.WaitMutation table id)
refusal_there t act = act_refusal t act

-- an act does what it says in its table at a replica that is up, or is refused
abbrev pub ExecutesAct : {workers : Bool} → Sight workers → ℕ → Act → Line → Sight workers → TableState → TableState → Type 0
ExecutesAct s r act line u t v = MatchOption (refusal_there t act) (DoesAct s t r act line u v) (Declines s t line u v)

-- the same, whatever state was shown
abbrev pub ExecutesIn : {workers : Bool} → Sight workers → ℕ → Act → Line → Sight workers → Type 0
ExecutesIn s r act line u = Brings s (ExecutesAct s r act line u) u

-- an act does what it says in its table at a replica, up or down, or is refused
abbrev pub ExecutesAt : {workers : Bool} → Sight workers → ℕ → Act → Line → Sight workers → TableState → TableState → Type 0
ExecutesAt s r act line u t v = MatchOption (first_of (act_refusals s.ups t r act)) (DoesAct s t r act line u v) (Declines s t line u v)

-- the same, whatever state was shown
abbrev pub ExecutesThere : {workers : Bool} → Sight workers → ℕ → Act → Line → Sight workers → Type 0
ExecutesThere s r act line u = Brings s (ExecutesAt s r act line u) u

-- why an act is refused at a replica, whatever it asks for: the replica is down, or may not fetch what would bring it up to date
abbrev pub held_refusal : {workers : Bool} → Sight workers → ℕ → Act → Option Refusal
held_refusal s r act = first_of (refused_down s.ups (Some r) ∷ stopped_refusal s.fetching r act ∷ [])

-- a replica may fetch where the act brings it up to date first
abbrev pub MayFetchFor : {workers : Bool} → Sight workers → ℕ → Act → Type 0
MayFetchFor s r act = syncs_first act ≡ true → s.fetching r ≡ true

-- a query is answered; where no workers run, by these events
abbrev pub AnswersBy : {workers : Bool} → (TableState → Line → TableState → Type 0) → (Line → Cluster → Type 0) → Line → Sight workers → TableState → TableState → Type 0
AnswersBy {workers} Answers Events line u t v = Answers t line v × (workers ≡ false → Events line u.cluster)

-- a query is answered, whatever state was shown, or refused
abbrev pub ExecutesQuery : {workers : Bool} → Sight workers → Query → (TableState → Line → TableState → Type 0) → (Line → Cluster → Type 0) → Line → Sight workers → Type 0
ExecutesQuery s query Answers Events line u =
    Brings s (λ t v. MatchOption (refused_query (query_refusal t.schema query)) (AnswersBy Answers Events line u t v) (Declines s t line u v)) u

-- so many turns of background work are done, whatever state was shown; where no workers run, by events that are drawn from the seed
pub record RunsTable {workers : Bool} (turns seed : ℕ) (line : Line) (s u : Sight workers) : Type 0 where
  pub turns_made : Brings s (λ t v. RunsTurns workers s.ups t turns line v) u
  pub events : workers ≡ false → RunsAll s.cluster seed turns u.cluster

-- the act that lets a replica fetch in a table, or stops its fetches
abbrev pub switch_act : Bool → List ℕ → Act
switch_act false table = acts.StopFetches table
switch_act true table = acts.StartFetches table
