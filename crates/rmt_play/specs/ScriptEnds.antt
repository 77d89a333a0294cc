-- How the playing of a script ends, and how far it comes with one statement. No public clause cites this module.
use Rattle.std.specs.Prelude.{◌≡◌, ◌≢◌, ◌⊎◌, ℕ, ◌<◌, ◌≤◌, ◌+◌, List, [], ◌∷◌, length, map, count_by, false}
use Rattle.std.specs.declared.option.Option.{Option}
use Rattle.std.specs.declared.result.Result.{Result}
use Rattle.std.specs.declared.result.Result.TheVariants.{Ok, Err}
use Rattle.std.specs.Io.KnownBytes.{Appends}
use Rattle.rmt_outside.specs.StreamBytes.{AppendsPrefix}
use Rattle.rmt_outside.specs.declared.write.WriteError.{WriteError}
use Rattle.rmt_outside.specs.declared.write.WriteError.TheVariants.{WriteFault, Memory}
use Rattle.rmt_sql.specs.declared.parsed.Parsed.TheVariants as parsed
use Rattle.rmt_sql.specs.Script.{ReadsAt}
use Rattle.rmt_reply.specs.declared.line.Line.{Line}
use Rattle.rmt_reply.specs.Summaries.{is_refused, summary_text}
use Rattle.rmt_play.specs.declared.progress.Progress.{Progress}
use Rattle.rmt_play.specs.declared.progress.Progress.TheVariants as progress
use Rattle.rmt_play.specs.declared.script_end.ScriptEnd.{ScriptEnd}
use Rattle.rmt_play.specs.declared.script_end.ScriptEnd.TheVariants as ends
use Rattle.rmt_play.specs.declared.status.Status.{Status}
use Rattle.rmt_model.specs.Words.{Each}
use Rattle.rmt_events.specs.Clusters.{Cluster}
use Rattle.rmt_play.specs.Shown.{Agrees, HasReplicas}
use Rattle.rmt_play.specs.declared.end.End.{End}
use Rattle.rmt_play.specs.declared.end.End.TheVariants as handed
use Rattle.rmt_values.specs.Rows.{Shape}
use Rattle.rmt_play.specs.declared.round.Round.{Round}
use Rattle.rmt_play.specs.declared.round.Round.TheVariants as rounds
use Rattle.rmt_play.specs.Plays.{Creates, PlayedFrom}
use Rattle.rmt_play.specs.PlayerSteps.{Sights, clusters_seen, PlayerView, is_up, HandsOut, Reaches, Moves, Steps, StepsTo}
use Rattle.rmt_play.specs.Outlets.{Outlet, KeepsMarks, AddsInPart, Tells, Told, ToldInPart}
use Rattle.rmt_play.specs.Runs.{refusals_in, CutShort, PlayedInPart, PlayedSome, PlayedWhole, Writes}
use Rattle.rmt_play.specs.declared.printing.Printing.{Printing}

-- a statement was played and its reply written, of which so many lines tell of a refusal, no more than it has bytes
pub record AdvancesScript (o : Outlet) {e : Sights} (script : List ℕ) (at : ℕ) (old new : PlayerView e) (before after : Option (List o.Mark)) (end refused : ℕ) : Type 0 where
  pub reply : List Line
  pub step : Moves old (Steps e.workers script at reply end) new
  pub told : Tells o reply before after
  pub counted : refused ≡ count_by is_refused reply
  pub few : at + refused ≤ end
  pub further : at < end
  pub within : end ≤ length script

-- a statement was played, and a prefix of its reply was written
pub record CutsReply (o : Outlet) {e : Sights} (script : List ℕ) (at : ℕ) (old : PlayerView e) (before after : Option (List o.Mark)) : Type 0 where
  pub reply : List Line
  pub end : ℕ
  pub new : PlayerView e
  pub step : Moves old (Steps e.workers script at reply end) new
  pub told : AddsInPart before after (o.marks reply)

-- how far writing the reply of a statement comes, after which the script goes on at a place
abbrev pub IsReply : (o : Outlet) → List Line → ℕ → Option (List o.Mark) → Option (List o.Mark) → Progress → Type 0
IsReply o reply end before after progress.AtEnd = ⊥
IsReply o reply end before after (progress.On place refused) =
    (place ≡ end) × Tells o reply before after × (refused ≡ count_by is_refused reply)
IsReply o reply end before after (progress.Creates table schema place) = ⊥
IsReply o reply end before after progress.WriteFault = AddsInPart before after (o.marks reply)
IsReply o reply end before after progress.Memory = KeepsMarks before after

-- the statement at a place is a CREATE that isn't played yet: whoever makes its table has played it
pub record IsToCreate (o : Outlet) {e : Sights} (script : List ℕ) (at : ℕ) (old new : PlayerView e) (before after : Option (List o.Mark)) (table : List ℕ) (schema : Shape) (end : ℕ) : Type 0 where
  pub creates : HandsOut old (StepsTo e.workers script at end) table schema
  pub unchanged : new ≡ old
  pub untold : after ≡ before
  pub further : at < end
  pub within : end ≤ length script

-- how far playing comes with the statement at a place
abbrev pub IsProgress : (o : Outlet) → {e : Sights} → List ℕ → ℕ → PlayerView e → PlayerView e → Option (List o.Mark) → Option (List o.Mark) → Progress → Type 0
IsProgress o script at old new before after progress.AtEnd = ReadsAt script at parsed.End × KeepsMarks before after × (new ≡ old)
IsProgress o script at old new before after (progress.On end refused) =
    AdvancesScript o script at old new before after end refused
IsProgress o script at old new before after (progress.Creates table schema end) =
    IsToCreate o script at old new before after table schema end
IsProgress o script at old new before after progress.WriteFault = CutsReply o script at old before after
IsProgress o script at old new before after progress.Memory = KeepsMarks before after

-- ---- rounds

-- the statements from a place up to another were played, their replies written and the refused ones counted
pub record PlaysOn (o : Outlet) {e : Sights} (script : List ℕ) (from count : ℕ) (old : PlayerView e) (before : Option (List o.Mark)) (at refused : ℕ) (new : PlayerView e) (after : Option (List o.Mark)) : Type 0 where
  pub replies : List (List Line)
  pub played : Reaches old (λ w v. PlayedFrom e.workers script from w replies at v) new
  pub told : Told o before after replies
  pub counted : refused ≡ count + refusals_in replies
  pub further : from ≤ at
  pub few : refused ≤ at
  pub within : at ≤ length script

-- what comes behind the statements of a round that were played up to a place, with so many refused in all
abbrev pub EndsRound : (o : Outlet) → {e : Sights} → List ℕ → PlayerView e → Option (List o.Mark) → Round → ℕ → ℕ → PlayerView e → Option (List o.Mark) → Type 0
EndsRound o script new after (rounds.AtEnd refused) at count old before =
    (refused ≡ count) × ReadsAt script at parsed.End × KeepsMarks before after × (new ≡ old)
EndsRound o script new after (rounds.Creates table schema end refused) at count old before =
    (refused ≡ count) × IsToCreate o script at old new before after table schema end
EndsRound o script new after rounds.WriteFault at count old before = CutsReply o script at old before after
EndsRound o script new after rounds.Memory at count old before = KeepsMarks before after

-- a round of statements from a place on, where so many were refused before
pub record IsRound (o : Outlet) {e : Sights} (script : List ℕ) (from count : ℕ) (old new : PlayerView e) (before after : Option (List o.Mark)) (round : Round) : Type 0 where
  pub at : ℕ
  pub refused : ℕ
  pub player : PlayerView e
  pub now : Option (List o.Mark)
  pub plays : PlaysOn o script from count old before at refused player now
  pub ends : EndsRound o script new after round at refused player now

-- a table is made, and its reply written so far
pub record MakesTable (o : Outlet) {e : Sights} (table : List ℕ) (schema : Shape) (end : ℕ) (old new : PlayerView e) (before after : Option (List o.Mark)) (p : Progress) : Type 0 where
  pub line : Line
  pub made : Moves old (λ w v. Creates w table schema line v) new
  pub told : IsReply o (line ∷ []) end before after p

-- how far the making of a table comes
abbrev pub IsMade : (o : Outlet) → {e : Sights} → List ℕ → Shape → ℕ → PlayerView e → PlayerView e → Option (List o.Mark) → Option (List o.Mark) → Progress → Type 0
IsMade o table schema end old new before after progress.Memory = KeepsMarks before after
IsMade o table schema end old new before after p = MakesTable o table schema end old new before after p

-- ---- the end

-- how the playing of a script ends
abbrev pub IsScriptEnd : (o : Outlet) → List ℕ → Option (List o.Mark) → Option (List o.Mark) → ScriptEnd → Type 0
IsScriptEnd o script before after (ends.Whole refused clusters) = PlayedWhole false script (Told o before after) refused clusters
IsScriptEnd o script before after ends.WriteFault = PlayedSome false script (ToldInPart o before after)
IsScriptEnd o script before after ends.Memory = PlayedSome false script (Told o before after)

-- a call that writes the summary of replies
abbrev pub WritesSummary : List Line → Option (List ℕ) → Option (List ℕ) → Result (Unit {0}) WriteError → Type 0
WritesSummary all before after (Ok done) = Appends before after (summary_text all)
WritesSummary all before after (Err WriteFault) = AppendsPrefix before after (summary_text all)
WritesSummary all before after (Err Memory) = after ≡ before

-- how it ends where its replies are written so
abbrev pub IsWrittenEnd : Printing → List ℕ → Option (List ℕ) → Option (List ℕ) → ScriptEnd → Type 0
IsWrittenEnd printing script before after (ends.Whole refused clusters) = PlayedWhole false script (Writes printing before after) refused clusters
IsWrittenEnd printing script before after ends.WriteFault = CutShort false printing before after script
IsWrittenEnd printing script before after ends.Memory = PlayedInPart false printing before after script

-- these clusters are handed back by a player
pub record AreOfPlayer (p : PlayerView clusters_seen) (clusters : List Cluster) : Type 0 where
  pub all : clusters ≡ map (λ t. t.table) p.tables
  pub replicas : Each (HasReplicas p.replicas (is_up p.replicas p.up)) clusters
  pub agree : Each Agrees clusters

-- the end of a script that was played to its end by a player
abbrev pub IsEndOf : PlayerView clusters_seen → ℕ → ScriptEnd → Type 0
IsEndOf p count (ends.Whole refused clusters) = (refused ≡ count) × AreOfPlayer p clusters
IsEndOf p count ends.WriteFault = ⊥
IsEndOf p count ends.Memory = Unit {0}

-- the code and the count of an end, and the clusters, where there are any
abbrev pub IsStatusOf : ScriptEnd → Status × List Cluster → Type 0
IsStatusOf (ends.Whole refused clusters) x =
    (x.0.refused ≡ refused) × (((x.0.code ≡ 0) × (refused ≡ 0)) ⊎ ((x.0.code ≡ 2) × (0 < refused))) × (x.1 ≡ clusters)
IsStatusOf ends.WriteFault x = (x.0.code ≡ 5) × (x.0.refused ≡ 0)
IsStatusOf ends.Memory x = (x.0.code ≡ 6) × (x.0.refused ≡ 0)

-- clusters are handed back exactly where a script was played to its end
abbrev pub IsHandedBack : ℕ → List Cluster → End → Type 0
IsHandedBack code clusters (handed.Stepped given) = ((code ≡ 0) ⊎ (code ≡ 2)) × (given ≡ clusters)
IsHandedBack code clusters (handed.Threaded states) = ⊥
IsHandedBack code clusters handed.Nothing = (code ≢ 0) × (code ≢ 2)
