-- A whole run: the words, the script, and what is written.
use Rattle.std.specs.Prelude.{◌≡◌, ◌⊎◌, ℕ, ◌≤◌, ◌+◌, List, [], ◌∷◌, ◌++◌, length, count_by, Bool, MatchOption}
use Rattle.std.specs.declared.option.Option.{Option}
use Rattle.std.specs.Io.KnownBytes.{Appends, Keeps}
use Rattle.rmt_outside.specs.StreamBytes.{AppendsPrefix}
use Rattle.rmt_sql.specs.declared.parsed.Parsed.TheVariants as parsed
use Rattle.rmt_sql.specs.Script.{ReadsAt}
use Rattle.rmt_reply.specs.declared.line.Line.{Line}
use Rattle.rmt_reply.specs.Printed.{printed_all}
use Rattle.rmt_reply.specs.Summaries.{is_refused, summary_text}
use Rattle.rmt_model.specs.Words.{Each}
use Rattle.rmt_events.specs.Clusters.{Cluster}
use Rattle.rmt_play.specs.World.{World}
use Rattle.rmt_play.specs.WorldRests.{RestsAll}
use Rattle.rmt_play.specs.Plays.{Played}
use Rattle.rmt_play.specs.Shown.{AreShown, HasReplicas, Agrees, HandsBack}
use Rattle.rmt_play.specs.declared.end.End.{End}
use Rattle.rmt_play.specs.declared.printing.Printing.{Printing}
use Rattle.rmt_play.specs.declared.printing.Printing.TheVariants.{Full, Summary}

-- the lines of replies that are given the newest first, in their order
abbrev pub lines_of : List (List Line) → List Line
lines_of [] = []
lines_of (reply ∷ replies) = lines_of replies ++ reply

-- what is written of replies: each as it is printed, or at the end the summary of them all
abbrev pub output : Printing → List (List Line) → List ℕ
output Full replies = printed_all (lines_of replies)
output Summary replies = summary_text (lines_of replies)

-- that was written
abbrev pub Writes : Printing → Option (List ℕ) → Option (List ℕ) → List (List Line) → Type 0
Writes printing before after replies = Appends before after (output printing replies)

-- or a prefix of it
abbrev pub WritesInPart : Printing → Option (List ℕ) → Option (List ℕ) → List (List Line) → Type 0
WritesInPart printing before after replies = AppendsPrefix before after (output printing replies)

-- how many statements were refused, those in lanes among them
abbrev pub refusals_in : List (List Line) → ℕ
refusals_in [] = 0
refusals_in (reply ∷ replies) = count_by is_refused reply + refusals_in replies

-- The script is what the source gives, where that is known.
pub record GivesScript (left : Option (List ℕ)) (P : List ℕ → Type 0) : Type 0 where
  pub script : List ℕ
  pub given : MatchOption left (Unit {0}) (λ bytes. script ≡ bytes)
  pub holds : P script

-- a script of at most so many bytes that the source gives
abbrev pub GivesScriptWithin : ℕ → Option (List ℕ) → (List ℕ → Type 0) → Type 0
GivesScriptWithin limit left P = GivesScript left (λ script. (length script ≤ limit) × P script)

-- The whole script was played, this was told of its replies, so many of its statements were refused, and these clusters show
-- its tables: in each the replicas are up and down as the script left them, and those agree that have done the same log. The world
-- may rest after the last statement.
pub record PlayedWhole (workers : Bool) (script : List ℕ) (Told : List (List Line) → Type 0) (refused : ℕ) (clusters : List Cluster) : Type 0 where
  pub replies : List (List Line)
  pub at : ℕ
  pub last : World
  pub played : Played workers script replies at last
  pub ended : ReadsAt script at parsed.End
  pub told : Told replies
  pub counted : refused ≡ refusals_in replies
  pub world : World
  pub rests : RestsAll workers last world
  pub shown : AreShown clusters world.tables
  pub replicas : Each (HasReplicas world.replicas world.up) clusters
  pub agree : Each Agrees clusters

-- Some first statements of the script were played, and this was told of their replies.
pub record PlayedSome (workers : Bool) (script : List ℕ) (Told : List (List Line) → Type 0) : Type 0 where
  pub replies : List (List Line)
  pub at : ℕ
  pub world : World
  pub played : Played workers script replies at world
  pub told : Told replies

-- All of them were played.
pub record PlayedAll (workers : Bool) (script : List ℕ) (Told : List (List Line) → Type 0) : Type 0 where
  pub replies : List (List Line)
  pub at : ℕ
  pub world : World
  pub played : Played workers script replies at world
  pub ended : ReadsAt script at parsed.End
  pub told : Told replies

-- Where no memory was left, some first statements were played, and their replies were written. Of a summary nothing was.
abbrev pub PlayedInPart : Bool → Printing → Option (List ℕ) → Option (List ℕ) → List ℕ → Type 0
PlayedInPart workers Full before after script = PlayedSome workers script (Writes Full before after)
PlayedInPart workers Summary before after script = Keeps before after

-- Where a write failed, a prefix of what some first statements reply was written. A prefix of a summary is one of all replies.
abbrev pub CutShort : Bool → Printing → Option (List ℕ) → Option (List ℕ) → List ℕ → Type 0
CutShort workers Full before after script = PlayedSome workers script (WritesInPart Full before after)
CutShort workers Summary before after script = PlayedAll workers script (WritesInPart Summary before after)

-- the codes that there are
abbrev pub IsCode : ℕ → Type 0
IsCode code = (code ≡ 0) ⊎ (code ≡ 2) ⊎ (code ≡ 3) ⊎ (code ≡ 4) ⊎ (code ≡ 5) ⊎ (code ≡ 6) ⊎ (code ≡ 7)

-- The whole script was played, and the clusters that show its tables are handed back.
pub record PlayedToEnd (workers : Bool) (script : List ℕ) (Told : List (List Line) → Type 0) (refused : ℕ) (end : End) : Type 0 where
  pub clusters : List Cluster
  pub handed_back : HandsBack end clusters
  pub played : PlayedWhole workers script Told refused clusters

-- the codes of a script that is played
abbrev pub IsPlayCode : ℕ → Type 0
IsPlayCode code = (code ≡ 0) ⊎ (code ≡ 2) ⊎ (code ≡ 5) ⊎ (code ≡ 6)
