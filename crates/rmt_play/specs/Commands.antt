-- What a command plays: the script that the source gives, or that of a workload.
-- No public source: this program's own.
use Rattle.std.specs.Prelude.{◌≡◌, ◌≢◌, ℕ, List}
use Rattle.std.specs.declared.option.Option.{Option}
use Rattle.std.specs.declared.option.Option.TheVariants.{Some, None}
use Rattle.rmt_storm.specs.Storms.{storm_text}
use Rattle.rmt_play.specs.declared.form.Form.{Form}
use Rattle.rmt_play.specs.declared.task.Task.{Task}
use Rattle.rmt_play.specs.declared.task.Task.TheVariants.{Play, Storm}
use Rattle.rmt_play.specs.declared.printing.Printing.{Printing}
use Rattle.rmt_play.specs.declared.printing.Printing.TheVariants.{Full, Summary}
use Rattle.rmt_play.specs.Runs.{GivesScript, GivesScriptWithin}

-- a play is asked for
abbrev pub IsPlay : Option Form → Type 0
IsPlay None = ⊥
IsPlay (Some form) = form.task ≡ Play

-- a workload is
abbrev pub IsWorkload : Option Form → Type 0
IsWorkload None = ⊥
IsWorkload (Some form) = form.task ≢ Play

-- this holds of the script of a task: of at most so many bytes that the source gives, each reply of which is written; or of the
-- workload's, of which a summary is
abbrev pub OfTask : ℕ → Task → Option (List ℕ) → (Printing → List ℕ → Type 0) → Type 0
OfTask limit Play left Plays = GivesScriptWithin limit left (Plays Full)
OfTask limit (Storm seed turns) left Plays = Plays Summary (storm_text seed turns)

-- so it is with the words of a command, and with the workers that they tell
abbrev pub RunsScript : ℕ → Option Form → Option (List ℕ) → (Option ℕ → Printing → List ℕ → Type 0) → Type 0
RunsScript limit None left Plays = ⊥
RunsScript limit (Some form) left Plays = OfTask limit form.task left (Plays form.workers)

-- the same, where the script may have any length
abbrev pub OfTaskInPart : Task → Option (List ℕ) → (Printing → List ℕ → Type 0) → Type 0
OfTaskInPart Play left Plays = GivesScript left (Plays Full)
OfTaskInPart (Storm seed turns) left Plays = Plays Summary (storm_text seed turns)

abbrev pub RunsInPart : Option Form → Option (List ℕ) → (Option ℕ → Printing → List ℕ → Type 0) → Type 0
RunsInPart None left Plays = ⊥
RunsInPart (Some form) left Plays = OfTaskInPart form.task left (Plays form.workers)
