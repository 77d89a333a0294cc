-- A run that ends before a statement is played.
use Rattle.std.proofs.Common.{ℕ, List, [], refl}
use Rattle.std.specs.declared.option.Option.{Option}
use Rattle.std.specs.declared.option.Option.TheVariants.{Some, None}
use Rattle.std.proofs.KnownBytes.{Appends-nil, Keeps-refl}
use Rattle.rmt_play.specs.World.{start}
use Rattle.rmt_play.specs.Runs.{GivesScript}
use Rattle.rmt_play.specs.Threads.{PlaysInPart}
use Rattle.rmt_play.specs.Commands.{RunsInPart}
use Rattle.rmt_play.specs.declared.form.Form.{Form}
use Rattle.rmt_play.specs.declared.task.Task.{Task}
use Rattle.rmt_play.specs.declared.task.Task.TheVariants.{Play, Storm}
use Rattle.rmt_play.specs.declared.printing.Printing.{Printing}
use Rattle.rmt_play.specs.declared.printing.Printing.TheVariants.{Full, Summary}

gives_some : (left : Option (List ℕ)) (P : List ℕ → Type 0) → ((script : List ℕ) → P script) → GivesScript left P
gives_some None P holds = record { script = []; given = tt; holds = holds [] }
gives_some (Some bytes) P holds = record { script = bytes; given = refl; holds = holds bytes }

-- nothing was played, with workers or without
pub none_played : (workers : Option ℕ) (printing : Printing) (written : Option (List ℕ)) (script : List ℕ) → PlaysInPart workers printing written written script
none_played None Full written script = record { replies = []; at = 0; world = start; played = (refl, refl); told = Appends-nil written }
none_played None Summary written script = Keeps-refl written
none_played (Some count) Full written script = λ clear. record { replies = []; at = 0; world = start; played = (refl, refl); told = Appends-nil written }
none_played (Some count) Summary written script = λ clear. Keeps-refl written

-- nor of what a source gives
pub none_given : (workers : Option ℕ) (left written : Option (List ℕ)) → GivesScript left (PlaysInPart workers Full written written)
none_given workers left written = gives_some left (PlaysInPart workers Full written written) (none_played workers Full written)

of-task : (task : Task) (workers : Option ℕ) (left written : Option (List ℕ)) → RunsInPart (Some (record { task = task; workers = workers })) left (λ w printing. PlaysInPart w printing written written)
of-task Play workers left written = none_given workers left written
of-task (Storm seed turns) workers left written = none_played workers Summary written _

-- nor by any command
pub none_run : (form : Form) (left written : Option (List ℕ)) → RunsInPart (Some form) left (λ workers printing. PlaysInPart workers printing written written)
none_run form left written = of-task form.task form.workers left written
