-- The command's words as clap reads them. No public clause cites this module.
use Rattle.std.specs.Prelude.{ℕ, Some, None, List, [], ◌∷◌, codes, true}
use Rattle.std.specs.declared.option.Option.{Option}
use Rattle.clap.specs.Simple.{App, new_app, new_rule, with_rule, with_subcommand, on_top}
use Rattle.clap.specs.Walk.{Rule}
use Rattle.clap.specs.declared.builder.action.ArgAction.TheVariants.{Set}

-- the option `--workers`, which has one value
abbrev pub workers : Rule
workers = record (new_rule (codes "workers")) { long = Some (codes "workers"); action = Some Set }

-- the subcommand `play`, which has that option
abbrev pub play : App
play = with_rule (new_app (codes "play")) workers

-- the subcommand `storm`, which has two words beside it
abbrev pub storm : App
storm = with_rule (with_rule (with_rule (new_app (codes "storm")) (new_rule (codes "seed"))) (new_rule (codes "turns"))) workers

-- the program `rmt` with its subcommands; its own name isn't among the words
abbrev pub program : App
program =
    with_subcommand (with_subcommand (on_top (λ shape. record shape { no_binary_name = true }) (new_app (codes "rmt"))) play.top) storm.top

-- the first word is the subcommand that is asked for
abbrev pub name_asked : List (List ℕ) → Option (List ℕ)
name_asked [] = None
name_asked (word ∷ words) = Some word
