use Rattle.std.proofs.Common.{◌≡◌, ◌∙◌, ◌||◌, ap, ap₂, codes, false, true, Bor, Bool, List, Some, ℕ, refl}
use Rattle.std.proofs.lemmas.Result.{IfOk-weaker}
use Rattle.clap.specs.Words.{AddsArg, AddsSubcommand, App, Rule, app_of, new_rule, rule_of, with_rule, with_subcommand}
use Rattle.clap.specs.Simple.{app_of_fields, on_top}
use Rattle.clap.specs.declared.builder.action.ArgAction.TheVariants.{Set}
use Rattle.clap.specs.declared.builder.arg.Arg.{Arg}
use Rattle.clap.specs.declared.builder.command.Command.{Command}
use Rattle.clap.specs.declared.builder.command.Command.TheViews.{out-Command}
use Rattle.rmt_play.specs.CommandWords.{play, storm, workers}
use Rattle.rmt_play.proofs.words.command.Goals as goal

-- an argument with this rule, for its command alone
abbrev HasRule : Arg → Rule → Type 0
HasRule a rule = (rule_of a ≡ rule) × (a.global ≡ false)

-- a command that is this one, with no argument for its subcommands
abbrev HasApp : Command → App → Type 0
HasApp c app = (app_of c ≡ app) × ((out-Command c).has_globals ≡ false)

-- a new argument that becomes the option `--workers`
is-workers : (name : Bor (List ℕ)) (a b d : Arg) → name.now ≡ codes "workers" → HasRule a (new_rule (codes "workers")) → b ≡ record a { long = Some name } → d ≡ record b { action = Some Set } → HasRule d workers
is-workers name a b d n h e f =
    let g : d ≡ record a { long = Some name; action = Some Set } = f ∙ ap (λ (x : Arg). record x { action = Some Set }) e in
    (ap rule_of g ∙ ap₂ (λ (r : Rule) (text : List ℕ). record r { long = Some text; action = Some Set }) h.0 n, ap (λ (x : Arg). x.global) g ∙ h.1)

-- a command with one more argument
with-arg : {old new : Command} {a : Arg} {app : App} {rule : Rule} → HasApp old app → HasRule a rule → AddsArg old a new → HasApp new (with_rule app rule)
with-arg c a adds = (adds.shape a.1 ∙ ap₂ with_rule c.0 a.0, adds.globals ∙ ap₂ (λ (x y : Bool). x || y) c.1 a.1)

-- one with one more subcommand
with-sub : {old sub new : Command} {app added : App} → app_of old ≡ app → HasApp sub added → AddsSubcommand old sub new → app_of new ≡ with_subcommand app added.top
with-sub c s adds = adds.shape s.1 ∙ ap₂ with_subcommand c (ap (λ (a : App). a.top) s.0)

pub returns : goal.returns
returns c =
    let play_is : HasApp c.in_ok-play.play play = with-arg (c.new-2.ensures.app, c.new-2.ensures.local) (is-workers _ c.new.result c.long.result c.action-workers.result refl (c.new.ensures.rule, c.new.ensures.optional.1) c.long.ensures c.action-workers.ensures) c.in_ok-play.ensures in
    let seed_is = with-arg (c.new-4.ensures.app, c.new-4.ensures.local) (c.new-5.ensures.rule, c.new-5.ensures.optional.1) c.in_ok-arg.ensures in
    let turns_is = with-arg seed_is (c.new-6.ensures.rule, c.new-6.ensures.optional.1) c.in_ok-arg-2.ensures in
    let storm_is : HasApp c.in_ok-storm.storm storm = with-arg turns_is (is-workers _ c.new-3.result c.long-2.result c.action-workers-2.result refl (c.new-3.ensures.rule, c.new-3.ensures.optional.1) c.long-2.ensures c.action-workers-2.ensures) c.in_ok-storm.ensures in
    let top_is = ap app_of_fields c.no_binary_name.ensures ∙ ap (on_top (λ shape. record shape { no_binary_name = true })) c.new-7.ensures.app in
    let one_is = with-sub top_is play_is c.in_ok-subcommand.ensures in
    record { program = IfOk-weaker c.subcommand-2.result _ _ (λ command adds. with-sub one_is storm_is adds) c.subcommand-2.ensures }
