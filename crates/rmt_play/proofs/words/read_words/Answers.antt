use Rattle.std.proofs.Common.{◌≡◌, ◌∙◌, ap, sym, map, option_map}
use Rattle.std.specs.String.{string_bytes}
use Rattle.std.proofs.lemmas.Result.{IfErr-weaker, IfOk-weaker}
use Rattle.clap.specs.Words.{app_of, is_simple, subcommand_of, takes}
use Rattle.rmt_play.specs.CommandWords.{program}
use Rattle.rmt_play.proofs.WordLemmas.{form-taken, name-in_rows}
use Rattle.rmt_play.proofs.words.read_words.Goals as goal

pub returns-clause-reads : goal.returns-clause-reads
returns-clause-reads c =
    let is_program : app_of c.in_ok-command.field-0 ≡ program = c.in_ok-command.ensures.program in
    let taken = form-taken (map string_bytes c.args.words.now) c.requires.form in
    let parse = c.try_get_matches_from in
    IfOk-weaker parse.result _ _ (λ m h. sym (name-in_rows m) ∙ ap (option_map (λ p. p.0)) ((h (ap is_simple is_program)).1 ∙ ap (λ p. subcommand_of p (map string_bytes c.args.words.now)) is_program) ∙ taken.1) parse.ensures.matches

pub returns-clause-memory : goal.returns-clause-memory
returns-clause-memory c =
    let is_program : app_of c.in_ok-command.field-0 ≡ program = c.in_ok-command.ensures.program in
    let taken = form-taken (map string_bytes c.args.words.now) c.requires.form in
    let parse = c.try_get_matches_from in
    IfErr-weaker parse.result _ _ (λ e h. h (ap (λ p. takes p (map string_bytes c.args.words.now)) is_program ∙ taken.0)) parse.ensures.passes
