use Rattle.std.specs.String.{string_bytes}
use Rattle.rmt_play.proofs.WordLemmas.{few-words, many-words}
use Rattle.rmt_play.proofs.words.storm_form.Goals as goal

pub returns-in_default-clause-form : goal.returns-in_default-clause-form
returns-in_default-clause-form c = few-words string_bytes c.args.words.now c.in_default.len_below

pub returns-in_default-2-clause-form : goal.returns-in_default-2-clause-form
returns-in_default-2-clause-form c = many-words string_bytes c.args.words.now c.in_default.len_at_least
