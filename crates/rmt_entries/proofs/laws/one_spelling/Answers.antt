use Rattle.std.proofs.Common.{sym, ap, ◌∙◌}
use Rattle.std.proofs.lemmas.Option.{same_Some}
use Rattle.rmt_entries.specs.EntryDecoding.{decode_all}
use Rattle.rmt_entries.proofs.EntryCodes.{whole_again}
use Rattle.rmt_entries.proofs.laws.one_spelling.Goals as goal

pub returns : goal.returns
returns c = λ a b p q e. same_Some a b (sym (whole_again a p) ∙ ap decode_all e ∙ whole_again b q)
