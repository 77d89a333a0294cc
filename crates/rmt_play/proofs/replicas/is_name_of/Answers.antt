use Rattle.std.proofs.Common.{◌∙◌, ℕ, List, ◌∷◌, ap, sym, arith}
use Rattle.std.specs.Str.{bytes_eq}
use Rattle.std.proofs.lemmas.Fmt.{decimal_digit}
use Rattle.rmt_play.proofs.replicas.is_name_of.Goals as goal

pub returns : goal.returns
returns c = c.is.ensures ∙ ap (λ (t : List ℕ). bytes_eq c.args.name.now (114 ∷ t)) (sym (decimal_digit c.args.number (omega (arith, c.requires))))
