use Rattle.std.proofs.Common.{◌∙◌, sym, subst}
use Rattle.std.specs.Str.{IsUtf8}
use Rattle.rmt_inserts.proofs.NameLemmas.{ten-read, last-bytes, utf8-digits}
use Rattle.rmt_inserts.proofs.names.number_of.Goals as goal

pub returns-in-Ok : goal.returns-in-Ok
returns-in-Ok c = λ prefix n small is.
    c.ok.ensures.value
    ∙ ten-read n c.in-Ok.text.now c.parse.result small (c.in-Ok.ensures.cases.0 ∙ last-bytes prefix n c.args.name.now c.saturating_sub-start.result c.saturating_sub-start.ensures is) c.parse.ensures.value.0

pub returns-in-Err : goal.returns-in-Err
returns-in-Err c = λ prefix n small is.
    absurd (c.in-Err.ensures.cases.0 (subst IsUtf8 (sym (last-bytes prefix n c.args.name.now c.saturating_sub-start.result c.saturating_sub-start.ensures is)) (utf8-digits 10 n)))
