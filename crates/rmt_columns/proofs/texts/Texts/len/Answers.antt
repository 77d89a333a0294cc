use Rattle.std.proofs.Common.{rules, ◌≡◌, length, sym, ap, ◌∙◌}
use Rattle.rmt_columns.proofs.TextLemmas.{length-texts}
use Rattle.rmt_columns.proofs.texts.Texts.len.Goals as goal

pub returns : goal.returns
returns c =
    let n : c.len.result ≡ length c.self.inside.ends.items = search rules in
    n ∙ (sym (length-texts c.self.inside.bytes.items 0 c.self.inside.ends.items) ∙ ap length c.self.view_is)
