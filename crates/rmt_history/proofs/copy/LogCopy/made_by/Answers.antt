use Rattle.std.proofs.Common.{◌∙◌, ap, sym, subst}
use Rattle.std.specs.BTreeMap.{get}
use Rattle.rmt_names.specs.Names.{Name}
use Rattle.rmt_history.specs.Copies.{History, entries, IsMadeBy, name_cmp}
use Rattle.rmt_history.proofs.copy.LogCopy.made_by.Goals as goal

pub returns : goal.returns
returns c =
    let found = c.copied.ensures ∙ (c.get.ensures.value ∙ ap (λ (a : Name). get name_cmp c.self.inside.makers a) c.of.ensures) in
    subst (λ (h : History). IsMadeBy h.log c.args.name.now c.copied.result) c.self.view_is
    (subst (IsMadeBy (entries c.self.inside.seen.items) c.args.name.now) (sym found) (c.self.invariant.indexed c.args.name.now))
