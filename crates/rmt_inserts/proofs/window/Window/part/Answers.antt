use Rattle.std.proofs.Common.{ap, sym, drop, ◌∙◌}
use Rattle.rmt_inserts.specs.Windows.{WindowView}
use Rattle.rmt_table_model.specs.Inserts.{part_of}
use Rattle.rmt_inserts.specs.Inside.{same_id}
use Rattle.rmt_inserts.proofs.WindowLemmas.{part-entry, part_beside, AreApart-unique, AreApart-drop, AreOfParts-drop, lookup-kept, lookup-gone, lookup-none}
use Rattle.rmt_inserts.proofs.window.Window.part.Goals as goal

pub returns-in_default : goal.returns-in_default
returns-in_default c =
    ap part_beside (sym (lookup-none (same_id c.args.id.now) c.self.inside.gone c.self.inside.blocks.entries (sym c.in_default.ensures.value)))
    ∙ part-entry c.args.id.now (drop c.self.inside.gone c.self.inside.blocks.entries) (AreOfParts-drop c.self.inside.gone c.self.inside.blocks.entries c.self.invariant.0) (AreApart-drop c.self.inside.gone c.self.inside.blocks.entries (AreApart-unique c.self.inside.blocks.entries c.len-len.ensures.unique))
    ∙ ap (λ (v : WindowView). part_of c.args.id.now.partition c.args.id.now.digest v.placed) c.self.view_is

pub returns-then-i-self : goal.returns-then-i-self
returns-then-i-self c =
    ap part_beside (sym (lookup-gone c.args.id.now c.self.inside.gone c.in-Some.i c.self.inside.blocks.entries (AreApart-unique c.self.inside.blocks.entries c.len-len.ensures.unique) (sym c.in-Some.ensures.index) c.if-i-self.true))
    ∙ part-entry c.args.id.now (drop c.self.inside.gone c.self.inside.blocks.entries) (AreOfParts-drop c.self.inside.gone c.self.inside.blocks.entries c.self.invariant.0) (AreApart-drop c.self.inside.gone c.self.inside.blocks.entries (AreApart-unique c.self.inside.blocks.entries c.len-len.ensures.unique))
    ∙ ap (λ (v : WindowView). part_of c.args.id.now.partition c.args.id.now.digest v.placed) c.self.view_is

pub returns : goal.returns
returns c =
    ap part_beside c.in-Some.ensures.value
    ∙ ap part_beside (sym (lookup-kept (same_id c.args.id.now) c.self.inside.gone c.in-Some.i c.self.inside.blocks.entries (sym c.in-Some.ensures.index) c.if-i-self.false))
    ∙ part-entry c.args.id.now (drop c.self.inside.gone c.self.inside.blocks.entries) (AreOfParts-drop c.self.inside.gone c.self.inside.blocks.entries c.self.invariant.0) (AreApart-drop c.self.inside.gone c.self.inside.blocks.entries (AreApart-unique c.self.inside.blocks.entries c.len-len.ensures.unique))
    ∙ ap (λ (v : WindowView). part_of c.args.id.now.partition c.args.id.now.digest v.placed) c.self.view_is
