use Rattle.std.proofs.Common.{◌∷◌, ◌≤◌, ap, sym, subst, drop, take, length, arith, ◌∙◌}
use Rattle.indexmap.proofs.CallerLemmas.{insert_entry-new}
use Rattle.rmt_table_model.specs.Kept.{with_id}
use Rattle.rmt_inserts.specs.Windows.{WindowView, AreOfParts, newest_first, placed_as}
use Rattle.rmt_inserts.specs.Inside.{gone_after}
use Rattle.rmt_inserts.proofs.WindowLemmas.{AreOfParts-append, AreOfParts-drop, absent-entry, with-limit, gone-within}
use Rattle.rmt_inserts.proofs.window.Window.keep.Goals as goal

pub invariant_of-self : goal.invariant_of-self
invariant_of-self c =
    let absent = c.without_gone-gone.ensures.absent (absent-entry c.args.id (drop c.self.inside.gone c.self.inside.blocks.entries) (AreOfParts-drop c.self.inside.gone c.self.inside.blocks.entries c.self.invariant.0)
    (ap (λ (v : WindowView). with_id c.args.id.partition c.args.id.digest v.placed) c.self.view_is ∙ c.requires.apart)) in
    let added = (rw c.unwrap.ensures at c.insert-added.ensures.entries) ∙ insert_entry-new _ c.without_gone-gone.new.blocks c.args.id (record { part = c.args.part; number = c.self.inside.count }) absent in (
      subst AreOfParts (sym added) (AreOfParts-append c.without_gone-gone.new.blocks.entries (c.args.id, record { part = c.args.part; number = c.self.inside.count }) (c.without_gone-gone.ensures.parts c.self.invariant.0) c.requires.partition),
      subst (λ g. g ≤ length c.insert-added.new.self.entries) (sym (c.gone_after-self-inside.ensures ∙ ap (λ n. gone_after c.args.limit c.without_gone-gone.result n) c.len.ensures.len)) (gone-within c.args.limit c.without_gone-gone.result c.without_gone-gone.new.blocks.entries c.insert-added.new.self.entries (c.args.id, record { part = c.args.part; number = c.self.inside.count }) added c.without_gone-gone.ensures.within),
    )

pub returns-clause-placed : goal.returns-clause-placed
returns-clause-placed c =
    let absent = c.without_gone-gone.ensures.absent (absent-entry c.args.id (drop c.self.inside.gone c.self.inside.blocks.entries) (AreOfParts-drop c.self.inside.gone c.self.inside.blocks.entries c.self.invariant.0)
    (ap (λ (v : WindowView). with_id c.args.id.partition c.args.id.digest v.placed) c.self.view_is ∙ c.requires.apart)) in
    let added = (rw c.unwrap.ensures at c.insert-added.ensures.entries) ∙ insert_entry-new _ c.without_gone-gone.new.blocks c.args.id (record { part = c.args.part; number = c.self.inside.count }) absent in
    let kept = ap newest_first c.without_gone-gone.ensures.rest ∙ ap (λ (v : WindowView). v.placed) c.self.view_is in
    let few = ap length kept in
    let count = ap (λ (v : WindowView). v.count) c.self.view_is in
    ap (λ g. newest_first (drop g c.insert-added.new.self.entries)) (c.gone_after-self-inside.ensures ∙ ap (λ n. gone_after c.args.limit c.without_gone-gone.result n) c.len.ensures.len)
    ∙ with-limit c.args.limit c.without_gone-gone.result c.without_gone-gone.new.blocks.entries c.insert-added.new.self.entries (c.args.id, record { part = c.args.part; number = c.self.inside.count }) added c.without_gone-gone.ensures.within (let within = c.requires.within in omega (arith, few, within))
    ∙ (λ i. take c.args.limit (placed_as c.args.id c.args.part (count i) ∷ kept i))
