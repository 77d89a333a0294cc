use Rattle.std.proofs.Common.{rules, refl, sym, ap, subst, ◌∙◌, arith}
use Rattle.std.specs.Prelude.{filter}
use Rattle.indexmap.proofs.CallerLemmas.{filter-RetainsPairs}
use Rattle.rmt_table_model.specs.Kept.{outlives}
use Rattle.rmt_inserts.specs.Windows.{WindowView, AreOfParts, newest_first}
use Rattle.rmt_inserts.specs.Inside.{spares}
use Rattle.rmt_inserts.proofs.WindowLemmas.{newest_first-filter, AreOfParts-drop, AreOfParts-filter}
use Rattle.rmt_inserts.proofs.window.Window.forget.Goals as goal

pub invariant_of-self : goal.invariant_of-self
invariant_of-self c =
    let left = AreOfParts-filter (λ e. spares c.args.partition c.args.below e.1.part) c.settle.new.blocks.entries (subst AreOfParts (sym c.settle.ensures.rest) (AreOfParts-drop c.self.inside.gone c.self.inside.blocks.entries c.self.invariant.0)) in
    (subst AreOfParts (sym (filter-RetainsPairs _ (λ e. spares c.args.partition c.args.below e.1.part) _ (λ k v b w g call. search rules) _ _ c.retain.ensures.filtered)) left, omega arith)

pub returns-clause-placed : goal.returns-clause-placed
returns-clause-placed c =
    ap newest_first (filter-RetainsPairs _ (λ e. spares c.args.partition c.args.below e.1.part) _ (λ k v b w g call. search rules) _ _ c.retain.ensures.filtered)
    ∙ newest_first-filter (outlives c.args.partition c.args.below) (λ e. spares c.args.partition c.args.below e.1.part) (λ e. refl) c.settle.new.blocks.entries
    ∙ ap (λ es. filter (outlives c.args.partition c.args.below) (newest_first es)) c.settle.ensures.rest
    ∙ ap (λ (v : WindowView). filter (outlives c.args.partition c.args.below) v.placed) c.self.view_is
