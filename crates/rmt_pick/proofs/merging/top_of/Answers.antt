use Rattle.std.proofs.Common.{◌∙◌, ap, arith, max}
use Rattle.rmt_pick.proofs.ChoiceLemmas.{top-front}
use Rattle.rmt_pick.proofs.merging.top_of.Goals as goal

pub levels-preserved : goal.levels-preserved
levels-preserved c =
    let i = c.levels-test.true in let w = c.levels.invariant.1 in let r = c.requires in (
      top-front c.args.names.now c.args.count c.levels.i c.index-names-i.result c.levels.top _ (omega (arith, i)) w c.index-names-i.is (omega (arith, i, w, r)) c.levels.invariant.0 (c.max-top.ensures ∙ ap (λ n. max n c.levels.top) c.level.ensures),
      omega (arith, w),
    )
