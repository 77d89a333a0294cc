use Rattle.std.proofs.Common.{◌∙◌, ◌-◌, List, drop, take, length, sym, ap, subst, arith}
use Rattle.rmt_names.specs.Names.{Name}
use Rattle.rmt_model.specs.Choices.{best_run, better, greatest_level}
use Rattle.rmt_pick.specs.Runs.{StandsFor}
use Rattle.rmt_pick.proofs.ChoiceLemmas.{best-next, counted-run, count-next, version-next, run-within}
use Rattle.rmt_pick.proofs.merging.best.Goals as goal

pub top_of-top-requires : goal.top_of-top-requires
top_of-top-requires c =
    let names = c.live-names.result.now in
    let i = c.names-test.true in
    let counted = count-next c.args.copy.now.log c.args.most names c.split_at.result.1.now c.names.i c.index-names-i.result c.ver-own.result c.names.version c.names.count c.run_len-count.result c.requires (omega (arith, i)) c.names.invariant.within c.index-names-i.is c.ver-own.ensures c.names.invariant.version c.names.invariant.count c.split_at.ensures.back c.run_len-count.ensures in
    let w = run-within c.args.copy.now.log c.args.most (drop (c.names.i - 1) names) in
    let r = ap length c.split_at.ensures.back in
    omega (arith, counted, w, r)

pub names-preserved : goal.names-preserved
names-preserved c =
    let names = c.live-names.result.now in
    let log = c.args.copy.now.log in
    let i = c.names-test.true in let w = c.names.invariant.within in
    let at = c.names.i - 1 in
    let length_is = count-next log c.args.most names c.split_at.result.1.now c.names.i c.index-names-i.result c.ver-own.result c.names.version c.names.count c.run_len-count.result c.requires (omega (arith, i)) w c.index-names-i.is c.ver-own.ensures c.names.invariant.version c.names.invariant.count c.split_at.ensures.back c.run_len-count.ensures in
    let within = run-within log c.args.most (drop at names) in
    let back = c.split_at.ensures.back_len in
    let rest = ap length c.split_at.ensures.back in
    let counted = counted-run log c.args.most names (record { first = at; count = c.run_len-count.result; top = c.top_of-top.result }) length_is (omega (arith, length_is, within, back, rest))
    (c.top_of-top.ensures ∙ ap (λ (xs : List Name). greatest_level (take c.run_len-count.result xs)) c.split_at.ensures.back) in
    record {
      best = subst (StandsFor names c.better-best.result)
          (sym (best-next log c.args.most names c.names.i (omega (arith, i)) (omega (arith, i, w)) ∙ ap (λ (l : List Name). better l (best_run log c.args.most (drop c.names.i names))) counted.1))
          (c.better-best.ensures names (best_run log c.args.most (drop c.names.i names)) counted.0 c.names.invariant.best);
      count = length_is;
      version = version-next log names c.names.i c.index-names-i.result c.ver-own.result (omega (arith, i)) w c.index-names-i.is c.ver-own.ensures;
      within = omega (arith, w);
    }
