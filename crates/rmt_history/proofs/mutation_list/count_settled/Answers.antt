use Rattle.std.proofs.Common.{◌∙◌, sym, ap, arith, length, not, refl, ◌+◌, ◌-◌, ◌/◌, ◌<◌}
use Rattle.std.proofs.lemmas.Option.{slice_get_read}
use Rattle.std.proofs.lemmas.List.Sums.{prefix_len-le-length}
use Rattle.rmt_history.specs.Mutations.{is_settled}
use Rattle.rmt_model.specs.Choices.{is_pending}
use Rattle.rmt_history.proofs.ListLemmas.{passes-below, fails-above}
use Rattle.rmt_history.proofs.mutation_list.count_settled.Goals as goal

pub halves-init : goal.halves-init
halves-init c = record {
  low = omega arith;
  high = prefix_len-le-length (is_settled c.args.name.now) c.args.tokens.now;
  within = omega arith;
}

pub halves-preserved-then-is_pending : goal.halves-preserved-then-is_pending
halves-preserved-then-is_pending c =
    let t = c.halves-test.true in let w = c.halves.invariant.within in
    let middle = c.halves.low + (c.halves.high - c.halves.low) / 2 in
    let l : middle < length c.args.tokens.now = omega (arith, t, w) in
    let there = slice_get_read c.args.tokens.now (length c.args.tokens.now) middle c.index-tokens-middle.result refl l c.index-tokens-middle.is in
    let pends = sym (ap (is_pending c.args.name.now) c.value.ensures) ∙ (sym c.is_pending.ensures ∙ c.if-is_pending.true) in
    record {
      low = c.halves.invariant.low;
      high = fails-above (is_settled c.args.name.now) c.args.tokens.now middle c.index-tokens-middle.result there (ap not pends);
      within = omega (arith, l);
    }

pub halves-preserved : goal.halves-preserved
halves-preserved c =
    let t = c.halves-test.true in let w = c.halves.invariant.within in
    let middle = c.halves.low + (c.halves.high - c.halves.low) / 2 in
    let l : middle < length c.args.tokens.now = omega (arith, t, w) in
    let there = slice_get_read c.args.tokens.now (length c.args.tokens.now) middle c.index-tokens-middle.result refl l c.index-tokens-middle.is in
    let settled = ap not (sym (ap (is_pending c.args.name.now) c.value.ensures) ∙ (sym c.is_pending.ensures ∙ c.if-is_pending.false)) in
    let h = passes-below (is_settled c.args.name.now) c.args.tokens.now middle c.index-tokens-middle.result c.requires.settled there settled in
    record { low = omega (arith, h); high = c.halves.invariant.high; within = c.halves.invariant.within }
