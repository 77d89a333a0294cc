use Rattle.std.proofs.Common.{codes, sym, subst, arith, IfOk}
use Rattle.std.proofs.lemmas.Option.{none-some, same_Some}
use Rattle.rmt_table_model.specs.Inserts.{IsLeastLocked}
use Rattle.rmt_inserts.proofs.BelowLemmas.{none-there, one-there, beyond-there}
use Rattle.rmt_inserts.proofs.locks.in_flight.Goals as goal
use Rattle.rmt_inserts.proofs.locks.in_flight.Goals.{in_default-number_of-2, in_default-number_of}

pub returns-in_default : goal.returns-in_default
returns-in_default c = λ next holders has.
    none-there c.args.tree.now next holders has c.args.partition c.args.from c.args.to c.in_ok-low.low c.in_ok-low.ensures.path c.in_default.ensures

pub returns-in-Some-number_of : goal.returns-in-Some-number_of
returns-in-Some-number_of c = λ next holders has.
    one-there c.args.tree.now next holders has c.args.partition (c.in_ok-low.ensures.in_range.0) c.args.from (c.in_ok-low.ensures.in_range.1) c.args.to c.in_ok-low.low c.in_ok-low.ensures.path c.in-Some.name.now c.in-Some.ensures
    c.in-Some-number_of.number (λ n small e. c.in-Some-number_of.ensures (codes "block-") n small e) c.if-number-to.true

pub returns : goal.returns
returns c = λ next holders has.
    elim c.match-number_of.branch [
      | in_default-number_of-2 w ↦
          subst (λ r. IfOk r (IsLeastLocked holders c.args.partition c.args.from c.args.to)) (sym w.result-is)
          (beyond-there c.args.tree.now next holders has c.args.partition (c.in_ok-low.ensures.in_range.0) c.args.from (c.in_ok-low.ensures.in_range.1) c.args.to c.in_ok-low.low c.in_ok-low.ensures.path c.in-Some.name.now c.in-Some.ensures
          (λ n small e. let q = same_Some _ _ (w.in-Some-number_of.ensures (codes "block-") n small e) in omega (arith, q, w.if-number-to.false)))
      | in_default-number_of w ↦
          subst (λ r. IfOk r (IsLeastLocked holders c.args.partition c.args.from c.args.to)) (sym w.result-is)
          (beyond-there c.args.tree.now next holders has c.args.partition (c.in_ok-low.ensures.in_range.0) c.args.from (c.in_ok-low.ensures.in_range.1) c.args.to c.in_ok-low.low c.in_ok-low.ensures.path c.in-Some.name.now c.in-Some.ensures
          (λ n small e. absurd (none-some n (w.in_default-number_of.ensures (codes "block-") n small e))))
    ]
