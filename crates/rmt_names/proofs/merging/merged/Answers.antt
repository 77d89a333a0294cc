use Rattle.std.proofs.Common.{◌≡◌, ◌+◌, ◌-◌, ℕ, List, ◌∷◌, subst, sym, take, drop, length, arith}
use Rattle.std.proofs.lemmas.Grind.{common_steps}
use Rattle.std.proofs.lemmas.List.{drop_more}
use Rattle.rmt_names.specs.Names.{Name}
use Rattle.rmt_names.proofs.MergeLemmas.{SameMerge, same-next}
use Rattle.rmt_names.proofs.merging.merged.Goals as goal

pub sources-preserved : goal.sources-preserved
sources-preserved c =
    let rest = take (length c.args.sources.now - 1) (drop 1 c.args.sources.now) in
    let more : drop c.sources.next-index rest ≡ c.next-item.result ∷ drop (c.sources.next-index + 1) rest = grind (arith, common_steps, drop_more rest c.sources.next-index c.next-item.result) in
    let joined = c.in_ok-new.ensures in
    subst (λ n. SameMerge c.first-item.result rest n (drop (c.sources.next-index + 1) rest)) (sym joined.1)
    (same-next c.first-item.result rest c.sources.new c.next-item.result (drop c.sources.next-index rest) (drop (c.sources.next-index + 1) rest) c.sources.invariant more joined.0)
