use Rattle.std.proofs.Common.{◌≡◌, ◌∙◌, ℕ, ◌+◌, suc, List, ◌∷◌, map, drop, sym, ap, ap₂, subst, arith, Bor}
use Rattle.std.proofs.Math.Seq.{drop-cons}
use Rattle.rmt_values.proofs.NameSets.{HasEarlier, has_earlier}
use Rattle.rmt_values.proofs.name_sets.set_of.Goals as goal

pub names-preserved : goal.names-preserved
names-preserved c =
    let all = c.args.names.now in
    let i = c.names.name-index in
    let step : suc i ≡ i + 1 = omega arith in
    let here : drop i all ≡ c.name-item.result ∷ drop (i + 1) all =
    drop-cons all i c.name-item.result c.names-test.true ∙ ap₂ (λ (x : Bor (List ℕ)) (xs : List (Bor (List ℕ))). x ∷ xs) (sym c.name-item.is) (ap (λ j. drop j all) step) in
    has_earlier (map (λ n. n.now) all) (map (λ n. n.now) (drop (i + 1) all)) c.name-item.result.now c.names.set c.insert.new.self c.as_bytes.result c.as_bytes.ensures c.in_ok-insert.ensures.updates
    (subst (λ (rest : List (Bor (List ℕ))). HasEarlier (map (λ n. n.now) all) (map (λ n. n.now) rest) c.names.set) here c.names.invariant)
