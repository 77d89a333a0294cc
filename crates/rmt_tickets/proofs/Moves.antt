-- Each step of a pass keeps the rule of the queue.
use Rattle.std.proofs.Common.{◌≡◌, ◌≢◌, ℕ, zero, suc, ◌+◌, ◌-◌, ◌<◌, ◌≤◌, true, List, [], ◌∷◌, ◌++◌, set, sym, refl, ap, ◌∙◌, subst, ⊎_elim, arith}
use mathlib.Core.Option.{some, some-ne-none, some-injective}
use lib.ListN.{get_elem?}
use Rattle.crossbeam_queue.specs.Fifo.{Pushes, Pops, Forks, Merges, Learns}
use Rattle.crossbeam_queue.proofs.Lists.{at_set, at_snoc}
use Rattle.rmt_tickets.specs.declared.ticket.Ticket.{Ticket}
use Rattle.rmt_tickets.specs.declared.rule.PassMoves.{PassMoves}
use Rattle.rmt_tickets.specs.Tickets.{moves, with_put, with_taken, in_range, times, total}
use Rattle.rmt_tickets.specs.Balance.{IdleIsEmpty, AreInRange, Balanced, both, IsWhole}
use Rattle.rmt_tickets.proofs.Counting.{times-append, total-append}

in_range-push : (ts : List Ticket) (t : Ticket) → in_range t ≡ true → AreInRange ts → AreInRange (ts ++ t ∷ [])
in_range-push [] t is all = (is, tt)
in_range-push (u ∷ us) t is all = (all.0, in_range-push us t is all.1)

-- the total after a change of one pass
total-set : (f : PassMoves → ℕ) (views : List PassMoves) (port : ℕ) (v w : PassMoves) → get_elem? views port ≡ some v → total f (set views port w) + f v ≡ total f views + f w
total-set f [] port v w at = absurd (some-ne-none v (sym at))
total-set f (x ∷ xs) zero v w at = let e : x ≡ v = some-injective x v at in omega (arith, ap f e)
total-set f (x ∷ xs) (suc port) v w at = omega (arith, total-set f xs port v w at)

idle-set : (views : List PassMoves) (port : ℕ) (w : PassMoves) → (w.parts ≡ 0 → (w.put ≡ []) × (w.taken ≡ [])) → IdleIsEmpty views → IdleIsEmpty (set views port w)
idle-set views port w mine old j u at = ⊎_elim (λ (x : (j ≡ port) × (w ≡ u)). subst (λ (y : PassMoves). y.parts ≡ 0 → (y.put ≡ []) × (y.taken ≡ [])) x.1 mine)
    (λ (x : (j ≢ port) × (get_elem? views j ≡ some u)). old j u x.1) (at_set views port j w u at)

pub puts : (n port : ℕ) (v : PassMoves) (x : Ticket) → 0 < v.parts → in_range x ≡ true → Pushes Balanced n port v x (λ w. w ≡ with_put v x)
puts n port v x some_part is items views room b at =
    let w = with_put v x in (
      w,
      (
        (let s = total-set (λ u. u.parts) views port v w at in let p = b.0 in omega (arith, s, p)),
        (λ t.
            let s = total-set (λ u. times t u.put) views port v w at in
            let r = total-set (λ u. times t u.taken) views port v w at in
            let p = b.1 t in
            omega (arith, s, r, p, times-append t v.put (x ∷ []), times-append t items (x ∷ []))),
        idle-set views port w (λ none. absurd (omega (arith, none, some_part))) b.2,
        in_range-push items x is b.3,
      ),
      refl,
    )

pub takes : (port : ℕ) (v : PassMoves) → 0 < v.parts → Pops Balanced port v (λ x w. (w ≡ with_taken v x) × (in_range x ≡ true))
takes port v some_part x items views b at =
    let w = with_taken v x in (
      w,
      (
        (let s = total-set (λ u. u.parts) views port v w at in let p = b.0 in omega (arith, s, p)),
        (λ t.
            let s = total-set (λ u. times t u.put) views port v w at in
            let r = total-set (λ u. times t u.taken) views port v w at in
            let p = b.1 t in
            omega (arith, s, r, p, times-append t v.taken (x ∷ []))),
        idle-set views port w (λ none. absurd (omega (arith, none, some_part))) b.2,
        b.3.1,
      ),
      (refl, b.3.0),
    )

pub forks : (port : ℕ) (v : PassMoves) → 1 < v.parts → Forks Balanced port v (moves (v.parts - 1) v.put v.taken) (moves 1 [] [])
forks port v more items views b at = let l = moves (v.parts - 1) v.put v.taken in let r = moves 1 [] [] in let vs = set views port l in
    let snoc : (f : PassMoves → ℕ) → total f (vs ++ r ∷ []) ≡ total f vs + f r + 0 = λ f. omega (arith, total-append f vs (r ∷ [])) in (
      (let s = total-set (λ u. u.parts) views port v l at in let t = snoc (λ u. u.parts) in let p = b.0 in omega (arith, s, t, p, more)),
      (λ h.
          let s = total-set (λ u. times h u.put) views port v l at in
          let s' = snoc (λ u. times h u.put) in
          let t = total-set (λ u. times h u.taken) views port v l at in
          let t' = snoc (λ u. times h u.taken) in
          let p = b.1 h in
          omega (arith, s, s', t, t', p)),
      (λ j u e none. ⊎_elim (λ x. idle-set views port l (λ no. absurd (omega (arith, no, more))) b.2 j u x none)
          (λ (is : r ≡ u). absurd (let z : 1 ≡ u.parts = ap (λ (y : PassMoves). y.parts) is in omega (arith, z, none))) (at_snoc vs r u j e)),
      b.3,
    )

pub merges : (port : ℕ) (v : PassMoves) (other : ℕ) (w : PassMoves) → 0 < v.parts → Merges Balanced port v other w (both v w) (moves 0 [] [])
merges port v other w some_part items views b at apart at' = let m = both v w in let spent = moves 0 [] [] in let vs = set views port m in (
  (let s = total-set (λ u. u.parts) views port v m at in let s' = total-set (λ u. u.parts) vs other w spent at' in let p = b.0 in omega (arith, s, s', p)),
  (λ t.
      let s = total-set (λ u. times t u.put) views port v m at in
      let s' = total-set (λ u. times t u.put) vs other w spent at' in
      let r = total-set (λ u. times t u.taken) views port v m at in
      let r' = total-set (λ u. times t u.taken) vs other w spent at' in
      let p = b.1 t in
      omega (arith, s, s', r, r', p, times-append t v.put w.put, times-append t v.taken w.taken)),
  idle-set vs other spent (λ _. (refl, refl)) (idle-set views port m (λ none. absurd (omega (arith, none, some_part))) b.2),
  b.3,
)

-- one pass is part of the total
total-at : (f : PassMoves → ℕ) (views : List PassMoves) (port : ℕ) (v : PassMoves) → get_elem? views port ≡ some v → f v ≤ total f views
total-at f [] port v at = absurd (some-ne-none v (sym at))
total-at f (x ∷ xs) zero v at = let e : x ≡ v = some-injective x v at in omega (arith, ap f e)
total-at f (x ∷ xs) (suc port) v at = omega (arith, total-at f xs port v at)

-- a total of nothing, where no pass has a part
total-idle : (f : PassMoves → ℕ) (views : List PassMoves) → total (λ u. u.parts) views ≡ 0 → ((j : ℕ) (u : PassMoves) → get_elem? views j ≡ some u → u.parts ≡ 0 → f u ≡ 0) → total f views ≡ 0
total-idle f [] empty idle = refl
total-idle f (x ∷ xs) empty idle =
    let mine = idle 0 x refl (omega (arith, empty)) in
    let rest = total-idle f xs (omega (arith, empty)) (λ j u at. idle (suc j) u at) in
    omega (arith, mine, rest)

-- the total is that of the one pass that has every part
total-alone : (f : PassMoves → ℕ) (views : List PassMoves) (port : ℕ) (v : PassMoves) → get_elem? views port ≡ some v → total (λ u. u.parts) views ≡ v.parts
    → ((j : ℕ) (u : PassMoves) → get_elem? views j ≡ some u → u.parts ≡ 0 → f u ≡ 0) → total f views ≡ f v
total-alone f [] port v at whole idle = absurd (some-ne-none v (sym at))
total-alone f (x ∷ xs) zero v at whole idle =
    let e : x ≡ v = some-injective x v at in
    let same = ap (λ (y : PassMoves). y.parts) e in
    let rest = total-idle f xs (omega (arith, whole, same)) (λ j u at. idle (suc j) u at) in
    omega (arith, ap f e, rest)
total-alone f (x ∷ xs) (suc port) v at whole idle =
    let below = total-at (λ u. u.parts) xs port v at in
    let mine = idle 0 x refl (omega (arith, below, whole)) in
    let rest = total-alone f xs port v at (omega (arith, below, whole)) (λ j u at. idle (suc j) u at) in
    omega (arith, mine, rest)

pub learns : (port : ℕ) (v : PassMoves) → v.parts ≡ 8 → Learns Balanced port v (IsWhole v)
learns port v all items views b at t =
    let whole : total (λ u. u.parts) views ≡ v.parts = b.0 ∙ sym all in
    let p = total-alone (λ u. times t u.put) views port v at whole (λ j u e none. ap (times t) (b.2 j u e none).0) in
    let q = total-alone (λ u. times t u.taken) views port v at whole (λ j u e none. ap (times t) (b.2 j u e none).1) in
    let r = b.1 t in
    omega (arith, p, q, r)
