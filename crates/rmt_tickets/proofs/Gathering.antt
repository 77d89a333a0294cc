-- What is known while passes are joined, and when the queue is empty.
use Rattle.std.proofs.Common.{◌≡◌, ℕ, zero, suc, ◌+◌, ◌-◌, ◌<◌, ◌≤◌, replicate, List, [], ◌∷◌, ◌++◌, length, refl, ap, arith}
use Rattle.crossbeam_queue.specs.Fifo.{Held}
use Rattle.rmt_tickets.specs.declared.ticket.Ticket.{Ticket}
use Rattle.rmt_tickets.specs.declared.rule.PassMoves.{PassMoves}
use Rattle.rmt_tickets.specs.Tickets.{Place, moves, place, dealt_to, with_put, with_taken, times, total, all_parts, IsEven}
use Rattle.rmt_tickets.specs.Balance.{both, IsWhole}
use Rattle.rmt_tickets.specs.Gathers.{Gathers}
use Rattle.rmt_tickets.proofs.Counting.{times-append, total-append}

total-last : (f : Place → ℕ) (all rest : List Place) (p : Place) → all ≡ rest ++ p ∷ [] → total f all ≡ total f rest + f p
total-last f all rest p split = let e = ap (total f) split in let a = total-append f rest (p ∷ []) in omega (arith, e, a)

-- the first pass
pub gathers-first : (all rest : List Place) (p : Place) (v : PassMoves) → all ≡ rest ++ p ∷ [] → v ≡ p.moves → IsEven p.moves p.begun → Gathers all rest v
gathers-first all rest p v split is even =
    let sum = λ (f : Place → ℕ). total-last f all rest p split in
    let same = λ (f : PassMoves → ℕ). ap f is in
    record {
      parts = let s = sum (λ q. q.moves.parts) in let e = same (λ h. h.parts) in omega (arith, s, e);
      put = λ t. let s = sum (λ q. times t q.moves.put) in let e = same (λ h. times t h.put) in omega (arith, s, e);
      taken = λ t. let s = sum (λ q. times t q.moves.taken) in let e = same (λ h. times t h.taken) in omega (arith, s, e);
      even = λ t. let s = sum (λ q. times t q.begun) in let d = same (λ h. times t h.put) in let e = same (λ h. times t h.taken) in let f = even t in omega (arith, s, d, e, f);
    }

-- one pass more
pub gathers-more : (all before rest : List Place) (p : Place) (v w new : PassMoves) → before ≡ rest ++ p ∷ [] → w ≡ p.moves → new ≡ both v w → IsEven p.moves p.begun → Gathers all before v → Gathers all rest new
gathers-more all before rest p v w new split is joined even g =
    let sum = λ (f : Place → ℕ). total-last f before rest p split in
    let same = λ (f : PassMoves → ℕ). ap f is in
    let now = λ (f : PassMoves → ℕ). ap f joined in
    let put_now : (t : Ticket) → times t new.put ≡ times t v.put + times t p.moves.put =
    λ t. let n = now (λ h. times t h.put) in let a = times-append t v.put w.put in let e = same (λ h. times t h.put) in omega (arith, n, a, e) in
    let taken_now : (t : Ticket) → times t new.taken ≡ times t v.taken + times t p.moves.taken =
    λ t. let n = now (λ h. times t h.taken) in let a = times-append t v.taken w.taken in let e = same (λ h. times t h.taken) in omega (arith, n, a, e) in
    record {
      parts = let s = sum (λ q. q.moves.parts) in let e = same (λ h. h.parts) in let n = now (λ h. h.parts) in let o = g.parts in omega (arith, s, e, n, o);
      put = λ t. let s = sum (λ q. times t q.moves.put) in let n = put_now t in let o = g.put t in omega (arith, s, n, o);
      taken = λ t. let s = sum (λ q. times t q.moves.taken) in let n = taken_now t in let o = g.taken t in omega (arith, s, n, o);
      even = λ t. let s = sum (λ q. times t q.begun) in let m = put_now t in let n = taken_now t in let o = g.even t in let f = even t in omega (arith, s, m, n, o, f);
    }

-- a ticket that was taken and put back
pub even-turn : (v w u : PassMoves) (begun : List Ticket) (x : Ticket) → w ≡ with_taken v x → u ≡ with_put w x → IsEven v begun → IsEven u begun
even-turn v w u begun x took put even t =
    let a = ap (λ (h : PassMoves). times t h.put) put in
    let b = ap (λ (h : PassMoves). times t h.taken) put in
    let d = ap (λ (h : PassMoves). times t h.put) took in
    let e = ap (λ (h : PassMoves). times t h.taken) took in
    let f = times-append t w.put (x ∷ []) in
    let g = times-append t v.taken (x ∷ []) in
    let h = even t in
    omega (arith, a, b, d, e, f, g, h)

nothing : (t : Ticket) (items : List Ticket) → length items ≡ 0 → times t items ≡ 0
nothing t [] empty = refl
nothing t (x ∷ xs) empty = absurd (omega (arith, empty))

-- where the queue is empty, what was put was taken
pub drained : (v w : PassMoves) (left : List Ticket) → w ≡ moves 8 v.put (v.taken ++ left) → Held 0 (IsWhole w) → (t : Ticket) → times t v.put ≡ times t v.taken + times t left
drained v w left is held t =
    let a = ap (λ (h : PassMoves). times t h.put) is in
    let b = ap (λ (h : PassMoves). times t h.taken) is in
    let d = times-append t v.taken left in
    let e = held.2 t in
    let f = nothing t held.0 held.1 in
    omega (arith, a, b, d, e, f)

-- two passes have no more parts than there are
pub parts-below : (all before rest : List Place) (p : Place) (v : PassMoves) → before ≡ rest ++ p ∷ [] → Gathers all before v → all_parts all ≡ 8 → v.parts + p.moves.parts ≤ 8
parts-below all before rest p v split g whole = let s = total-last (λ (q : Place). q.moves.parts) before rest p split in let o = g.parts in omega (arith, s, o, whole)

parts-idle : (p : Place) (n : ℕ) → p.moves.parts ≡ 1 → all_parts (replicate n p) ≡ n
parts-idle p zero one = refl
parts-idle p (suc n) one = omega (arith, one, parts-idle p n one)

-- the places that a queue begins with have all parts
pub parts-dealt : (tables replicas workers : ℕ) → 0 < workers → workers ≤ 8 → all_parts (dealt_to tables replicas workers) ≡ 8
parts-dealt tables replicas workers some few = let e = parts-idle (place (moves 1 [] []) []) (workers - 1) refl in omega (arith, some, few, e)
