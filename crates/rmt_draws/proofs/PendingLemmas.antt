-- The places of a copy that aren't done, one place after the other.
use Rattle.std.proofs.Common.{◌≡◌, ℕ, zero, suc, ◌+◌, ◌<◌, ◌≤◌, Bool, true, false, cond, List, [], ◌∷◌, length, drop, drop-cons, add-one, refl, sym, ap, arith, ◌∙◌}
use Rattle.std.proofs.lemmas.List.{drop_all}
use Rattle.rmt_queue.specs.Marks.{done_at}
use Rattle.rmt_events.specs.Draws.{pending_from}

-- the places from one on that aren't done
abbrev pub pending_after : List Bool → ℕ → List ℕ
pending_after marks i = pending_from (drop i marks) i

pending-step : (marks : List Bool) (i : ℕ) (b : Bool) → i < length marks → done_at marks i ≡ b
    → pending_after marks i ≡ cond b (pending_after marks (i + 1)) (i ∷ pending_after marks (i + 1))
pending-step marks i b h e =
    ap (λ (l : List Bool). pending_from l i) (drop-cons marks i false h ∙ ap (λ (t : Bool). t ∷ drop (suc i) marks) e) ∙ go b
  where
    go : (t : Bool)
        → pending_from (t ∷ drop (suc i) marks) i ≡ cond t (pending_after marks (i + 1)) (i ∷ pending_after marks (i + 1))
    go true = ap (λ (n : ℕ). pending_from (drop n marks) (i + 1)) (sym (add-one i))
    go false = ap (λ (n : ℕ). i ∷ pending_from (drop n marks) (i + 1)) (sym (add-one i))

-- where all places below are done, none is left out
pub pending-start : (marks : List Bool) (i : ℕ) → i ≤ length marks → ((k : ℕ) → k < i → done_at marks k ≡ true)
    → pending_after marks i ≡ pending_from marks 0
pending-start marks zero h f = refl
pending-start marks (suc i) h f =
    let before = pending-start marks i (omega (arith, h)) (λ k l. f k (omega (arith, l))) in
    let step = pending-step marks i true (omega (arith, h)) (f i (omega arith)) in
    ap (pending_after marks) (sym (add-one i)) ∙ (sym step ∙ before)

pub pending-end : (marks : List Bool) (i : ℕ) → length marks ≤ i → pending_after marks i ≡ []
pending-end marks i h = ap (λ (l : List Bool). pending_from l i) (drop_all i marks h)

-- ---- how many there are

pub pending-few : (marks : List Bool) (i : ℕ) → length (pending_from marks i) ≤ length marks
pending-few [] i = omega arith
pending-few (true ∷ marks) i = let r = pending-few marks (i + 1) in omega (arith, r)
pending-few (false ∷ marks) i = let r = pending-few marks (i + 1) in omega (arith, r)

pub count-next : (marks : List Bool) (i count all : ℕ) → i < length marks → done_at marks i ≡ false
    → count + length (pending_after marks i) ≡ all → count + 1 + length (pending_after marks (i + 1)) ≡ all
count-next marks i count all h e c = let s = ap length (pending-step marks i false h e) in omega (arith, s, c)

pub count-passed : (marks : List Bool) (i count all : ℕ) → i < length marks → done_at marks i ≡ true
    → count + length (pending_after marks i) ≡ all → count + length (pending_after marks (i + 1)) ≡ all
count-passed marks i count all h e c = let s = ap length (pending-step marks i true h e) in omega (arith, s, c)
