-- How often a ticket is in a list, and the counts of it.
use Rattle.std.proofs.Common.{◌≡◌, ◌≢◌, ◌⊎◌, inl, inr, ℕ, zero, suc, ◌+◌, ◌/◌, ◌%◌, ◌<◌, ◌≤◌, ◌&&◌, true, false, true≢false, Bool, cond, List, [], ◌∷◌, ◌++◌, length, set, replicate, sym, refl, ap, ◌∙◌, subst, ⊎_elim, arith}
use Rattle.std.specs.Prelude.{nat_eq, nat_lt, slice_index}
use Rattle.std.specs.List.{IsAnyAnswer}
use Rattle.std.proofs.lemmas.List.{get_or-set_same, get_or-set_other, get_or-replicate, length-set}
use Rattle.std.proofs.lemmas.Bool.{ltb-true, ltb-false, lt-ltb, le-ltb, eqb-true}
use Rattle.std.proofs.lemmas.Bool.Decides.{eqb_tells}
use Rattle.rmt_tickets.specs.declared.ticket.Ticket.{Ticket}
use Rattle.rmt_tickets.specs.Tickets.{ticket, is_ticket, in_range, one_if, times, total, LAST, place_of, count_of, Counts, row, dealt}

-- how often a ticket is in two lists
pub times-append : (t : Ticket) (us vs : List Ticket) → times t (us ++ vs) ≡ times t us + times t vs
times-append t [] vs = omega arith
times-append t (u ∷ us) vs = omega (arith, times-append t us vs)

pub total-append : {X : Type 0} (f : X → ℕ) (xs ys : List X) → total f (xs ++ ys) ≡ total f xs + total f ys
total-append f [] ys = omega arith
total-append f (x ∷ xs) ys = omega (arith, total-append f xs ys)

and-both : (a b : Bool) → (a && b) ≡ true → (a ≡ true) × (b ≡ true)
and-both true b e = (refl, e)
and-both false b e = absurd (true≢false (sym e))

-- the numbers of a ticket that a queue may have
pub range-of : (t : Ticket) → in_range t ≡ true → (t.table < 4) × (t.replica < 8)
range-of t is = let e = and-both (nat_lt t.table 4) (nat_lt t.replica 8) is in (ltb-true t.table 4 e.0, ltb-true t.replica 8 e.1)

pub is-in_range : (table replica : ℕ) → table < 4 → replica < 8 → in_range (ticket table replica) ≡ true
is-in_range table replica a b = ap (λ (z : Bool). z && nat_lt replica 8) (lt-ltb table 4 a) ∙ lt-ltb replica 8 b

-- two tickets are the same, or differ in the table or the replica
tells : (t u : Ticket) → ((is_ticket t u ≡ true) × (t ≡ u)) ⊎ ((is_ticket t u ≡ false) × ((t.table ≢ u.table) ⊎ (t.replica ≢ u.replica)))
tells t u =
    let step : (z : Bool) → nat_eq t.table u.table ≡ z → is_ticket t u ≡ (z && nat_eq t.replica u.replica) = λ z e. ap (λ (y : Bool). y && nat_eq t.replica u.replica) e in
    ⊎_elim (λ (a : (nat_eq t.table u.table ≡ true) × (t.table ≡ u.table)).
    ⊎_elim (λ (b : (nat_eq t.replica u.replica ≡ true) × (t.replica ≡ u.replica)). inl (step true a.0 ∙ b.0, λ i. record { table = a.1 i; replica = b.1 i }))
    (λ (b : (nat_eq t.replica u.replica ≡ false) × (t.replica ≢ u.replica)). inr (step true a.0 ∙ b.0, inr b.1)) (eqb_tells t.replica u.replica))
    (λ (a : (nat_eq t.table u.table ≡ false) × (t.table ≢ u.table)). inr (step false a.0, inl a.1)) (eqb_tells t.table u.table)

-- each ticket has a place of its own
places-apart : (t u : Ticket) → in_range t ≡ true → in_range u ≡ true → ((t.table ≢ u.table) ⊎ (t.replica ≢ u.replica)) → place_of t ≢ place_of u
places-apart t u a b apart e = let r = range-of t a in let s = range-of u b in
    ⊎_elim (λ (n : t.table ≢ u.table). n (omega (arith, r.1, s.1, e))) (λ (n : t.replica ≢ u.replica). n (omega (arith, r.1, s.1, e))) apart

pub place-below : (t : Ticket) → in_range t ≡ true → place_of t < 32
place-below t is = let r = range-of t is in omega (arith, r.0, r.1)

-- a count at its place
pub count-here : (counts : List ℕ) (t : Ticket) → in_range t ≡ true → count_of counts t ≡ slice_index counts (place_of t)
count-here counts t is = ap (λ (z : Bool). cond z (slice_index counts (place_of t)) 0) is

-- the counts after one more of a ticket
abbrev more-at : (counts : List ℕ) (x : Ticket) → List ℕ
more-at counts x = set counts (place_of x) (slice_index counts (place_of x) + 1)

count-same : (counts : List ℕ) (x : Ticket) → length counts ≡ 32 → in_range x ≡ true → count_of (more-at counts x) x ≡ count_of counts x + 1
count-same counts x len is =
    let below : place_of x < length counts = omega (arith, len, place-below x is) in
    count-here (more-at counts x) x is ∙ get_or-set_same counts (place_of x) (slice_index counts (place_of x) + 1) 0 below ∙ ap (λ (n : ℕ). n + 1) (sym (count-here counts x is))

count-other : (counts : List ℕ) (x t : Ticket) → in_range x ≡ true → ((t.table ≢ x.table) ⊎ (t.replica ≢ x.replica)) → (z : Bool) → in_range t ≡ z → count_of (more-at counts x) t ≡ count_of counts t
count-other counts x t is apart true e =
    count-here (more-at counts x) t e ∙ get_or-set_other counts (place_of x) (place_of t) (slice_index counts (place_of x) + 1) 0 (places-apart t x e is apart) ∙ sym (count-here counts t e)
count-other counts x t is apart false e =
    ap (λ (z : Bool). cond z (slice_index (more-at counts x) (place_of t)) 0) e ∙ sym (ap (λ (z : Bool). cond z (slice_index counts (place_of t)) 0) e)

count-more : (counts : List ℕ) (x t : Ticket) → length counts ≡ 32 → in_range x ≡ true → count_of (more-at counts x) t ≡ count_of counts t + one_if (is_ticket t x)
count-more counts x t len is = ⊎_elim
    (λ (a : (is_ticket t x ≡ true) × (t ≡ x)).
    subst (λ (u : Ticket). count_of (more-at counts x) u ≡ count_of counts u + 1) (sym a.1) (count-same counts x len is) ∙ ap (λ (z : Bool). count_of counts t + one_if z) (sym a.0))
    (λ (a : (is_ticket t x ≡ false) × ((t.table ≢ x.table) ⊎ (t.replica ≢ x.replica))).
    let e = count-other counts x t is a.1 (in_range t) refl in let f = ap one_if a.0 in omega (arith, e, f))
    (tells t x)

-- a ticket more, and one more of its count
pub counts-more : (counts : List ℕ) (us : List Ticket) (x : Ticket) → in_range x ≡ true → Counts counts us → Counts (set counts (place_of x) (slice_index counts (place_of x) + 1)) (us ++ x ∷ [])
counts-more counts us x is c = (
  length-set counts (place_of x) (slice_index counts (place_of x) + 1) ∙ c.0,
  λ t. let e = count-more counts x t c.0 is in let f = c.1 t in let g = times-append t us (x ∷ []) in omega (arith, e, f, g),
)

none-at : (t : Ticket) (z : Bool) → in_range t ≡ z → count_of (replicate 32 0) t ≡ 0
none-at t true e = count-here (replicate 32 0) t e ∙ get_or-replicate 32 (place_of t) 0 0 (place-below t e)
none-at t false e = ap (λ (z : Bool). cond z (slice_index (replicate 32 0) (place_of t)) 0) e

-- no ticket, and no count
pub counts-none : Counts (replicate 32 0) []
counts-none = (refl, λ t. none-at t (in_range t) refl)

-- a count that is at its last value is of a ticket
pub last-at : (counts : List ℕ) (us : List Ticket) (k : ℕ) → Counts counts us → k < 32 → slice_index counts k ≡ LAST → (t : Ticket) × (times t us ≡ LAST)
last-at counts us k c below last =
    let t = ticket (k / 8) (k % 8) in
    let is : in_range t ≡ true = is-in_range (k / 8) (k % 8) (omega (arith, below)) (omega (arith, below)) in
    let here : place_of t ≡ k = omega (arith, below) in
    (t, sym (c.1 t) ∙ count-here counts t is ∙ ap (slice_index counts) here ∙ last)

-- the same, as an array is changed
pub counts-step : (counts : List ℕ) (us vs : List Ticket) (x : Ticket) (p : ℕ) → p ≡ place_of x → in_range x ≡ true → vs ≡ us ++ x ∷ [] → Counts counts us → Counts (set counts p (slice_index counts p + 1)) vs
counts-step counts us vs x p at is e c = subst (λ (q : ℕ). Counts (set counts q (slice_index counts q + 1)) vs) (sym at) (subst (λ (ws : List Ticket). Counts (set counts (place_of x) (slice_index counts (place_of x) + 1)) ws) (sym e) (counts-more counts us x is c))

-- what `contains` tells of the counts
pub any-last : (counts : List ℕ) (us : List Ticket) (b : Bool) → Counts counts us → IsAnyAnswer (λ y r. nat_eq y LAST ≡ r) counts b → b ≡ true → (t : Ticket) × (times t us ≡ LAST)
any-last counts us true c some is = last-at counts us some.0 c (omega (arith, some.1, c.0)) (eqb-true (slice_index counts some.0) LAST (some.2 0))
any-last counts us false c none is = absurd (true≢false (sym is))

-- ---- the tickets that a queue begins with

bit-at-most-one : (b : Bool) → one_if b ≤ 1
bit-at-most-one true = omega arith
bit-at-most-one false = omega arith

and-right : (b r : Bool) → one_if (b && r) ≡ cond r (one_if b) 0
and-right true true = refl
and-right true false = refl
and-right false true = refl
and-right false false = refl

sum-right : (x y z r : Bool) → one_if x + one_if y ≡ one_if z → one_if (x && r) + one_if (y && r) ≡ one_if (z && r)
sum-right x y z true e = omega (arith, and-right x true, and-right y true, and-right z true, e)
sum-right x y z false e = omega (arith, and-right x false, and-right y false, and-right z false)

sum-left : (r x y z : Bool) → one_if x + one_if y ≡ one_if z → one_if (r && x) + one_if (r && y) ≡ one_if (r && z)
sum-left true x y z e = e
sum-left false x y z e = refl

below-next : (k n : ℕ) → k ≢ n → (z : Bool) → nat_lt k n ≡ z → one_if (nat_lt k n) ≡ one_if (nat_lt k (suc n))
below-next k n other true e = ap one_if (e ∙ sym (lt-ltb k (suc n) (omega (arith, ltb-true k n e))))
below-next k n other false e = ap one_if (e ∙ sym (le-ltb k (suc n) (omega (arith, other, ltb-false k n e))))

-- what is below n + 1 is below n, or is n
next : (k n : ℕ) → one_if (nat_lt k n) + one_if (nat_eq k n) ≡ one_if (nat_lt k (suc n))
next k n = ⊎_elim
    (λ (a : (nat_eq k n ≡ true) × (k ≡ n)).
    let x = ap one_if a.0 in let y = ap one_if (le-ltb k n (omega (arith, a.1))) in let z = ap one_if (lt-ltb k (suc n) (omega (arith, a.1))) in omega (arith, x, y, z))
    (λ (a : (nat_eq k n ≡ false) × (k ≢ n)).
    let x = ap one_if a.0 in let y = below-next k n a.1 (nat_lt k n) refl in omega (arith, x, y))
    (eqb_tells k n)

times-row : (t : Ticket) (table replicas : ℕ) → times t (row table replicas) ≡ one_if (nat_eq t.table table && nat_lt t.replica replicas)
times-row t table zero = let e = ap one_if (le-ltb t.replica 0 (omega arith)) in let f = and-right (nat_eq t.table table) (nat_lt t.replica 0) in
    sym (f ∙ ap (λ (z : Bool). cond z (one_if (nat_eq t.table table)) 0) (le-ltb t.replica 0 (omega arith)))
times-row t table (suc n) =
    let a = times-append t (row table n) (ticket table n ∷ []) in
    let b = times-row t table n in
    let s = sum-left (nat_eq t.table table) (nat_lt t.replica n) (nat_eq t.replica n) (nat_lt t.replica (suc n)) (next t.replica n) in
    omega (arith, a, b, s)

-- a ticket of these tables and replicas is dealt once, and no other
pub times-dealt : (t : Ticket) (tables replicas : ℕ) → times t (dealt tables replicas) ≡ one_if (nat_lt t.table tables && nat_lt t.replica replicas)
times-dealt t zero replicas = ap (λ (z : Bool). one_if (z && nat_lt t.replica replicas)) (sym (le-ltb t.table 0 (omega arith)))
times-dealt t (suc n) replicas =
    let a = times-append t (dealt n replicas) (row n replicas) in
    let b = times-dealt t n replicas in
    let d = times-row t n replicas in
    let s = sum-right (nat_lt t.table n) (nat_eq t.table n) (nat_lt t.table (suc n)) (nat_lt t.replica replicas) (next t.table n) in
    omega (arith, a, b, d, s)

-- no ticket is dealt as often as can be counted
pub dealt-room : (t : Ticket) (table replicas some : ℕ) → times t (dealt table replicas ++ row table some) ≢ LAST
dealt-room t table replicas some last =
    let a = times-append t (dealt table replicas) (row table some) in
    let b = times-dealt t table replicas in
    let d = times-row t table some in
    let p = bit-at-most-one (nat_lt t.table table && nat_lt t.replica replicas) in
    let q = bit-at-most-one (nat_eq t.table table && nat_lt t.replica some) in
    omega (arith, a, b, d, p, q, last)
