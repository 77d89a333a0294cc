-- What a client tells of a quorum that it finds under a lock from the one that it saw last: which notes came since.
use Rattle.std.proofs.Common.{◌≡◌, ℕ, zero, suc, ◌+◌, ◌-◌, ◌<◌, ◌≤◌, ◌⊎◌, inl, inr, Bool, true, false, cond, List, [], ◌∷◌, ◌++◌, length, refl, sym, ap, subst, arith, ◌∙◌, nat_eq, nat_lt}
use Rattle.std.proofs.lemmas.Bool.Decides.{nat_tests}
use Rattle.std.specs.declared.option.Option.{Option}
use Rattle.std.specs.declared.option.Option.TheVariants.{Some, None}
use Rattle.rmt_names.specs.Names.{Name}
use Rattle.rmt_model.specs.Words.{Has, Pairwise}
use Rattle.rmt_model.specs.Quorum.{Pending, Quorum, noted_with, quorum_after_note}
use Rattle.rmt_model.proofs.Lists.{Each-at}
use Rattle.rmt_model.proofs.QuorumLemmas.{noted-rising, noted-length}
use Rattle.rmt_statement_model.specs.BackgroundWork.{quorum_after_notes}
use Rattle.rmt_clients.specs.Clients.{IsWaiting, GoesOnFrom, MayBeNoted}

-- ---- rising numbers

below-not : (x y : ℕ) → x < y → x ≡ y → ⊥
below-not x y l e = omega (arith, l, e)

-- those of a list that are above its first one are in the rest
in-rest : (x : ℕ) (xs : List ℕ) (y : ℕ) → x < y → Has (x ∷ xs) y → Has xs y
in-rest x xs y l (inl e) = absurd (below-not x y l e)
in-rest x xs y l (inr h) = h

-- rising numbers that are all in another rising list are no more
rising-length : (xs ys : List ℕ) → Pairwise ◌<◌ xs → Pairwise ◌<◌ ys → ((z : ℕ) → Has ys z → Has xs z) → length ys ≤ length xs
rising-length xs [] p q h = omega arith
rising-length [] (y ∷ ys) p q h = absurd (h y (inl refl))
rising-length (x ∷ xs) (y ∷ ys) p q h =
    elim (h y (inl refl)) [
      | inl e ↦ let i = rising-length xs ys p.1 q.1 (λ z k. in-rest x xs z (subst (λ n. n < z) (sym e) (Each-at (λ n. y < n) ys z q.0 k)) (h z (inr k))) in omega (arith, i)
      | inr k ↦ let i = rising-length xs (y ∷ ys) p.1 q (λ z m. in-rest x xs z (above k z m) (h z m)) in omega (arith, i)
    ]
  where
    above : Has xs y → (z : ℕ) → Has (y ∷ ys) z → x < z
    above k z (inl e) = subst (λ n. x < n) e (Each-at (λ n. x < n) xs y p.0 k)
    above k z (inr m) = let a = Each-at (λ n. x < n) xs y p.0 k in let b = Each-at (λ n. y < n) ys z q.0 m in omega (arith, a, b)

-- rising numbers of the same list are the same
rising-same : (xs ys : List ℕ) → Pairwise ◌<◌ xs → Pairwise ◌<◌ ys → ((z : ℕ) → Has ys z → Has xs z) → ((z : ℕ) → Has xs z → Has ys z) → xs ≡ ys
rising-same [] [] p q h k = refl
rising-same [] (y ∷ ys) p q h k = absurd (h y (inl refl))
rising-same (x ∷ xs) [] p q h k = absurd (k x (inl refl))
rising-same (x ∷ xs) (y ∷ ys) p q h k =
    ap (λ n. n ∷ xs) first
    ∙ ap (λ (ns : List ℕ). y ∷ ns) (rising-same xs ys p.1 q.1
    (λ z m. in-rest x xs z (subst (λ n. n < z) (sym first) (Each-at (λ n. y < n) ys z q.0 m)) (h z (inr m)))
    (λ z m. in-rest y ys z (subst (λ n. n < z) first (Each-at (λ n. x < n) xs z p.0 m)) (k z (inr m))))
  where
    first : x ≡ y
    first =
        elim (h y (inl refl)) [
          | inl e ↦ e
          | inr m ↦ elim (k x (inl refl)) [
            | inl e ↦ sym e
            | inr n ↦ let a = Each-at (λ i. x < i) xs y p.0 m in let b = Each-at (λ i. y < i) ys x q.0 n in absurd (omega (arith, a, b))
          ]
        ]

-- ---- several notes

-- who is noted is in
noted-in : (r : ℕ) (xs : List ℕ) → Has (noted_with r xs) r
noted-in r [] = inl refl
noted-in r (x ∷ xs) = go (nat_lt x r) (nat_eq x r) refl (noted-in r xs)
  where
    go : (b c : Bool) → nat_eq x r ≡ c → Has (noted_with r xs) r → Has (cond b (x ∷ noted_with r xs) (cond c (x ∷ xs) (r ∷ x ∷ xs))) r
    go true c e h = inr h
    go false true e h = inl (grind (arith, nat_tests))
    go false false e h = inl refl

-- and who was
noted-still : (r : ℕ) (xs : List ℕ) (y : ℕ) → Has xs y → Has (noted_with r xs) y
noted-still r [] y h = absurd h
noted-still r (x ∷ xs) y h = go (nat_lt x r) (nat_eq x r) h (noted-still r xs y)
  where
    go : (b c : Bool) → Has (x ∷ xs) y → (Has xs y → Has (noted_with r xs) y) → Has (cond b (x ∷ noted_with r xs) (cond c (x ∷ xs) (r ∷ x ∷ xs))) y
    go true c (inl e) f = inl e
    go true c (inr k) f = inr (f k)
    go false true k f = k
    go false false k f = inr k

-- and nobody else
noted-only : (r : ℕ) (xs : List ℕ) (y : ℕ) → Has (noted_with r xs) y → (r ≡ y) ⊎ Has xs y
noted-only r [] y (inl e) = inl e
noted-only r [] y (inr h) = absurd h
noted-only r (x ∷ xs) y h = go (nat_lt x r) (nat_eq x r) h (noted-only r xs y)
  where
    go : (b c : Bool) → Has (cond b (x ∷ noted_with r xs) (cond c (x ∷ xs) (r ∷ x ∷ xs))) y → (Has (noted_with r xs) y → (r ≡ y) ⊎ Has xs y) → (r ≡ y) ⊎ Has (x ∷ xs) y
    go true c (inl e) f = inr (inl e)
    go true c (inr k) f = elim (f k) [ inl e ↦ inl e | inr m ↦ inr (inr m) ]
    go false true k f = inr k
    go false false (inl e) f = inl e
    go false false (inr k) f = inr k

-- replicas at their places among those that have noted
abbrev noted_all : List ℕ → List ℕ → List ℕ
noted_all [] xs = xs
noted_all (r ∷ noted) xs = noted_with r (noted_all noted xs)

all-rising : (noted xs : List ℕ) → Pairwise ◌<◌ xs → Pairwise ◌<◌ (noted_all noted xs)
all-rising [] xs p = p
all-rising (r ∷ noted) xs p = noted-rising r (noted_all noted xs) (all-rising noted xs p)

all-in : (noted xs : List ℕ) (y : ℕ) → Has noted y → Has (noted_all noted xs) y
all-in [] xs y h = absurd h
all-in (r ∷ noted) xs y (inl e) = subst (λ n. Has (noted_with r (noted_all noted xs)) n) e (noted-in r (noted_all noted xs))
all-in (r ∷ noted) xs y (inr h) = noted-still r (noted_all noted xs) y (all-in noted xs y h)

all-only : (noted xs vs : List ℕ) → ((y : ℕ) → Has noted y → Has vs y) → ((y : ℕ) → Has xs y → Has vs y) → (y : ℕ) → Has (noted_all noted xs) y → Has vs y
all-only [] xs vs f g y h = g y h
all-only (r ∷ noted) xs vs f g y h = elim (noted-only r (noted_all noted xs) y h) [ inl e ↦ f y (inl e) | inr k ↦ all-only noted xs vs (λ z m. f z (inr m)) g y k ]

-- notes that leave the part waiting
notes-wait : (w : Pending) (last : Option Name) (vs noted : List ℕ) → Pairwise ◌<◌ w.noted → Pairwise ◌<◌ vs → length vs < w.need → ((y : ℕ) → Has noted y → Has vs y) → ((y : ℕ) → Has w.noted y → Has vs y)
    → quorum_after_notes noted (record { pending = Some w; last = last }) ≡ record { pending = Some (record { part = w.part; need = w.need; noted = noted_all noted w.noted }); last = last }
notes-wait w last vs [] p q l f g = refl
notes-wait w last vs (r ∷ noted) p q l f g =
    ap (λ (x : Quorum). quorum_after_note r x) (notes-wait w last vs noted p q l (λ y h. f y (inr h)) g)
    ∙ ap (λ (b : Bool). cond b
    (record { pending = Some (record { part = w.part; need = w.need; noted = noted_all (r ∷ noted) w.noted }); last = last })
    (record { pending = None; last = Some w.part }))
    (fewer (length (noted_all (r ∷ noted) w.noted)) (rising-length vs (noted_all (r ∷ noted) w.noted) q (all-rising (r ∷ noted) w.noted p) (all-only (r ∷ noted) w.noted vs f g)))
  where
    fewer : (n : ℕ) → n ≤ length vs → nat_lt n w.need ≡ true
    fewer n k = grind (arith, nat_tests)

-- the notes of one list after those of another
pub notes-after : (xs ys : List ℕ) (q : Quorum) → quorum_after_notes (xs ++ ys) q ≡ quorum_after_notes xs (quorum_after_notes ys q)
notes-after [] ys q = refl
notes-after (x ∷ xs) ys q = ap (λ (z : Quorum). quorum_after_note x z) (notes-after xs ys q)

-- a number that isn't in the list
abbrev sum_of : List ℕ → ℕ
sum_of [] = 0
sum_of (x ∷ xs) = x + sum_of xs

none-above : (xs : List ℕ) (y : ℕ) → Has xs y → y ≤ sum_of xs
none-above [] y h = absurd h
none-above (x ∷ xs) y (inl e) = omega (arith, e)
none-above (x ∷ xs) y (inr h) = let a = none-above xs y h in omega (arith, a)

-- a replica that hasn't noted
abbrev fresh_of : Pending → ℕ
fresh_of w = suc (sum_of w.noted)

-- its note
abbrev noted_once : Pending → Pending
noted_once w = record { part = w.part; need = w.need; noted = noted_with (fresh_of w) w.noted }

once-length : (w : Pending) → length (noted_once w).noted ≡ suc (length w.noted)
once-length w = noted-length (fresh_of w) w.noted (λ h. let a = none-above w.noted (fresh_of w) h in omega (arith, a))

note-once : (w : Pending) (last : Option Name) (b : Bool) → nat_lt (length (noted_once w).noted) w.need ≡ b → quorum_after_note (fresh_of w) (record { pending = Some w; last = last }) ≡ cond b (record { pending = Some (noted_once w); last = last }) (record { pending = None; last = Some w.part })
note-once w last b f = ap (λ (x : Bool). cond x (record { pending = Some (noted_once w); last = last }) (record { pending = None; last = Some w.part })) f

-- notes that meet the quorum
notes-meet : (d : ℕ) (w : Pending) (last : Option Name) → w.need ≡ length w.noted + suc d → (noted : List ℕ) × (quorum_after_notes noted (record { pending = Some w; last = last }) ≡ record { pending = None; last = Some w.part })
notes-meet zero w last f = (fresh_of w ∷ [], note-once w last false (no (length (noted_once w).noted) (once-length w)))
  where
    no : (n : ℕ) → n ≡ suc (length w.noted) → nat_lt n w.need ≡ false
    no n l = grind (arith, nat_tests)
notes-meet (suc k) w last f =
    let long = once-length w in
    let more = notes-meet k (noted_once w) last (omega (arith, f, long)) in
    (more.0 ++ fresh_of w ∷ [], notes-after more.0 (fresh_of w ∷ []) (record { pending = Some w; last = last }) ∙ (ap (quorum_after_notes more.0) (note-once w last true (yes (length (noted_once w).noted) long)) ∙ more.1))
  where
    yes : (n : ℕ) → n ≡ suc (length w.noted) → nat_lt n w.need ≡ true
    yes n l = grind (arith, nat_tests)

-- ---- what is told

-- a quorum that may have come of notes has
pub notes-tell : (old found : Quorum) → MayBeNoted old found → (noted : List ℕ) × (found ≡ quorum_after_notes noted old)
notes-tell old found m = go old.pending refl found.pending refl m.waits m.found_waits m.goes_on
  where
    go : (o : Option Pending) → old.pending ≡ o → (f : Option Pending) → found.pending ≡ f → IsWaiting o → IsWaiting f → GoesOnFrom o old.last f found.last → (noted : List ℕ) × (found ≡ quorum_after_notes noted old)
    go None e None g w v c = ([], ap (λ (p : Option Pending). record { pending = p; last = found.last }) (g ∙ sym e) ∙ ap (λ (l : Option Name). record old { last = l }) c)
    go None e (Some x) g w v c = absurd c
    go (Some x) e None g w v c =
        let n = notes-meet (x.need - suc (length x.noted)) x old.last (let l = w.0 in omega (arith, l)) in (
          n.0,
          ap (λ (p : Option Pending). record { pending = p; last = found.last }) g
              ∙ (ap (λ (l : Option Name). record { pending = None; last = l }) c
              ∙ (sym n.1 ∙ ap (λ (p : Option Pending). quorum_after_notes n.0 (record { pending = p; last = old.last })) (sym e))),
        )
    go (Some x) e (Some y) g w v c =
        let same : y.noted ≡ noted_all y.noted x.noted = rising-same y.noted (noted_all y.noted x.noted) v.1 (all-rising y.noted x.noted w.1) (all-only y.noted x.noted y.noted (λ z h. h) was) (λ z h. all-in y.noted x.noted z h) in (
          y.noted,
          ap (λ (p : Option Pending). record { pending = p; last = found.last }) g
              ∙ (ap (λ (l : Option Name). record { pending = Some y; last = l }) c.2
              ∙ (ap (λ (a : Name). record { pending = Some (record y { part = a }); last = old.last }) c.0
              ∙ (ap (λ n. record { pending = Some (record { part = x.part; need = n; noted = y.noted }); last = old.last }) c.1
              ∙ (ap (λ (ns : List ℕ). record { pending = Some (record { part = x.part; need = x.need; noted = ns }); last = old.last }) same
              ∙ (sym (notes-wait x old.last y.noted y.noted w.1 v.1 (subst (λ n. length y.noted < n) c.1 v.0) (λ z h. h) was)
              ∙ ap (λ (p : Option Pending). quorum_after_notes y.noted (record { pending = p; last = old.last })) (sym e)))))),
        )
      where
        was : (z : ℕ) → Has x.noted z → Has y.noted z
        was z h = Each-at (Has y.noted) x.noted z c.3 h
