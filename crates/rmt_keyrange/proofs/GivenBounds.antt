-- The greatest and the least of the literals that terms give.
use Rattle.std.proofs.Common.{◌≡◌, true, false, List, [], ◌∷◌, ◌++◌, is_lt, refl, sym, ap, ◌∙◌, subst, inl, inr, append_assoc}
use Rattle.std.specs.Option.{option_to_list}
use Rattle.std.specs.declared.option.Option.{Option}
use Rattle.std.specs.declared.option.Option.TheVariants.{Some, None}
use Rattle.std.specs.declared.cmp.Ordering.{Ordering}
use Rattle.std.specs.declared.cmp.Ordering.TheVariants.{Less, Equal, Greater}
use Rattle.std.specs.Ordering.{is_gt, ordering_reverse}
use Rattle.std.proofs.lemmas.Cmp.{tied_itself, upto as upto_total}
use Rattle.rmt_values.specs.declared.value.Value.{Value}
use Rattle.rmt_values.specs.Rows.{value_cmp}
use Rattle.rmt_values.proofs.Sorting.{gt-from-lt}
use Rattle.rmt_values.proofs.Totals.{value_cmp_total}
use Rattle.rmt_keyrange.specs.Ranges.{IsAmong, NoneAbove, NoneBelow, IsGreatest, IsLeast}

among-left : (v : Value) (xs ys : List Value) → IsAmong v xs → IsAmong v (xs ++ ys)
among-left v [] ys h = absurd h
among-left v (x ∷ xs) ys (inl e) = inl e
among-left v (x ∷ xs) ys (inr h) = inr (among-left v xs ys h)

among-right : (v : Value) (xs ys : List Value) → IsAmong v ys → IsAmong v (xs ++ ys)
among-right v [] ys h = h
among-right v (x ∷ xs) ys h = inr (among-right v xs ys h)

-- ---- the greatest

lt-not-gt : (o : Ordering) → is_lt o ≡ true → is_gt o ≡ false
lt-not-gt Less h = refl
lt-not-gt Equal h = refl
lt-not-gt Greater h = absurd (cc)

above-up : (v w : Value) (xs : List Value) → is_gt (value_cmp v w) ≡ false → NoneAbove v xs → NoneAbove w xs
above-up v w [] le h = tt
above-up v w (x ∷ xs) le h = (upto_total value_cmp_total x v w h.0 le, above-up v w xs le h.1)

above-append : (v : Value) (xs ys : List Value) → NoneAbove v xs → NoneAbove v ys → NoneAbove v (xs ++ ys)
above-append v [] ys h k = k
above-append v (x ∷ xs) ys h k = (h.0, above-append v xs ys h.1 k)

pub greatest-none : (b : Option Value) (xs ys : List Value) → IsGreatest None xs → IsGreatest b ys → IsGreatest b (xs ++ ys)
greatest-none b xs ys h k = subst (λ (l : List Value). IsGreatest b (l ++ ys)) (sym h) k

append-none : (xs : List Value) → xs ++ [] ≡ xs
append-none [] = refl
append-none (x ∷ xs) = ap (λ (l : List Value). x ∷ l) (append-none xs)

pub greatest-only : (a : Option Value) (xs ys : List Value) → IsGreatest a xs → IsGreatest None ys → IsGreatest a (xs ++ ys)
greatest-only a xs ys h k = subst (IsGreatest a) (sym (ap (λ (l : List Value). xs ++ l) k ∙ append-none xs)) h

pub greatest-second : (v w : Value) (xs ys : List Value) → is_lt (value_cmp v w) ≡ true → IsGreatest (Some v) xs → IsGreatest (Some w) ys → IsGreatest (Some w) (xs ++ ys)
greatest-second v w xs ys lt h k = (among-right w xs ys k.0, above-append w xs ys (above-up v w xs (lt-not-gt _ lt) h.1) k.1)

pub greatest-first : (v w : Value) (xs ys : List Value) → is_lt (value_cmp v w) ≡ false → IsGreatest (Some v) xs → IsGreatest (Some w) ys → IsGreatest (Some v) (xs ++ ys)
greatest-first v w xs ys lt h k = (among-left v xs ys h.0, above-append v xs ys h.1 (above-up w v ys (gt-from-lt value_cmp value_cmp_total w v lt) k.1))

-- ---- the least

lt-from-gt : (x y : Value) → is_gt (value_cmp y x) ≡ false → is_lt (value_cmp x y) ≡ false
lt-from-gt x y h = go (value_cmp y x) (value_cmp x y) (value_cmp_total.antisymm x y) h where
  go : (a b : Ordering) → b ≡ ordering_reverse a → is_gt a ≡ false → is_lt b ≡ false
  go Less b e h = cc
  go Equal b e h = cc
  go Greater b e h = absurd (cc)

gt-not-lt : (x y : Value) → is_gt (value_cmp x y) ≡ true → is_gt (value_cmp y x) ≡ false
gt-not-lt x y h = go (value_cmp x y) (value_cmp y x) (value_cmp_total.antisymm y x) h where
  go : (a b : Ordering) → b ≡ ordering_reverse a → is_gt a ≡ true → is_gt b ≡ false
  go Less b e h = absurd (cc)
  go Equal b e h = absurd (cc)
  go Greater b e h = cc

below-down : (v w : Value) (xs : List Value) → is_gt (value_cmp w v) ≡ false → NoneBelow v xs → NoneBelow w xs
below-down v w [] le h = tt
below-down v w (x ∷ xs) le h =
    (lt-from-gt x w (upto_total value_cmp_total w v x le (gt-from-lt value_cmp value_cmp_total v x h.0)), below-down v w xs le h.1)

below-append : (v : Value) (xs ys : List Value) → NoneBelow v xs → NoneBelow v ys → NoneBelow v (xs ++ ys)
below-append v [] ys h k = k
below-append v (x ∷ xs) ys h k = (h.0, below-append v xs ys h.1 k)

pub least-none : (b : Option Value) (xs ys : List Value) → IsLeast None xs → IsLeast b ys → IsLeast b (xs ++ ys)
least-none b xs ys h k = subst (λ (l : List Value). IsLeast b (l ++ ys)) (sym h) k

pub least-only : (a : Option Value) (xs ys : List Value) → IsLeast a xs → IsLeast None ys → IsLeast a (xs ++ ys)
least-only a xs ys h k = subst (IsLeast a) (sym (ap (λ (l : List Value). xs ++ l) k ∙ append-none xs)) h

pub least-second : (v w : Value) (xs ys : List Value) → is_gt (value_cmp v w) ≡ true → IsLeast (Some v) xs → IsLeast (Some w) ys → IsLeast (Some w) (xs ++ ys)
least-second v w xs ys gt h k = (among-right w xs ys k.0, below-append w xs ys (below-down v w xs (gt-not-lt v w gt) h.1) k.1)

pub least-first : (v w : Value) (xs ys : List Value) → is_gt (value_cmp v w) ≡ false → IsLeast (Some v) xs → IsLeast (Some w) ys → IsLeast (Some v) (xs ++ ys)
least-first v w xs ys gt h k = (among-left v xs ys h.0, below-append v xs ys h.1 (below-down w v ys gt k.1))

-- ---- one literal

pub one_greatest : (o : Option Value) → IsGreatest o (option_to_list o)
one_greatest None = refl
one_greatest (Some v) = (inl refl, (ap is_gt (tied_itself value_cmp_total v), tt))

pub one_least : (o : Option Value) → IsLeast o (option_to_list o)
one_least None = refl
one_least (Some v) = (inl refl, (ap is_lt (tied_itself value_cmp_total v), tt))
