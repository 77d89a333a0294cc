-- Elements by their places.
use Rattle.std.proofs.Common.{◌≡◌, ℕ, zero, suc, ◌+◌, ◌<◌, List, [], ◌∷◌, ◌++◌, map, length, slice_get, get_or, drop, refl, sym, ap, ◌∙◌, subst, arith}
use Rattle.std.specs.Option.{option_to_list}
use Rattle.std.specs.declared.option.Option.{Option}
use Rattle.std.specs.declared.option.Option.TheVariants.{Some}
use Rattle.rmt_values.specs.Rows.{AllBelow}
use Rattle.rmt_columns.specs.Places.{at_places}

pub there-at : {X : Type 0} (xs : List X) (i : ℕ) (x : X) → i < length xs → x ≡ get_or xs i x → slice_get xs i ≡ Some x
there-at [] i x h e = absurd (omega (arith, h))
there-at (y ∷ ys) zero x h e = ap (λ z. Some z) (sym e)
there-at (y ∷ ys) (suc i) x h e = there-at ys i x (omega (arith, h)) e

drop-next : {X : Type 0} (xs : List X) (k : ℕ) (x : X) → k < length xs → x ≡ get_or xs k x → drop k xs ≡ x ∷ drop (k + 1) xs
drop-next [] k x h e = absurd (omega (arith, h))
drop-next {X} (y ∷ ys) zero x h e = ap (λ (z : X). z ∷ ys) (sym e)
drop-next (y ∷ ys) (suc k) x h e = let n : suc k + 1 ≡ suc (k + 1) = omega arith in rw n (drop-next ys k x (omega (arith, h)) e)

pub append-next : {X : Type 0} (some : List X) (x : X) (more : List X) → (some ++ x ∷ []) ++ more ≡ some ++ x ∷ more
append-next [] x more = refl
append-next {X} (y ∷ ys) x more = ap (λ (l : List X). y ∷ l) (append-next ys x more)

pub some-there : {X : Type 0} (xs : List X) (i : ℕ) → i < length xs → length (option_to_list (slice_get xs i)) ≡ 1
some-there [] i h = absurd (omega (arith, h))
some-there (x ∷ xs) zero h = refl
some-there (x ∷ xs) (suc i) h = some-there xs i (omega (arith, h))

-- a loop that gathers has gathered the elements up to a place of places
pub record Gathers {X : Type 0} (xs all some : List X) (rest : List ℕ) : Type 0 where
  pub done : some ++ at_places xs rest ≡ all
  pub there : AllBelow (length xs) rest

gather-one : {X : Type 0} (xs all some : List X) (i : ℕ) (is : List ℕ) (x : X) → slice_get xs i ≡ Some x → Gathers xs all some (i ∷ is) → Gathers xs all (some ++ x ∷ []) is
gather-one {X} xs all some i is x e g = record {
  done = append-next some x (at_places xs is) ∙ (ap (λ (o : Option X). some ++ (option_to_list o ++ at_places xs is)) (sym e) ∙ g.done);
  there = g.there.1;
}

itself : {X : Type 0} (xs : List X) (k : ℕ) (d : X) → k < length xs → get_or xs k d ≡ get_or xs k (get_or xs k d)
itself [] k d h = absurd (omega (arith, h))
itself (x ∷ xs) zero d h = refl
itself (x ∷ xs) (suc k) d h = itself xs k d (omega (arith, h))

pub gather-next : {X : Type 0} (xs all some : List X) (places : List ℕ) (k d : ℕ) (x : X) → k < length places → x ≡ get_or xs (get_or places k d) x
    → Gathers xs all some (drop k places) → Gathers xs all (some ++ x ∷ []) (drop (k + 1) places)
gather-next xs all some places k d x h f g =
    let i = get_or places k d in
    let d = drop-next places k i h (itself places k d h) in
    let w = subst (Gathers xs all some) d g in
    gather-one xs all some i (drop (k + 1) places) x (there-at xs i x w.there.0 f) w

pub at_places-map : {X Y : Type 0} (f : X → Y) (xs : List X) (is : List ℕ) → at_places (map f xs) is ≡ map f (at_places xs is)
at_places-map f xs [] = refl
at_places-map {X} {Y} f xs (i ∷ is) =
    ap (λ (l : List Y). option_to_list (slice_get (map f xs) i) ++ l) (at_places-map f xs is) ∙ one xs i (at_places xs is)
  where
    one : (xs : List X) (i : ℕ) (l : List X) → option_to_list (slice_get (map f xs) i) ++ map f l ≡ map f (option_to_list (slice_get xs i) ++ l)
    one [] i l = refl
    one (y ∷ ys) zero l = refl
    one (y ∷ ys) (suc i) l = one ys i l
