-- Paths made of other paths.
use Rattle.std.proofs.Common.{◌≡◌, ◌≢◌, refl, sym, ap, ◌∙◌, arith, List, [], ◌∷◌, ◌++◌, length, ℕ, ◌+◌, ◌<◌, ◌/◌, ◌%◌, Bool, true, false, ◌||◌, length-append}
use Rattle.std.specs.Prelude.{suc, zero, nat_eq}
use Rattle.std.specs.List.{list_any}
use Rattle.rmt_paths.specs.Paths.{Names, IsName, IsPath, EachName, parent, last_name, child, digits, numbered}

or_assoc : (a b c : Bool) → ((a || b) || c) ≡ (a || (b || c))
or_assoc true b c = refl
or_assoc false b c = refl

zero_apart : (n : ℕ) → suc n ≡ 0 → ⊥
zero_apart n e = absurd (omega (arith, e))

pub cons_some : {A : Type 0} {x : A} {xs : List A} → x ∷ xs ≡ [] → ⊥
cons_some {x = x} {xs = xs} e = absurd (zero_apart (length xs) (ap length e))

pub any-append : (f : ℕ → Bool) (xs ys : List ℕ) → list_any f (xs ++ ys) ≡ (list_any f xs || list_any f ys)
any-append f [] ys = refl
any-append f (x ∷ xs) ys = ap (λ b. f x || b) (any-append f xs ys) ∙ sym (or_assoc (f x) (list_any f xs) (list_any f ys))

not_slash : (d : ℕ) → nat_eq 47 (48 + d) ≡ false
not_slash d = grind arith

-- digits are no slashes
pub digits-whole : (w n : ℕ) → list_any (nat_eq 47) (digits w n) ≡ false
digits-whole zero n = refl
digits-whole (suc w) n =
    any-append (nat_eq 47) (digits w (n / 10)) ((48 + n % 10) ∷ [])
    ∙ (λ i. digits-whole w (n / 10) i || (not_slash (n % 10) i || false))

filled : (n m : List ℕ) → 0 < length n → 0 < length (n ++ m)
filled n m some = omega (arith, length-append n m, some)

pub IsName-append : (n m : List ℕ) → IsName n → list_any (nat_eq 47) m ≡ false → IsName (n ++ m)
IsName-append n m is whole = record {
  some = filled n m is.some;
  whole = any-append (nat_eq 47) n m ∙ (λ i. is.whole i || whole i);
}

pub EachName-child : (p : Names) (n : List ℕ) → EachName IsName p → IsName n → EachName IsName (child p n)
EachName-child [] n each is = (is, tt)
EachName-child (m ∷ p) n each is = (each.0, EachName-child p n each.1 is)

pub EachName-parent : (p : Names) → EachName IsName p → EachName IsName (parent p)
EachName-parent [] each = tt
EachName-parent (n ∷ []) each = tt
EachName-parent (n ∷ (m ∷ p)) each = (each.0, EachName-parent (m ∷ p) each.1)

pub IsName-last : (p : Names) → p ≢ [] → EachName IsName p → IsName (last_name p)
IsName-last [] below each = absurd (below refl)
IsName-last (n ∷ []) below each = each.0
IsName-last (n ∷ (m ∷ p)) below each = IsName-last (m ∷ p) (λ e. absurd (cons_some e)) each.1

pub child-below : (p : Names) (n : List ℕ) → child p n ≢ []
child-below [] n e = cons_some e
child-below (m ∷ p) n e = cons_some e

pub IsPath-child : (p : Names) (n : List ℕ) → IsPath p → IsName n → IsPath (child p n)
IsPath-child p n is name = record { below = child-below p n; names = EachName-child p n is.names name }

pub IsPath-numbered : (p : Names) (n : ℕ) → IsPath p → IsPath (numbered p n)
IsPath-numbered p n is = record {
  below = child-below (parent p) _;
  names = EachName-child (parent p) _ (EachName-parent p is.names) (IsName-append (last_name p) (digits 10 n) (IsName-last p is.below is.names) (digits-whole 10 n));
}
