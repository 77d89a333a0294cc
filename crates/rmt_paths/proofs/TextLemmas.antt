-- The text of a path is read in one way.
use Rattle.std.proofs.Common.{take, drop, ◌≡◌, ◌≢◌, refl, sym, ap, subst, ◌∙◌, arith, Bool, true, false, cond, List, [], ◌∷◌, ◌++◌, ◌||◌, ◌+◌, append_assoc}
use Rattle.std.specs.Prelude.{ℕ, suc, zero, nat_eq, length, ◌<◌, slice_index}
use mathlib.Core.Bool.{true≢false}
use Rattle.std.specs.List.{list_any}
use Rattle.rmt_paths.specs.Paths.{Names, IsName, IsPath, EachName, spelled, path_text, child}
use Rattle.rmt_paths.specs.PathReading.{EndsName, ReadsByte}
use Rattle.rmt_paths.proofs.NameLemmas.{any-append, EachName-child, child-below}

-- nothing, or a slash first
abbrev pub ends : List ℕ → Bool
ends [] = true
ends (b ∷ bs) = nat_eq 47 b

pub path_text-append : (p q : Names) → path_text (p ++ q) ≡ path_text p ++ path_text q
path_text-append [] q = refl
path_text-append (n ∷ p) q = ap (λ t. spelled n ++ t) (path_text-append p q) ∙ sym (append_assoc (spelled n) (path_text p) (path_text q))

ends-text : (p : Names) (t : List ℕ) → ends t ≡ true → ends (path_text p ++ t) ≡ true
ends-text [] t is = is
ends-text (n ∷ p) t is = refl

or_left : (a b : Bool) → (a || b) ≡ false → a ≡ false
or_left true b is = is
or_left false b is = refl

or_right : (a b : Bool) → (a || b) ≡ false → b ≡ false
or_right true b is = absurd (true≢false is)
or_right false b is = is

abbrev first_of : (x : ℕ) (xs : List ℕ) → List ℕ → ℕ
first_of x xs [] = x
first_of x xs (y ∷ ys) = y

head_is : (x y : ℕ) (xs ys : List ℕ) → x ∷ xs ≡ y ∷ ys → x ≡ y
head_is x y xs ys e = ap (first_of x xs) e

abbrev tail_of : List ℕ → List ℕ
tail_of [] = []
tail_of (x ∷ xs) = xs

tail_is : (x y : ℕ) (xs ys : List ℕ) → x ∷ xs ≡ y ∷ ys → xs ≡ ys
tail_is x y xs ys e = ap tail_of e

-- two names before a slash or the end are the same
pub same_names : (n m s t : List ℕ) → list_any (nat_eq 47) n ≡ false → list_any (nat_eq 47) m ≡ false → ends s ≡ true → ends t ≡ true → n ++ s ≡ m ++ t → (n ≡ m) × (s ≡ t)
same_names [] [] s t a b c d e = (refl, e)
same_names [] (y ∷ m) s t a b c d e = absurd (true≢false (sym (sym (ap ends e) ∙ c) ∙ or_left (nat_eq 47 y) _ b))
same_names (x ∷ n) [] s t a b c d e = absurd (true≢false (sym (ap ends e ∙ d) ∙ or_left (nat_eq 47 x) _ a))
same_names (x ∷ n) (y ∷ m) s t a b c d e =
    let rest = same_names n m s t (or_right (nat_eq 47 x) _ a) (or_right (nat_eq 47 y) _ b) c d (tail_is x y (n ++ s) (m ++ t) e) in
    ((λ i. head_is x y (n ++ s) (m ++ t) e i ∷ rest.0 i), rest.1)

abbrev is_empty : List ℕ → Bool
is_empty [] = true
is_empty (x ∷ xs) = false

empty_apart : {x : ℕ} {xs : List ℕ} → [] ≡ x ∷ xs → true ≡ false
empty_apart e = ap is_empty e

ends-path : (p : Names) → ends (path_text p) ≡ true
ends-path [] = refl
ends-path (n ∷ p) = refl

no_length : 0 < length {A = ℕ} [] → ⊥
no_length some = absurd (omega (arith, some))

-- a name has a byte that isn't a slash first
no_empty : (m s t : List ℕ) → IsName m → ends t ≡ true → m ++ s ≡ t → ⊥
no_empty [] s t name ending e = no_length name.some
no_empty (x ∷ m) s t name ending e = true≢false (sym (ap ends e ∙ ending) ∙ or_left (nat_eq 47 x) _ name.whole)

-- no path has this text: names, and a slash with nothing after it up to a slash or the end
pub no_path : (ns : Names) (t : List ℕ) → EachName IsName ns → ends t ≡ true → (p : Names) → EachName IsName p → path_text p ≡ path_text ns ++ 47 ∷ t → ⊥
no_path [] t each ending [] names e = absurd (true≢false (empty_apart e))
no_path [] t each ending (m ∷ p) names e = no_empty m (path_text p) t names.0 ending (tail_is 47 47 (m ++ path_text p) t e)
no_path (n ∷ ns) t each ending [] names e = absurd (true≢false (empty_apart e))
no_path (n ∷ ns) t each ending (m ∷ p) names e =
    let rest = same_names m n (path_text p) (path_text ns ++ 47 ∷ t) names.0.whole each.0.whole (ends-path p) (ends-text ns (47 ∷ t) refl) (tail_is 47 47 _ _ (e ∙ append_assoc (spelled n) (path_text ns) (47 ∷ t))) in
    no_path ns t each.1 ending p names.1 rest.1

pub no_bytes : (p : Names) (bs : List ℕ) → IsPath p → path_text p ≡ bs → length bs ≡ 0 → ⊥
no_bytes [] bs is e none = is.below refl
no_bytes (n ∷ p) [] is e none = true≢false (empty_apart (sym e))
no_bytes (n ∷ p) (b ∷ bs) is e none = absurd (omega (arith, none))

pub first_slash : (p : Names) (bs : List ℕ) → IsPath p → path_text p ≡ bs → slice_index bs 0 ≡ 47
first_slash [] bs is e = absurd (is.below refl)
first_slash (n ∷ p) bs is e = sym (ap (λ t. slice_index t 0) e)

-- what is read up to a slash, with nothing before the next slash
pub bad_slash : (ns p : Names) (bs rest : List ℕ) → EachName IsName ns → IsPath p → path_text ns ++ 47 ∷ [] ++ 47 ∷ rest ≡ bs → path_text p ≡ bs → ⊥
bad_slash ns p bs rest each is text e = no_path ns (47 ∷ rest) each refl p is.names (e ∙ sym text ∙ append_assoc (path_text ns) (47 ∷ []) (47 ∷ rest))

pub bad_end : (ns p : Names) (bs : List ℕ) → EachName IsName ns → IsPath p → path_text ns ++ 47 ∷ [] ≡ bs → path_text p ≡ bs → ⊥
bad_end ns p bs each is text e = no_path ns [] each refl p is.names (e ∙ sym text)

some_bytes : (n : List ℕ) → n ≢ [] → 0 < length n
some_bytes [] some = absurd (some refl)
some_bytes (b ∷ n) some = omega arith

pub name_from : (n : List ℕ) → n ≢ [] → list_any (nat_eq 47) n ≡ false → IsName n
name_from n some whole = record { some = some_bytes n some; whole = whole }

append_nil : (xs : List ℕ) → xs ++ [] ≡ xs
append_nil [] = refl
append_nil (x ∷ xs) = ap (λ ys. x ∷ ys) (append_nil xs)

-- a name that is done
pub text-child : (ns : Names) (n : List ℕ) → path_text (child ns n) ≡ path_text ns ++ 47 ∷ n
text-child ns n = path_text-append ns (n ∷ []) ∙ ap (λ t. path_text ns ++ t) (append_nil (47 ∷ n))

-- a byte more: a slash after a name, or another byte of it
pub text-slash : (ns : Names) (n : List ℕ) → path_text (child ns n) ++ 47 ∷ [] ≡ (path_text ns ++ 47 ∷ n) ++ 47 ∷ []
text-slash ns n = ap (λ t. t ++ 47 ∷ []) (text-child ns n)

pub text-byte : (ns : Names) (n : List ℕ) (b : ℕ) → path_text ns ++ 47 ∷ (n ++ b ∷ []) ≡ (path_text ns ++ 47 ∷ n) ++ b ∷ []
text-byte ns n b = sym (append_assoc (path_text ns) (47 ∷ n) (b ∷ []))

eq_is : (b : ℕ) → nat_eq b 47 ≡ true → b ≡ 47
eq_is b is = grind (arith, is)

flipped : (b : ℕ) → nat_eq b 47 ≡ false → nat_eq 47 b ≡ false
flipped b other = grind (arith, other)

-- one byte more is read
pub record HasRead (bs : List ℕ) (i : ℕ) (ns : Names) (n : List ℕ) : Type 0 where
  pub text : path_text ns ++ 47 ∷ n ≡ take i bs
  pub names : EachName IsName ns
  pub whole : list_any (nat_eq 47) n ≡ false

pub whole-byte : (n : List ℕ) (b : ℕ) → nat_eq b 47 ≡ false → list_any (nat_eq 47) n ≡ false → list_any (nat_eq 47) (n ++ b ∷ []) ≡ false
whole-byte n b other whole = any-append (nat_eq 47) n (b ∷ []) ∙ (λ i. whole i || (flipped b other i || false))

has_read : (t : Bool) (b : ℕ) (bs : List ℕ) (i : ℕ) (ns : Names) (n : List ℕ) (ns' : Names) (n' : List ℕ) → nat_eq b 47 ≡ t → cond t (EndsName ns n ns' n') ((ns' ≡ ns) × (n' ≡ n ++ b ∷ [])) → take (i + 1) bs ≡ take i bs ++ b ∷ [] → HasRead bs i ns n → HasRead bs (i + 1) ns' n'
has_read true b bs i ns n ns' n' is reads more read = record {
  text = (λ j. path_text (reads.more j) ++ 47 ∷ reads.anew j) ∙ text-slash ns n ∙ (λ j. read.text j ++ sym (eq_is b is) j ∷ []) ∙ sym more;
  names = subst (EachName IsName) (sym reads.more) (EachName-child ns n read.names (name_from n reads.some read.whole));
  whole = ap (list_any (nat_eq 47)) reads.anew;
}
has_read false b bs i ns n ns' n' is reads more read = record {
  text = (λ j. path_text (reads.0 j) ++ 47 ∷ reads.1 j) ∙ text-byte ns n b ∙ (λ j. read.text j ++ b ∷ []) ∙ sym more;
  names = subst (EachName IsName) (sym reads.0) read.names;
  whole = ap (list_any (nat_eq 47)) reads.1 ∙ whole-byte n b is read.whole;
}

pub HasRead-byte : (b : ℕ) (bs : List ℕ) (i : ℕ) (ns : Names) (n : List ℕ) (ns' : Names) (n' : List ℕ) → ReadsByte b ns n ns' n' → take (i + 1) bs ≡ take i bs ++ b ∷ [] → HasRead bs i ns n → HasRead bs (i + 1) ns' n'
HasRead-byte b bs i ns n ns' n' reads more read = has_read (nat_eq b 47) b bs i ns n ns' n' refl reads more read

pub IsPath-read : (bs : List ℕ) (ns : Names) (n : List ℕ) (ns' : Names) (n' : List ℕ) (i : ℕ) → EndsName ns n ns' n' → HasRead bs i ns n → take i bs ≡ bs → (path_text ns' ≡ bs) × IsPath ns'
IsPath-read bs ns n ns' n' i ends read all = (
  ap path_text ends.more ∙ text-child ns n ∙ read.text ∙ all,
  subst IsPath (sym ends.more) (record { below = child-below ns n; names = EachName-child ns n read.names (name_from n ends.some read.whole) }),
)

nothing_there : (k : ℕ) → k ≡ 0 → k ≡ 47 → ⊥
nothing_there k none e = absurd (omega (arith, none, e))

pub HasRead-start : (bs : List ℕ) (ns : Names) (n : List ℕ) → slice_index bs 0 ≡ 47 → ns ≡ [] → n ≡ [] → HasRead bs 1 ns n
HasRead-start [] ns n first none anew = absurd (nothing_there _ refl first)
HasRead-start (b ∷ bs) ns n first none anew = record {
  text = (λ j. path_text (none j) ++ 47 ∷ anew j) ∙ (λ j. sym first j ∷ []);
  names = subst (EachName IsName) (sym none) tt;
  whole = ap (list_any (nat_eq 47)) anew;
}

split_at : (i : ℕ) (bs : List ℕ) → i < length bs → take i bs ++ slice_index bs i ∷ drop (suc i) bs ≡ bs
split_at i [] below = absurd (omega (arith, below))
split_at zero (b ∷ bs) below = refl
split_at (suc i) (b ∷ bs) below = ap (λ t. b ∷ t) (split_at i bs (omega (arith, below)))

pub bad_read : (bs : List ℕ) (i : ℕ) (ns : Names) (n : List ℕ) (p : Names) → HasRead bs i ns n → slice_index bs i ≡ 47 → n ≡ [] → i < length bs → IsPath p → path_text p ≡ bs → ⊥
bad_read bs i ns n p read slash none below is e =
    bad_slash ns p bs (drop (suc i) bs) read.names is ((λ j. ((λ k. path_text ns ++ 47 ∷ sym none k) ∙ read.text) j ++ sym slash j ∷ drop (suc i) bs) ∙ split_at i bs below) e

pub bad_last : (bs : List ℕ) (i : ℕ) (ns : Names) (n : List ℕ) (p : Names) → HasRead bs i ns n → n ≡ [] → take i bs ≡ bs → IsPath p → path_text p ≡ bs → ⊥
bad_last bs i ns n p read none all is e = bad_end ns p bs read.names is ((λ k. path_text ns ++ 47 ∷ sym none k) ∙ read.text ∙ all) e

-- a text is of one path at most
pub one_path : (p q : Names) → EachName IsName p → EachName IsName q → path_text p ≡ path_text q → p ≡ q
one_path [] [] each others e = refl
one_path [] (m ∷ q) each others e = absurd (true≢false (empty_apart e))
one_path (n ∷ p) [] each others e = absurd (true≢false (empty_apart (sym e)))
one_path (n ∷ p) (m ∷ q) each others e =
    let same = same_names n m (path_text p) (path_text q) each.0.whole others.0.whole (ends-path p) (ends-path q) (tail_is 47 47 _ _ e) in
    λ i. same.0 i ∷ one_path p q each.1 others.1 same.1 i
