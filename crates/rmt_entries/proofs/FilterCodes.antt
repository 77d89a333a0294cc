-- The bytes of filters.
use Rattle.std.proofs.Common.{◌≡◌, ℕ, zero, suc, ◌^◌, ◌<◌, ◌≤◌, List, [], ◌∷◌, ◌++◌, Option, Some, None, refl, sym, ap, subst, ◌∙◌, append_assoc, arith}
use Rattle.std.specs.Int.{w16, to_be_bytes}
use Rattle.std.specs.List.{AllByRecursion}
use Rattle.rmt_values.specs.declared.value.Value.{Value}
use Rattle.rmt_values.specs.declared.cmp.Cmp.{Cmp}
use Rattle.rmt_values.specs.declared.cmp.Cmp.TheVariants as cmps
use Rattle.rmt_values.specs.declared.checked.Checked.{Checked}
use Rattle.rmt_values.specs.declared.checked.Checked.TheVariants as filter
use Rattle.rmt_values.specs.declared.checked.Checked.TheVariants.{rolls-Test, rolls-Both, rolls-Either, rolls-Not}
use Rattle.rmt_values.specs.declared.checked.Checked.TheOpen.{Checked-F, Test, Both, Either, Not}
use Rattle.rmt_values.specs.declared.checked.Checked.TheViews.{roll-Checked}
use Rattle.rmt_values.specs.declared.checked.Checked.TheFolds.{ind-Checked, map-Checked, fold-roll-Checked}
use Rattle.rmt_bytes.specs.Encoding.{AreBytes, typed_bytes, IsInRange}
use Rattle.rmt_bytes.specs.Decoding.{mapped, decode_both}
use Rattle.rmt_bytes.proofs.Codes.{Takes, Codes}
use Rattle.rmt_bytes.proofs.CodeLemmas.{both}
use Rattle.rmt_bytes.proofs.NumberCodes.{number16}
use Rattle.rmt_bytes.proofs.ValueCodes.{typed_code, tagged}
use Rattle.rmt_entries.specs.EntryBytes.{cmp_byte, level_bytes, filter_bytes, level_depth, depth, level_tests, tests, TestInRange, FilterInRange}
use Rattle.rmt_entries.specs.EntryDecoding.{decode_cmp, decode_test, test_of, decode_level, decode_filter}

-- ---- comparisons

cmp_again : (cmp : Cmp) (rest : List ℕ) → Unit {0} → decode_cmp (cmp_byte cmp ∷ [] ++ rest) ≡ Some (cmp, rest)
unfolding decode_cmp
cmp_again cmps.Eq rest fits = refl
cmp_again cmps.Ne rest fits = refl
cmp_again cmps.Lt rest fits = refl
cmp_again cmps.Le rest fits = refl
cmp_again cmps.Gt rest fits = refl
cmp_again cmps.Ge rest fits = refl

abbrev CmpTaken : List ℕ → Option (Cmp × List ℕ) → Type 0
CmpTaken all None = Unit {0}
CmpTaken all (Some x) = Takes (λ cmp. cmp_byte cmp ∷ []) (λ cmp. Unit {0}) all x.0 x.1

cmp_taken : (all : List ℕ) → AreBytes all → CmpTaken all (decode_cmp all)
unfolding decode_cmp
cmp_taken [] are = tt
cmp_taken (zero ∷ all) are = tt
cmp_taken (suc zero ∷ all) are = record { parts = refl; fits = tt; rest_bytes = are.1 }
cmp_taken (suc (suc zero) ∷ all) are = record { parts = refl; fits = tt; rest_bytes = are.1 }
cmp_taken (suc (suc (suc zero)) ∷ all) are = record { parts = refl; fits = tt; rest_bytes = are.1 }
cmp_taken (suc (suc (suc (suc zero))) ∷ all) are = record { parts = refl; fits = tt; rest_bytes = are.1 }
cmp_taken (suc (suc (suc (suc (suc zero)))) ∷ all) are = record { parts = refl; fits = tt; rest_bytes = are.1 }
cmp_taken (suc (suc (suc (suc (suc (suc zero))))) ∷ all) are = record { parts = refl; fits = tt; rest_bytes = are.1 }
cmp_taken (suc (suc (suc (suc (suc (suc (suc b)))))) ∷ all) are = tt

cmp_code : Codes (λ cmp. cmp_byte cmp ∷ []) (λ cmp. Unit {0}) decode_cmp
cmp_code = record { again = cmp_again; takes = λ all cmp rest are e. subst (CmpTaken all) e (cmp_taken all are) }

test_code : Codes (λ x. (to_be_bytes w16 x.0.0 ++ cmp_byte x.0.1 ∷ []) ++ typed_bytes x.1) (λ x. ((x.0.0 < 2 ^ 16) × Unit {0}) × IsInRange x.1) decode_test
test_code = both (both number16 cmp_code) typed_code

level_from_1 : (y : Checked-F ℕ) → 1 ≤ level_depth y
level_from_1 (Test column cmp value) = omega arith
level_from_1 (Both f g) = omega arith
level_from_1 (Either f g) = omega arith
level_from_1 (Not f) = omega arith

is-Test : (column : ℕ) (cmp : Cmp) (value : Value) → filter_bytes (filter.Test column cmp value) ≡ 1 ∷ (to_be_bytes w16 column ++ cmp_byte cmp ∷ []) ++ typed_bytes value
is-Test column cmp value = ap filter_bytes (sym (rolls-Test column cmp value)) ∙ fold-roll-Checked (List ℕ) level_bytes (Test column cmp value)
    ∙ ap (λ (l : List ℕ). 1 ∷ l) (sym (append_assoc (to_be_bytes w16 column) (cmp_byte cmp ∷ []) (typed_bytes value)))

-- ---- lists of two

all_append : {A : Type 0} (P : A → Type 0) (xs ys : List A) → AllByRecursion P xs → AllByRecursion P ys → AllByRecursion P (xs ++ ys)
all_append P [] ys first second = second
all_append P (x ∷ xs) ys first second = (first.0, all_append P xs ys first.1 second)

all_first : {A : Type 0} (P : A → Type 0) (xs ys : List A) → AllByRecursion P (xs ++ ys) → AllByRecursion P xs
all_first P [] ys all = tt
all_first P (x ∷ xs) ys all = (all.0, all_first P xs ys all.1)

all_second : {A : Type 0} (P : A → Type 0) (xs ys : List A) → AllByRecursion P (xs ++ ys) → AllByRecursion P ys
all_second P [] ys all = all
all_second P (x ∷ xs) ys all = all_second P xs ys all.1

-- ---- one level

-- each filter has a first level
by_level : (P : Checked → Type 0) → ((y : Checked-F Checked) → P (roll-Checked y)) → (f : Checked) → P f
by_level P h = ind-Checked P (λ x y is. subst (λ z. P (roll-Checked z)) is (h (map-Checked _ _ (λ e. e.0) y)))

module _ (d : ℕ) (inner : List ℕ → Option (Checked × List ℕ)) (code : Codes filter_bytes (FilterInRange d) inner) where
  pair : Codes {A = Checked × Checked} (λ x. filter_bytes x.0 ++ filter_bytes x.1) (λ x. FilterInRange d x.0 × FilterInRange d x.1) (decode_both inner inner)
  pair = both code code

  level_again : (y : Checked-F Checked) (rest : List ℕ) → level_depth (map-Checked Checked ℕ depth y) ≤ suc d → AllByRecursion TestInRange (level_tests (map-Checked Checked (List (ℕ × Value)) tests y))
      → decode_level inner (level_bytes (map-Checked Checked (List ℕ) filter_bytes y) ++ rest) ≡ Some (roll-Checked y, rest)
  unfolding decode_level
  level_again (Test column cmp value) rest deep fits =
      ap (λ (l : List ℕ). mapped test_of (decode_test (l ++ rest))) (append_assoc (to_be_bytes w16 column) (cmp_byte cmp ∷ []) (typed_bytes value))
      ∙ ap (mapped test_of) (test_code.again ((column, cmp), value) rest ((fits.0.0, tt), fits.0.1))
      ∙ ap (λ (f : Checked). Some (f, rest)) (sym (rolls-Test column cmp value))
  level_again (Both f g) rest deep fits =
      ap (mapped (λ x. filter.Both x.0 x.1)) (pair.again (f, g) rest
      (record { deep = omega (arith, deep); tests_fit = all_first TestInRange (tests f) (tests g) fits }, record { deep = omega (arith, deep); tests_fit = all_second TestInRange (tests f) (tests g) fits }))
      ∙ ap (λ (f : Checked). Some (f, rest)) (sym (rolls-Both f g))
  level_again (Either f g) rest deep fits =
      ap (mapped (λ x. filter.Either x.0 x.1)) (pair.again (f, g) rest
      (record { deep = omega (arith, deep); tests_fit = all_first TestInRange (tests f) (tests g) fits }, record { deep = omega (arith, deep); tests_fit = all_second TestInRange (tests f) (tests g) fits }))
      ∙ ap (λ (f : Checked). Some (f, rest)) (sym (rolls-Either f g))
  level_again (Not f) rest deep fits =
      ap (mapped filter.Not) (code.again f rest (record { deep = omega (arith, deep); tests_fit = fits }))
      ∙ ap (λ (f : Checked). Some (f, rest)) (sym (rolls-Not f))

  again : (f : Checked) (rest : List ℕ) → FilterInRange (suc d) f → decode_level inner (filter_bytes f ++ rest) ≡ Some (f, rest)
  again f rest = by_level (λ f. FilterInRange (suc d) f → decode_level inner (filter_bytes f ++ rest) ≡ Some (f, rest))
      (λ y fits.
      ap (λ (l : List ℕ). decode_level inner (l ++ rest)) (fold-roll-Checked (List ℕ) level_bytes y)
      ∙ level_again y rest (subst (λ k. k ≤ suc d) (fold-roll-Checked ℕ level_depth y) fits.deep) (subst (AllByRecursion TestInRange) (fold-roll-Checked (List (ℕ × Value)) level_tests y) fits.tests_fit)) f

  taken : (all : List ℕ) (f : Checked) (rest : List ℕ) → AreBytes all → decode_level inner all ≡ Some (f, rest) → Takes filter_bytes (FilterInRange (suc d)) all f rest
  unfolding decode_level
  taken [] f rest are e = absurd cc
  taken (zero ∷ all) f rest are e = absurd cc
  taken (suc zero ∷ all) f rest are e = tagged test_code filter_bytes (FilterInRange (suc d)) test_of 1
      (λ x. is-Test x.0.0 x.0.1 x.1)
      (λ x fits. record {
        deep = subst (λ k. k ≤ suc d) (sym (ap depth (sym (rolls-Test x.0.0 x.0.1 x.1)) ∙ fold-roll-Checked ℕ level_depth (Test x.0.0 x.0.1 x.1))) (omega arith);
        tests_fit = subst (AllByRecursion TestInRange) (sym (ap tests (sym (rolls-Test x.0.0 x.0.1 x.1)) ∙ fold-roll-Checked (List (ℕ × Value)) level_tests (Test x.0.0 x.0.1 x.1)))
            ((fits.0.0, fits.1), tt);
      }) all f rest are.1 e
  taken (suc (suc zero) ∷ all) f rest are e = tagged pair filter_bytes (FilterInRange (suc d)) (λ x. filter.Both x.0 x.1) 2
      (λ x. ap filter_bytes (sym (rolls-Both x.0 x.1)) ∙ fold-roll-Checked (List ℕ) level_bytes (Both x.0 x.1))
      (λ x fits. record {
        deep = subst (λ k. k ≤ suc d) (sym (ap depth (sym (rolls-Both x.0 x.1)) ∙ fold-roll-Checked ℕ level_depth (Both x.0 x.1))) (omega (arith, fits.0.deep, fits.1.deep));
        tests_fit = subst (AllByRecursion TestInRange) (sym (ap tests (sym (rolls-Both x.0 x.1)) ∙ fold-roll-Checked (List (ℕ × Value)) level_tests (Both x.0 x.1)))
            (all_append TestInRange (tests x.0) (tests x.1) fits.0.tests_fit fits.1.tests_fit);
      }) all f rest are.1 e
  taken (suc (suc (suc zero)) ∷ all) f rest are e = tagged pair filter_bytes (FilterInRange (suc d)) (λ x. filter.Either x.0 x.1) 3
      (λ x. ap filter_bytes (sym (rolls-Either x.0 x.1)) ∙ fold-roll-Checked (List ℕ) level_bytes (Either x.0 x.1))
      (λ x fits. record {
        deep = subst (λ k. k ≤ suc d) (sym (ap depth (sym (rolls-Either x.0 x.1)) ∙ fold-roll-Checked ℕ level_depth (Either x.0 x.1))) (omega (arith, fits.0.deep, fits.1.deep));
        tests_fit = subst (AllByRecursion TestInRange) (sym (ap tests (sym (rolls-Either x.0 x.1)) ∙ fold-roll-Checked (List (ℕ × Value)) level_tests (Either x.0 x.1)))
            (all_append TestInRange (tests x.0) (tests x.1) fits.0.tests_fit fits.1.tests_fit);
      }) all f rest are.1 e
  taken (suc (suc (suc (suc zero))) ∷ all) f rest are e = tagged code filter_bytes (FilterInRange (suc d)) filter.Not 4
      (λ x. ap filter_bytes (sym (rolls-Not x)) ∙ fold-roll-Checked (List ℕ) level_bytes (Not x))
      (λ x fits. record {
        deep = subst (λ k. k ≤ suc d) (sym (ap depth (sym (rolls-Not x)) ∙ fold-roll-Checked ℕ level_depth (Not x))) (omega (arith, fits.deep));
        tests_fit = subst (AllByRecursion TestInRange) (sym (ap tests (sym (rolls-Not x)) ∙ fold-roll-Checked (List (ℕ × Value)) level_tests (Not x))) fits.tests_fit;
      }) all f rest are.1 e
  taken (suc (suc (suc (suc (suc b)))) ∷ all) f rest are e = absurd cc

-- each filter has a level, so none nests 0 deep
deep_from_1 : (f : Checked) → 1 ≤ depth f
deep_from_1 = by_level (λ f. 1 ≤ depth f) (λ y. subst (λ k. 1 ≤ k) (sym (fold-roll-Checked ℕ level_depth y)) (level_from_1 (map-Checked Checked ℕ depth y)))

pub filter_code : (d : ℕ) → Codes filter_bytes (FilterInRange d) (decode_filter d)
unfolding decode_filter
filter_code zero = record { again = λ f rest fits. absurd (omega (arith, deep_from_1 f, fits.deep)); takes = λ all f rest are e. absurd cc }
filter_code (suc d) = record { again = again d (decode_filter d) (filter_code d); takes = taken d (decode_filter d) (filter_code d) }
