-- The checked form of a filter nests as deep as the filter.
use Rattle.std.proofs.Common.{◌≡◌, ℕ, ◌+◌, max, Option, Some, None, refl, sym, ap, subst, ◌∙◌}
use Rattle.std.proofs.lemmas.Option.{same_Some}
use Rattle.std.specs.Option.{option_map}
use Rattle.rmt_values.specs.declared.value.Value.{Value}
use Rattle.rmt_values.specs.declared.cmp.Cmp.{Cmp}
use Rattle.rmt_values.specs.declared.filter.Filter.{Filter}
use Rattle.rmt_values.specs.declared.filter.Filter.TheOpen.{Filter-F, Test, Both, Either, Not}
use Rattle.rmt_values.specs.declared.filter.Filter.TheViews.{roll-Filter}
use Rattle.rmt_values.specs.declared.filter.Filter.TheFolds.{ind-Filter, map-Filter, fold-roll-Filter}
use Rattle.rmt_values.specs.declared.checked.Checked.{Checked}
use Rattle.rmt_values.specs.declared.checked.Checked.TheOpen as level
use Rattle.rmt_values.specs.declared.checked.Checked.TheVariants as placed
use Rattle.rmt_values.specs.declared.checked.Checked.TheVariants.{rolls-Test, rolls-Both, rolls-Either, rolls-Not}
use Rattle.rmt_values.specs.declared.checked.Checked.TheFolds.{fold-roll-Checked}
use Rattle.rmt_values.specs.Rows.{Shape, place_from, kind_named}
use Rattle.rmt_entries.specs.EntryBytes.{level_depth, depth}
use Rattle.rmt_expr.specs.Checks.{test_of, value_in, joined, checked_level, checked_of}
use Rattle.rmt_expr.specs.Sizes.{level_nesting, nesting}

-- ---- the depths of checked filters

depth-Test : (place : ℕ) (cmp : Cmp) (value : Value) → depth (placed.Test place cmp value) ≡ 1
depth-Test place cmp value = ap depth (sym (rolls-Test place cmp value)) ∙ fold-roll-Checked ℕ level_depth (level.Test place cmp value)

depth-Both : (f g : Checked) → depth (placed.Both f g) ≡ max (depth f) (depth g) + 1
depth-Both f g = ap depth (sym (rolls-Both f g)) ∙ fold-roll-Checked ℕ level_depth (level.Both f g)

depth-Either : (f g : Checked) → depth (placed.Either f g) ≡ max (depth f) (depth g) + 1
depth-Either f g = ap depth (sym (rolls-Either f g)) ∙ fold-roll-Checked ℕ level_depth (level.Either f g)

depth-Not : (f : Checked) → depth (placed.Not f) ≡ depth f + 1
depth-Not f = ap depth (sym (rolls-Not f)) ∙ fold-roll-Checked ℕ level_depth (level.Not f)

-- ---- one level

-- the checked form, where there is one, is so deep
abbrev IsDeep : ℕ → Option Checked → Type 0
IsDeep n form = (c : Checked) → form ≡ Some c → depth c ≡ n

deep-test : (cmp : Cmp) (place : Option ℕ) (value : Option Value) → IsDeep 1 (test_of cmp place value)
deep-test cmp None value c e = absurd cc
deep-test cmp (Some place) None c e = absurd cc
deep-test cmp (Some place) (Some value) c e = subst (λ x. depth x ≡ 1) (same_Some _ _ e) (depth-Test place cmp value)

deep-joined : (make : Checked → Checked → Checked) → ((f g : Checked) → depth (make f g) ≡ max (depth f) (depth g) + 1)
    → (m n : ℕ) (f g : Option Checked) → IsDeep m f → IsDeep n g → IsDeep (max m n + 1) (joined make f g)
deep-joined make depths m n None g p q c e = absurd cc
deep-joined make depths m n (Some f) None p q c e = absurd cc
deep-joined make depths m n (Some f) (Some g) p q c e =
    sym (ap depth (same_Some _ _ e)) ∙ depths f g ∙ ap (λ k. max k (depth g) + 1) (p f refl) ∙ ap (λ k. max m k + 1) (q g refl)

deep-not : (n : ℕ) (f : Option Checked) → IsDeep n f → IsDeep (n + 1) (option_map (λ f. placed.Not f) f)
deep-not n None p c e = absurd cc
deep-not n (Some f) p c e = sym (ap depth (same_Some _ _ e)) ∙ depth-Not f ∙ ap (λ k. k + 1) (p f refl)

-- ---- all levels

-- the checked form of a filter is as deep as the filter
abbrev IsAsDeep : Shape → Filter → Type 0
IsAsDeep shape f = IsDeep (nesting f) (checked_of shape f)

level-as_deep : (shape : Shape) (y : Filter-F ((f : Filter) × IsAsDeep shape f))
    → IsDeep (level_nesting (map-Filter Filter ℕ nesting (map-Filter ((f : Filter) × IsAsDeep shape f) Filter (λ e. e.0) y)))
    (checked_level shape (map-Filter Filter (Option Checked) (checked_of shape) (map-Filter ((f : Filter) × IsAsDeep shape f) Filter (λ e. e.0) y)))
level-as_deep shape (Test name cmp literal) = deep-test cmp (place_from 0 shape.columns name) (value_in literal (kind_named shape.columns name))
level-as_deep shape (Both f g) = deep-joined (λ f g. placed.Both f g) depth-Both (nesting f.0) (nesting g.0) (checked_of shape f.0) (checked_of shape g.0) f.1 g.1
level-as_deep shape (Either f g) = deep-joined (λ f g. placed.Either f g) depth-Either (nesting f.0) (nesting g.0) (checked_of shape f.0) (checked_of shape g.0) f.1 g.1
level-as_deep shape (Not f) = deep-not (nesting f.0) (checked_of shape f.0) f.1

pub as_deep : (shape : Shape) (f : Filter) → IsAsDeep shape f
as_deep shape = ind-Filter (IsAsDeep shape) (λ x y is.
    subst (λ z. IsAsDeep shape (roll-Filter z)) is (λ c e.
    level-as_deep shape y c (sym (fold-roll-Filter (Option Checked) (checked_level shape) (map-Filter _ _ (λ e. e.0) y)) ∙ e)
    ∙ sym (fold-roll-Filter ℕ level_nesting (map-Filter _ _ (λ e. e.0) y))))
