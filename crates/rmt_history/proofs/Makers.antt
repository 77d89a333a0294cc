-- Names told apart by their order, and the entries that make them.
use Rattle.std.proofs.Common.{◌≡◌, ℕ, Bool, true, false, cond, List, ◌∷◌, length, inl, inr, refl, sym, ap, subst, arith, ◌∙◌, nat_eq}
use Rattle.std.proofs.lemmas.Bool.Decides.{nat_tests}
use Rattle.std.proofs.lemmas.Map.Lookups.{CmpEqualImpliesEq, exact_pairs, exact_unsigned}
use Rattle.std.proofs.lemmas.Cmp.{tied_itself, nat_cmp_total}
use Rattle.std.specs.declared.option.Option.{Option}
use Rattle.std.specs.declared.option.Option.TheVariants.{Some, None}
use Rattle.std.specs.declared.cmp.Ordering.{Ordering}
use Rattle.std.specs.declared.cmp.Ordering.TheVariants.{Less, Equal, Greater}
use Rattle.std.specs.Ordering.{nat_cmp, is_eq}
use Rattle.std.specs.Option.{option_cmp}
use Rattle.rmt_names.specs.Names.{Name}
use Rattle.rmt_entries.specs.Entries.{result_name}
use Rattle.rmt_entries.specs.declared.entry.Entry.{Entry}
use Rattle.rmt_model.specs.Words.{Has}
use Rattle.rmt_model.specs.Live.{made, made_with}
use Rattle.rmt_model.specs.Lawful.{entry_at, MakesAt}
use Rattle.rmt_model.proofs.Drops.{entry-below}
use Rattle.rmt_history.specs.Copies.{IsMadeBy, maker_after, name_cmp}

pub exact-option : CmpEqualImpliesEq (option_cmp nat_cmp)
exact-option None None e = refl
exact-option None (Some q) e = absurd (cc)
exact-option (Some p) None e = absurd (cc)
exact-option (Some p) (Some q) e = ap Some (exact_unsigned p q e)

-- names that stand alike in the order are one
pub exact-names : CmpEqualImpliesEq name_cmp
exact-names a b h =
    ap (λ (v : Option ℕ × (ℕ × (ℕ × (ℕ × ℕ)))). record { partition = v.0; min = v.1.0; max = v.1.1.0; level = v.1.1.1.0; mutation = v.1.1.1.1 })
    (exact_pairs (option_cmp nat_cmp) _ exact-option (exact_pairs nat_cmp _ exact_unsigned (exact_pairs nat_cmp _ exact_unsigned (exact_pairs nat_cmp nat_cmp exact_unsigned exact_unsigned)))
    (a.partition, (a.min, (a.max, (a.level, a.mutation)))) (b.partition, (b.min, (b.max, (b.level, b.mutation)))) h)

pub alike : (r : Ordering) → is_eq r ≡ true → r ≡ Equal
alike Less e = absurd (cc)
alike Equal e = refl
alike Greater e = absurd (cc)

itself : (n : ℕ) → nat_cmp n n ≡ Equal
itself n = tied_itself nat_cmp_total n

pub option-itself : (p : Option ℕ) → option_cmp nat_cmp p p ≡ Equal
option-itself None = refl
option-itself (Some p) = itself p

name-itself : (a : Name) → is_eq (name_cmp a a) ≡ true
name-itself a = rw (option-itself a.partition, itself a.min, itself a.max, itself a.level, itself a.mutation) refl

-- what an older entry made it has made
older : (e : Entry) (log : List Entry) (i : ℕ) (a : Name) → MakesAt log i a → MakesAt (e ∷ log) i a
older e log i a m = record { entry = m.entry; stands = ap (λ b. cond b (Some e) (entry_at log i)) other ∙ m.stands; makes = m.makes }
  where
    other : nat_eq i (length log) ≡ false
    other = let r = entry-below log i m.entry m.stands in grind (arith, nat_tests)

newest : (e : Entry) (log : List Entry) (a : Name) → result_name e ≡ Some a → MakesAt (e ∷ log) (length log) a
newest e log a q = record { entry = e; stands = ap (λ b. cond b (Some e) (entry_at log (length log))) same; makes = q }
  where
    same : nat_eq (length log) (length log) ≡ true
    same = grind (arith, nat_tests)

-- the places noted for names, once one more entry has made what it makes
pub made-more : (e : Entry) (log : List Entry) (a : Name) (m : Option Name) (place : ℕ) (before : Option ℕ) → result_name e ≡ m → place ≡ length log → IsMadeBy log a before → IsMadeBy (e ∷ log) a (maker_after m place before a)
made-more e log a None place None q p h = λ k. h (subst (λ (m : Option Name). Has (made_with m (made log)) a) q k)
made-more e log a None place (Some i) q p h = older e log i a h
made-more e log a (Some new) place before q p h = go (is_eq (name_cmp new a)) refl
  where
    not-new : (is_eq (name_cmp new a) ≡ false) → (o : Option ℕ) → IsMadeBy log a o → IsMadeBy (e ∷ log) a o
    not-new f None k = λ u. elim (subst (λ (m : Option Name). Has (made_with m (made log)) a) q u) [
      | inl s ↦ let t = name-itself a in let v : is_eq (name_cmp a a) ≡ false = subst (λ (x : Name). is_eq (name_cmp x a) ≡ false) s f in absurd (cc)
      | inr w ↦ k w
    ]
    not-new f (Some i) k = older e log i a k

    go : (b : Bool) → is_eq (name_cmp new a) ≡ b → IsMadeBy (e ∷ log) a (cond b (Some place) before)
    go true f = subst (λ i. MakesAt (e ∷ log) i a) (sym p) (newest e log a (q ∙ ap Some (exact-names new a (alike (name_cmp new a) f))))
    go false f = not-new f before h
