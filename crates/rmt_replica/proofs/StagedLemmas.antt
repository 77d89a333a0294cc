-- Staged blocks, seen by what their values are.
use Rattle.std.proofs.Common.{◌≡◌, Bool, true, false, cond, List, [], ◌∷◌, map, refl, ap}
use Rattle.std.specs.Option.{option_map}
use Rattle.std.specs.declared.option.Option.TheVariants.{Some}
use Rattle.std.specs.declared.cmp.Ordering.{Ordering}
use Rattle.std.specs.declared.cmp.Ordering.TheVariants.{Less, Equal, Greater}
use Rattle.std.specs.Ordering.{match_ordering}
use Rattle.std.specs.Map.{lookup, remove_entry}
use Rattle.std.specs.BTreeMap.{insert_entry}

module _ {K X Y : Type 0} (f : X → Y) where
  abbrev pub seen : K × X → K × Y
  seen e = (e.0, f e.1)

  pub insert-seen : (cmp : K → K → Ordering) (es : List (K × X)) (k : K) (x : X) → map seen (insert_entry cmp es k x) ≡ insert_entry cmp (map seen es) k (f x)
  insert-seen cmp [] k x = refl
  insert-seen cmp (e ∷ es) k x = go (cmp k e.0) (insert-seen cmp es k x)
    where
      go : (o : Ordering) → map seen (insert_entry cmp es k x) ≡ insert_entry cmp (map seen es) k (f x) → map seen (match_ordering o ((k, x) ∷ e ∷ es) ((e.0, x) ∷ es) (e ∷ insert_entry cmp es k x)) ≡ match_ordering o ((k, f x) ∷ seen e ∷ map seen es) ((e.0, f x) ∷ map seen es) (seen e ∷ insert_entry cmp (map seen es) k (f x))
      go Less h = refl
      go Equal h = refl
      go Greater h = ap (λ zs. seen e ∷ zs) h

  pub remove-seen : (test : K → Bool) (es : List (K × X)) → map seen (remove_entry test es) ≡ remove_entry test (map seen es)
  remove-seen test [] = refl
  remove-seen test (e ∷ es) = go (test e.0) (remove-seen test es)
    where
      go : (b : Bool) → map seen (remove_entry test es) ≡ remove_entry test (map seen es) → map seen (cond b es (e ∷ remove_entry test es)) ≡ cond b (map seen es) (seen e ∷ remove_entry test (map seen es))
      go true h = refl
      go false h = ap (λ zs. seen e ∷ zs) h

  pub lookup-seen : (test : K → Bool) (es : List (K × X)) → option_map f (lookup test es) ≡ lookup test (map seen es)
  lookup-seen test [] = refl
  lookup-seen test (e ∷ es) = go (test e.0) (lookup-seen test es)
    where
      go : (b : Bool) → option_map f (lookup test es) ≡ lookup test (map seen es) → option_map f (cond b (Some e.1) (lookup test es)) ≡ cond b (Some (f e.1)) (lookup test (map seen es))
      go true h = refl
      go false h = h
