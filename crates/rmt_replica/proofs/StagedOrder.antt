-- Staged blocks stay in order, each under its own partition.
use Rattle.std.proofs.Common.{◌≡◌, ◌∙◌, Bool, true, false, cond, List, [], ◌∷◌, refl, sym, ap}
use Rattle.std.proofs.lemmas.Cmp.{nat_cmp_total, on_total, then_total}
use Rattle.std.specs.Cmp.{IsTotalOrder}
use Rattle.std.specs.Cmp.Lexicographic.{options_total}
use Rattle.std.specs.List.{AllByRecursion}
use Rattle.std.specs.List.Sorted.{IsStrictlySortedBy}
use Rattle.std.specs.Map.{keys_of, remove_entry}
use Rattle.std.specs.BTreeMap.{insert_entry}
use Rattle.std.specs.Option.{option_cmp}
use Rattle.std.specs.Ordering.{match_ordering, nat_cmp, ordering_reverse, ordering_then}
use Rattle.std.specs.declared.cmp.Ordering.{Ordering}
use Rattle.std.specs.declared.cmp.Ordering.TheVariants.{Less, Equal, Greater}
use Rattle.std.specs.declared.option.Option.{Option}
use Rattle.std.specs.declared.option.Option.TheVariants.{Some, None}
use Rattle.rmt_block.specs.Blocks.{BlockView}
use Rattle.rmt_block.proofs.GroupLemmas.{partition_cmp-exact}
use Rattle.rmt_entries.specs.declared.entry.Entry.{Entry}
use Rattle.rmt_entries.specs.declared.entry.Entry.TheVariants.{Get, Merge, Mutate, Mutation, DropRange}
use Rattle.rmt_model.specs.Words.{Each}
use Rattle.rmt_replica.specs.declared.block_number.BlockNumber.{BlockNumber}
use Rattle.rmt_replica.specs.StagedBlocks.{Staged, AreStaged, number_cmp, with_staged, without}
use Rattle.rmt_replica.specs.Answers.{released}

-- ---- keys in order

module _ {K X : Type 0} (R : K → K → Ordering) (test : K → Bool) where
  all-removed : (P : K → Type 0) (es : List (K × X)) → AllByRecursion P (keys_of es) → AllByRecursion P (keys_of (remove_entry test es))
  all-removed P [] h = tt
  all-removed P (e ∷ es) h = go (test e.0) (all-removed P es h.1)
    where
      go : (b : Bool) → AllByRecursion P (keys_of (remove_entry test es)) → AllByRecursion P (keys_of (cond b es (e ∷ remove_entry test es)))
      go true i = h.1
      go false i = (h.0, i)

  sorted-removed : (es : List (K × X)) → IsStrictlySortedBy R (keys_of es) → IsStrictlySortedBy R (keys_of (remove_entry test es))
  unfolding IsStrictlySortedBy
  sorted-removed [] s = tt
  sorted-removed (e ∷ es) s = go (test e.0) (all-removed (λ y. R e.0 y ≡ Less) es s.0) (sorted-removed es s.1)
    where
      go : (b : Bool) → AllByRecursion (λ y. R e.0 y ≡ Less) (keys_of (remove_entry test es)) → IsStrictlySortedBy R (keys_of (remove_entry test es)) → IsStrictlySortedBy R (keys_of (cond b es (e ∷ remove_entry test es)))
      go true a i = s.1
      go false a i = (a, i)

module _ {K X : Type 0} {R : K → K → Ordering} (o : IsTotalOrder R) (k : K) (v : X) where
  -- a key below the first is below all
  all-above : (e : K) (ks : List K) → R k e ≡ Less → AllByRecursion (λ y. R e y ≡ Less) ks → AllByRecursion (λ y. R k y ≡ Less) ks
  all-above e [] l h = tt
  all-above e (y ∷ ys) l h = (o.trans k e y l h.0, all-above e ys l h.1)

  all-inserted : (P : K → Type 0) → P k → (es : List (K × X)) → AllByRecursion P (keys_of es) → AllByRecursion P (keys_of (insert_entry R es k v))
  all-inserted P p [] h = (p, tt)
  all-inserted P p (e ∷ es) h = go (R k e.0) (all-inserted P p es h.1)
    where
      go : (r : Ordering) → AllByRecursion P (keys_of (insert_entry R es k v)) → AllByRecursion P (keys_of (match_ordering r ((k, v) ∷ e ∷ es) ((e.0, v) ∷ es) (e ∷ insert_entry R es k v)))
      go Less i = (p, h)
      go Equal i = h
      go Greater i = (h.0, i)

  sorted-inserted : (es : List (K × X)) → IsStrictlySortedBy R (keys_of es) → IsStrictlySortedBy R (keys_of (insert_entry R es k v))
  unfolding IsStrictlySortedBy
  sorted-inserted [] s = (tt, tt)
  sorted-inserted (e ∷ es) s = go (R k e.0) refl (sorted-inserted es s.1)
    where
      go : (r : Ordering) → R k e.0 ≡ r → IsStrictlySortedBy R (keys_of (insert_entry R es k v)) → IsStrictlySortedBy R (keys_of (match_ordering r ((k, v) ∷ e ∷ es) ((e.0, v) ∷ es) (e ∷ insert_entry R es k v)))
      go Less q i = ((q, all-above e.0 (keys_of es) q s.0), s)
      go Equal q i = s
      go Greater q i = (all-inserted (λ y. R e.0 y ≡ Less) (o.antisymm e.0 k ∙ ap ordering_reverse q) es s.0, i)

-- ---- numbers

number_cmp-total : IsTotalOrder number_cmp
number_cmp-total = then_total (on_total (λ (n : BlockNumber). n.partition) (options_total nat_cmp_total)) (on_total (λ (n : BlockNumber). n.number) nat_cmp_total)

first-equal : (p q : Ordering) → ordering_then p q ≡ Equal → p ≡ Equal
first-equal Less q e = e
first-equal Equal q e = refl
first-equal Greater q e = e

-- numbers that are one are of one partition
one-partition : (a b : BlockNumber) → number_cmp a b ≡ Equal → a.partition ≡ b.partition
one-partition a b e = partition_cmp-exact a.partition b.partition (first-equal (option_cmp nat_cmp a.partition b.partition) (nat_cmp a.number b.number) e)

-- ---- staged blocks

abbrev IsOwn : BlockNumber × BlockView → Type 0
IsOwn z = z.0.partition ≡ z.1.partition

own-inserted : (at : BlockNumber) (block : BlockView) → at.partition ≡ block.partition → (staged : Staged) → Each IsOwn staged → Each IsOwn (with_staged staged at block)
own-inserted at block p [] h = (p, tt)
own-inserted at block p (z ∷ zs) h = go (number_cmp at z.0) refl (own-inserted at block p zs h.1)
  where
    go : (r : Ordering) → number_cmp at z.0 ≡ r → Each IsOwn (with_staged zs at block) → Each IsOwn (match_ordering r ((at, block) ∷ z ∷ zs) ((z.0, block) ∷ zs) (z ∷ with_staged zs at block))
    go Less q i = (p, h)
    go Equal q i = (sym (one-partition at z.0 q) ∙ p, h.1)
    go Greater q i = (h.0, i)

own-removed : (test : BlockNumber → Bool) (staged : Staged) → Each IsOwn staged → Each IsOwn (remove_entry test staged)
own-removed test [] h = tt
own-removed test (z ∷ zs) h = go (test z.0) (own-removed test zs h.1)
  where
    go : (b : Bool) → Each IsOwn (remove_entry test zs) → Each IsOwn (cond b zs (z ∷ remove_entry test zs))
    go true i = h.1
    go false i = (h.0, i)

pub staged-with : (staged : Staged) (at : BlockNumber) (block : BlockView) → at.partition ≡ block.partition → AreStaged staged → AreStaged (with_staged staged at block)
staged-with staged at block p s = record {
  rising = sorted-inserted number_cmp-total at block staged s.rising;
  own = own-inserted at block p staged s.own;
}

pub staged-without : (staged : Staged) (at : BlockNumber) → AreStaged staged → AreStaged (without staged at)
staged-without staged at s = record {
  rising = sorted-removed number_cmp _ staged s.rising;
  own = own-removed _ staged s.own;
}

-- what is staged once an entry is done
pub staged-released : (o : Option Entry) (staged : Staged) → AreStaged staged → AreStaged (released o staged)
staged-released None staged s = s
staged-released (Some (Get p n digest source need)) staged s = staged-without staged (record { partition = p; number = n }) s
staged-released (Some (Merge new sources count)) staged s = s
staged-released (Some (Mutate old new upto count mcount)) staged s = s
staged-released (Some (Mutation id numbers command)) staged s = s
staged-released (Some (DropRange p n)) staged s = s
