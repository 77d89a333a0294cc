-- The last mutation below a place that is pending for a name.
use Rattle.std.proofs.Common.{◌≡◌, ℕ, ◌<◌, inl, inr, ◌&&◌, Bool, true, false, cond, List, [], ◌∷◌, length, refl, sym, ap, subst, arith, ◌∙◌, nat_eq, nat_lt}
use Rattle.std.proofs.lemmas.Bool.Decides.{nat_tests}
use Rattle.std.specs.declared.option.Option.{Option}
use Rattle.std.specs.declared.option.Option.TheVariants.{Some, None}
use Rattle.rmt_values.specs.Rows.{Shape}
use Rattle.rmt_names.specs.Names.{Name, data_version}
use Rattle.rmt_entries.specs.declared.entry.Entry.{Entry}
use Rattle.rmt_entries.specs.declared.entry.Entry.TheVariants.{Mutate}
use Rattle.rmt_model.specs.Lawful.{Lawful, IsMutationWith, entry_at}
use Rattle.rmt_model.proofs.Drops.{some-same, entry-below, entry-cases, entry-older}
use Rattle.rmt_history.specs.Mutations.{number_in}
use Rattle.rmt_model.specs.Choices.{is_pending, last_pending}
use Rattle.rmt_history.proofs.NumberLemmas.{passes, pending-number, pending-mutation, with-in, log-order, pending-later}

-- ---- the last mutation that is pending for a name

-- it is none of the entries at places below, where there is none
pub settled-below : (log : List Entry) (a : Name) (upto j : ℕ) (e : Entry) → last_pending log a upto ≡ None → entry_at log j ≡ Some e → j < upto → is_pending a e ≡ false
settled-below [] a upto j e n h l = absurd (cc)
settled-below (z ∷ log) a upto j e n h l = elim (entry-cases z log j e h) [
  | inl s ↦ (let q = s.0 in let t : nat_lt (length log) upto ≡ true = grind (arith, nat_tests) in ap (is_pending a) (sym s.1) ∙ (absent (nat_lt (length log) upto) (is_pending a z) n).0 t)
  | inr s ↦ settled-below log a upto j e (absent (nat_lt (length log) upto) (is_pending a z) n).1 s l
]
  where
    absent : (b c : Bool) → cond (b && c) (Some (length log)) (last_pending log a upto) ≡ None → (b ≡ true → c ≡ false) × (last_pending log a upto ≡ None)
    absent true true k = absurd (cc)
    absent true false k = (λ q. refl, k)
    absent false c k = (λ q. absurd (cc), k)

-- the mutation at this place is pending for the name, and none between it and the place that the search ends at is
pub record IsLastPending (log : List Entry) (a : Name) (upto i : ℕ) : Type 0 where
  pub entry : Entry
  pub stands : entry_at log i ≡ Some entry
  pub pends : is_pending a entry ≡ true
  pub below : i < upto
  pub later : (j : ℕ) (x : Entry) → i < j → j < upto → entry_at log j ≡ Some x → is_pending a x ≡ false

-- that is what is found, where there is one
pub last-at : (log : List Entry) (a : Name) (upto i : ℕ) → last_pending log a upto ≡ Some i → IsLastPending log a upto i
last-at [] a upto i h = absurd (cc)
last-at (z ∷ log) a upto i h = go (nat_lt (length log) upto) refl (is_pending a z) refl h (last-at log a upto i)
  where
    older : (nat_lt (length log) upto ≡ true → is_pending a z ≡ false) → IsLastPending log a upto i → IsLastPending (z ∷ log) a upto i
    older f r = record {
      entry = r.entry;
      stands = entry-older z log i r.entry r.stands;
      pends = r.pends;
      below = r.below;
      later = λ j x l m k. elim (entry-cases z log j x k) [
        | inl s ↦ (let q = s.0 in ap (is_pending a) (sym s.1) ∙ f (grind (arith, nat_tests)))
        | inr s ↦ r.later j x l m s
      ];
    }

    go : (b : Bool) → nat_lt (length log) upto ≡ b → (c : Bool) → is_pending a z ≡ c → cond (b && c) (Some (length log)) (last_pending log a upto) ≡ Some i → (last_pending log a upto ≡ Some i → IsLastPending log a upto i) → IsLastPending (z ∷ log) a upto i
    go true p true q k f =
        let n : length log ≡ i = some-same (length log) i k in
        let t : nat_eq i (length log) ≡ true = grind (arith, nat_tests) in
        record {
          entry = z;
          stands = ap (λ (b : Bool). cond b (Some z) (entry_at log i)) t;
          pends = q;
          below = grind (arith, nat_tests);
          later = λ j x l m e. (let u = entry-below (z ∷ log) j x e in absurd (omega (arith, u, l, n)));
        }
    go true p false q k f = older (λ t. q) (f k)
    go false p c q k f = older (λ t. absurd (cc)) (f k)

-- there is none, where no entry at a place below is pending
pub last-none : (log : List Entry) (a : Name) (upto : ℕ) → ((j : ℕ) (x : Entry) → j < upto → entry_at log j ≡ Some x → is_pending a x ≡ false) → last_pending log a upto ≡ None
last-none [] a upto f = refl
last-none (z ∷ log) a upto f = go (nat_lt (length log) upto) refl (last-none log a upto (λ j x l e. f j x l (entry-older z log j x e)))
  where
    at : entry_at (z ∷ log) (length log) ≡ Some z
    at = let t : nat_eq (length log) (length log) ≡ true = grind (arith, nat_tests) in ap (λ (b : Bool). cond b (Some z) (entry_at log (length log))) t

    go : (b : Bool) → nat_lt (length log) upto ≡ b → last_pending log a upto ≡ None → cond (b && is_pending a z) (Some (length log)) (last_pending log a upto) ≡ None
    go true q k = let l : length log < upto = grind (arith, nat_tests) in ap (λ (b : Bool). cond b (Some (length log)) (last_pending log a upto)) (f (length log) z l at) ∙ k
    go false q k = k

-- a Mutate changes nothing of it
pub last-same : (log : List Entry) (a old name : Name) (upto i count mcount : ℕ) → last_pending (Mutate old name i count mcount ∷ log) a upto ≡ last_pending log a upto
last-same log a old name upto i count mcount = go (nat_lt (length log) upto)
  where
    go : (b : Bool) → cond (b && false) (Some (length log)) (last_pending log a upto) ≡ last_pending log a upto
    go true = refl
    go false = refl

-- ---- once the last one is done

-- the mutation whose number the part has isn't pending for it
own-settled : (old : Name) (n : ℕ) (e : Entry) → 0 < n → number_in e old.partition ≡ Some n → is_pending (record old { mutation = n }) e ≡ passes (λ m. nat_lt (data_version (record old { mutation = n })) m) (number_in e old.partition) → is_pending (record old { mutation = n }) e ≡ false
own-settled old n e l q p =
    let v : data_version (record old { mutation = n }) ≡ n = grind (arith, nat_tests) in
    p ∙ (ap (passes (λ m. nat_lt (data_version (record old { mutation = n })) m)) q ∙ (ap (λ d. nat_lt d n) v ∙ grind (arith, nat_tests)))

-- nor is any other one below the place
pub settled-after : (schema : Shape) (log : List Entry) (upto i n : ℕ) (old : Name) → Lawful schema log → IsLastPending log old upto i → IsMutationWith (entry_at log i) old.partition n → 0 < n → last_pending log (record old { mutation = n }) upto ≡ None
settled-after schema log upto i n old l w k p = last-none log new upto (λ j x m e. denied (is_pending new x) (λ t. place j x m e t (nat_eq j i) refl (nat_lt j i) refl))
  where
    new : Name
    new = record old { mutation = n }

    order : (j : ℕ) (x : Entry) → entry_at log j ≡ Some x → is_pending new x ≡ passes (λ m. nat_lt (data_version new) m) (number_in x old.partition)
    order j x e = pending-number new x (log-order schema log j x l e)

    own : is_pending new w.entry ≡ false
    own = own-settled old n w.entry p (with-in w.entry old.partition n (log-order schema log i w.entry l w.stands) (subst (λ (o : Option Entry). IsMutationWith o old.partition n) w.stands k)) (order i w.entry w.stands)

    denied : (b : Bool) → (b ≡ true → ⊥) → b ≡ false
    denied false f = refl
    denied true f = absurd (f refl)

    differ : (b : Bool) → b ≡ true → b ≡ false → ⊥
    differ b e f = cc

    place : (j : ℕ) (x : Entry) → j < upto → entry_at log j ≡ Some x → is_pending new x ≡ true → (b : Bool) → nat_eq j i ≡ b → (c : Bool) → nat_lt j i ≡ c → ⊥
    place j x m e t true q c r =
        let s : j ≡ i = grind (arith, nat_tests) in
        let same : x ≡ w.entry = some-same x w.entry (sym e ∙ (ap (entry_at log) s ∙ w.stands)) in
        differ (is_pending new x) t (ap (is_pending new) same ∙ own)
    place j x m e t false q true r =
        let s : j < i = grind (arith, nat_tests) in
        differ (is_pending new w.entry) (pending-later schema log j i x w.entry new l e w.stands s (pending-mutation old w.entry w.pends) t) own
    place j x m e t false q false r =
        let s : i < j = grind (arith, nat_tests) in
        differ (is_pending old x) (pending-later schema log i j w.entry x old l w.stands e s (pending-mutation new x t) w.pends) (w.later j x s m e)
