-- Names that are fair for marks stay so under what a replica does with an entry, and its place is learned then.
use Rattle.std.proofs.Common.{◌≡◌, ℕ, ◌≤◌, ◌⊎◌, inl, inr, ◌||◌, Bool, true, false, not, List, [], ◌∷◌, ◌++◌, length, refl, sym, ap, subst, arith, ◌∙◌, nat_eq, filter, cond}
use Rattle.std.proofs.lemmas.Bool.Decides.{nat_tests}
use Rattle.std.specs.declared.option.Option.{Option}
use Rattle.std.specs.declared.option.Option.TheVariants.{Some, None}
use Rattle.rmt_values.specs.Rows.{Shape}
use Rattle.rmt_names.specs.Names.{Name}
use Rattle.rmt_entries.specs.Entries.{result_name}
use Rattle.rmt_entries.specs.declared.entry.Entry.{Entry}
use Rattle.rmt_entries.specs.declared.entry.Entry.TheVariants.{Get, Merge, Mutate, Mutation, DropRange}
use Rattle.rmt_model.specs.Live.{placed, in_drop, TakesAway}
use Rattle.rmt_model.specs.Lawful.{entry_at, is_mutation, MakesAt}
use Rattle.rmt_model.specs.Fair.{MadeAtMark, DroppedAtMark, AreFair}
use Rattle.rmt_model.specs.EntryStates.{IsDroppedEntry}
use Rattle.rmt_model.specs.CopiedParts.{Copied, names_of, IsCopied}
use Rattle.rmt_model.proofs.Lists.{Each-at, Each-all}
use Rattle.rmt_model.proofs.LiveLaws.{Covers-trans}
use Rattle.rmt_model.proofs.Drops.{dropped-with, marked-dropped}
use Rattle.rmt_model.proofs.Standing.{with_mark, fair-more, fair-looked, fair-dropped, fair-marked, fair-installed, fair-fewer}
use Rattle.rmt_queue.specs.Marks.{done_at}
use Rattle.rmt_events.specs.Views.{Replica}
use Rattle.rmt_events.specs.ReplicaCalls.{IsStanding, IsAlready, without_range, Fits}
use Rattle.rmt_events.proofs.Copies.{made-at}

-- a part covers what the waiting entry makes, was made in the copy, and holds what the copy says of it
pub record Serves (schema : Shape) (r : Replica) (i : ℕ) (part : Copied) : Type 0 where
  pub fits : Fits r i part
  pub of_copy : MakesAt r.log part.place part.name
  pub holds : IsCopied schema r.log part

-- ---- marks

either-true : (a b : Bool) → (a || b) ≡ true → (a ≡ true) ⊎ (b ≡ true)
either-true true b e = inl refl
either-true false b e = inr e

made-either : (log : List Entry) (m k : ℕ → Bool) (a : Name) → MadeAtMark log (λ j. m j || k j) a → MadeAtMark log m a ⊎ MadeAtMark log k a
made-either [] m k a h = absurd h
made-either (e ∷ log) m k a (inl h) = elim (either-true (m (length log)) (k (length log)) h.0) [ inl q ↦ inl (inl (q, h.1)) | inr q ↦ inr (inl (q, h.1)) ]
made-either (e ∷ log) m k a (inr h) = elim (made-either log m k a h) [ inl q ↦ inl (inr q) | inr q ↦ inr (inr q) ]

dropped-either : (log : List Entry) (m k : ℕ → Bool) (a : Name) → DroppedAtMark log (λ j. m j || k j) a → DroppedAtMark log m a ⊎ DroppedAtMark log k a
dropped-either [] m k a h = absurd h
dropped-either (e ∷ log) m k a (inl h) = elim (dropped-either log m k a h) [ inl q ↦ inl (inl q) | inr q ↦ inr (inl q) ]
dropped-either (e ∷ log) m k a (inr h) = elim (either-true (m (length log)) (k (length log)) h.0) [ inl q ↦ inl (inr (q, h.1, h.2)) | inr q ↦ inr (inr (q, h.1, h.2)) ]

-- names that are fair for some marks and for others are fair for both
pub fair-both : (log : List Entry) (m k : ℕ → Bool) (names : List Name) → AreFair log m names → AreFair log k names → AreFair log (λ j. m j || k j) names
fair-both log m k names f g =
    record {
      apart = f.apart;
      made_here = f.made_here;
      kept = Each-all (λ a. DroppedAtMark log (λ j. m j || k j) a → ⊥) names (λ a h d. elim (dropped-either log m k a d) [
        | inl q ↦ Each-at (λ a. DroppedAtMark log m a → ⊥) names a f.kept h q
        | inr q ↦ Each-at (λ a. DroppedAtMark log k a → ⊥) names a g.kept h q
      ]);
      answered = λ a h. elim (made-either log m k a h) [ inl q ↦ f.answered a q | inr q ↦ g.answered a q ];
    }

-- fewer marks by one
pub fair-unmarked : (log : List Entry) (i : ℕ) (m : ℕ → Bool) (names : List Name) → AreFair log (with_mark i m) names → AreFair log m names
fair-unmarked log i m names f = fair-fewer log m (with_mark i m) names (λ j l e. go j (nat_eq j i) e) f
  where
    go : (j : ℕ) (b : Bool) → m j ≡ true → (b || m j) ≡ true
    go j true e = refl
    go j false e = e

-- a longer log without marks in what is new
pub fair-behind : (gained log : List Entry) (m : ℕ → Bool) (names : List Name) → ((i : ℕ) → length log ≤ i → m i ≡ false) → AreFair log m names → AreFair (gained ++ log) m names
fair-behind [] log m names w f = f
fair-behind (e ∷ gained) log m names w f = fair-more e (gained ++ log) m names (w (length (gained ++ log)) (longer gained)) (fair-behind gained log m names w f)
  where
    longer : (us : List Entry) → length log ≤ length (us ++ log)
    longer [] = omega arith
    longer (u ∷ us) = let k = longer us in omega (arith, k)

-- ---- what a replica does with an entry

looked-makes-none : (e : Entry) → is_mutation e ≡ true → result_name e ≡ None
looked-makes-none (Mutation id numbers command) q = refl
looked-makes-none (Get p n digest source need) q = absurd (cc)
looked-makes-none (Merge new sources count) q = absurd (cc)
looked-makes-none (Mutate old new upto count mcount) q = absurd (cc)
looked-makes-none (DropRange p n) q = absurd (cc)

looked-takes-none : (e : Entry) (x : Name) → is_mutation e ≡ true → TakesAway e x → ⊥
looked-takes-none (Mutation id numbers command) x q t = t
looked-takes-none (Get p n digest source need) x q t = t
looked-takes-none (Merge new sources count) x q t = t
looked-takes-none (Mutate old new upto count mcount) x q t = t
looked-takes-none (DropRange p n) x q t = absurd (cc)

-- nothing was to do
pub fair-settled : (schema : Shape) (r : Replica) (i : ℕ) (m : ℕ → Bool) → IsStanding schema r → IsAlready r i ⊎ IsDroppedEntry r.log i → AreFair r.log m (names_of r.parts) → AreFair r.log (with_mark i m) (names_of r.parts)
fair-settled schema r i m s (inl (inl e)) f =
    fair-fewer r.log (with_mark i m) (λ j. m j || done_at r.done j) (names_of r.parts) (λ j l q. go j (nat_eq j i) refl q) (fair-both r.log m (done_at r.done) (names_of r.parts) f s.fair)
  where
    right : (a b : Bool) → b ≡ true → (a || b) ≡ true
    right true b q = refl
    right false b q = q

    left : (a b : Bool) → a ≡ true → (a || b) ≡ true
    left a b q = rw q refl

    go : (j : ℕ) (b : Bool) → nat_eq j i ≡ b → (b || m j) ≡ true → (m j || done_at r.done j) ≡ true
    go j true t q = let k : j ≡ i = grind (arith, nat_tests) in right (m j) (done_at r.done j) (ap (done_at r.done) k ∙ e)
    go j false t q = left (m j) (done_at r.done j) q
fair-settled schema r i m s (inl (inr (inl k))) f =
    fair-looked r.log i m (names_of r.parts) k.entry k.stands (looked-makes-none k.entry k.is) (λ x. looked-takes-none k.entry x k.is) f
fair-settled schema r i m s (inl (inr (inr k))) f =
    fair-marked r.log i m (names_of r.parts) k.makes.entry k.name k.makes.stands k.makes.makes f (inl k.covered)
fair-settled schema r i m s (inr k) f =
    fair-marked r.log i m (names_of r.parts) k.makes.entry k.name k.makes.stands k.makes.makes f (inr k.dropped)

pub names-without : (p : Option ℕ) (n : ℕ) (parts : List Copied) → names_of (without_range p n parts) ≡ filter (λ a. not (in_drop p n a)) (names_of parts)
names-without p n [] = refl
names-without p n (part ∷ parts) = go (not (in_drop p n part.name)) (names-without p n parts)
  where
    go : (b : Bool) → names_of (without_range p n parts) ≡ filter (λ a. not (in_drop p n a)) (names_of parts)
        → names_of (cond b (part ∷ without_range p n parts) (without_range p n parts)) ≡ cond b (part.name ∷ filter (λ a. not (in_drop p n a)) (names_of parts)) (filter (λ a. not (in_drop p n a)) (names_of parts))
    go true e = ap (λ (xs : List Name). part.name ∷ xs) e
    go false e = e

-- a drop was done
pub fair-swept : (schema : Shape) (r : Replica) (i : ℕ) (m : ℕ → Bool) (p : Option ℕ) (n : ℕ) → IsStanding schema r → entry_at r.log i ≡ Some (DropRange p n) → AreFair r.log m (names_of r.parts) → AreFair r.log (with_mark i m) (names_of (without_range p n r.parts))
fair-swept schema r i m p n s q f =
    subst (AreFair r.log (with_mark i m)) (sym (names-without p n r.parts)) (fair-dropped schema r.log i m (names_of r.parts) p n s.lawful q f)

-- a part was installed
pub fair-served : (schema : Shape) (r : Replica) (i : ℕ) (m : ℕ → Bool) (part : Copied) → IsStanding schema r → Serves schema r i part → AreFair r.log m (names_of r.parts) → AreFair r.log (with_mark i m) (placed part.name (names_of r.parts))
fair-served schema r i m part s v f =
    fair-installed schema r.log i m (names_of r.parts) v.fits.makes.entry v.fits.name part.name s.lawful v.fits.makes.stands v.fits.makes.makes f (made-at r.log part.place part.name v.of_copy) v.fits.covers
    (λ d. v.fits.waits.not_dropped (record { name = v.fits.name; makes = v.fits.makes; dropped = dropped-with schema r.log part.name v.fits.name s.lawful (made-at r.log i v.fits.name v.fits.makes) v.fits.covers (marked-dropped r.log m part.name d) }))
    (λ x h c. v.fits.waits.open_entry (inr (inr (record { name = v.fits.name; makes = v.fits.makes; covered = record { name = x; is_in = h; covers = Covers-trans x part.name v.fits.name c v.fits.covers } }))))
