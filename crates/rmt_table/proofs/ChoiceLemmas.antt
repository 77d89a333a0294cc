-- What may be merged, and which parts may be mutated.
use Rattle.std.proofs.Common.{◌≡◌, ℕ, ◌<◌, ◌≤◌, inl, inr, Bool, true, false, List, [], ◌∷◌, ◌++◌, length, ◌↔◌, refl, sym, ap, subst, ◌∙◌, arith}
use Rattle.std.proofs.lemmas.Bool.Decides.{nat_tests}
use Rattle.std.specs.Prelude.{IsTrue, nat_lt}
use Rattle.std.specs.declared.option.Option.{Option}
use Rattle.std.specs.declared.option.Option.TheVariants.{Some, None}
use Rattle.rmt_values.specs.Rows.{Shape}
use Rattle.rmt_names.specs.Names.{Name}
use Rattle.rmt_entries.specs.declared.entry.Entry.{Entry}
use Rattle.rmt_model.specs.Words.{Has, Each}
use Rattle.rmt_model.specs.Live.{live}
use Rattle.rmt_model.specs.Lawful.{Lawful, entry_at, ver, AreNeighbours, IsMutationWith}
use Rattle.rmt_model.proofs.Lists.{Has-right}
use Rattle.rmt_model.proofs.Drops.{entry-below, some-same}
use Rattle.rmt_history.specs.Mutations.{number_in}
use Rattle.rmt_history.proofs.NumberLemmas.{in-with, with-in, log-order}
use Rattle.rmt_events.specs.LogEvents.{AreMergeable, IsMutable}

-- ---- merges

-- two or more neighbours of one partition, and no others, may be merged
pub mergeable : (log : List Entry) (names : List Name) (a : Name) (rest : List Name) → a ∷ rest ≡ names → (rest ≡ [] → ⊥) → Each (λ c. c.partition ≡ a.partition) rest → AreNeighbours log names → AreMergeable log names
mergeable log names a [] e n each near = absurd (n refl)
mergeable log names a (b ∷ rest) e n each near = subst (AreMergeable log) e (subst (AreNeighbours log) (sym e) near, each)

pub record IsChoice (log : List Entry) (names : List Name) (a : Name) (rest : List Name) : Type 0 where
  pub more : rest ≡ [] → ⊥
  pub alike : Each (λ c. c.partition ≡ a.partition) rest
  pub near : AreNeighbours log names

pub choice : (log : List Entry) (names : List Name) (a : Name) (rest : List Name) → a ∷ rest ≡ names → AreMergeable log names → IsChoice log names a rest
choice log names a [] e m = absurd (subst (AreMergeable log) (sym e) m)
choice log names a (b ∷ rest) e m = let k = subst (AreMergeable log) (sym e) m in record { more = λ q. absurd (cc); alike = k.1; near = subst (AreNeighbours log) e k.0 }

-- ---- mutations

-- a neighbour of none is live, and a live name is a neighbour of none
pub live-alone : (log : List Entry) (a : Name) → AreNeighbours log (a ∷ []) → Has (live log) a
live-alone log a near = subst (λ (l : List Name). Has l a) near.among (Has-right near.left ((a ∷ []) ++ near.right) a (inl refl))

pub alone-live : (log : List Entry) (a : Name) → Has (live log) a → AreNeighbours log (a ∷ [])
alone-live log a h = go (live log) h refl
  where
    split : (names : List Name) → Has names a → (left right : List Name) × (left ++ (a ∷ right) ≡ names)
    split [] h = absurd h
    split (b ∷ names) (inl e) = ([], names, ap (λ (c : Name). c ∷ names) (sym e))
    split (b ∷ names) (inr h) = let s = split names h in (b ∷ s.0, s.1, ap (λ (l : List Name). b ∷ l) s.2)

    go : (names : List Name) → Has names a → names ≡ live log → AreNeighbours log (a ∷ [])
    go names h e = let s = split names h in record { left = s.0; right = s.1; among = s.2 ∙ e }

pub mutable : (log : List Entry) (old : Name) (upto : ℕ) (e e' : Entry) (p : Option ℕ) (n version : ℕ) → AreNeighbours log (old ∷ []) → entry_at log upto ≡ Some e → e' ≡ e
    → Some n ≡ number_in e' p → p ≡ old.partition → version ≡ ver log old → IsTrue (nat_lt version n) → IsMutable log old upto
mutable log old upto e e' p n version near at e-is found p-is version-is above = record {
  is_live = live-alone log old near;
  number = n;
  at = subst (λ (o : Option Entry). IsMutationWith o old.partition n) (sym at) (in-with e old.partition n (sym (found ∙ (ap (λ (x : Entry). number_in x p) e-is ∙ ap (number_in e) p-is))));
  pending = subst (λ (v : ℕ). v < n) version-is (less version n above);
}
  where
    less : (v n : ℕ) → IsTrue (nat_lt v n) → v < n
    less v n t = grind (arith, nat_tests)

-- its number is the one that the entry takes in the partition
pub mutable-found : (schema : Shape) (log : List Entry) (old : Name) (upto : ℕ) (e e' : Entry) (p : Option ℕ) → Lawful schema log → entry_at log upto ≡ Some e → e' ≡ e → p ≡ old.partition
    → (m : IsMutable log old upto) → number_in e' p ≡ Some m.number
mutable-found schema log old upto e e' p l at e-is p-is m =
    ap (λ (x : Entry). number_in x p) e-is
    ∙ (ap (number_in e) p-is ∙ with-in e old.partition m.number (log-order schema log upto e l at) (subst (λ (o : Option Entry). IsMutationWith o old.partition m.number) at m.at))

-- which is above the part's version
pub mutable-above : (log : List Entry) (old : Name) (upto n version : ℕ) (found : Option ℕ) (m : IsMutable log old upto) → found ≡ Some m.number → Some n ≡ found → version ≡ ver log old → IsTrue (nat_lt version n)
mutable-above log old upto n version found m f g v =
    let s : n ≡ m.number = some-same n m.number (g ∙ f) in
    more version n (subst (λ (k : ℕ). version < k) (sym s) (subst (λ (k : ℕ). k < m.number) (sym v) m.pending))
  where
    more : (v n : ℕ) → v < n → IsTrue (nat_lt v n)
    more v n h = grind (arith, nat_tests)

-- where no entry stands nothing is to be mutated
pub nowhere-mutable : (log : List Entry) (old : Name) (upto : ℕ) → length log ≤ upto → IsMutable log old upto → ⊥
nowhere-mutable log old upto l m = go (entry_at log upto) refl m.at
  where
    go : (o : Option Entry) → entry_at log upto ≡ o → IsMutationWith o old.partition m.number → ⊥
    go None e k = k
    go (Some x) e k = let b = entry-below log upto x e in omega (arith, b, l)

-- ---- answers

pub yes : (b : Bool) → b ≡ true → IsTrue b
yes true e = refl
yes false e = cc

pub not-yes : (b : Bool) → b ≡ false → IsTrue b → ⊥
not-yes true e t = absurd (cc)
not-yes false e t = absurd (cc)

-- names of which one is of another partition may not be merged
pub not-choice : (log : List Entry) (names : List Name) (a : Name) (rest : List Name) (p : Option ℕ) (b : Bool) → a ∷ rest ≡ names → p ≡ a.partition → b ≡ false → IsTrue b ↔ Each (λ c. c.partition ≡ p) rest → IsTrue b ↔ AreMergeable log names
not-choice log names a rest p b e q f i = (λ t. absurd (not-yes b f t), λ m. i.1 (subst (λ (o : Option ℕ). Each (λ (c : Name). c.partition ≡ o) rest) (sym q) (IsChoice.alike (choice log names a rest e m))))
