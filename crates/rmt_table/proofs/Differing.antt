-- The first neighbours among names that may not be merged, told one by one.
use Rattle.std.proofs.Common.{◌≡◌, inl, inr, List, [], ◌∷◌, refl, sym, subst, ◌∙◌}
use Rattle.std.specs.declared.option.Option.{Option}
use Rattle.std.specs.declared.option.Option.TheVariants.{Some, None}
use Rattle.rmt_names.specs.Names.{Name, Covers}
use Rattle.rmt_entries.specs.declared.entry.Entry.{Entry}
use Rattle.rmt_model.specs.Words.{Each}
use Rattle.rmt_model.specs.Lawful.{ver}
use Rattle.rmt_model.proofs.Lists.{Each-at, Each-all}
use Rattle.rmt_model.specs.Quorum.{Pending}
use Rattle.rmt_events.specs.TableCalls.{AreQuiet}
use Rattle.rmt_events.specs.TableRefusals.{MayJoin, AreFirstToDiffer, AreFirstInQuorum, AreAlike}

-- the neighbours that may not be merged first among a and all are those among left and the names that are still to come; and if
-- those may all be merged, so may these
pub record ApartAlike (log : List Entry) (pending : Option Pending) (a : Name) (all : List Name) (left : Name) (rest : List Name) : Type 0 where
  pub differ : (l r : Name) → AreFirstToDiffer log pending (left ∷ rest) l r → AreFirstToDiffer log pending (a ∷ all) l r
  pub held : (l r part : Name) → AreFirstInQuorum log pending (left ∷ rest) l r part → AreFirstInQuorum log pending (a ∷ all) l r part
  pub alike : AreAlike log pending (left ∷ rest) → AreAlike log pending (a ∷ all)

pub apart-begins : (log : List Entry) (pending : Option Pending) (a : Name) (all : List Name) → ApartAlike log pending a all a all
apart-begins log pending a all = record { differ = λ l r d. d; held = λ l r part d. d; alike = λ h. h }

-- the next two may be merged
pub apart-next : (log : List Entry) (pending : Option Pending) (a : Name) (all : List Name) (left right : Name) (ys zs : List Name) → ApartAlike log pending a all left ys → ys ≡ right ∷ zs → MayJoin log pending left right → ApartAlike log pending a all right zs
apart-next log pending a all left right ys zs s e v = go (subst (ApartAlike log pending a all left) e s)
  where
    go : ApartAlike log pending a all left (right ∷ zs) → ApartAlike log pending a all right zs
    go t = record { differ = λ l r d. t.differ l r (inr (v, d)); held = λ l r part d. t.held l r part (inr (v, d)); alike = λ h. t.alike (v, h) }

-- none is left
pub apart-none : (log : List Entry) (pending : Option Pending) (a : Name) (all : List Name) (left : Name) (ys : List Name) → ApartAlike log pending a all left ys → ys ≡ [] → AreAlike log pending (a ∷ all)
apart-none log pending a all left ys s e = ApartAlike.alike (subst (ApartAlike log pending a all left) e s) tt

-- names that are alike are of the first one's version
pub alike-version : (log : List Entry) (pending : Option Pending) (a : Name) (rest : List Name) → AreAlike log pending (a ∷ rest) → Each (λ c. ver log c ≡ ver log a) rest
alike-version log pending a [] f = tt
alike-version log pending a (b ∷ rest) f = (
  sym (MayJoin.version f.0),
  Each-all (λ c. ver log c ≡ ver log a) rest (λ c h. Each-at (λ x. ver log x ≡ ver log b) rest c (alike-version log pending b rest f.1) h ∙ sym (MayJoin.version f.0)),
)

-- two or more of them are quiet
pub alike-quiet : (log : List Entry) (pending : Option Pending) (a b : Name) (rest : List Name) → AreAlike log pending (a ∷ b ∷ rest) → AreQuiet pending (a ∷ b ∷ rest)
alike-quiet log None a b rest f = tt
alike-quiet log (Some q) a b rest f = (λ c. MayJoin.quiet f.0 q.part (refl, inl c), from b rest (λ c. MayJoin.quiet f.0 q.part (refl, inr c)) f.1)
  where
    from : (x : Name) (xs : List Name) → (Covers x q.part → ⊥) → AreAlike log (Some q) (x ∷ xs) → Each (λ c. Covers c q.part → ⊥) (x ∷ xs)
    from x [] g h = (g, tt)
    from x (y ∷ ys) g h = (g, from y ys (λ c. MayJoin.quiet h.0 q.part (refl, inr c)) h.1)
