-- Parts without those that cover one, and what they hold.
use Rattle.std.proofs.Common.{◌≡◌, ◌∙◌, ◌||◌, Bool, true, false, not, cond, List, [], ◌∷◌, map, filter, refl, ap, sym, subst}
use Rattle.std.specs.List.{list_any}
use Rattle.std.specs.declared.option.Option.{Option}
use Rattle.rmt_names.specs.Names.{Name}
use Rattle.rmt_granules.specs.Granules.{PartView}
use Rattle.rmt_model.specs.Words.{Pairwise}
use Rattle.rmt_model.specs.Live.{Before}
use Rattle.rmt_model.proofs.Lists.{Pairwise-filter}
use Rattle.rmt_partset.specs.Snapshots.{NamedData, names_in, data_in, AreInOrder}
use Rattle.rmt_statement_model.specs.Reads.{covers_part, without_part}

-- ---- parts without those that cover one

-- a part is kept that doesn't cover the other one
abbrev pub is_kept : Option Name → NamedData → Bool
is_kept part p = not (covers_part part p.name)

pub names-kept : (part : Option Name) (xs : List NamedData) → names_in (filter (is_kept part) xs) ≡ without_part part (names_in xs)
names-kept part [] = refl
names-kept part (x ∷ xs) = go (not (covers_part part x.name)) (names-kept part xs)
  where
    go : (b : Bool) → names_in (filter (is_kept part) xs) ≡ without_part part (names_in xs) → names_in (cond b (x ∷ filter (is_kept part) xs) (filter (is_kept part) xs)) ≡ cond b (x.name ∷ without_part part (names_in xs)) (without_part part (names_in xs))
    go true e = ap (λ (ns : List Name). x.name ∷ ns) e
    go false e = e

-- they are in order still
pub order-kept : (part : Option Name) (xs : List NamedData) → AreInOrder xs → AreInOrder (filter (is_kept part) xs)
order-kept part xs o = subst (λ (ns : List Name). Pairwise Before ns) (sym (names-kept part xs)) (Pairwise-filter Before (λ a. not (covers_part part a)) (names_in xs) o)

-- what they hold is that of their names
pub data-kept : (part : Option Name) (made_of : Name → PartView) (xs : List NamedData) → data_in xs ≡ map made_of (names_in xs) → data_in (filter (is_kept part) xs) ≡ map made_of (names_in (filter (is_kept part) xs))
data-kept part made_of [] e = refl
data-kept part made_of (x ∷ xs) e = go (not (covers_part part x.name)) (let h : x.rows ≡ made_of x.name = cc in h) (data-kept part made_of xs (let r : data_in xs ≡ map made_of (names_in xs) = cc in r))
  where
    go : (b : Bool) → x.rows ≡ made_of x.name → data_in (filter (is_kept part) xs) ≡ map made_of (names_in (filter (is_kept part) xs))
        → data_in (cond b (x ∷ filter (is_kept part) xs) (filter (is_kept part) xs)) ≡ map made_of (names_in (cond b (x ∷ filter (is_kept part) xs) (filter (is_kept part) xs)))
    go true h r = ap (λ (d : PartView). d ∷ data_in (filter (is_kept part) xs)) h ∙ ap (λ (ds : List PartView). made_of x.name ∷ ds) r
    go false h r = r

-- ---- what covers a part

-- parts are looked at by their names
pub any-named : (test : Name → Bool) (xs : List NamedData) → list_any (λ p. test p.name) xs ≡ list_any test (names_in xs)
any-named test [] = refl
any-named test (x ∷ xs) = ap (λ (b : Bool). test x.name || b) (any-named test xs)
