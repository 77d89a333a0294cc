-- Lists of parts, and the lists of their names.
use Rattle.std.proofs.Common.{◌≡◌, ℕ, zero, suc, ◌+◌, ◌≤◌, ◌⊎◌, inl, inr, Bool, true, false, cond, List, [], ◌∷◌, ◌++◌, length, map, filter, take, drop, refl, sym, ap, subst, arith, ◌∙◌}
use Rattle.std.proofs.lemmas.List.{take-map, drop-map, length-map}
use Rattle.std.proofs.lemmas.Option.{slice_get-map}
use Rattle.std.specs.Prelude.{slice_get}
use Rattle.std.specs.List.{prefix_len}
use Rattle.std.specs.List.Sorted.{IsPartitionPoint}
use Rattle.std.specs.Option.{option_map}
use Rattle.std.specs.declared.option.Option.{Option}
use Rattle.std.specs.declared.option.Option.TheVariants.{Some}
use Rattle.rmt_names.specs.Names.{Name, Covers}
use Rattle.rmt_model.specs.Words.{Has, Each, Pairwise}
use Rattle.rmt_model.specs.Live.{Before}
use Rattle.rmt_model.proofs.LiveLaws.{Covers-refl, Covers-antisym}
use Rattle.rmt_model.proofs.Lists.{Each-at, Each-all, Has-filter, Pairwise-filter}
use Rattle.rmt_nameset.specs.declared.range.Range.{Range}
use Rattle.rmt_nameset.specs.NameSets.{IsRange, AreApart, cut, put}
use Rattle.rmt_nameset.proofs.Ranges.{Downward, point_is}
use Rattle.rmt_nameset.proofs.Placing.{covers-itself}
use Rattle.rmt_part.specs.Lineages.{PartValue}
use Rattle.rmt_partset.specs.Snapshots.{names_in}
use Rattle.rmt_partset.specs.ActiveParts.{part_names, shown, IsCovering}

map-append : {A B : Type 0} (f : A → B) (xs ys : List A) → map f (xs ++ ys) ≡ map f xs ++ map f ys
map-append f [] ys = refl
map-append f (x ∷ xs) ys = ap (λ zs. f x ∷ zs) (map-append f xs ys)

map-cut : {A B : Type 0} (f : A → B) (xs : List A) (r : Range) → map f (cut xs r) ≡ cut (map f xs) r
map-cut f xs r = map-append f (take r.from xs) (drop r.to xs) ∙ (ap (λ zs. zs ++ map f (drop r.to xs)) (sym (take-map f r.from xs)) ∙ ap (λ zs. take r.from (map f xs) ++ zs) (sym (drop-map f r.to xs)))

pub map-put : {A B : Type 0} (f : A → B) (xs : List A) (r : Range) (x : A) → map f (put xs r x) ≡ put (map f xs) r (f x)
map-put f xs r x =
    map-append f (take r.from (cut xs r)) (x ∷ drop r.from (cut xs r))
    ∙ (ap (λ zs. zs ++ f x ∷ map f (drop r.from (cut xs r))) (sym (take-map f r.from (cut xs r)))
    ∙ (ap (λ zs. take r.from (map f (cut xs r)) ++ f x ∷ zs) (sym (drop-map f r.from (cut xs r)))
    ∙ ap (λ zs. take r.from zs ++ f x ∷ drop r.from zs) (map-cut f xs r)))

-- what holds along a list of images
pub Each-along : {A B : Type 0} (f : A → B) (P : B → Type 0) (xs : List A) → Each P (map f xs) → Each (λ x. P (f x)) xs
Each-along f P [] e = tt
Each-along f P (x ∷ xs) e = (e.0, Each-along f P xs e.1)

pub Each-images : {A B : Type 0} (f : A → B) (P : B → Type 0) (xs : List A) → Each (λ x. P (f x)) xs → Each P (map f xs)
Each-images f P [] e = tt
Each-images f P (x ∷ xs) e = (e.0, Each-images f P xs e.1)

pub Pairwise-along : {A B : Type 0} (f : A → B) (R : B → B → Type 0) (xs : List A) → Pairwise R (map f xs) → Pairwise (λ x y. R (f x) (f y)) xs
Pairwise-along f R [] p = tt
Pairwise-along f R (x ∷ xs) p = (Each-along f (R (f x)) xs p.0, Pairwise-along f R xs p.1)

pub Pairwise-images : {A B : Type 0} (f : A → B) (R : B → B → Type 0) (xs : List A) → Pairwise (λ x y. R (f x) (f y)) xs → Pairwise R (map f xs)
Pairwise-images f R [] p = tt
Pairwise-images f R (x ∷ xs) p = (Each-images f (R (f x)) xs p.0, Pairwise-images f R xs p.1)

pub prefix-along : {A B : Type 0} (f : A → B) (test : B → Bool) (xs : List A) → prefix_len (λ x. test (f x)) xs ≡ prefix_len test (map f xs)
prefix-along f test [] = refl
prefix-along f test (x ∷ xs) = ap (λ n. cond (test (f x)) (1 + n) 0) (prefix-along f test xs)

-- the name of what a list of pointers points to
abbrev pub name_by : {A : Type 0} → (A → PartValue) → A → Name
name_by f x = (f x).name

pub names-by : {A : Type 0} (f : A → PartValue) (xs : List A) → map (name_by f) xs ≡ part_names (map f xs)
names-by f [] = refl
names-by f (x ∷ xs) = ap (λ (names : List Name). (f x).name ∷ names) (names-by f xs)

-- a test of names parts the pointers as it parts the names
pub down-by : {A : Type 0} (f : A → PartValue) (test : Name → Bool) (xs : List A) → Downward test (part_names (map f xs)) → Downward (λ x. test (name_by f x)) xs
down-by f test xs d = Pairwise-along (name_by f) (λ a b. test b ≡ true → test a ≡ true) xs (subst (Downward test) (sym (names-by f xs)) d)

pub prefix-by : {A : Type 0} (f : A → PartValue) (test : Name → Bool) (xs : List A) → prefix_len (λ x. test (name_by f x)) xs ≡ prefix_len test (part_names (map f xs))
prefix-by f test xs = prefix-along (name_by f) test xs ∙ ap (prefix_len test) (names-by f xs)

-- where a list is parted is how many pass from the start on, also of no elements
pub point_at : {A : Type 0} (test : A → Bool) (xs : List A) (n : ℕ) → n ≤ length xs → IsPartitionPoint (λ a. test a ≡ true) (λ a. test a ≡ false) xs n → n ≡ prefix_len test xs
point_at test [] n b p = omega (arith, b)
point_at test (x ∷ xs) n b p = point_is test (x ∷ xs) n x b p

-- as many names as pointers
pub range-by : {A : Type 0} (f : A → PartValue) (xs : List A) (r : Range) → IsRange r (length (part_names (map f xs))) → IsRange r (length xs)
range-by f xs r k = subst (IsRange r) (length-map (map f xs) (λ p. p.name) ∙ length-map xs f) k

Has-at : {A : Type 0} (xs : List A) (i : ℕ) (x : A) → slice_get xs i ≡ Some x → Has xs x
Has-at [] i x e = absurd (cc)
Has-at (y ∷ xs) zero x e = inl (cc)
Has-at (y ∷ xs) (suc i) x e = inr (Has-at xs i x e)

-- the part at a place, where it covers the name
pub covering-at : {A : Type 0} (f : A → PartValue) (xs : List A) (a : Name) (i : ℕ) (x : A) → slice_get xs i ≡ Some x → Covers (f x).name a → IsCovering (map f xs) a (f x)
covering-at f xs a i x g c = record { is_in = Has-at (map f xs) i (f x) (slice_get-map f xs i ∙ ap (option_map f) g); covers = c }

pub name-at : {A : Type 0} (f : A → PartValue) (xs : List A) (i : ℕ) (x : A) → slice_get xs i ≡ Some x → slice_get (part_names (map f xs)) i ≡ Some (f x).name
name-at f xs i x g = slice_get-map (λ (p : PartValue). p.name) (map f xs) i ∙ ap (option_map (λ (p : PartValue). p.name)) (slice_get-map f xs i ∙ ap (option_map f) g)

-- a query reads the names of the parts
pub names-shown : (parts : List PartValue) → names_in (shown parts) ≡ part_names parts
names-shown [] = refl
names-shown (p ∷ parts) = ap (λ (names : List Name). p.name ∷ names) (names-shown parts)

Each-filter : {A : Type 0} (P : A → Type 0) (keep : A → Bool) (xs : List A) → Each P xs → Each P (filter keep xs)
Each-filter P keep xs e = Each-all P (filter keep xs) (λ x h. Each-at P xs x e (Has-filter keep xs x h).0)

-- what a filter leaves of parts that are apart is apart
pub left-apart : (keep : PartValue → Bool) (parts : List PartValue) → AreApart (part_names parts) → AreApart (part_names (filter keep parts))
left-apart keep parts p = record {
  apart = Pairwise-images (λ (p : PartValue). p.name) Before (filter keep parts) (Pairwise-filter (λ (p q : PartValue). Before p.name q.name) keep parts (Pairwise-along (λ (p : PartValue). p.name) Before parts p.apart));
  sized = Each-images (λ (p : PartValue). p.name) (λ (a : Name). a.min ≤ a.max) (filter keep parts) (Each-filter (λ (p : PartValue). p.name.min ≤ p.name.max) keep parts (Each-along (λ (p : PartValue). p.name) (λ (a : Name). a.min ≤ a.max) parts p.sized));
}

-- a filter of pointers by what they point to
pub filter-by : {A : Type 0} (f : A → PartValue) (keep : PartValue → Bool) (xs : List A) → map f (filter (λ x. keep (f x)) xs) ≡ filter keep (map f xs)
filter-by f keep [] = refl
filter-by f keep (x ∷ xs) = go (keep (f x)) (filter-by f keep xs)
  where
    go : (b : Bool) → map f (filter (λ x. keep (f x)) xs) ≡ filter keep (map f xs) → map f (cond b (x ∷ filter (λ x. keep (f x)) xs) (filter (λ x. keep (f x)) xs)) ≡ cond b (f x ∷ filter keep (map f xs)) (filter keep (map f xs))
    go true e = ap (λ (ps : List PartValue). f x ∷ ps) e
    go false e = e

Has-image : {A B : Type 0} (f : A → B) (xs : List A) (x : A) → Has xs x → Has (map f xs) (f x)
Has-image f [] x h = absurd h
Has-image f (y ∷ xs) x (inl q) = inl (ap f q)
Has-image f (y ∷ xs) x (inr h) = inr (Has-image f xs x h)

-- a part that covers a name has the name exactly where the name covers it
pub named-so : (parts : List PartValue) (a : Name) (part : PartValue) → AreApart (part_names parts) → IsCovering parts a part → (Covers a part.name → Has (part_names parts) a) × (Has (part_names parts) a → Covers a part.name)
named-so parts a part p c = (
  λ k. subst (Has (part_names parts)) (Covers-antisym part.name a c.covers k) there,
  λ h. subst (Covers a) (sym (covers-itself part.name a (part_names parts) p there h c.covers)) (Covers-refl a),
)
  where
    there : Has (part_names parts) part.name
    there = Has-image (λ (p : PartValue). p.name) parts part c.is_in
