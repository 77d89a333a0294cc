-- What parts have, gathered part by part.
use Rattle.std.proofs.Common.{◌≡◌, ℕ, zero, suc, ◌+◌, ◌<◌, ◌≤◌, Bool, true, false, cond, List, [], ◌∷◌, ◌++◌, map, length, take, drop, get_or, refl, sym, ap, subst, arith, ◌∙◌, append_assoc, append-nil, nat_le}
use Rattle.std.proofs.lemmas.Bool.Decides.{nat_tests}
use Rattle.std.specs.Prelude.{slice_get}
use Rattle.std.specs.Option.{option_map}
use Rattle.std.specs.declared.option.Option.{Option}
use Rattle.std.specs.declared.option.Option.TheVariants.{Some}
use Rattle.rmt_entries.specs.declared.entry.Entry.{Entry}
use Rattle.rmt_row.specs.Token.{Token}
use Rattle.rmt_granules.specs.Granules.{PartView as Data}
use Rattle.rmt_model.specs.Words.{Each}
use Rattle.rmt_part.specs.Lineages.{AcceptedView, PartValue, IsPart}
use Rattle.rmt_compact.specs.NewParts.{bodies_of, blocks_joined, most_tokens}

-- one more element of a front
pub take-next : {A : Type 0} (xs : List A) (i : ℕ) (x : A) → x ≡ get_or xs i x → i < length xs → take (i + 1) xs ≡ take i xs ++ x ∷ []
take-next [] i x e h = absurd (omega (arith, h))
take-next {A} (y ∷ ys) zero x e h = ap (λ (z : A). z ∷ []) (sym e)
take-next {A} (y ∷ ys) (suc i) x e h = let n : suc i + 1 ≡ suc (i + 1) = omega arith in rw n (ap (λ (l : List A). y ∷ l) (take-next ys i x e (omega (arith, h))))

pub take-whole : {A : Type 0} (xs : List A) (n : ℕ) → n ≡ length xs → take n xs ≡ xs
take-whole [] zero h = refl
take-whole [] (suc n) h = refl
take-whole (x ∷ xs) zero h = absurd (omega (arith, h))
take-whole {A} (x ∷ xs) (suc n) h = ap (λ (l : List A). x ∷ l) (take-whole xs n (omega (arith, h)))

map-one : {A B : Type 0} (f : A → B) (xs : List A) (x : A) → map f (xs ++ x ∷ []) ≡ map f xs ++ f x ∷ []
map-one f [] x = refl
map-one {A} {B} f (y ∷ ys) x = ap (λ (l : List B). f y ∷ l) (map-one f ys x)

blocks-one : (parts : List PartValue) (part : PartValue) → blocks_joined (parts ++ part ∷ []) ≡ blocks_joined parts ++ part.blocks
blocks-one [] part = append-nil part.blocks
blocks-one (p ∷ parts) part = ap (λ (l : List AcceptedView). p.blocks ++ l) (blocks-one parts part) ∙ sym (append_assoc p.blocks (blocks_joined parts) part.blocks)

-- one more part's data
pub bodies-next : {A B : Type 0} (see : A → PartValue) (show : B → Data) (parts : List A) (i : ℕ) (part : A) (all : List B) (body : B) → map show all ≡ bodies_of (map see (take i parts)) → part ≡ get_or parts i part → i < length parts → show body ≡ (see part).body → map show (all ++ body ∷ []) ≡ bodies_of (map see (take (i + 1) parts))
bodies-next {A} see show parts i part all body e q h b =
    map-one show all body
    ∙ (ap (λ (l : List Data). l ++ show body ∷ []) e
    ∙ (ap (λ (d : Data). bodies_of (map see (take i parts)) ++ d ∷ []) b
    ∙ (sym (map-one (λ (p : PartValue). p.body) (map see (take i parts)) (see part))
    ∙ (ap bodies_of (sym (map-one see (take i parts) part)) ∙ ap (λ (l : List A). bodies_of (map see l)) (sym (take-next parts i part q h))))))

pub each-next : {A : Type 0} (see : A → PartValue) (parts : List A) (i : ℕ) (part : A) → Each IsPart (map see (take i parts)) → part ≡ get_or parts i part → i < length parts → IsPart (see part) → Each IsPart (map see (take (i + 1) parts))
each-next {A} see parts i part e q h is =
    subst (λ (l : List A). Each IsPart (map see l)) (sym (take-next parts i part q h)) (more (take i parts) e)
  where
    more : (ps : List A) → Each IsPart (map see ps) → Each IsPart (map see (ps ++ part ∷ []))
    more [] f = (is, tt)
    more (p ∷ ps) f = (f.0, more ps f.1)

-- one more part's blocks
pub blocks-next : {A : Type 0} (see : A → PartValue) (parts : List A) (i : ℕ) (part : A) (all all' more : List AcceptedView) → all ≡ blocks_joined (map see (take i parts)) → part ≡ get_or parts i part → i < length parts → more ≡ (see part).blocks → all' ≡ all ++ more → all' ≡ blocks_joined (map see (take (i + 1) parts))
blocks-next {A} see parts i part all all' more e q h b f =
    f
    ∙ (ap (λ (l : List AcceptedView). l ++ more) e
    ∙ (ap (λ (l : List AcceptedView). blocks_joined (map see (take i parts)) ++ l) b
    ∙ (sym (blocks-one (map see (take i parts)) (see part))
    ∙ (ap blocks_joined (sym (map-one see (take i parts) part)) ∙ ap (λ (l : List A). blocks_joined (map see l)) (sym (take-next parts i part q h))))))

-- ---- the longest list of mutations

zero-below : (n : ℕ) → nat_le 0 n ≡ true
zero-below n = grind (arith, nat_tests)

abbrev pub tokens_at : List PartValue → ℕ → Option (List (Token Entry))
tokens_at parts i = option_map (λ (p : PartValue). p.mutations) (slice_get parts i)

pub last-most : (parts : List PartValue) (i : ℕ) → i + 1 ≡ length parts → tokens_at parts i ≡ Some (most_tokens (drop i parts))
last-most [] i h = absurd (omega (arith, h))
last-most (x ∷ []) zero h = sym (ap (λ (b : Bool). Some (cond b x.mutations [])) (zero-below (length x.mutations)))
last-most (x ∷ y ∷ parts) zero h = absurd (omega (arith, h))
last-most (x ∷ parts) (suc i) h = last-most parts i (omega (arith, h))

front-most : (parts : List PartValue) (i i' : ℕ) (x : PartValue) → i' + 1 ≡ i → slice_get parts i' ≡ Some x → most_tokens (drop i' parts) ≡ cond (nat_le (length (most_tokens (drop i parts))) (length x.mutations)) x.mutations (most_tokens (drop i parts))
front-most [] i i' x e s = absurd (cc)
front-most (y ∷ parts) i zero x e s =
    let n : i ≡ 1 = omega (arith, e) in
    let z : y ≡ x = cc in
    rw n (ap (λ (p : PartValue). cond (nat_le (length (most_tokens parts)) (length p.mutations)) p.mutations (most_tokens parts)) z)
front-most (y ∷ parts) zero (suc i') x e s = absurd (omega (arith, e))
front-most (y ∷ parts) (suc i) (suc i') x e s = front-most parts i i' x (omega (arith, e)) s

-- the part in front of the others has at least as many
pub front-more : (parts : List PartValue) (i i' best : ℕ) (b x : PartValue) → i' + 1 ≡ i → slice_get parts best ≡ Some b → slice_get parts i' ≡ Some x → tokens_at parts best ≡ Some (most_tokens (drop i parts)) → length b.mutations ≤ length x.mutations → tokens_at parts i' ≡ Some (most_tokens (drop i' parts))
front-more parts i i' best b x e s t m le =
    let same : b.mutations ≡ most_tokens (drop i parts) = some-same (sym (ap (λ (o : Option PartValue). option_map (λ (p : PartValue). p.mutations) o) s) ∙ m) in
    let l = ap length same in
    let test : nat_le (length (most_tokens (drop i parts))) (length x.mutations) ≡ true = grind (arith, nat_tests) in
    ap (λ (o : Option PartValue). option_map (λ (p : PartValue). p.mutations) o) t
    ∙ sym (ap (λ (l : List (Token Entry)). Some l) (front-most parts i i' x e t ∙ ap (λ (c : Bool). cond c x.mutations (most_tokens (drop i parts))) test))
  where
    some-same : {A : Type 0} {a b : A} → ◌≡◌ {A = Option A} (Some a) (Some b) → a ≡ b
    some-same e = cc

-- the part in front of the others has fewer
pub front-fewer : (parts : List PartValue) (i i' best : ℕ) (b x : PartValue) → i' + 1 ≡ i → slice_get parts best ≡ Some b → slice_get parts i' ≡ Some x → tokens_at parts best ≡ Some (most_tokens (drop i parts)) → length x.mutations < length b.mutations → tokens_at parts best ≡ Some (most_tokens (drop i' parts))
front-fewer parts i i' best b x e s t m le =
    let same : b.mutations ≡ most_tokens (drop i parts) = some-same (sym (ap (λ (o : Option PartValue). option_map (λ (p : PartValue). p.mutations) o) s) ∙ m) in
    let l = ap length same in
    let test : nat_le (length (most_tokens (drop i parts))) (length x.mutations) ≡ false = grind (arith, nat_tests) in
    m ∙ sym (ap (λ (l : List (Token Entry)). Some l) (front-most parts i i' x e t ∙ ap (λ (c : Bool). cond c x.mutations (most_tokens (drop i parts))) test))
  where
    some-same : {A : Type 0} {a b : A} → ◌≡◌ {A = Option A} (Some a) (Some b) → a ≡ b
    some-same e = cc

pub most-found : (parts : List PartValue) (i best : ℕ) (b : PartValue) → i ≤ 0 → slice_get parts best ≡ Some b → tokens_at parts best ≡ Some (most_tokens (drop i parts)) → b.mutations ≡ most_tokens parts
most-found parts i best b z s m =
    let n : i ≡ 0 = omega (arith, z) in
    some-same (sym (ap (λ (o : Option PartValue). option_map (λ (p : PartValue). p.mutations) o) s) ∙ (m ∙ ap (λ k. Some (most_tokens (drop k parts))) n))
  where
    some-same : {A : Type 0} {a b : A} → ◌≡◌ {A = Option A} (Some a) (Some b) → a ≡ b
    some-same e = cc
