-- Codes of small values make codes of larger ones.
use Rattle.std.proofs.Common.{◌≡◌, ℕ, zero, suc, ◌^◌, ◌<◌, Bool, true, cond, List, [], ◌∷◌, ◌++◌, length, Option, Some, None, refl, sym, ap, subst, ◌∙◌, append_assoc}
use Rattle.std.specs.List.{flat_map, AllByRecursion}
use Rattle.std.proofs.lemmas.List.Concat.{flat_map-cons}
use Rattle.std.specs.Int.{w16, to_be_bytes}
use Rattle.rmt_bytes.specs.Encoding.{AreBytes, list_bytes}
use Rattle.std.proofs.lemmas.Bool.{cond-true}
use Rattle.std.proofs.lemmas.Option.{some_pair_parts, cond_some}
use Rattle.rmt_bytes.specs.Decoding.{mapped, decode_both, decode_tested, decode_many, decode_number, decode_list}
use Rattle.rmt_bytes.proofs.Codes.{◌>>=◌, Takes, Codes}

-- the value of a step that found one
pub bind_some : {A B : Type 0} (r : Option A) (f : A → Option B) (y : B) → (r >>= f) ≡ Some y → (x : A) × (r ≡ Some x) × (f x ≡ Some y)
bind_some (Some x) f y e = (x, refl, e)
bind_some None f y e = absurd cc

pub mapped_some : {A B : Type 0} (f : A → B) (r : Option (A × List ℕ)) (b : B) (rest : List ℕ) → mapped f r ≡ Some (b, rest)
    → (a : A) × (b ≡ f a) × (r ≡ Some (a, rest))
mapped_some f (Some x) b rest e =
    let same = some_pair_parts (f x.0) b x.1 rest e in (x.0, sym same.0, ap (λ l. Some (x.0, l)) same.1)
mapped_some f None b rest e = absurd cc

-- one tagged the other
pub both : {A B : Type 0} {f : A → List ℕ} {F : A → Type 0} {r : List ℕ → Option (A × List ℕ)} {g : B → List ℕ} {G : B → Type 0} {s : List ℕ → Option (B × List ℕ)}
    → Codes f F r → Codes g G s → Codes {A = A × B} (λ x. f x.0 ++ g x.1) (λ x. F x.0 × G x.1) (decode_both r s)
both {A = A} {B = B} {f = f} {F = F} {r = r} {g = g} {G = G} {s = s} first second = record {
  again = λ x rest fits.
      ap (decode_both r s) (append_assoc (f x.0) (g x.1) rest)
      ∙ ap (λ (o : Option (A × List ℕ)). o >>= λ a. s a.1 >>= λ b. Some ((a.0, b.0), b.1)) (first.again x.0 (g x.1 ++ rest) fits.0)
      ∙ ap (λ (o : Option (B × List ℕ)). o >>= λ b. Some ((x.0, b.0), b.1)) (second.again x.1 rest fits.1);
  takes = λ all x rest are e.
      let a = bind_some (r all) (λ a. s a.1 >>= λ b. Some ((a.0, b.0), b.1)) (x, rest) e in
      let b = bind_some (s a.0.1) (λ b. Some ((a.0.0, b.0), b.1)) (x, rest) a.2 in
      let t = first.takes all a.0.0 a.0.1 are a.1 in
      let u = second.takes a.0.1 b.0.0 b.0.1 t.rest_bytes b.1 in
      let whole : Takes {A = A × B} (λ x. f x.0 ++ g x.1) (λ x. F x.0 × G x.1) all (a.0.0, b.0.0) b.0.1 = record {
        parts = t.parts ∙ ap (λ (l : List ℕ). f a.0.0 ++ l) u.parts ∙ sym (append_assoc (f a.0.0) (g b.0.0) b.0.1);
        fits = (t.fits, u.fits);
        rest_bytes = u.rest_bytes;
      } in
      let same = some_pair_parts (a.0.0, b.0.0) x b.0.1 rest b.2 in
      subst (λ l. Takes {A = A × B} (λ x. f x.0 ++ g x.1) (λ x. F x.0 × G x.1) all x l) same.1
      (subst (λ y. Takes {A = A × B} (λ x. f x.0 ++ g x.1) (λ x. F x.0 × G x.1) all y b.0.1) same.0 whole);
}

-- the same bytes for another form of the value
pub shaped : {A B : Type 0} {f : A → List ℕ} {F : A → Type 0} {r : List ℕ → Option (A × List ℕ)} (g : B → List ℕ) (G : B → Type 0) (make : A → B) (parts : B → A)
    → Codes f F r → ((b : B) → make (parts b) ≡ b) → ((b : B) → f (parts b) ≡ g b) → ((a : A) → g (make a) ≡ f a) → ((b : B) → G b → F (parts b)) → ((a : A) → F a → G (make a))
    → Codes g G (λ bytes. mapped make (r bytes))
shaped {A = A} {B = B} {f = f} {F = F} {r = r} g G make parts code back spelled spells splits joins = record {
  again = λ b rest fits.
      ap (λ (l : List ℕ). mapped make (r (l ++ rest))) (sym (spelled b))
      ∙ ap (mapped make) (code.again (parts b) rest (splits b fits))
      ∙ ap (λ (y : B). Some (y, rest)) (back b);
  takes = λ all b rest are e.
      let m = mapped_some make (r all) b rest e in
      let t = code.takes all m.0 rest are m.2 in
      subst (λ y. Takes g G all y rest) (sym m.1) (record { parts = t.parts ∙ ap (λ (l : List ℕ). l ++ rest) (sym (spells m.0)); fits = joins m.0 t.fits; rest_bytes = t.rest_bytes });
}

-- only those values that pass a test
pub tested : {A : Type 0} {f : A → List ℕ} {F : A → Type 0} {r : List ℕ → Option (A × List ℕ)} (test : A → Bool)
    → Codes f F r → Codes f (λ a. F a × (test a ≡ true)) (decode_tested test r)
tested {A = A} {f = f} {F = F} {r = r} test code = record {
  again = λ a rest fits.
      ap (λ (o : Option (A × List ℕ)). o >>= λ x. cond (test x.0) (Some x) None) (code.again a rest fits.0)
      ∙ cond-true (test a) (Some (a, rest)) None fits.1;
  takes = λ all a rest are e.
      let b = bind_some (r all) (λ x. cond (test x.0) (Some x) None) (a, rest) e in
      let c = cond_some (test b.0.0) b.0 (a, rest) b.2 in
      let t = code.takes all b.0.0 b.0.1 are b.1 in
      subst (λ (y : A × List ℕ). Takes f (λ a. F a × (test a ≡ true)) all y.0 y.1) c.1 (record { parts = t.parts; fits = (t.fits, c.0); rest_bytes = t.rest_bytes });
}

-- so many of them
pub many : {A : Type 0} {f : A → List ℕ} {F : A → Type 0} {r : List ℕ → Option (A × List ℕ)} → Codes f F r
    → (xs : List A) (rest : List ℕ) → AllByRecursion F xs → decode_many r (length xs) (flat_map f xs ++ rest) ≡ Some (xs, rest)
many {A = A} {f = f} {r = r} code [] rest fits = refl
many {A = A} {f = f} {r = r} code (x ∷ xs) rest fits =
    ap (λ (l : List ℕ). decode_many r (suc (length xs)) (l ++ rest)) (flat_map-cons f x xs)
    ∙ ap (decode_many r (suc (length xs))) (append_assoc (f x) (flat_map f xs) rest)
    ∙ ap (λ (o : Option (A × List ℕ)). o >>= λ a. decode_many r (length xs) a.1 >>= λ b. Some (a.0 ∷ b.0, b.1)) (code.again x (flat_map f xs ++ rest) fits.0)
    ∙ ap (λ (o : Option (List A × List ℕ)). o >>= λ b. Some (x ∷ b.0, b.1)) (many code xs rest fits.1)

pub record TakesMany {A : Type 0} (f : A → List ℕ) (F : A → Type 0) (n : ℕ) (all : List ℕ) (xs : List A) (rest : List ℕ) : Type 0 where
  pub parts : all ≡ flat_map f xs ++ rest
  pub len : length xs ≡ n
  pub fits : AllByRecursion F xs
  pub rest_bytes : AreBytes rest

pub many_taken : {A : Type 0} {f : A → List ℕ} {F : A → Type 0} {r : List ℕ → Option (A × List ℕ)} → Codes f F r
    → (n : ℕ) (all : List ℕ) (xs : List A) (rest : List ℕ) → AreBytes all → decode_many r n all ≡ Some (xs, rest) → TakesMany f F n all xs rest
many_taken {A = A} {f = f} {F = F} {r = r} code zero all xs rest are e =
    let same = some_pair_parts [] xs all rest e in
    subst (λ l. TakesMany f F 0 all xs l) same.1 (subst (λ ys. TakesMany f F 0 all ys all) same.0 (record { parts = refl; len = refl; fits = tt; rest_bytes = are }))
many_taken {A = A} {f = f} {F = F} {r = r} code (suc n) all xs rest are e =
    let a = bind_some (r all) (λ a. decode_many r n a.1 >>= λ b. Some (a.0 ∷ b.0, b.1)) (xs, rest) e in
    let b = bind_some (decode_many r n a.0.1) (λ b. Some (a.0.0 ∷ b.0, b.1)) (xs, rest) a.2 in
    let t = code.takes all a.0.0 a.0.1 are a.1 in
    let u = many_taken code n a.0.1 b.0.0 b.0.1 t.rest_bytes b.1 in
    let same = some_pair_parts (a.0.0 ∷ b.0.0) xs b.0.1 rest b.2 in
    subst (λ l. TakesMany f F (suc n) all xs l) same.1 (subst (λ ys. TakesMany f F (suc n) all ys b.0.1) same.0 (record {
      parts = t.parts ∙ ap (λ (l : List ℕ). f a.0.0 ++ l) u.parts ∙ sym (append_assoc (f a.0.0) (flat_map f b.0.0) b.0.1) ∙ ap (λ (l : List ℕ). l ++ b.0.1) (sym (flat_map-cons f a.0.0 b.0.0));
      len = ap suc u.len;
      fits = (t.fits, u.fits);
      rest_bytes = u.rest_bytes;
    }))

-- a list tagged the number of its elements
pub listed : {A : Type 0} {f : A → List ℕ} {F : A → Type 0} {r : List ℕ → Option (A × List ℕ)}
    → Codes (to_be_bytes w16) (λ n. n < 2 ^ 16) (decode_number w16) → Codes f F r → Codes (list_bytes f) (λ xs. (length xs < 2 ^ 16) × AllByRecursion F xs) (decode_list r)
listed {A = A} {f = f} {F = F} {r = r} number code = record {
  again = λ xs rest fits.
      ap (decode_list r) (append_assoc (to_be_bytes w16 (length xs)) (flat_map f xs) rest)
      ∙ ap (λ (o : Option (ℕ × List ℕ)). o >>= λ n. decode_many r n.0 n.1) (number.again (length xs) (flat_map f xs ++ rest) fits.0)
      ∙ many code xs rest fits.1;
  takes = λ all xs rest are e.
      let n = bind_some (decode_number w16 all) (λ n. decode_many r n.0 n.1) (xs, rest) e in
      let t = number.takes all n.0.0 n.0.1 are n.1 in
      let u = many_taken code n.0.0 n.0.1 xs rest t.rest_bytes n.2 in
      record {
        parts = t.parts ∙ ap (λ (l : List ℕ). to_be_bytes w16 n.0.0 ++ l) u.parts ∙ sym (append_assoc (to_be_bytes w16 n.0.0) (flat_map f xs) rest) ∙ ap (λ (k : ℕ). (to_be_bytes w16 k ++ flat_map f xs) ++ rest) (sym u.len);
        fits = (subst (λ k. k < 2 ^ 16) (sym u.len) t.fits, u.fits);
        rest_bytes = u.rest_bytes;
      };
}
