-- A line that ends with the end of a statement says how many bytes are left after it.
use Rattle.std.proofs.Common.{◌≡◌, ◌∙◌, ℕ, List, [], ◌∷◌, ◌++◌, ◌⊎◌, inl, inr, refl, ap, sym, append_assoc, Some, None, Option, Bool, true, false, cond}
use Rattle.std.specs.Prelude.{pred, nat_lt}
use Rattle.std.proofs.lemmas.List.{append-nil}
use Rattle.rmt_sql_tokens.specs.Tokens.{Token, Semicolon, Spot}
use Rattle.rmt_sql_tokens.specs.Singles.{an_end, end_in, semicolon_in}
use Rattle.rmt_sql_tokens.specs.Exact.{One, Then, Gives, Either}
use Rattle.rmt_sql_acts.specs.Phrases.{ended}

-- the last of these tokens has so many bytes after it
abbrev pub IsFollowedBy : List Spot → ℕ → Type 0
IsFollowedBy prefix left = (before : List Spot) × (s : Spot) × (before ++ s ∷ [] ≡ prefix) × (left ≡ pred s.left)

-- each line of the form ends with a token that has as many bytes after it as the line says
pub record Ends {A : Type 0} (L : List Spot → A × ℕ → Type 0) : Type 0 where
  pub each : (prefix : List Spot) (a : A × ℕ) → L prefix a → IsFollowedBy prefix a.1

pub end_place : (t : Token) (n left : ℕ) → end_in t n ≡ Some left → left ≡ pred n
end_place Semicolon n left h = cc
end_place _ n left h = absurd cc

pub semicolon_place : (t : Token) (n left : ℕ) → semicolon_in t n ≡ Some left → left ≡ pred n
semicolon_place Semicolon n left h = go (nat_lt 0 n) h
  where
    go : (b : Bool) → cond b (Some (pred n)) None ≡ Some left → left ≡ pred n
    go true is = cc
    go false is = absurd cc
semicolon_place _ n left h = absurd cc

one_later : (p : Spot → Option ℕ) → ((s : Spot) (left : ℕ) → p s ≡ Some left → left ≡ pred s.left) → (ts : List Spot) (left : ℕ) → One p ts left → IsFollowedBy ts left
one_later p place [] left h = absurd h
one_later p place (s ∷ []) left h = ([], s, refl, place s left h)
one_later p place (s ∷ t ∷ ts) left h = absurd h

pub alone : (prefix rest whole : List Spot) → prefix ++ rest ≡ whole → rest ≡ [] → prefix ≡ whole
alone prefix rest whole parts none = sym (append-nil prefix) ∙ ap (λ l. prefix ++ l) (sym none) ∙ parts

-- one token that ends a statement, and a value with how many bytes it leaves
pub one_ends : {A : Type 0} (p : Spot → Option ℕ) → ((s : Spot) (left : ℕ) → p s ≡ Some left → left ≡ pred s.left) → (a : A) → Ends (Then (One p) (λ left. Gives (a, left)))
one_ends p place_of a = record {
  each = λ prefix b is.
      (let (before, s, parts, place) = one_later p place_of is.prefix is.value is.first in
      (before, s, parts ∙ alone is.prefix is.rest prefix is.parts is.second.0, ap (λ x. x.1) is.second.1 ∙ place));
}

pub ended_ends : {A : Type 0} (a : A) → Ends (ended a).form
ended_ends a = one_ends an_end (λ s left h. end_place s.token s.left left h) a

pub ends_then : {A B : Type 0} (L : List Spot → A → Type 0) (M : A → List Spot → B × ℕ → Type 0) → ((a : A) → Ends (M a)) → Ends (Then L M)
ends_then L M second = record {
  each = λ prefix b is.
      (let (before, s, parts, place) = (second is.value).each is.rest b is.second in
      (is.prefix ++ before, s, append_assoc is.prefix before (s ∷ []) ∙ ap (λ l. is.prefix ++ l) parts ∙ is.parts, place));
}

pub ends_gives : {A B : Type 0} (L : List Spot → A × ℕ → Type 0) (f : A × ℕ → B × ℕ) → ((a : A × ℕ) → (f a).1 ≡ a.1) → Ends L → Ends (Then L (λ a. Gives (f a)))
ends_gives L f same ends = record {
  each = λ prefix b is.
      (let (before, s, parts, place) = ends.each is.prefix is.value is.first in
      (before, s, parts ∙ alone is.prefix is.rest prefix is.parts is.second.0, ap (λ x. x.1) is.second.1 ∙ same is.value ∙ place));
}

pub ends_either : {A : Type 0} (L M : List Spot → A × ℕ → Type 0) → Ends L → Ends M → Ends (Either L M)
ends_either {A} L M first second = record { each = either_is }
  where
    either_is : (prefix : List Spot) (a : A × ℕ) → L prefix a ⊎ M prefix a → IsFollowedBy prefix a.1
    either_is prefix a (inl is) = first.each prefix a is
    either_is prefix a (inr is) = second.each prefix a is
