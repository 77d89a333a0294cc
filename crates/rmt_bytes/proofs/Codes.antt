-- What an encoding and a decoder of it are to each other.
use Rattle.std.specs.Prelude.{◌≡◌, ℕ, List, ◌++◌}
use Rattle.std.specs.Option.{option_and_then}
use Rattle.std.specs.declared.option.Option.{Option}
use Rattle.std.specs.declared.option.Option.TheVariants.{Some}
use Rattle.rmt_bytes.specs.Encoding.{AreBytes}

infixl 10 ◌>>=◌
-- the next step, where the one before it found a value
abbrev pub ◌>>=◌ : {A B : Type 0} → Option A → (A → Option B) → Option B
o >>= f = option_and_then f o

-- the bytes are the encoding of a value in range, and a rest of bytes
pub record Takes {A : Type 0} (bytes : A → List ℕ) (InRange : A → Type 0) (all : List ℕ) (a : A) (rest : List ℕ) : Type 0 where
  pub parts : all ≡ bytes a ++ rest
  pub fits : InRange a
  pub rest_bytes : AreBytes rest

-- a value in range is decoded from its encoding, whatever the rest is, and what is decoded was encoded so
pub record Codes {A : Type 0} (bytes : A → List ℕ) (InRange : A → Type 0) (decode : List ℕ → Option (A × List ℕ)) : Type 0 where
  pub again : (a : A) (rest : List ℕ) → InRange a → decode (bytes a ++ rest) ≡ Some (a, rest)
  pub takes : (all : List ℕ) (a : A) (rest : List ℕ) → AreBytes all → decode all ≡ Some (a, rest) → Takes bytes InRange all a rest
