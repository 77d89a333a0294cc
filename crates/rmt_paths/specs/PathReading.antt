-- How the text of a path is read.
-- No public clause cites this module.
use Rattle.std.specs.Prelude.{◌≡◌, ◌≢◌, ℕ, cond, List, [], ◌∷◌, ◌++◌, nat_eq}
use Rattle.rmt_paths.specs.Paths.{Names, child}

-- a name of some bytes is added to those that were read
pub record EndsName (names : Names) (name : List ℕ) (names' : Names) (name' : List ℕ) : Type 0 where
  pub some : name ≢ []
  pub more : names' ≡ child names name
  pub anew : name' ≡ []

-- one more byte is read: a slash ends a name
abbrev pub ReadsByte : ℕ → Names → List ℕ → Names → List ℕ → Type 0
ReadsByte b names name names' name' = cond (nat_eq b 47) (EndsName names name names' name') ((names' ≡ names) × (name' ≡ name ++ b ∷ []))
