-- Paths of znodes, as the lists of their names.
-- ZooKeeper Programmer's Guide, "The ZooKeeper Data Model": a node is identified by a path, its names separated by a slash.
-- No rule on names holds but the slash.
use Rattle.std.specs.Prelude.{◌≢◌, ◌<◌, ◌+◌, ◌/◌, ◌%◌, ◌≡◌, ℕ, zero, suc, false, List, [], ◌∷◌, ◌++◌, length, nat_eq}
use Rattle.std.specs.List.{list_any}

-- the names of a path, from the root on, each as its bytes; the root has none
abbrev pub Names : Type 0
Names = List (List ℕ)

-- a name in its place of the text: a slash, and its bytes
abbrev pub spelled : List ℕ → List ℕ
spelled name = 47 ∷ name

-- the text of a path
abbrev pub path_text : Names → List ℕ
path_text [] = []
path_text (n ∷ p) = spelled n ++ path_text p

-- one or more bytes, none of them a slash
pub record IsName (n : List ℕ) : Type 0 where
  pub some : 0 < length n
  pub whole : list_any (nat_eq 47) n ≡ false

-- P holds of each name
abbrev pub EachName : (List ℕ → Type 0) → Names → Type 0
EachName P [] = Unit {0}
EachName P (n ∷ p) = P n × EachName P p

-- a path that an op may name: one or more names
pub record IsPath (p : Names) : Type 0 where
  pub below : p ≢ []
  pub names : EachName IsName p

-- the path above; the root for a path of one name
abbrev pub parent : Names → Names
parent [] = []
parent (n ∷ []) = []
parent (n ∷ (m ∷ p)) = n ∷ parent (m ∷ p)

-- the last name
abbrev pub last_name : Names → List ℕ
last_name [] = []
last_name (n ∷ []) = n
last_name (n ∷ (m ∷ p)) = last_name (m ∷ p)

-- a path with one name more
abbrev pub child : Names → List ℕ → Names
child p n = p ++ n ∷ []

-- so many decimal digits, with leading zeros
abbrev pub digits : ℕ → ℕ → List ℕ
digits zero n = []
digits (suc w) n = digits w (n / 10) ++ (48 + n % 10) ∷ []

-- the path with ten digits at its last name
abbrev pub numbered : Names → ℕ → Names
numbered p n = child (parent p) (last_name p ++ digits 10 n)
