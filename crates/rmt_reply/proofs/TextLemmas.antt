-- Texts one after the other, however they are grouped; what became of blocks is a text of its own.
use Rattle.std.proofs.Common.{◌≡◌, ℕ, List, [], ◌∷◌, ◌++◌, Option, Some, None, append_assoc, refl}
use Rattle.std.specs.List.{flat_map}
use Rattle.rmt_names.specs.Names.{Name}
use Rattle.rmt_reply.specs.Printed.{check_line, checked_text, cut_text, ended, inserted_text, optimized_line, optimized_text, piece_text, two}
use Rattle.rmt_reply.specs.declared.piece.Piece.{Piece}
use Rattle.rmt_reply.specs.declared.piece.Piece.TheVariants as pieces
use Rattle.rmt_reply.specs.declared.refusal.Refusal.{Refusal}

-- two things after a prefix, the second with a space before it
pub two_later : (out prefix first second : List ℕ) → (out ++ (prefix ++ first)) ++ 32 ∷ second ≡ out ++ (prefix ++ two first second)
two_later out prefix first second =
    rw (append_assoc out (prefix ++ first) (32 ∷ second), append_assoc prefix first (32 ∷ second), append_assoc first (32 ∷ []) second) refl

-- lines, and a last one after its prefix
pub line_later : (out lines prefix last : List ℕ) → ((out ++ lines) ++ prefix) ++ ended last ≡ out ++ (lines ++ ended (prefix ++ last))
line_later out lines prefix last =
    rw (append_assoc (out ++ lines) prefix (ended last), append_assoc out lines (prefix ++ ended last), append_assoc prefix last (10 ∷ [])) refl

-- where there is a piece or a refusal, the pieces and the refusal are all
pub inserted-some : (all : List Piece) (refused : Option Refusal) → (all ≡ [] → refused ≡ None → ⊥)
    → inserted_text all refused ≡ flat_map piece_text all ++ cut_text refused
inserted-some [] None some = absurd (some refl refl)
inserted-some [] (Some refusal) some = refl
inserted-some (pieces.Part a ∷ all) None some = refl
inserted-some (pieces.Part a ∷ all) (Some refusal) some = refl
inserted-some (pieces.Duplicate a ∷ all) None some = refl
inserted-some (pieces.Duplicate a ∷ all) (Some refusal) some = refl

-- where there is a part or a refusal, the parts and the refusal are all
pub optimized-some : (all : List Name) (refused : Option Refusal) → (all ≡ [] → refused ≡ None → ⊥)
    → optimized_text all refused ≡ flat_map optimized_line all ++ cut_text refused
optimized-some [] None some = absurd (some refl refl)
optimized-some [] (Some refusal) some = refl
optimized-some (a ∷ all) None some = refl
optimized-some (a ∷ all) (Some refusal) some = refl

-- where there is a part, the lines of the parts are all
pub checked-some : (all : List (Name × List ℕ)) → (all ≡ [] → ⊥) → checked_text all ≡ flat_map check_line all
checked-some [] some = absurd (some refl)
checked-some (d ∷ all) some = refl
