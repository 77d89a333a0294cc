-- A writer of records that may differ in length writes each record as the default one does.
use Rattle.std.proofs.Common.{◌≡◌, ℕ, List, [], ◌∷◌, refl, true}
use Rattle.csv.specs.Writing.{default_writer, escaped, field_text, fields_text, is_blank, row_text, with_flexible}
use Rattle.csv.specs.declared.writer.WriterBuilder.{WriterBuilder}

-- the writer's setup
abbrev pub flexible_writer : WriterBuilder
flexible_writer = with_flexible default_writer true

-- the bytes between quotes are the same
pub escaped-flexible : (xs : List ℕ) → escaped flexible_writer xs ≡ escaped default_writer xs
unfolding escaped
escaped-flexible [] = refl
escaped-flexible (x ∷ xs) = rw (escaped-flexible xs) refl

-- a field is the same
pub field-flexible : (xs : List ℕ) → field_text flexible_writer xs ≡ field_text default_writer xs
field-flexible xs = rw (escaped-flexible xs) refl

-- the fields after the first are the same
pub fields-flexible : (xss : List (List ℕ)) → fields_text flexible_writer xss ≡ fields_text default_writer xss
unfolding fields_text
fields-flexible [] = refl
fields-flexible (xs ∷ xss) = rw (field-flexible xs, fields-flexible xss) refl

-- one is blank where the other is
pub blank-flexible : (xss : List (List ℕ)) → is_blank flexible_writer xss ≡ is_blank default_writer xss
unfolding is_blank
blank-flexible [] = refl
blank-flexible (xs ∷ []) = rw (field-flexible xs) refl
blank-flexible (xs ∷ ys ∷ xss) = refl

-- a record is the same
pub row_text-flexible : (xss : List (List ℕ)) → row_text flexible_writer xss ≡ row_text default_writer xss
row_text-flexible [] = rw (blank-flexible []) refl
row_text-flexible (xs ∷ xss) = rw (field-flexible xs, fields-flexible xss, blank-flexible (xs ∷ xss)) refl
