-- What comes to an outlet, and what is written of it.
use Rattle.std.proofs.Common.{◌≡◌, ◌∙◌, ℕ, List, [], ◌∷◌, ◌++◌, Option, Some, None, refl, sym, ap, append_assoc, append-nil}
use Rattle.std.specs.Io.KnownBytes.{Appends}
use Rattle.rmt_outside.specs.StreamBytes.{AppendsPrefix}
use Rattle.rmt_reply.specs.declared.line.Line.{Line}
use Rattle.rmt_reply.specs.Printed.{printed, printed_all}
use Rattle.rmt_play.specs.Outlets.{KeepsMarks, AddsMarks, AddsInPart, gathered_there, printed_there, told_of}
use Rattle.rmt_play.specs.Runs.{lines_of}

pub adds-none : {A : Type 0} (a : Option (List A)) → AddsMarks a a []
adds-none None = tt
adds-none (Some xs) = sym (append-nil xs)

pub adds-then : {A : Type 0} (a b c : Option (List A)) (xs ys : List A) → AddsMarks a b xs → AddsMarks b c ys → AddsMarks a c (xs ++ ys)
adds-then None b c xs ys p q = tt
adds-then (Some x) None c xs ys p q = absurd p
adds-then (Some x) (Some y) None xs ys p q = absurd q
adds-then (Some x) (Some y) (Some z) xs ys p q = q ∙ ap (λ l. l ++ ys) p ∙ append_assoc x xs ys

pub adds-kept : {A : Type 0} (a b c : Option (List A)) (xs : List A) → AddsMarks a b xs → KeepsMarks b c → AddsMarks a c xs
adds-kept None b c xs p q = tt
adds-kept (Some x) None c xs p q = absurd p
adds-kept (Some x) (Some y) None xs p q = absurd q
adds-kept (Some x) (Some y) (Some z) xs p q = q ∙ p

pub keeps-same : {A : Type 0} (a : Option (List A)) → KeepsMarks a a
keeps-same None = tt
keeps-same (Some xs) = refl

-- ---- bytes

pub adds-bytes : (a b : Option (List ℕ)) (bytes : List ℕ) → Appends a b bytes → AddsMarks a b bytes
adds-bytes None b bytes p = tt
adds-bytes (Some x) None bytes p = absurd p
adds-bytes (Some x) (Some y) bytes p = p

pub appends-bytes : (a b : Option (List ℕ)) (bytes : List ℕ) → AddsMarks a b bytes → Appends a b bytes
appends-bytes None b bytes p = tt
appends-bytes (Some x) None bytes p = absurd p
appends-bytes (Some x) (Some y) bytes p = p

pub adds-prefix : (a b : Option (List ℕ)) (bytes : List ℕ) → AppendsPrefix a b bytes → AddsInPart a b bytes
adds-prefix a b bytes (prefix, rest, parts, p) = (prefix, rest, parts, adds-bytes a b prefix p)

pub appends-prefix : (a b : Option (List ℕ)) (bytes : List ℕ) → AddsInPart a b bytes → AppendsPrefix a b bytes
appends-prefix a b bytes (prefix, rest, parts, p) = (prefix, rest, parts, appends-bytes a b prefix p)

-- ---- replies

pub printed-then : (first more : List Line) → printed_all (first ++ more) ≡ printed_all first ++ printed_all more
printed-then [] more = refl
printed-then (line ∷ first) more = ap (λ bs. printed line ++ bs) (printed-then first more) ∙ sym (append_assoc (printed line) (printed_all first) (printed_all more))

-- what is printed of replies is printed of their lines
pub told-printed : (replies : List (List Line)) → told_of printed_there replies ≡ printed_all (lines_of replies)
told-printed [] = refl
told-printed (reply ∷ replies) = ap (λ bs. bs ++ printed_all reply) (told-printed replies) ∙ sym (printed-then (lines_of replies) reply)

-- what is gathered of them are their lines
pub told-gathered : (replies : List (List Line)) → told_of gathered_there replies ≡ lines_of replies
told-gathered [] = refl
told-gathered (reply ∷ replies) = ap (λ ls. ls ++ reply) (told-gathered replies)
