-- Where replies go as they come: to a sink, as bytes, or behind lines that are gathered. No public clause cites this module.
use Rattle.std.specs.Prelude.{◌≡◌, ℕ, List, [], ◌∷◌, ◌++◌}
use Rattle.std.specs.declared.option.Option.{Option}
use Rattle.std.specs.declared.option.Option.TheVariants.{Some, None}
use Rattle.std.specs.declared.result.Result.{Result}
use Rattle.std.specs.declared.result.Result.TheVariants.{Ok, Err}
use Rattle.rmt_outside.specs.declared.write.WriteError.{WriteError}
use Rattle.rmt_outside.specs.declared.write.WriteError.TheVariants.{WriteFault, Memory}
use Rattle.rmt_reply.specs.declared.line.Line.{Line}
use Rattle.rmt_reply.specs.Printed.{printed_all}

-- what is left there of lines
pub record Outlet : Type 1 where
  pub Mark : Type 0
  pub marks : List Line → List Mark

-- the bytes of the lines as they are printed
abbrev pub printed_there : Outlet
printed_there = record { Mark = ℕ; marks = printed_all }

-- the lines themselves
abbrev pub gathered_there : Outlet
gathered_there = record { Mark = Line; marks = λ reply. reply }

-- what is known to be there stays
abbrev pub KeepsMarks : {A : Type 0} → Option (List A) → Option (List A) → Type 0
KeepsMarks None new = Unit {0}
KeepsMarks (Some xs) None = ⊥
KeepsMarks (Some xs) (Some ys) = ys ≡ xs

-- more comes behind it
abbrev pub AddsMarks : {A : Type 0} → Option (List A) → Option (List A) → List A → Type 0
AddsMarks None new more = Unit {0}
AddsMarks (Some xs) None more = ⊥
AddsMarks (Some xs) (Some ys) more = ys ≡ xs ++ more

-- or a prefix of that
abbrev pub AddsInPart : {A : Type 0} → Option (List A) → Option (List A) → List A → Type 0
AddsInPart {A} old new more = (prefix rest : List A) × (prefix ++ rest ≡ more) × AddsMarks old new prefix

-- a reply comes there
abbrev pub Tells : (o : Outlet) → List Line → Option (List o.Mark) → Option (List o.Mark) → Type 0
Tells o reply old new = AddsMarks old new (o.marks reply)

-- a call that tells a reply; at an error only a prefix of it, or nothing, came there
abbrev pub IsTold : (o : Outlet) → List Line → Option (List o.Mark) → Option (List o.Mark) → Result (Unit {0}) WriteError → Type 0
IsTold o reply old new (Ok done) = Tells o reply old new
IsTold o reply old new (Err WriteFault) = AddsInPart old new (o.marks reply)
IsTold o reply old new (Err Memory) = KeepsMarks old new

-- what is left there of replies that are given the newest first
abbrev pub told_of : (o : Outlet) → List (List Line) → List o.Mark
told_of o [] = []
told_of o (reply ∷ replies) = told_of o replies ++ o.marks reply

-- they came there
abbrev pub Told : (o : Outlet) → Option (List o.Mark) → Option (List o.Mark) → List (List Line) → Type 0
Told o old new replies = AddsMarks old new (told_of o replies)

-- or a prefix of them
abbrev pub ToldInPart : (o : Outlet) → Option (List o.Mark) → Option (List o.Mark) → List (List Line) → Type 0
ToldInPart o old new replies = AddsInPart old new (told_of o replies)
