-- Each record of a text takes a byte of it at least.
use Rattle.std.proofs.Common.{◌≡◌, ◌∙◌, ℕ, suc, ◌+◌, ◌<◌, ◌≤◌, ◌==◌, ◌&&◌, List, [], ◌∷◌, ◌++◌, length, Bool, true, false, if◌then◌else◌, Some, None, refl, sym, ap, subst, arith}
use Rattle.csv.specs.Machine.{Read, next_record, step, in_field, start_field, start_record, after_end, ends_with, is_byte, is_end, ends_at_end, fields_after, field_after, carriage_return, line_feed}
use Rattle.csv.specs.Reading.{Reached, strip_bom, is_bom}
use Rattle.csv.specs.declared.parser.Config.{Config}
use Rattle.csv.specs.declared.parser.Terminator.{Terminator}
use Rattle.csv.specs.declared.parser.Terminator.TheVariants as term
use Rattle.csv.specs.declared.parser.State.{State}
use Rattle.csv.specs.declared.parser.State.TheVariants as st
use Rattle.csv.specs.declared.parser.Action.{Action}
use Rattle.csv.specs.declared.parser.Action.TheVariants as act

-- where a record ends, no other is begun
abbrev Closes : State × Action → Type 0
Closes p = is_end p.1 ≡ true → ends_at_end p.0 ≡ false

after-closed : (t : Terminator) (c : ℕ) → ends_at_end (after_end t c) ≡ false
after-closed term.CRLF c = go (c == carriage_return)
  where
    go : (b : Bool) → ends_at_end (if b then st.AfterCr else st.StartRecord) ≡ false
    go true = refl
    go false = refl
after-closed (term.Any t) c = refl

in_field-closes : (cfg : Config) (c : ℕ) → Closes (in_field cfg c)
in_field-closes cfg c = go (c == cfg.delimiter) (ends_with cfg.terminator c)
  where
    go : (a b : Bool) → Closes (if a then (st.StartField, act.EndField) else if b then (after_end cfg.terminator c, act.EndRecord) else (st.InField, act.Copy))
    go true b e = absurd cc
    go false true e = after-closed cfg.terminator c
    go false false e = absurd cc

start_field-closes : (cfg : Config) (c : ℕ) → Closes (start_field cfg c)
start_field-closes cfg c = go (cfg.quoting && (c == cfg.quote)) (in_field-closes cfg c)
  where
    go : (a : Bool) → Closes (in_field cfg c) → Closes (if a then (st.InQuoted, act.Skip) else in_field cfg c)
    go true h e = absurd cc
    go false h e = h e

start_record-closes : (cfg : Config) (c : ℕ) → Closes (start_record cfg c)
start_record-closes cfg c = go (ends_with cfg.terminator c) (is_byte cfg.comment c) (start_field-closes cfg c)
  where
    go : (a b : Bool) → Closes (start_field cfg c) → Closes (if a then (st.StartRecord, act.Skip) else if b then (st.InComment, act.Skip) else start_field cfg c)
    go true b h e = absurd cc
    go false true h e = absurd cc
    go false false h e = h e

step-closes : (cfg : Config) (s : State) (c : ℕ) → Closes (step cfg s c)
step-closes cfg st.StartRecord c = start_record-closes cfg c
step-closes cfg st.StartField c = start_field-closes cfg c
step-closes cfg st.InField c = in_field-closes cfg c
step-closes cfg st.InQuoted c = go (cfg.quoting && (c == cfg.quote)) (cfg.quoting && is_byte cfg.escape c)
  where
    go : (a b : Bool) → Closes (if a then (st.AfterQuote, act.Skip) else if b then (st.InEscape, act.Skip) else (st.InQuoted, act.Copy))
    go true b e = absurd cc
    go false true e = absurd cc
    go false false e = absurd cc
step-closes cfg st.InEscape c = λ e. absurd cc
step-closes cfg st.AfterQuote c = go (cfg.quoting && cfg.double_quote && (c == cfg.quote)) (in_field-closes cfg c)
  where
    go : (a : Bool) → Closes (in_field cfg c) → Closes (if a then (st.InQuoted, act.Copy) else in_field cfg c)
    go true h e = absurd cc
    go false h e = h e
step-closes cfg st.InComment c = go (c == line_feed)
  where
    go : (a : Bool) → Closes (if a then (st.StartRecord, act.Skip) else (st.InComment, act.Skip))
    go true e = absurd cc
    go false e = absurd cc
step-closes cfg st.AfterCr c = go (c == line_feed) (start_record-closes cfg c)
  where
    go : (a : Bool) → Closes (start_record cfg c) → Closes (if a then (st.StartRecord, act.Skip) else start_record cfg c)
    go true h e = absurd cc
    go false h e = h e

-- a record takes bytes from the front, one at least where none is begun, and leaves none begun
abbrev Takes : State → List ℕ → Read → Type 0
Takes s xs r = (length r.2 ≤ length xs) × (ends_at_end r.1 ≡ false) × (ends_at_end s ≡ false → length r.2 < length xs)

takes : (cfg : Config) (s : State) (fields : List (List ℕ)) (field xs : List ℕ) (r : Read) → next_record cfg s fields field xs ≡ Some r → Takes s xs r
unfolding next_record
takes cfg s fields field [] r e = go (ends_at_end s) refl e
  where
    go : (b : Bool) → ends_at_end s ≡ b → (if b then Some (fields ++ (field ∷ []), st.StartRecord, []) else None) ≡ Some r → Takes s [] r
    go true k e = let same : (fields ++ (field ∷ []), st.StartRecord, []) ≡ r = cc in subst (λ (q : Read). Takes s [] q) same (omega arith, refl, (λ o. absurd cc))
    go false k e = absurd cc
takes cfg s fields field (c ∷ xs) r e =
    go (is_end (step cfg s c).1) refl e (takes cfg (step cfg s c).0 (fields_after (step cfg s c).1 fields field) (field_after (step cfg s c).1 c field) xs r)
  where
    go : (b : Bool) → is_end (step cfg s c).1 ≡ b
        → (if b then Some (fields_after (step cfg s c).1 fields field, (step cfg s c).0, xs) else next_record cfg (step cfg s c).0 (fields_after (step cfg s c).1 fields field) (field_after (step cfg s c).1 c field) xs) ≡ Some r
        → (next_record cfg (step cfg s c).0 (fields_after (step cfg s c).1 fields field) (field_after (step cfg s c).1 c field) xs ≡ Some r → Takes (step cfg s c).0 xs r)
        → Takes s (c ∷ xs) r
    go true k e more =
        let same : (fields_after (step cfg s c).1 fields field, (step cfg s c).0, xs) ≡ r = cc in
        subst (λ (q : Read). Takes s (c ∷ xs) q) same (omega arith, step-closes cfg s c k, (λ o. omega arith))
    go false k e more = let t = more e in let a = t.0 in (omega (arith, a), t.1, (λ o. omega (arith, a)))

-- records have as many bytes as they are at least, and leave none begun
pub reached-room : (cfg : Config) (s : State) (xs : List ℕ) (records : List (List (List ℕ))) (s2 : State) (ys : List ℕ)
    → Reached cfg s xs records s2 ys → ends_at_end s ≡ false → (length records + length ys ≤ length xs) × (ends_at_end s2 ≡ false)
unfolding Reached
reached-room cfg s xs [] s2 ys h o = let l : length xs ≡ length ys = ap length h.1 in (omega (arith, l), sym (ap (λ (t : State). ends_at_end t) h.0) ∙ o)
reached-room cfg s xs (r ∷ rs) s2 ys (p, n, f, h) o =
    let t = takes cfg s [] [] xs p n in
    let i = reached-room cfg p.1 p.2 rs s2 ys h t.1 in
    let a = t.2 o in
    let b = i.0 in
    (omega (arith, a, b), i.1)

-- where no byte is left and no record begun, there is no other
pub none-left : (cfg : Config) (s : State) (xs : List ℕ) → length xs ≤ 0 → ends_at_end s ≡ false → next_record cfg s [] [] xs ≡ None
unfolding next_record
none-left cfg s [] h o = rw o refl
none-left cfg s (x ∷ xs) h o = absurd (omega (arith, h))

pub strip-length : (xs : List ℕ) → length (strip_bom xs) ≤ length xs
unfolding strip_bom
strip-length [] = omega arith
strip-length (a ∷ []) = omega arith
strip-length (a ∷ b ∷ []) = omega arith
strip-length (a ∷ b ∷ c ∷ rest) = go (is_bom a b c)
  where
    go : (t : Bool) → length (if t then rest else a ∷ b ∷ c ∷ rest) ≤ suc (suc (suc (length rest)))
    go true = omega arith
    go false = omega arith
