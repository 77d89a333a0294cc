-- What a loop over repetitions keeps.
use Rattle.std.proofs.Common.{◌≡◌, ◌∙◌, ℕ, zero, suc, ◌<◌, List, [], length, refl, sym, subst, Bool, true, false, arith, Result, Ok, Err}
use Rattle.std.specs.Prelude.{IsErrAnd, ◌&&◌}
use Rattle.std.proofs.lemmas.List.{append-nil}
use Rattle.rmt_sql_tokens.specs.Tokens.{Spot}
use Rattle.rmt_sql_tokens.specs.Classes.{Class, next_among}
use Rattle.rmt_sql_tokens.specs.declared.read_error.ReadError.{ReadError}
use Rattle.rmt_sql_tokens.specs.declared.read_error.ReadError.TheVariants as errors
use Rattle.rmt_sql_tokens.specs.Exact.{many_in, many_read, Fails, left_of, Rule}
use Rattle.rmt_sql_tokens.proofs.Closed.{fewer}
use Rattle.rmt_sql_tokens.proofs.Laws.{Law}

-- what is read from here on, after what was read, comes to the whole, with turns enough
pub record Left {S : Type 0} (may : S → Bool) (cs : List Class) (r : S → List Spot → Result (S × List Spot) (List Spot)) (s : S) (rest : List Spot) (whole : Result (S × List Spot) (List Spot)) : Type 0 where
  pub turns : ℕ
  pub enough : length rest < turns
  pub is : many_in turns may cs r s rest ≡ whole

pub left_start : {S : Type 0} (may : S → Bool) (cs : List Class) (r : S → List Spot → Result (S × List Spot) (List Spot)) (s : S) (ts : List Spot) → Left may cs r s ts (many_read may cs r s ts)
left_start may cs r s ts = record { turns = suc (length ts); enough = omega arith; is = refl }

stop_in : {S : Type 0} (may : S → Bool) (cs : List Class) (r : S → List Spot → Result (S × List Spot) (List Spot)) (s : S) (rest : List Spot) (n : ℕ) (whole : Result (S × List Spot) (List Spot))
    → length rest < n → may s && next_among cs rest ≡ false → many_in n may cs r s rest ≡ whole → whole ≡ Ok (s, rest)
unfolding many_in
stop_in may cs r s rest zero whole short b is = absurd (omega (arith, short))
stop_in may cs r s rest (suc n) whole short b is = sym is ∙ (rw b refl)

-- nothing follows
pub left_stop : {S : Type 0} (may : S → Bool) (cs : List Class) (r : S → List Spot → Result (S × List Spot) (List Spot)) (s : S) (rest : List Spot) (whole : Result (S × List Spot) (List Spot))
    → Left may cs r s rest whole → may s && next_among cs rest ≡ false → whole ≡ Ok (s, rest)
left_stop may cs r s rest whole left b = stop_in may cs r s rest left.turns whole left.enough b left.is

fail_in : {S : Type 0} (may : S → Bool) (cs : List Class) (r : S → List Spot → Result (S × List Spot) (List Spot)) (s : S) (rest : List Spot) (n : ℕ) (k : List Spot) (whole : Result (S × List Spot) (List Spot))
    → length rest < n → may s && next_among cs rest ≡ true → r s rest ≡ Err k → many_in n may cs r s rest ≡ whole → whole ≡ Err k
unfolding many_in
fail_in may cs r s rest zero k whole short b e is = absurd (omega (arith, short))
fail_in may cs r s rest (suc n) k whole short b e is = sym is ∙ (rw b (rw e refl))

pub err_is : {A : Type 0} (read : Result A (List Spot)) (left : ℕ) → IsErrAnd read (λ rest. left ≡ left_of rest) → (k : List Spot) × (read ≡ Err k) × (left ≡ left_of k)
err_is (Ok x) left h = absurd h
err_is (Err k) left h = (k, refl, h)

-- one more fails
pub left_fails : {S : Type 0} (may : S → Bool) (cs : List Class) (r : S → List Spot → Result (S × List Spot) (List Spot)) (s : S) (rest : List Spot) (whole : Result (S × List Spot) (List Spot)) (e : ReadError)
    → Left may cs r s rest whole → may s && next_among cs rest ≡ true → Fails e (r s rest) → Fails e whole
left_fails may cs r s rest whole errors.Memory left b h = tt
left_fails may cs r s rest whole (errors.Fault n) left b h =
    let (k, e, place) = err_is (r s rest) n h in
    let is = fail_in may cs r s rest left.turns k whole left.enough b e left.is in
    rw is place

on_in : {S : Type 0} (may : S → Bool) (cs : List Class) (r : S → List Spot → Result (S × List Spot) (List Spot)) (s : S) (rest : List Spot) (n : ℕ) (a : S) (after : List Spot) (whole : Result (S × List Spot) (List Spot))
    → length rest < n → length after < length rest → may s && next_among cs rest ≡ true → r s rest ≡ Ok (a, after) → many_in n may cs r s rest ≡ whole → Left may cs r a after whole
unfolding many_in
on_in may cs r s rest zero a after whole short less b e is = absurd (omega (arith, short))
on_in may cs r s rest (suc n) a after whole short less b e is =
    record { turns = n; enough = omega (arith, short, less); is = subst (λ v. v ≡ whole) (rw b (rw e refl)) is }

-- one more is read
pub left_on : {S : Type 0} (may : S → Bool) (cs : List Class) (r : S → List Spot → Result (S × List Spot) (List Spot)) (s : S) (rest : List Spot) (a : S) (after : List Spot) (whole : Result (S × List Spot) (List Spot))
    → Left may cs r s rest whole → length after < length rest → may s && next_among cs rest ≡ true → r s rest ≡ Ok (a, after) → Left may cs r a after whole
left_on may cs r s rest a after whole left less b e = on_in may cs r s rest left.turns a after whole left.enough less b e left.is

-- what is read takes a token at least
pub takes_some : {A : Type 0} (R : Rule A) (on : A → List Class) (cs : List Class) → Law R on cs → (ts : List Spot) (a : A) (rest : List Spot) → R.read ts ≡ Ok (a, rest) → length rest < length ts
takes_some R on cs law ts a rest h =
    let f = law.exact.found ts a rest h in
    let begins = subst (λ l. next_among cs l ≡ true) (append-nil f.prefix) (law.starts f.prefix [] a f.is) in
    fewer cs f.prefix rest ts (length ts) begins f.parts (omega arith)
