-- Reading values one after the other, as a loop does.
use Rattle.std.proofs.Common.{◌≡◌, ℕ, suc, ◌-◌, ◌+◌, ◌≤◌, ◌<◌, List, [], ◌∷◌, ◌++◌, Option, Some, None, refl, sym, ap, ◌∙◌, append_assoc, arith}
use Rattle.std.proofs.lemmas.List.{append-nil}
use Rattle.rmt_bytes.specs.declared.decode_error.DecodeError.{DecodeError}
use Rattle.rmt_bytes.specs.declared.decode_error.DecodeError.TheVariants as errors
use Rattle.rmt_bytes.specs.Decoding.{Fails, decode_many}
use Rattle.rmt_bytes.proofs.Codes.{◌>>=◌}

-- what was read before, and what is still read
abbrev pub with_front : {A : Type 0} → List A → Option (List A × List ℕ) → Option (List A × List ℕ)
with_front front None = None
with_front front (Some x) = Some (front ++ x.0, x.1)

regroup : {A : Type 0} (front : List A) (x : A) (read : Option (List A × List ℕ)) → with_front front (read >>= λ xs. Some (x ∷ xs.0, xs.1)) ≡ with_front (front ++ x ∷ []) read
regroup front x (Some xs) = ap (λ ys. Some (ys, xs.1)) (sym (append_assoc front (x ∷ []) xs.0))
regroup front x None = refl

pub goes_on : {A : Type 0} (r : List ℕ → Option (A × List ℕ)) (front : List A) (count i : ℕ) (bytes : List ℕ) (x : A) (after : List ℕ) (total : Option (List A × List ℕ)) → i < count → r bytes ≡ Some (x, after)
    → with_front front (decode_many r (count - i) bytes) ≡ total → with_front (front ++ x ∷ []) (decode_many r (count - (i + 1)) after) ≡ total
goes_on r front count i bytes x after total lt h so_far =
    let k : count - i ≡ suc (count - (i + 1)) = omega arith in
    let one : with_front front (decode_many r (count - i) bytes) ≡ with_front (front ++ x ∷ []) (decode_many r (count - (i + 1)) after) = rw (k, h) (regroup front x (decode_many r (count - (i + 1)) after)) in
    sym one ∙ so_far

pub ends : {A : Type 0} (r : List ℕ → Option (A × List ℕ)) (e : DecodeError) (front : List A) (count i : ℕ) (bytes : List ℕ) (total : Option (List A × List ℕ)) → i < count → Fails e (r bytes)
    → with_front front (decode_many r (count - i) bytes) ≡ total → Fails e total
ends r errors.Memory front count i bytes total lt h so_far = tt
ends {A = A} r errors.Malformed front count i bytes total lt h so_far =
    let k : count - i ≡ suc (count - (i + 1)) = omega arith in
    let one : with_front front (decode_many r (count - i) bytes) ≡ None = rw (k, h) refl in
    sym so_far ∙ one

pub is_done : {A : Type 0} (r : List ℕ → Option (A × List ℕ)) (front : List A) (count i : ℕ) (bytes : List ℕ) (total : Option (List A × List ℕ)) → count ≤ i → with_front front (decode_many r (count - i) bytes) ≡ total → total ≡ Some (front, bytes)
is_done r front count i bytes total le so_far =
    let k : count - i ≡ 0 = omega arith in
    let one : with_front front (decode_many r (count - i) bytes) ≡ Some (front, bytes) = rw k (ap (λ xs. Some (xs, bytes)) (append-nil front)) in
    sym so_far ∙ one
