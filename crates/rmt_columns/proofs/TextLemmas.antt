-- Where Strings lie in bytes, and one more of them.
use Rattle.std.proofs.Common.{◌≡◌, ℕ, zero, suc, ◌+◌, ◌<◌, ◌≤◌, List, [], ◌∷◌, ◌++◌, length, slice_get, get_or, take, drop, refl, sym, ap, ◌∙◌, arith}
use Rattle.std.proofs.lemmas.List.{length-append}
use Rattle.std.specs.declared.option.Option.TheVariants.{Some}
use Rattle.rmt_columns.specs.TextEnds.{texts_of, EndAt, start_of}

pub length-texts : (bytes : List ℕ) (start : ℕ) (ends : List ℕ) → length (texts_of bytes start ends) ≡ length ends
length-texts bytes start [] = refl
length-texts bytes start (end ∷ ends) = let r = length-texts bytes end ends in omega (arith, r)

-- where the i-th begins, after a place where the first does
abbrev begin_at : ℕ → List ℕ → ℕ → ℕ
begin_at start ends zero = start
begin_at start ends (suc i) = get_or ends i 0

text-from : (bytes : List ℕ) (start : ℕ) (ends : List ℕ) (i d : ℕ) → i < length ends → slice_get (texts_of bytes start ends) i ≡ Some (drop (begin_at start ends i) (take (get_or ends i d) bytes))
text-from bytes start [] i d h = absurd (omega (arith, h))
text-from bytes start (end ∷ ends) zero d h = refl
text-from bytes start (end ∷ ends) (suc zero) d h = text-from bytes end ends zero d (omega (arith, h))
text-from bytes start (end ∷ ends) (suc (suc i)) d h = text-from bytes end ends (suc i) d (omega (arith, h))

begin-first : (ends : List ℕ) (i : ℕ) → begin_at 0 ends i ≡ start_of ends i
begin-first ends zero = refl
begin-first ends (suc i) = refl

pub text-at : (bytes ends : List ℕ) (i d : ℕ) → i < length ends → slice_get (texts_of bytes 0 ends) i ≡ Some (drop (start_of ends i) (take (get_or ends i d) bytes))
text-at bytes ends i d h = text-from bytes 0 ends i d h ∙ ap (λ (s : ℕ). Some (drop s (take (get_or ends i d) bytes))) (begin-first ends i)

start-within : (start : ℕ) (ends : List ℕ) (total : ℕ) → EndAt start ends total → start ≤ total
start-within start [] total h = omega (arith, h)
start-within start (end ∷ ends) total h = let r = start-within end ends total h.1 in let s = h.0 in omega (arith, r, s)

end-from : (start : ℕ) (ends : List ℕ) (total i d : ℕ) → EndAt start ends total → i < length ends → (get_or ends i d ≤ total) × (begin_at start ends i ≤ get_or ends i d)
end-from start [] total i d h p = absurd (omega (arith, p))
end-from start (end ∷ ends) total zero d h p = (start-within end ends total h.1, h.0)
end-from start (end ∷ ends) total (suc zero) d h p = end-from end ends total zero d h.1 (omega (arith, p))
end-from start (end ∷ ends) total (suc (suc i)) d h p = end-from end ends total (suc i) d h.1 (omega (arith, p))

pub end-within : (ends : List ℕ) (total i d : ℕ) → EndAt 0 ends total → i < length ends → get_or ends i d ≤ total
end-within ends total i d h p = (end-from 0 ends total i d h p).0

pub start-before : (ends : List ℕ) (total i d : ℕ) → EndAt 0 ends total → i < length ends → start_of ends i ≤ get_or ends i d
start-before ends total i d h p = let r = (end-from 0 ends total i d h p).1 in let e = begin-first ends i in omega (arith, r, e)

-- ---- one more

EndAt-more : (start : ℕ) (ends : List ℕ) (total more : ℕ) → EndAt start ends total → EndAt start (ends ++ (total + more) ∷ []) (total + more)
EndAt-more start [] total more h = (omega (arith, h), refl)
EndAt-more start (end ∷ ends) total more h = (h.0, EndAt-more end ends total more h.1)

take-front : (n : ℕ) (xs ys : List ℕ) → n ≤ length xs → take n (xs ++ ys) ≡ take n xs
take-front zero xs ys h = refl
take-front (suc n) [] ys h = absurd (omega (arith, h))
take-front (suc n) (x ∷ xs) ys h = ap (λ (l : List ℕ). x ∷ l) (take-front n xs ys (omega (arith, h)))

take-whole : (n : ℕ) (xs : List ℕ) → n ≡ length xs → take n xs ≡ xs
take-whole zero [] h = refl
take-whole zero (x ∷ xs) h = absurd (omega (arith, h))
take-whole (suc n) [] h = refl
take-whole (suc n) (x ∷ xs) h = ap (λ (l : List ℕ). x ∷ l) (take-whole n xs (omega (arith, h)))

drop-front : (n : ℕ) (xs ys : List ℕ) → n ≡ length xs → drop n (xs ++ ys) ≡ ys
drop-front zero [] ys h = refl
drop-front zero (x ∷ xs) ys h = absurd (omega (arith, h))
drop-front (suc n) [] ys h = absurd (omega (arith, h))
drop-front (suc n) (x ∷ xs) ys h = drop-front n xs ys (omega (arith, h))

texts-more : (bytes text : List ℕ) (start : ℕ) (ends : List ℕ) → EndAt start ends (length bytes)
    → texts_of (bytes ++ text) start (ends ++ (length bytes + length text) ∷ []) ≡ texts_of bytes start ends ++ text ∷ []
texts-more bytes text start [] h =
    ap (λ (l : List ℕ). l ∷ []) (ap (drop start) (take-whole (length bytes + length text) (bytes ++ text) (sym (length-append bytes text))) ∙ drop-front start bytes text h)
texts-more bytes text start (end ∷ ends) h =
    ap (λ (l : List ℕ). drop start l ∷ texts_of (bytes ++ text) end (ends ++ (length bytes + length text) ∷ [])) (take-front end bytes text (start-within end ends (length bytes) h.1))
    ∙ ap (λ (l : List (List ℕ)). drop start (take end bytes) ∷ l) (texts-more bytes text end ends h.1)

pub text-put : (bytes text ends : List ℕ) (more : List ℕ) (past : ℕ) → EndAt 0 ends (length bytes) → more ≡ bytes ++ text → past ≡ length more
    → (EndAt 0 (ends ++ past ∷ []) (length more)) × (texts_of more 0 (ends ++ past ∷ []) ≡ texts_of bytes 0 ends ++ text ∷ [])
text-put bytes text ends more past h e f =
    let n : past ≡ length bytes + length text = f ∙ (ap length e ∙ length-append bytes text) in
    let m : length more ≡ length bytes + length text = ap length e ∙ length-append bytes text in
    (rw n (rw m (EndAt-more 0 ends (length bytes) (length text) h)), rw n (rw e (texts-more bytes text 0 ends h)))
