-- Copies and tokens of one cell row.
use Rattle.std.proofs.Common.{◌≡◌, ℕ, zero, suc, ◌<◌, ◌≤◌, Bool, true, false, cond, List, [], ◌∷◌, ◌++◌, length, take, refl, sym, ap, subst, arith, ◌∙◌, nat_eq}
use Rattle.std.proofs.lemmas.Bool.Decides.{nat_tests}
use Rattle.std.specs.Prelude.{slice_get}
use Rattle.std.specs.declared.option.Option.TheVariants.{Some}
use Rattle.rmt_row.specs.Token.{Token, IsOf}
use Rattle.rmt_entries.specs.declared.entry.Entry.{Entry}
use Rattle.rmt_model.specs.Words.{Each}
use Rattle.rmt_model.specs.Lawful.{IsPrefix, entry_at}
use Rattle.rmt_model.proofs.Drops.{some-same}
use Rattle.rmt_history.specs.Copies.{History, IsLogOf}

-- the first elements, and one more
pub take-next : {A : Type 0} (xs : List A) (n : ℕ) (x : A) → slice_get xs n ≡ Some x → take (suc n) xs ≡ take n xs ++ x ∷ []
take-next [] n x e = absurd (cc)
take-next (y ∷ xs) zero x e = let q : y ≡ x = cc in ap (λ z. z ∷ []) q
take-next (y ∷ xs) (suc n) x e = ap (λ l. y ∷ l) (take-next xs n x e)

-- what is among the first elements is in the list, at its place
pub taken-at : {A : Type 0} (xs : List A) (n i : ℕ) (x : A) → slice_get (take n xs) i ≡ Some x → slice_get xs i ≡ Some x
taken-at [] zero i x e = e
taken-at [] (suc n) i x e = e
taken-at (y ∷ xs) zero i x e = absurd (cc)
taken-at (y ∷ xs) (suc n) zero x e = e
taken-at (y ∷ xs) (suc n) (suc i) x e = taken-at xs n i x e

-- a cell of a copy is one of its row
pub cell-of-row : (row : List ℕ) (copy : History) (i cell : ℕ) → IsLogOf row copy → slice_get copy.cells i ≡ Some cell → slice_get row i ≡ Some cell
cell-of-row row copy i cell of e = taken-at row (length copy.log) i cell (subst (λ (l : List ℕ). slice_get l i ≡ Some cell) of e)

-- so is the token of one
pub token-of-row : (row : List ℕ) (copy : History) (t : Token Entry) → IsLogOf row copy → slice_get copy.cells t.place ≡ Some t.cell → IsOf row t
token-of-row row copy t of e = cell-of-row row copy t.place t.cell of e

-- a copy that goes on with a token of its row is of the row
pub longer-of-row : (row : List ℕ) (copy : History) (next : Token Entry) → IsLogOf row copy → next.place ≡ length copy.log → IsOf row next
    → IsLogOf row (record copy { log = next.value ∷ copy.log; cells = copy.cells ++ next.cell ∷ [] })
longer-of-row row copy next of p q =
    ap (λ (l : List ℕ). l ++ next.cell ∷ []) of
    ∙ sym (take-next row (length copy.log) next.cell (subst (λ (n : ℕ). slice_get row n ≡ Some next.cell) p q))

-- the newest entry is at the last place, and the others are where they were
at-newest : (e : Entry) (log : List Entry) (i : ℕ) → i ≡ length log → entry_at (e ∷ log) i ≡ Some e
at-newest e log i q = let t : nat_eq i (length log) ≡ true = grind (arith, nat_tests) in ap (λ (b : Bool). cond b (Some e) (entry_at log i)) t

at-older : (e : Entry) (log : List Entry) (i : ℕ) → i < length log → entry_at (e ∷ log) i ≡ entry_at log i
at-older e log i l = let t : nat_eq i (length log) ≡ false = grind (arith, nat_tests) in ap (λ (b : Bool). cond b (Some e) (entry_at log i)) t

-- logs of one length with equal entries at all places are equal
equal-entries : (x y : List Entry) → length x ≡ length y → ((j : ℕ) → j < length x → entry_at x j ≡ entry_at y j) → x ≡ y
equal-entries [] [] n f = refl
equal-entries [] (b ∷ y) n f = absurd (omega (arith, n))
equal-entries (a ∷ x) [] n f = absurd (omega (arith, n))
equal-entries (a ∷ x) (b ∷ y) n f =
    let first : a ≡ b = some-same a b (sym (at-newest a x (length x) refl) ∙ f (length x) (omega arith) ∙ at-newest b y (length x) (omega (arith, n))) in
    let rest : x ≡ y = equal-entries x y (omega (arith, n)) (λ j l. sym (at-older a x j l) ∙ f j (omega (arith, l)) ∙ at-older b y j (omega (arith, n, l))) in
    ap (λ (e : Entry). e ∷ x) first ∙ ap (λ (l : List Entry). b ∷ l) rest

-- a log all of whose entries are at their places in another is a prefix of it
pub prefix-by-entries : (x y : List Entry) → length x ≤ length y → ((j : ℕ) → j < length x → entry_at x j ≡ entry_at y j) → IsPrefix x y
prefix-by-entries x [] n f = record { gained = []; is = sym (equal-entries x [] (omega (arith, n)) f) }
prefix-by-entries x (b ∷ y) n f = go (nat_eq (length x) (suc (length y))) refl (λ m. prefix-by-entries x y m (λ j l. f j l ∙ at-older b y j (omega (arith, l, m))))
  where
    go : (t : Bool) → nat_eq (length x) (suc (length y)) ≡ t → (length x ≤ length y → IsPrefix x y) → IsPrefix x (b ∷ y)
    go true q older =
        let m : length x ≡ suc (length y) = grind (arith, nat_tests) in
        record { gained = []; is = sym (equal-entries x (b ∷ y) (omega (arith, m)) f) }
    go false q older =
        let m : length x ≤ length y = grind (arith, nat_tests) in
        let p = older m in
        record { gained = b ∷ p.gained; is = ap (λ (l : List Entry). b ∷ l) p.is }

-- what holds of each element holds of the one at a place
pub each-there : {A : Type 0} (P : A → Type 0) (xs : List A) (n : ℕ) (x : A) → Each P xs → slice_get xs n ≡ Some x → P x
each-there P [] n x f e = absurd (cc)
each-there P (y ∷ xs) zero x f e = let q : y ≡ x = cc in subst P q f.0
each-there P (y ∷ xs) (suc n) x f e = each-there P xs n x f.1 e
