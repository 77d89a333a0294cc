-- A log with one more token.
use Rattle.std.proofs.Common.{◌≡◌, ℕ, zero, suc, ◌+◌, ◌<◌, ◌≤◌, cond, not, List, [], ◌∷◌, ◌++◌, length, slice_get, slice_index_or, take, refl, sym, subst, arith}
use Rattle.std.proofs.lemmas.List.Sums.{sum_by-cons, length-filter, count_by-le-length}
use Rattle.std.specs.declared.option.Option.TheVariants.{Some}
use Rattle.rmt_row.specs.Token.{Token, IsOf}
use Rattle.rmt_entries.specs.declared.entry.Entry.{Entry}
use Rattle.rmt_entries.specs.declared.entry.Entry.TheVariants.{Get, Merge, Mutate, Mutation, DropRange}
use Rattle.rmt_model.specs.Lawful.{is_mutation, mutation_count}
use Rattle.rmt_model.specs.EntryLimits.{is_client, client_count, worker_count}
use Rattle.rmt_names.specs.Names.{block_name}
use Rattle.rmt_table_model.specs.Kept.{outlives, in_order, get_count, is_get}
use Rattle.rmt_table.specs.TableTrees.{ArePlaced, token_in}

-- what holds of each token at its place, where it holds of one more at the end
each-more : (P : ℕ → Token Entry → Type 0) (xs : List (Token Entry)) (t : Token Entry) → ((i : ℕ) (u : Token Entry) → slice_get xs i ≡ Some u → P i u) → P (length xs) t
    → (i : ℕ) (u : Token Entry) → slice_get (xs ++ t ∷ []) i ≡ Some u → P i u
each-more P [] t f p zero u e = let q : t ≡ u = cc in subst (P 0) q p
each-more P [] t f p (suc i) u e = absurd (cc)
each-more P (x ∷ xs) t f p zero u e = f zero u e
each-more P (x ∷ xs) t f p (suc i) u e = each-more (λ j v. P (suc j) v) xs t (λ j v g. f (suc j) v g) p i u e

-- each token is at its place, one more too
pub placed-more : (row : List ℕ) (tokens : List (Token Entry)) (t : Token Entry) → ArePlaced row tokens → t.place ≡ length tokens → IsOf row t → ArePlaced row (tokens ++ t ∷ [])
placed-more row tokens t are at of = record {
  cells = are.cells;
  each = each-more (λ i u. (u.place ≡ i) × IsOf row u) tokens t are.each (at, of);
}

-- what a list has at a place, as the token of the cell there tells it
pub cell-there : (row : List ℕ) (i : ℕ) → i < length row → slice_get row i ≡ Some (slice_index_or row i 0)
cell-there [] i l = absurd (omega (arith, l))
cell-there (x ∷ row) zero l = refl
cell-there (x ∷ row) (suc i) l = cell-there row i (omega (arith, l))

-- so the next token is of the row
pub next-of-row : (row : List ℕ) (i : ℕ) (e : Entry) (t : Token Entry) → i < length row → t ≡ token_in row i e → IsOf row t
next-of-row row i e t l q = subst (IsOf row) (sym q) (cell-there row i l)

-- the counts of a log with one more entry
pub clients-next : (e : Entry) (log : List Entry) → client_count (e ∷ log) ≡ cond (is_client e) 1 0 + client_count log
clients-next e log = sum_by-cons (λ x. cond (is_client x) 1 0) e log

pub workers-next : (e : Entry) (log : List Entry) → worker_count (e ∷ log) ≡ cond (not (is_client e)) 1 0 + worker_count log
workers-next e log = sum_by-cons (λ x. cond (not (is_client x)) 1 0) e log

pub mutations-next : (e : Entry) (log : List Entry) → mutation_count (e ∷ log) ≡ cond (is_mutation e) 1 0 + mutation_count log
mutations-next e log = sum_by-cons (λ x. cond (is_mutation x) 1 0) e log

pub blocks-next : (e : Entry) (log : List Entry) → get_count (e ∷ log) ≡ cond (is_get e) 1 0 + get_count log
blocks-next e log = sum_by-cons (λ x. cond (is_get x) 1 0) e log

take-most : {A : Type 0} (w : ℕ) (xs : List A) → length (take w xs) ≤ w
take-most zero xs = omega arith
take-most (suc w) [] = omega arith
take-most (suc w) (x ∷ xs) = let l = take-most w xs in omega (arith, l)

-- no more ids are kept than the window has
pub window-most : (w : ℕ) (log : List Entry) → length (in_order w log) ≤ w
window-most w [] = omega arith
window-most w (Get p n digest source need ∷ log) = take-most w (record { number = get_count log; kept = record { digest = digest; part = block_name p n } } ∷ in_order w log)
window-most w (Merge new sources count ∷ log) = window-most w log
window-most w (Mutate old new upto count mcount ∷ log) = window-most w log
window-most w (Mutation id numbers command ∷ log) = window-most w log
window-most w (DropRange p n ∷ log) = let l = window-most w log in let f = length-filter (outlives p n) (in_order w log) in let c = count_by-le-length (outlives p n) (in_order w log) in omega (arith, l, f, c)
