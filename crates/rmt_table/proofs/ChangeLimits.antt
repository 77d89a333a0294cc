-- The limits of a mutation and of a drop, from what a table keeps.
use Rattle.std.proofs.Common.{◌≡◌, ℕ, ◌<◌, ◌≤◌, inl, inr, Bool, true, false, cond, List, [], ◌∷◌, refl, sym, ap, arith, ◌∙◌, nat_le}
use Rattle.std.proofs.lemmas.Bool.Decides.{nat_tests}
use Rattle.std.specs.Option.{option_map}
use Rattle.std.specs.declared.option.Option.{Option}
use Rattle.std.specs.declared.option.Option.TheVariants.{Some, None}
use Rattle.rmt_values.specs.declared.limit.Limit.{Limit}
use Rattle.rmt_values.specs.declared.limit.Limit.TheVariants as limits
use Rattle.rmt_entries.specs.declared.entry.Entry.{Entry}
use Rattle.rmt_model.specs.Words.{Has}
use Rattle.rmt_model.specs.Lawful.{mutation_count}
use Rattle.rmt_model.specs.EntryLimits.{client_count, client_limit, numbers_limit, mutation_limit, drop_limit}
use Rattle.rmt_model.specs.BlockNumbers.{next_number}
use Rattle.rmt_partitions.specs.NumbersInOrder.{first_at}
use Rattle.rmt_table_model.specs.Numbers.{Nexts}
use Rattle.rmt_table.specs.declared.change_error.ChangeError.{ChangeError}
use Rattle.rmt_table.specs.declared.change_error.ChangeError.TheVariants.{LimitReached}

-- a limit as the error of a change
abbrev pub limit_error : Option (Limit × ℕ) → Option ChangeError
limit_error o = option_map (λ l. LimitReached l.0 l.1) o

pub no-error : (o : Option (Limit × ℕ)) → limit_error o ≡ None → o ≡ None
no-error None e = refl
no-error (Some l) e = absurd (cc)

pub error-limit : (o : Option (Limit × ℕ)) (limit : Limit) (value : ℕ) → limit_error o ≡ Some (LimitReached limit value) → o ≡ Some (limit, value)
error-limit None limit value e = absurd (cc)
error-limit (Some l) limit value e =
    let a : l.0 ≡ limit = cc in
    let b : l.1 ≡ value = cc in
    ap (λ (x : Limit). Some (x, l.1)) a ∙ ap (λ (n : ℕ). Some (limit, n)) b

pub limit-is : (o : Option (Limit × ℕ)) (limit : Limit) (n value : ℕ) → value ≡ n → o ≡ Some (limit, n) → Some (LimitReached limit value) ≡ limit_error o
limit-is o limit n value e f = ap (λ (m : ℕ). Some (LimitReached limit m)) e ∙ sym (ap limit_error f)

none-split : {A : Type 0} (b : Bool) (x : A) (rest : Option A) → cond b (Some x) rest ≡ None → (b ≡ false) × (rest ≡ None)
none-split true x rest e = absurd (cc)
none-split false x rest e = (refl, e)

past : {A : Type 0} (b : Bool) (x : A) (rest : Option A) → b ≡ false → cond b (Some x) rest ≡ rest
past b x rest e = ap (λ (c : Bool). cond c (Some x) rest) e

met : {A : Type 0} (b : Bool) (x : A) (rest : Option A) → b ≡ true → cond b (Some x) rest ≡ Some x
met b x rest e = ap (λ (c : Bool). cond c (Some x) rest) e

below : (limit n : ℕ) → nat_le limit n ≡ false → n < limit
below limit n e = grind (arith, nat_tests)

test-below : (limit n : ℕ) → n < limit → nat_le limit n ≡ false
test-below limit n l = grind (arith, nat_tests)

test-from : (limit n : ℕ) → limit ≤ n → nat_le limit n ≡ true
test-from limit n l = grind (arith, nat_tests)

-- ---- entries of clients

pub clients-met : (log : List Entry) → 32768 ≤ client_count log → client_limit log ≡ Some (limits.ClientEntries, client_count log)
clients-met log l = met (nat_le 32768 (client_count log)) (limits.ClientEntries, client_count log) None (test-from 32768 (client_count log) l)

pub clients-free : (log : List Entry) → client_count log < 32768 → client_limit log ≡ None
clients-free log l = past (nat_le 32768 (client_count log)) (limits.ClientEntries, client_count log) None (test-below 32768 (client_count log) l)

-- ---- the numbers of all partitions

number-met : (xs : Nexts) (log : List Entry) (n : ℕ) → first_at 65536 xs ≡ Some n → numbers_limit xs log ≡ Some (limits.Numbers, n)
number-met [] log n e = absurd (cc)
number-met (x ∷ xs) log n e = go (nat_le 65536 x.1) e (number-met xs log n)
  where
    go : (b : Bool) → cond b (Some x.1) (first_at 65536 xs) ≡ Some n → (first_at 65536 xs ≡ Some n → numbers_limit xs log ≡ Some (limits.Numbers, n)) → cond b (Some (limits.Numbers, x.1)) (numbers_limit xs log) ≡ Some (limits.Numbers, n)
    go true e f = let i : x.1 ≡ n = cc in ap (λ (m : ℕ). Some (limits.Numbers, m)) i
    go false e f = f e

numbers-past : (xs : Nexts) (log : List Entry) → first_at 65536 xs ≡ None → numbers_limit xs log ≡ client_limit log
numbers-past [] log e = refl
numbers-past (x ∷ xs) log e = let s = none-split (nat_le 65536 x.1) x.1 (first_at 65536 xs) e in past (nat_le 65536 x.1) (limits.Numbers, x.1) (numbers_limit xs log) s.0 ∙ numbers-past xs log s.1

numbers-below : (xs : Nexts) (log : List Entry) → numbers_limit xs log ≡ None → ((p : Option ℕ) (m : ℕ) → Has xs (p, m) → m < 65536) × (client_limit log ≡ None)
numbers-below [] log e = (λ p m h. absurd h, e)
numbers-below (x ∷ xs) log e =
    let s = none-split (nat_le 65536 x.1) (limits.Numbers, x.1) (numbers_limit xs log) e in
    let r = numbers-below xs log s.1 in
    let l = below 65536 x.1 s.0 in
    (λ p m h. go p m l (r.0 p m) h, r.1)
  where
    go : (p : Option ℕ) (m : ℕ) → x.1 < 65536 → (Has xs (p, m) → m < 65536) → Has (x ∷ xs) (p, m) → m < 65536
    go p m l f (inl q) = let w : x.1 ≡ m = ap (λ (y : Option ℕ × ℕ). y.1) q in omega (arith, w, l)
    go p m l f (inr g) = f g

-- ---- a mutation

mutations-past : (xs : Nexts) (log : List Entry) → mutation_count log < 1024 → mutation_limit xs log ≡ numbers_limit xs log
mutations-past xs log l = past (nat_le 1024 (mutation_count log)) (limits.Mutations, mutation_count log) (numbers_limit xs log) (test-below 1024 (mutation_count log) l)

pub mutation-number : (xs : Nexts) (log : List Entry) (n : ℕ) → mutation_count log < 1024 → first_at 65536 xs ≡ Some n → mutation_limit xs log ≡ Some (limits.Numbers, n)
mutation-number xs log n l e = mutations-past xs log l ∙ number-met xs log n e

pub mutation-clients : (xs : Nexts) (log : List Entry) → mutation_count log < 1024 → first_at 65536 xs ≡ None → mutation_limit xs log ≡ client_limit log
mutation-clients xs log l e = mutations-past xs log l ∙ numbers-past xs log e

-- what is so where no limit is reached
pub mutation-free : (xs : Nexts) (log : List Entry) → mutation_limit xs log ≡ None → (mutation_count log < 1024) × ((p : Option ℕ) (m : ℕ) → Has xs (p, m) → m < 65536) × (client_count log < 32768)
mutation-free xs log e =
    let s = none-split (nat_le 1024 (mutation_count log)) (limits.Mutations, mutation_count log) (numbers_limit xs log) e in
    let r = numbers-below xs log s.1 in
    let c = none-split (nat_le 32768 (client_count log)) (limits.ClientEntries, client_count log) None r.1 in
    (below 1024 (mutation_count log) s.0, r.0, below 32768 (client_count log) c.0)

-- ---- a drop

pub drop-free : (xs : Nexts) (log : List Entry) (p : Option ℕ) → drop_limit xs log p ≡ None → (next_number xs p < 65536) × (client_count log < 32768)
drop-free xs log p e =
    let s = none-split (nat_le 65536 (next_number xs p)) (limits.Numbers, next_number xs p) (client_limit log) e in
    let c = none-split (nat_le 32768 (client_count log)) (limits.ClientEntries, client_count log) None s.1 in
    (below 65536 (next_number xs p) s.0, below 32768 (client_count log) c.0)
