-- The next block number of each partition that exists.
-- ClickHouse documentation, Data Replication: block numbers. That inserts, mutations and drops take numbers of one sequence is
-- this program's own.
use Rattle.std.specs.Prelude.{ℕ, ◌+◌, cond, nat_eq, nat_lt, List, [], ◌∷◌}
use Rattle.std.specs.declared.option.Option.{Option}
use Rattle.rmt_names.specs.Names.{rank}

-- the next number of a partition, 0 before it exists
abbrev pub next_number : List (Option ℕ × ℕ) → Option ℕ → ℕ
next_number [] p = 0
next_number (x ∷ xs) p = cond (nat_eq (rank x.0) (rank p)) x.1 (next_number xs p)

-- the next numbers with another one for one partition, which exists then
abbrev pub with_next : List (Option ℕ × ℕ) → Option ℕ → ℕ → List (Option ℕ × ℕ)
with_next [] p n = (p, n) ∷ []
with_next (x ∷ xs) p n =
    cond (nat_lt (rank x.0) (rank p)) (x ∷ with_next xs p n) (cond (nat_eq (rank x.0) (rank p)) ((p, n) ∷ xs) ((p, n) ∷ x ∷ xs))

-- the next numbers once one number was taken in each partition
abbrev pub next_numbers_after : List (Option ℕ × ℕ) → List (Option ℕ × ℕ)
next_numbers_after [] = []
next_numbers_after (x ∷ xs) = (x.0, x.1 + 1) ∷ next_numbers_after xs
