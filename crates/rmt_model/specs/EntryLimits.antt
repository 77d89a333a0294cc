-- How many entries of a kind a log has, and the limits that one more would pass.
-- No public source: the limits are this program's own.
use Rattle.std.specs.Prelude.{ℕ, ◌+◌, ◌&&◌, Bool, true, false, not, cond, nat_eq, nat_lt, nat_le, List, [], ◌∷◌, length, count_by}
use Rattle.std.specs.declared.option.Option.{Option}
use Rattle.std.specs.declared.option.Option.TheVariants.{Some, None}
use Rattle.rmt_values.specs.declared.limit.Limit.{Limit}
use Rattle.rmt_values.specs.declared.limit.Limit.TheVariants as limits
use Rattle.rmt_entries.specs.declared.entry.Entry.{Entry}
use Rattle.rmt_entries.specs.declared.entry.Entry.TheVariants.{Get, Merge, Mutate, Mutation, DropRange}
use Rattle.rmt_model.specs.Lawful.{mutation_count}
use Rattle.rmt_model.specs.BlockNumbers.{next_number}

-- the entry is of a client
abbrev pub is_client : Entry → Bool
is_client (Get p n digest source need) = true
is_client (Mutation id numbers command) = true
is_client (DropRange p n) = true
is_client (Merge name sources count) = false
is_client (Mutate old name upto count mcount) = false

-- how many entries of clients the log has
abbrev pub client_count : List Entry → ℕ
client_count log = count_by is_client log

-- how many entries of background work the log has
abbrev pub worker_count : List Entry → ℕ
worker_count log = count_by (λ e. not (is_client e)) log

-- the limit that one more entry of a client would pass, and its count as it stands
abbrev pub client_limit : List Entry → Option (Limit × ℕ)
client_limit log = cond (nat_le 32768 (client_count log)) (Some (limits.ClientEntries, client_count log)) None

-- the limit that one more entry of background work would pass
abbrev pub worker_limit : List Entry → Option (Limit × ℕ)
worker_limit log = cond (nat_le 32768 (worker_count log)) (Some (limits.WorkerEntries, worker_count log)) None

-- the first limit that one more number of p for a block would pass
abbrev pub allocate_limit : List (Option ℕ × ℕ) → List Entry → Option ℕ → Option (Limit × ℕ)
allocate_limit next log p =
    cond (nat_eq (next_number next p) 0 && nat_le 1024 (length next)) (Some (limits.Partitions, length next))
    (cond (nat_le 65536 (next_number next p)) (Some (limits.Numbers, next_number next p)) (client_limit log))

-- the first limit that one more block of so many values would pass, where so many are held
abbrev pub commit_limit : List Entry → ℕ → ℕ → Option (Limit × ℕ)
commit_limit log held values =
    cond (nat_le 32768 (client_count log)) (Some (limits.ClientEntries, client_count log))
    (cond (nat_lt 8388608 (held + values)) (Some (limits.Values, held)) None)

-- the first limit that one more number in each partition would pass
abbrev pub numbers_limit : List (Option ℕ × ℕ) → List Entry → Option (Limit × ℕ)
numbers_limit [] log = client_limit log
numbers_limit (x ∷ next) log = cond (nat_le 65536 x.1) (Some (limits.Numbers, x.1)) (numbers_limit next log)

-- the first limit that one more mutation would pass
abbrev pub mutation_limit : List (Option ℕ × ℕ) → List Entry → Option (Limit × ℕ)
mutation_limit next log = cond (nat_le 1024 (mutation_count log)) (Some (limits.Mutations, mutation_count log)) (numbers_limit next log)

-- the first limit that one more drop of p would pass
abbrev pub drop_limit : List (Option ℕ × ℕ) → List Entry → Option ℕ → Option (Limit × ℕ)
drop_limit next log p = cond (nat_le 65536 (next_number next p)) (Some (limits.Numbers, next_number next p)) (client_limit log)
