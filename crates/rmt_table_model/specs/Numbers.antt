-- The block numbers of a table: which partitions exist, the number that each gives next, and the locks on numbers.
-- ClickHouse documentation, Data Replication: block numbers. That one counter serves inserts, mutations and drops is this
-- program's own.
use Rattle.std.specs.Prelude.{◌≡◌, ℕ, ◌+◌, ◌<◌, ◌≤◌, ◌&&◌, cond, nat_eq, nat_lt, List, [], ◌∷◌}
use Rattle.std.specs.declared.option.Option.{Option}
use Rattle.std.specs.declared.option.Option.TheVariants.{Some, None}
use Rattle.rmt_names.specs.Names.{rank}
use Rattle.rmt_model.specs.Words.{Has, Pairwise}

-- the partitions that exist, each with the number that it gives next, in order
abbrev pub Nexts : Type 0
Nexts = List (Option ℕ × ℕ)

-- the session that holds the lock on a number of a partition, where there is one
abbrev pub Holders : Type 0
Holders = Option ℕ → ℕ → Option ℕ

-- a number of a partition is taken by a block in flight
abbrev pub IsLocked : Holders → Option ℕ → ℕ → Type 0
IsLocked holders p n = (s : ℕ) × (holders p n ≡ Some s)

-- the partition exists, and gives only greater numbers
abbrev pub IsPast : Nexts → Option ℕ → ℕ → Type 0
IsPast next p n = (m : ℕ) × Has next (p, m) × (n < m)

-- the number that a partition gives next; none where it doesn't exist
abbrev pub next_of : Nexts → Option ℕ → Option ℕ
next_of [] p = None
next_of (x ∷ xs) p = cond (nat_eq (rank x.0) (rank p)) (Some x.1) (next_of xs p)

-- the partitions after a number of p was taken, which exists from then on
abbrev pub taken : Nexts → Option ℕ → Nexts
taken [] p = (p, 1) ∷ []
taken (x ∷ xs) p =
    cond (nat_lt (rank x.0) (rank p)) (x ∷ taken xs p)
    (cond (nat_eq (rank x.0) (rank p)) ((x.0, x.1 + 1) ∷ xs) ((p, 1) ∷ x ∷ xs))

-- the locks with one more, held by session s
abbrev pub locked : Holders → Option ℕ → ℕ → ℕ → Holders
locked holders p n s q m = cond (nat_eq (rank q) (rank p) && nat_eq m n) (Some s) (holders q m)

-- the locks without this one
abbrev pub unlocked : Holders → Option ℕ → ℕ → Holders
unlocked holders p n q m = cond (nat_eq (rank q) (rank p) && nat_eq m n) None (holders q m)

-- the locks without those of p below n
abbrev pub unlocked_below : Holders → Option ℕ → ℕ → Holders
unlocked_below holders p n q m = cond (nat_eq (rank q) (rank p) && nat_lt m n) None (holders q m)

-- an owner that isn't the session
abbrev pub owner_but : ℕ → Option ℕ → Option ℕ
owner_but s None = None
owner_but s (Some t) = cond (nat_eq t s) None (Some t)

-- the locks without those of a session
abbrev pub unlocked_by : Holders → ℕ → Holders
unlocked_by holders s q m = owner_but s (holders q m)

-- the partitions stand in order, each once, and each has given a number
pub record AreNexts (next : Nexts) : Type 0 where
  pub rising : Pairwise (λ x y. rank x.0 < rank y.0) next
  pub begun : (p : Option ℕ) (m : ℕ) → Has next (p, m) → 1 ≤ m
