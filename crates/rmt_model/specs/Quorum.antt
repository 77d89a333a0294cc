-- Quorum inserts: the part that is pending with the replicas that have noted it, and the last one that was met.
-- ClickHouse documentation, Data Replication: insert_quorum. That a drop clears both is this program's own.
use Rattle.std.specs.Prelude.{◌≡◌, ◌⊎◌, ℕ, ◌<◌, ◌&&◌, Bool, cond, nat_eq, nat_lt, nat_le, List, [], ◌∷◌, length}
use Rattle.std.specs.declared.option.Option.{Option}
use Rattle.std.specs.declared.option.Option.TheVariants.{Some, None}
use Rattle.rmt_names.specs.Names.{Name, rank, block_name}
use Rattle.rmt_entries.specs.declared.entry.Entry.{Entry}
use Rattle.rmt_entries.specs.declared.entry.Entry.TheVariants.{Get, Merge, Mutate, Mutation, DropRange}
use Rattle.rmt_model.specs.Words.{Pairwise}
use Rattle.rmt_model.specs.Live.{Dropped}

-- a part that a quorum was asked for, and how many replicas
pub record QuorumBlock : Type 0 where
  pub part : Name
  pub need : ℕ

-- the part that is pending, how many replicas it needs, and those that have noted it, rising
pub record Pending : Type 0 where
  pub part : Name
  pub need : ℕ
  pub noted : List ℕ

-- the part that is pending, and the last one whose quorum was met
pub record Quorum : Type 0 where
  pub pending : Option Pending
  pub last : Option Name

-- the blocks of a log that ask for a quorum, the newest first
abbrev pub quorum_blocks : List Entry → List QuorumBlock
quorum_blocks [] = []
quorum_blocks (Get p n digest source need ∷ log) = cond (nat_le 2 need) (record { part = block_name p n; need = need } ∷ quorum_blocks log) (quorum_blocks log)
quorum_blocks (Merge new sources count ∷ log) = quorum_blocks log
quorum_blocks (Mutate old new upto count mcount ∷ log) = quorum_blocks log
quorum_blocks (Mutation id numbers command ∷ log) = quorum_blocks log
quorum_blocks (DropRange p n ∷ log) = quorum_blocks log

-- the pending part is the last one that was asked for, isn't dropped, and too few replicas have noted it; the others, which
-- aren't pending, are these
abbrev pub IsPending : List Entry → Option Pending → List QuorumBlock → Type 0
IsPending log None others = quorum_blocks log ≡ others
IsPending log (Some q) others =
    (quorum_blocks log ≡ record { part = q.part; need = q.need } ∷ others) × (Dropped log q.part → ⊥) × (length q.noted < q.need) × Pairwise ◌<◌ q.noted

-- the last one is among those that aren't pending and isn't dropped, and each later one is dropped
abbrev pub IsLast : List Entry → List QuorumBlock → Option Name → Type 0
IsLast log others None = Unit {0}
IsLast log [] (Some a) = ⊥
IsLast log (x ∷ others) (Some a) =
    ((x.part ≡ a) × (Dropped log a → ⊥)) ⊎ (Dropped log x.part × IsLast log others (Some a))

-- where the newest of those that aren't pending isn't dropped, it is the last one
abbrev pub IsNewest : List Entry → List QuorumBlock → Option Name → Type 0
IsNewest log [] last = Unit {0}
IsNewest log (x ∷ others) last = (Dropped log x.part → ⊥) → last ≡ Some x.part

-- what a table has of its quorum inserts
pub record IsQuorum (log : List Entry) (q : Quorum) : Type 0 where
  pub others : List QuorumBlock
  pub pending : IsPending log q.pending others
  pub last : IsLast log others q.last
  pub newest : IsNewest log others q.last

-- a part lies in a drop's range
abbrev pub is_dropped_by : Option ℕ → ℕ → Name → Bool
is_dropped_by p n a = nat_eq (rank p) (rank a.partition) && nat_lt a.max n

-- the pending part after a drop of the numbers below n of p
abbrev pub pending_after_drop : Option ℕ → ℕ → Option Pending → Option Pending
pending_after_drop p n None = None
pending_after_drop p n (Some q) = cond (is_dropped_by p n q.part) None (Some q)

-- the last part after that drop
abbrev pub last_after_drop : Option ℕ → ℕ → Option Name → Option Name
last_after_drop p n None = None
last_after_drop p n (Some a) = cond (is_dropped_by p n a) None (Some a)

-- the quorum after a drop of the numbers below n of p
abbrev pub quorum_after_drop : Option ℕ → ℕ → Quorum → Quorum
quorum_after_drop p n q = record { pending = pending_after_drop p n q.pending; last = last_after_drop p n q.last }

-- the quorum after a block that asks for `need` replicas; fewer than 2 ask for none
abbrev pub quorum_after_block : Name → ℕ → Quorum → Quorum
quorum_after_block a need q = record { pending = cond (nat_le 2 need) (Some (record { part = a; need = need; noted = [] })) q.pending; last = q.last }

-- a replica at its place among those that have noted
abbrev pub noted_with : ℕ → List ℕ → List ℕ
noted_with r [] = r ∷ []
noted_with r (x ∷ xs) = cond (nat_lt x r) (x ∷ noted_with r xs) (cond (nat_eq x r) (x ∷ xs) (r ∷ x ∷ xs))

-- the quorum after one more replica has noted the pending part: with enough of them it is met
abbrev pub quorum_noted : Pending → List ℕ → Option Name → Quorum
quorum_noted q noted last = cond (nat_lt (length noted) q.need)
    (record { pending = Some (record { part = q.part; need = q.need; noted = noted }); last = last })
    (record { pending = None; last = Some q.part })

-- the quorum after a note of replica r, where a part is pending
abbrev pub noted_by : ℕ → Quorum → Option Pending → Quorum
noted_by r q None = q
noted_by r q (Some pending) = quorum_noted pending (noted_with r pending.noted) q.last

-- the quorum after a note of replica r
abbrev pub quorum_after_note : ℕ → Quorum → Quorum
quorum_after_note r q = noted_by r q q.pending
