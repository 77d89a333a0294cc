-- Tickets, how often each was put and taken, and what a worker's turn changes.
-- crossbeam-queue documentation, ArrayQueue: a value that was pushed is popped once.
use Rattle.std.specs.Prelude.{◌≡◌, ◌≢◌, ◌⊎◌, ℕ, zero, suc, ◌+◌, ◌-◌, ◌*◌, ◌^◌, ◌&&◌, cond, nat_eq, nat_lt, Bool, List, [], ◌∷◌, ◌++◌, length, replicate, slice_index, Result, Ok, Err, ⊤}
use Rattle.std.specs.List.{All}
use Rattle.std.specs.declared.alloc.AllocError.{AllocError}
use Rattle.rmt_tickets.specs.declared.ticket.Ticket.{Ticket}
use Rattle.rmt_tickets.specs.declared.rule.PassMoves.{PassMoves}
use Rattle.rmt_tickets.specs.declared.served.Served.{Served}
use Rattle.rmt_tickets.specs.declared.served.Served.TheVariants as served
use Rattle.rmt_tickets.specs.declared.turn.Turn.{Turn}
use Rattle.rmt_tickets.specs.declared.turn.Turn.TheVariants.{Ended, Idle, Worked, OutOfMemory}

-- ---- tickets

-- the ticket of a table and a replica
abbrev pub ticket : ℕ → ℕ → Ticket
ticket table replica = record { table = table; replica = replica }

-- both are of one table and one replica
abbrev pub is_ticket : Ticket → Ticket → Bool
is_ticket t u = nat_eq t.table u.table && nat_eq t.replica u.replica

-- a queue may have it
abbrev pub in_range : Ticket → Bool
in_range t = nat_lt t.table 4 && nat_lt t.replica 8

-- one where the test holds, and else nothing
abbrev pub one_if : Bool → ℕ
one_if test = cond test 1 0

-- how often a ticket is in a list
abbrev pub times : Ticket → List Ticket → ℕ
times t [] = 0
times t (u ∷ us) = one_if (is_ticket t u) + times t us

-- the sum of what f makes of each
abbrev pub total : {X : Type 0} → (X → ℕ) → List X → ℕ
total f [] = 0
total f (x ∷ xs) = f x + total f xs

-- the tickets of a table at so many replicas
abbrev pub row : ℕ → ℕ → List Ticket
row table zero = []
row table (suc replicas) = row table replicas ++ ticket table replicas ∷ []

-- the tickets of so many tables at so many replicas
abbrev pub dealt : ℕ → ℕ → List Ticket
dealt zero replicas = []
dealt (suc tables) replicas = dealt tables replicas ++ row tables replicas

-- ---- what a pass put and took

-- the pass has so many parts of the right to know the whole, and put and took these tickets, in order
abbrev pub moves : ℕ → List Ticket → List Ticket → PassMoves
moves parts put taken = record { parts = parts; put = put; taken = taken }

-- a ticket more was put
abbrev pub with_put : PassMoves → Ticket → PassMoves
with_put v t = moves v.parts (v.put ++ t ∷ []) v.taken

-- a ticket more was taken
abbrev pub with_taken : PassMoves → Ticket → PassMoves
with_taken v t = moves v.parts v.put (v.taken ++ t ∷ [])

-- the last value of a count
abbrev pub LAST : ℕ
LAST = 2 ^ 64 - 1

-- a count of the ticket may grow
abbrev pub HasRoom : Ticket → PassMoves → Type 0
HasRoom t v = (times t v.put ≢ LAST) × (times t v.taken ≢ LAST)

-- a ticket was put or taken as often as can be counted
abbrev pub HasLast : PassMoves → Type 0
HasLast v = (t : Ticket) × ((times t v.put ≡ LAST) ⊎ (times t v.taken ≡ LAST))

-- where the count of a ticket is kept
abbrev pub place_of : Ticket → ℕ
place_of t = t.table * 8 + t.replica

-- the count of a ticket
abbrev pub count_of : List ℕ → Ticket → ℕ
count_of counts t = cond (in_range t) (slice_index counts (place_of t)) 0

-- the counts say how often each ticket is in the list
abbrev pub Counts : List ℕ → List Ticket → Type 0
Counts counts tickets = (length counts ≡ 32) × ((t : Ticket) → count_of counts t ≡ times t tickets)

-- ---- a worker's place

-- what a worker put and took, and which tickets it put before its first turn
pub record Place : Type 0 where
  pub moves : PassMoves
  pub begun : List Ticket

-- the place of a pass, which put so much before its first turn
abbrev pub place : PassMoves → List Ticket → Place
place v begun = record { moves = v; begun = begun }

-- each ticket that was taken was put back, besides those that were put before the first turn
abbrev pub IsEven : PassMoves → List Ticket → Type 0
IsEven v begun = (t : Ticket) → times t v.put ≡ times t v.taken + times t begun

-- so many workers' places as the queue begins: the first has put each ticket, and no other has put or taken any
abbrev pub dealt_to : ℕ → ℕ → ℕ → List Place
dealt_to tables replicas workers =
    place (moves (9 - workers) (dealt tables replicas) []) (dealt tables replicas) ∷ replicate (workers - 1) (place (moves 1 [] []) [])

-- these tickets were taken and put back
abbrev pub after : Place → List Ticket → Place
after p more = place (moves p.moves.parts (p.moves.put ++ more) (p.moves.taken ++ more)) p.begun

-- a turn takes at most one ticket, and puts that ticket back
abbrev pub turned : Place → Turn → Place
turned p Ended = p
turned p Idle = p
turned p (Worked t) = after p (t ∷ [])
turned p (OutOfMemory t) = after p (t ∷ [])

-- the work was called for the ticket, and answered so
abbrev pub Answered : (Ticket → Result ⊤ AllocError → Type 0) → Turn → Type 0
Answered answered Ended = ⊤
Answered answered Idle = ⊤
Answered answered (Worked t) = answered t (Ok tt)
Answered answered (OutOfMemory t) = answered t (Err record {})

-- some tickets were taken, and put back; the work of each answered that all went well
pub record WorksWell (answered : Ticket → Result ⊤ AllocError → Type 0) (old new : Place) : Type 0 where
  pub more : List Ticket
  pub well : All (λ t. answered t (Ok tt)) more
  pub change : new ≡ after old more

-- so it was until a last ticket, whose work answered that no memory was left
pub record RunsOut (answered : Ticket → Result ⊤ AllocError → Type 0) (old : Place) (t : Ticket) (new : Place) : Type 0 where
  pub mid : Place
  pub works : WorksWell answered old mid
  pub ran_out : answered t (Err record {})
  pub change : new ≡ after mid (t ∷ [])

-- what a worker did until it ended: it was told to stop, a count is at its last value, or memory ran out
abbrev pub Serves : (Ticket → Result ⊤ AllocError → Type 0) → Place → Served → Place → Type 0
Serves answered old served.Stopped new = WorksWell answered old new
Serves answered old served.Ended new = WorksWell answered old new × HasLast new.moves
Serves answered old (served.OutOfMemory t) new = RunsOut answered old t new

-- ---- the end

-- how often a ticket was put, in all
abbrev pub all_put : Ticket → List Place → ℕ
all_put t places = total (λ p. times t p.moves.put) places

-- how often a ticket was taken, in all
abbrev pub all_taken : Ticket → List Place → ℕ
all_taken t places = total (λ p. times t p.moves.taken) places

-- how often a ticket was put before the first turns
abbrev pub all_begun : Ticket → List Place → ℕ
all_begun t places = total (λ p. times t p.begun) places

-- The parts of these places. Eight are all of them
abbrev pub all_parts : List Place → ℕ
all_parts places = total (λ p. p.moves.parts) places
