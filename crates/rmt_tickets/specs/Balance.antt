-- The rule of the ticket queue, over what it holds and what each pass knows.
-- No public clause cites this module.
use Rattle.std.specs.Prelude.{◌≡◌, ℕ, ◌+◌, true, List, [], ◌∷◌, ◌++◌, ⊤}
use mathlib.Core.Option.{some}
use lib.ListN.{get_elem?}
use Rattle.rmt_tickets.specs.declared.ticket.Ticket.{Ticket}
use Rattle.rmt_tickets.specs.declared.rule.PassMoves.{PassMoves}
use Rattle.rmt_tickets.specs.Tickets.{moves, in_range, times, total}

-- a pass with no part has put and taken nothing
abbrev pub IdleIsEmpty : List PassMoves → Type 0
IdleIsEmpty views = (port : ℕ) (v : PassMoves) → get_elem? views port ≡ some v → v.parts ≡ 0 → (v.put ≡ []) × (v.taken ≡ [])

-- the queue has only tickets of the tables and replicas that there may be
abbrev pub AreInRange : List Ticket → Type 0
AreInRange [] = ⊤
AreInRange (t ∷ ts) = (in_range t ≡ true) × AreInRange ts

-- each ticket was put as often as it was taken and is in the queue
abbrev pub Balanced : List Ticket → List PassMoves → Type 0
Balanced items views =
    (total (λ v. v.parts) views ≡ 8)
    × ((t : Ticket) → total (λ v. times t v.put) views ≡ total (λ v. times t v.taken) views + times t items)
    × IdleIsEmpty views
    × AreInRange items

-- what two passes put and took
abbrev pub both : PassMoves → PassMoves → PassMoves
both v w = moves (v.parts + w.parts) (v.put ++ w.put) (v.taken ++ w.taken)

-- the pass put each ticket as often as it took it and the queue has it
abbrev pub IsWhole : PassMoves → List Ticket → Type 0
IsWhole v items = (t : Ticket) → times t v.put ≡ times t v.taken + times t items
