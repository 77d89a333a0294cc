-- INSERT: block by block, until one is refused.
-- ClickHouse documentation, Data Replication: a block that is inserted again is told by its checksum, and is kept once; MergeTree
-- settings, `replicated_deduplication_window`; settings, `insert_quorum`: an INSERT fails where too few replicas are live, and where
-- an earlier one still waits for its quorum. That the window counts the blocks of a table, that there is no timeout, and the limits,
-- are this program's own.
use Rattle.std.specs.Prelude.{◌≡◌, ◌⊎◌, ℕ, ◌+◌, ◌≤◌, Bool, cond, nat_le, nat_lt, List, [], ◌∷◌, length}
use Rattle.std.specs.declared.option.Option.{Option}
use Rattle.std.specs.declared.option.Option.TheVariants.{Some, None}
use Rattle.rmt_values.specs.declared.limit.Limit.{Limit}
use Rattle.rmt_names.specs.Names.{Name, block_name}
use Rattle.rmt_entries.specs.declared.entry.Entry.TheVariants.{Get}
use Rattle.rmt_model.specs.BlockNumbers.{next_number, with_next}
use Rattle.rmt_model.specs.EntryLimits.{allocate_limit, commit_limit}
use Rattle.rmt_model.specs.Quorum.{Pending, quorum_after_block}
use Rattle.rmt_events.specs.Views.{Block}
use Rattle.rmt_events.specs.Clusters.{values_of, values_in}
use Rattle.rmt_reply.specs.declared.piece.Piece.{Piece}
use Rattle.rmt_reply.specs.declared.piece.Piece.TheVariants as pieces
use Rattle.rmt_reply.specs.declared.refusal.Refusal.{Refusal}
use Rattle.rmt_reply.specs.declared.refusal.Refusal.TheVariants.{TooFewLive, QuorumPending, QuorumUnmet, LimitReached}
use Rattle.rmt_statement_model.specs.TableStates.{TableState, gains_at, kept_with}
use Rattle.rmt_statement_model.specs.QuorumCopies.{count_live, Gathers}
use Rattle.rmt_statement_model.specs.Rests.{Rests}

-- what an INSERT asks for: the replica that writes the blocks, and how many replicas each is to be at
pub record Asked : Type 0 where
  pub writer : ℕ
  pub need : ℕ

-- an INSERT at this replica that asks for so many
abbrev pub asked_at : ℕ → ℕ → Asked
asked_at r need = record { writer = r; need = need }

-- the next number of the block's partition
abbrev pub number_for : TableState → Block → ℕ
number_for t b = next_number t.next b.partition

-- the name of the block's part under that number
abbrev pub part_for : TableState → Block → Name
part_for t b = block_name b.partition (number_for t b)

-- the table, that number taken
abbrev pub with_number : TableState → Block → TableState
with_number t b = record t { next = with_next t.next b.partition (number_for t b + 1) }

-- the table with the block as its newest, under the next number of its partition: it is known at its writer, and its part waits
-- for its quorum where one is asked for
abbrev pub with_block : TableState → Asked → Block → TableState
with_block t a b =
    gains_at a.writer (Get b.partition (number_for t b) b.digest a.writer a.need)
    (record (with_number t b) { blocks = record { partition = b.partition; number = number_for t b; rows = b.rows } ∷ t.blocks; quorum = quorum_after_block (part_for t b) a.need t.quorum })

-- the block goes in, and the copies are made that its quorum asks for, where these replicas are up
abbrev pub GathersBlock : Bool → (ℕ → Bool) → TableState → Asked → Block → TableState → Type 0
GathersBlock workers up t a b u = Gathers workers a.need up a.writer (length t.log) (with_block t a b) u

-- the limit that one more number of the block's partition would pass, and its count as it stands
abbrev pub number_limit : TableState → Block → Option (Limit × ℕ)
number_limit t b = allocate_limit t.next t.log b.partition

-- the limit that the block would pass once it has its number
abbrev pub block_limit : TableState → Block → Option (Limit × ℕ)
block_limit t b = commit_limit t.log (values_in t.schema t.blocks) (values_of t.schema b.rows)

-- the refusal of a quorum while a part waits for its own
abbrev pub refused_waiting : Option Pending → Option Refusal
refused_waiting None = None
refused_waiting (Some q) = Some (QuorumPending q.part)

-- why a block is refused before all else: fewer replicas are up than it needs, or it asks for a quorum and a part waits for its own
abbrev pub quorum_refusal : (ℕ → Bool) → TableState → ℕ → Option Refusal
quorum_refusal up t need =
    cond (nat_lt (count_live up) need) (Some (TooFewLive (count_live up) need)) (cond (nat_le 2 need) (refused_waiting t.quorum.pending) None)

-- the block may be tried: no quorum keeps it out, and its id isn't kept
pub record IsNew (up : ℕ → Bool) (t : TableState) (a : Asked) (b : Block) : Type 0 where
  pub quorum : quorum_refusal up t a.need ≡ None
  pub unkept : kept_with t b ≡ None

-- the block is accepted: it passes no limit, its part is named by the next number, and its quorum is met where it asks for one
pub record Accepts (workers : Bool) (up : ℕ → Bool) (t : TableState) (a : Asked) (b : Block) (piece : Piece) (u : TableState) : Type 0 where
  pub is_new : IsNew up t a b
  pub number : number_limit t b ≡ None
  pub room : block_limit t b ≡ None
  pub met : 2 ≤ a.need → u.quorum.pending ≡ None
  pub reply : piece ≡ pieces.Part (part_for t b)
  pub gathers : GathersBlock workers up t a b u

-- the block's id is kept: the answer is the part that it is kept with, and nothing changes
pub record Repeats (up : ℕ → Bool) (t : TableState) (a : Asked) (b : Block) (piece : Piece) (u : TableState) : Type 0 where
  pub quorum : quorum_refusal up t a.need ≡ None
  pub part : Name
  pub kept : kept_with t b ≡ Some part
  pub reply : piece ≡ pieces.Duplicate part
  pub unchanged : u ≡ t

-- a block whose id is kept answers the part that it is kept with; another one is accepted
abbrev pub Inserts : Bool → (ℕ → Bool) → TableState → Asked → Block → Piece → TableState → Type 0
Inserts workers up t a b piece u = Accepts workers up t a b piece u ⊎ Repeats up t a b piece u

-- too few replicas are up for the block, or a part waits for its quorum; nothing changes
pub record LacksQuorum (up : ℕ → Bool) (t : TableState) (a : Asked) (refusal : Refusal) (u : TableState) : Type 0 where
  pub reply : quorum_refusal up t a.need ≡ Some refusal
  pub unchanged : u ≡ t

-- the block is new, and gets no number; nothing changes
pub record LacksNumber (up : ℕ → Bool) (t : TableState) (a : Asked) (b : Block) (refusal : Refusal) (u : TableState) : Type 0 where
  pub is_new : IsNew up t a b
  pub limit : Limit
  pub value : ℕ
  pub reached : number_limit t b ≡ Some (limit, value)
  pub reply : refusal ≡ LimitReached limit value
  pub unchanged : u ≡ t

-- the block is new, and there is no room for it; its number is used up
pub record LacksRoom (up : ℕ → Bool) (t : TableState) (a : Asked) (b : Block) (refusal : Refusal) (u : TableState) : Type 0 where
  pub is_new : IsNew up t a b
  pub number : number_limit t b ≡ None
  pub limit : Limit
  pub value : ℕ
  pub reached : block_limit t b ≡ Some (limit, value)
  pub reply : refusal ≡ LimitReached limit value
  pub change : u ≡ with_number t b

-- the block is in, and its part waits for its quorum still: so many replicas have noted it
pub record LacksCopies (workers : Bool) (up : ℕ → Bool) (t : TableState) (a : Asked) (b : Block) (refusal : Refusal) (u : TableState) : Type 0 where
  pub is_new : IsNew up t a b
  pub number : number_limit t b ≡ None
  pub room : block_limit t b ≡ None
  pub asked : 2 ≤ a.need
  pub waiting : Pending
  pub waits : u.quorum.pending ≡ Some waiting
  pub reply : refusal ≡ QuorumUnmet (length waiting.noted) a.need
  pub gathers : GathersBlock workers up t a b u

-- the block is refused: for its quorum, or for a limit
abbrev pub Refuses : Bool → (ℕ → Bool) → TableState → Asked → Block → Refusal → TableState → Type 0
Refuses workers up t a b refusal u =
    LacksQuorum up t a refusal u ⊎ (LacksNumber up t a b refusal u ⊎ (LacksRoom up t a b refusal u ⊎ LacksCopies workers up t a b refusal u))

-- the table rests, and then the block answers a piece of the reply
pub record InsertsLater (workers : Bool) (up : ℕ → Bool) (t : TableState) (a : Asked) (b : Block) (piece : Piece) (u : TableState) : Type 0 where
  pub at : TableState
  pub rests : Rests workers t at
  pub inserts : Inserts workers up at a b piece u

-- the table rests, and then the block is refused
pub record RefusesLater (workers : Bool) (up : ℕ → Bool) (t : TableState) (a : Asked) (b : Block) (refusal : Refusal) (u : TableState) : Type 0 where
  pub at : TableState
  pub rests : Rests workers t at
  pub refuses : Refuses workers up at a b refusal u

-- blocks one after the other: a piece of the reply for each that is inserted, and the refusal of the first that isn't, after
-- which no other is tried
abbrev pub InsertsAll : Bool → (ℕ → Bool) → TableState → Asked → List Block → List Piece → Option Refusal → TableState → Type 0
InsertsAll workers up t a [] [] None u = u ≡ t
InsertsAll workers up t a (b ∷ bs) [] (Some refusal) u = RefusesLater workers up t a b refusal u
InsertsAll workers up t a (b ∷ bs) (piece ∷ rest) refused u = (mid : TableState) × InsertsLater workers up t a b piece mid × InsertsAll workers up mid a bs rest refused u
InsertsAll workers up t a bs all refused u = ⊥
