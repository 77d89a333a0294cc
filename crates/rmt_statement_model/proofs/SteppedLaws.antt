-- Statements without workers: what each says at `false` is what it says with no word of workers, and no less. The other way
-- holds where workers run too.
use Rattle.std.proofs.Common.{◌≡◌, ◌⊎◌, ℕ, ◌≤◌, inl, inr, Bool, true, false, List, [], ◌∷◌, ◌++◌, length, sym, ap, subst, ◌∙◌}
use Rattle.std.specs.declared.option.Option.{Option}
use Rattle.std.specs.declared.option.Option.TheVariants.{Some, None}
use Rattle.rmt_values.specs.declared.limit.Limit.{Limit}
use Rattle.rmt_names.specs.Names.{Name}
use Rattle.rmt_entries.specs.declared.entry.Entry.{Entry}
use Rattle.rmt_model.specs.Words.{Each}
use Rattle.rmt_model.specs.EntryLimits.{worker_limit}
use Rattle.rmt_model.specs.Quorum.{Pending}
use Rattle.rmt_events.specs.Views.{Block}
use Rattle.rmt_reply.specs.declared.piece.Piece.{Piece}
use Rattle.rmt_reply.specs.declared.piece.Piece.TheVariants as pieces
use Rattle.rmt_reply.specs.declared.refusal.Refusal.{Refusal}
use Rattle.rmt_reply.specs.declared.refusal.Refusal.TheVariants.{QuorumUnmet, LimitReached}
use Rattle.rmt_statement_model.specs.TableStates.{TableState, synced}
use Rattle.rmt_statement_model.specs.BackgroundWork.{quorum_after_notes, Works}
use Rattle.rmt_statement_model.specs.Rests.{Runs}
use Rattle.rmt_statement_model.specs.Gathered.{gathered_for}
use Rattle.rmt_statement_model.specs.Inserts.{Asked, with_block, part_for, number_limit, block_limit, GathersBlock, IsNew, Repeats, Inserts, LacksQuorum, LacksNumber, LacksRoom, Refuses, InsertsAll}
use Rattle.rmt_statement_model.specs.Optimizes.{Optimizes, CantOptimize, OptimizesAll, LacksPart, OptimizesTable, partitions_asked}
use Rattle.rmt_statement_model.specs.Waits.{MutatesUpTo, MutatesOrComes, MutatesParts, WaitsFor, LacksEntries, NonePending, SomePending}
use Rattle.rmt_statement_model.proofs.RestLaws.{no-workers, rests-none}
use Rattle.rmt_statement_model.proofs.GatheredLaws.{gathers-made, gathers-are}
use Rattle.rmt_statement_model.proofs.InsertRows.{inserts-now, refuses-now}
use Rattle.rmt_statement_model.proofs.OptimizeRows.{optimizes-now, cant-now, optimizes-then}
use Rattle.rmt_statement_model.proofs.WaitRows.{MutatesSynced, waits-all, waits-some}

-- ---- INSERT

abbrev pub with_copies : (ℕ → Bool) → TableState → Asked → Block → TableState
with_copies up t a b = gathered_for a.need up a.writer (length t.log) (with_block t a b)

pub record SteppedAccepts (up : ℕ → Bool) (t : TableState) (a : Asked) (b : Block) (piece : Piece) (u : TableState) : Type 0 where
  pub is_new : IsNew up t a b
  pub number : number_limit t b ≡ None
  pub room : block_limit t b ≡ None
  pub met : 2 ≤ a.need → u.quorum.pending ≡ None
  pub reply : piece ≡ pieces.Part (part_for t b)
  pub change : u ≡ with_copies up t a b

abbrev pub SteppedInserts : (ℕ → Bool) → TableState → Asked → Block → Piece → TableState → Type 0
SteppedInserts up t a b piece u = SteppedAccepts up t a b piece u ⊎ Repeats up t a b piece u

pub record SteppedLacksCopies (up : ℕ → Bool) (t : TableState) (a : Asked) (b : Block) (refusal : Refusal) (u : TableState) : Type 0 where
  pub is_new : IsNew up t a b
  pub number : number_limit t b ≡ None
  pub room : block_limit t b ≡ None
  pub asked : 2 ≤ a.need
  pub waiting : Pending
  pub waits : u.quorum.pending ≡ Some waiting
  pub reply : refusal ≡ QuorumUnmet (length waiting.noted) a.need
  pub change : u ≡ with_copies up t a b

abbrev pub SteppedRefuses : (ℕ → Bool) → TableState → Asked → Block → Refusal → TableState → Type 0
SteppedRefuses up t a b refusal u =
    LacksQuorum up t a refusal u ⊎ (LacksNumber up t a b refusal u ⊎ (LacksRoom up t a b refusal u ⊎ SteppedLacksCopies up t a b refusal u))

abbrev pub SteppedInsertsAll : (ℕ → Bool) → TableState → Asked → List Block → List Piece → Option Refusal → TableState → Type 0
SteppedInsertsAll up t a [] [] None u = u ≡ t
SteppedInsertsAll up t a (b ∷ bs) [] (Some refusal) u = SteppedRefuses up t a b refusal u
SteppedInsertsAll up t a (b ∷ bs) (piece ∷ rest) refused u = (mid : TableState) × SteppedInserts up t a b piece mid × SteppedInsertsAll up mid a bs rest refused u
SteppedInsertsAll up t a bs all refused u = ⊥

-- the copies of a block
copies-among : (w : Bool) (up : ℕ → Bool) (t u : TableState) (a : Asked) (b : Block) → u ≡ with_copies up t a b → GathersBlock w up t a b u
copies-among w up t u a b e = subst (GathersBlock w up t a b) (sym e) (gathers-made w a.need up a.writer (length t.log) (with_block t a b))

copies-alone : (up : ℕ → Bool) (t u : TableState) (a : Asked) (b : Block) → GathersBlock false up t a b u → u ≡ with_copies up t a b
copies-alone up t u a b g = gathers-are a.need up a.writer (length t.log) (with_block t a b) u g

-- a block that goes in
inserted-among : (w : Bool) (up : ℕ → Bool) (t u : TableState) (a : Asked) (b : Block) (piece : Piece) → SteppedInserts up t a b piece u → Inserts w up t a b piece u
inserted-among w up t u a b piece (inl k) = inl (record { is_new = k.is_new; number = k.number; room = k.room; met = k.met; reply = k.reply; gathers = copies-among w up t u a b k.change })
inserted-among w up t u a b piece (inr k) = inr k

inserted-alone : (up : ℕ → Bool) (t u : TableState) (a : Asked) (b : Block) (piece : Piece) → Inserts false up t a b piece u → SteppedInserts up t a b piece u
inserted-alone up t u a b piece (inl k) = inl (record { is_new = k.is_new; number = k.number; room = k.room; met = k.met; reply = k.reply; change = copies-alone up t u a b k.gathers })
inserted-alone up t u a b piece (inr k) = inr k

-- a block that is refused
refused-among : (w : Bool) (up : ℕ → Bool) (t u : TableState) (a : Asked) (b : Block) (why : Refusal) → SteppedRefuses up t a b why u → Refuses w up t a b why u
refused-among w up t u a b why (inl k) = inl k
refused-among w up t u a b why (inr (inl k)) = inr (inl k)
refused-among w up t u a b why (inr (inr (inl k))) = inr (inr (inl k))
refused-among w up t u a b why (inr (inr (inr k))) = inr (inr (inr (record {
  is_new = k.is_new;
  number = k.number;
  room = k.room;
  asked = k.asked;
  waiting = k.waiting;
  waits = k.waits;
  reply = k.reply;
  gathers = copies-among w up t u a b k.change;
})))

refused-alone : (up : ℕ → Bool) (t u : TableState) (a : Asked) (b : Block) (why : Refusal) → Refuses false up t a b why u → SteppedRefuses up t a b why u
refused-alone up t u a b why (inl k) = inl k
refused-alone up t u a b why (inr (inl k)) = inr (inl k)
refused-alone up t u a b why (inr (inr (inl k))) = inr (inr (inl k))
refused-alone up t u a b why (inr (inr (inr k))) = inr (inr (inr (record {
  is_new = k.is_new;
  number = k.number;
  room = k.room;
  asked = k.asked;
  waiting = k.waiting;
  waits = k.waits;
  reply = k.reply;
  change = copies-alone up t u a b k.gathers;
})))

-- blocks one after the other
pub inserts-among : (w : Bool) (up : ℕ → Bool) (t : TableState) (a : Asked) (bs : List Block) (all : List Piece) (refused : Option Refusal) (u : TableState) → SteppedInsertsAll up t a bs all refused u → InsertsAll w up t a bs all refused u
inserts-among w up t a [] [] None u i = i
inserts-among w up t a [] [] (Some why) u i = absurd i
inserts-among w up t a [] (piece ∷ rest) refused u i = absurd i
inserts-among w up t a (b ∷ bs) [] None u i = absurd i
inserts-among w up t a (b ∷ bs) [] (Some why) u i = refuses-now w up t u a b why (refused-among w up t u a b why i)
inserts-among w up t a (b ∷ bs) (piece ∷ rest) refused u i =
    (i.0, inserts-now w up t i.0 a b piece (inserted-among w up t i.0 a b piece i.1), inserts-among w up i.0 a bs rest refused u i.2)

pub inserts-alone : (up : ℕ → Bool) (t : TableState) (a : Asked) (bs : List Block) (all : List Piece) (refused : Option Refusal) (u : TableState) → InsertsAll false up t a bs all refused u → SteppedInsertsAll up t a bs all refused u
inserts-alone up t a [] [] None u i = i
inserts-alone up t a [] [] (Some why) u i = absurd i
inserts-alone up t a [] (piece ∷ rest) refused u i = absurd i
inserts-alone up t a (b ∷ bs) [] None u i = absurd i
inserts-alone up t a (b ∷ bs) [] (Some why) u i =
    subst (λ (x : TableState). SteppedRefuses up x a b why u) (rests-none t i.at i.rests) (refused-alone up i.at u a b why i.refuses)
inserts-alone up t a (b ∷ bs) (piece ∷ rest) refused u i = (
  i.0,
  subst (λ (x : TableState). SteppedInserts up x a b piece i.0) (rests-none t i.1.at i.1.rests) (inserted-alone up i.1.at i.0 a b piece i.1.inserts),
  inserts-alone up i.0 a bs rest refused u i.2,
)

-- ---- OPTIMIZE

abbrev pub SteppedOptimizesAll : TableState → ℕ → List (Option ℕ) → List Name → Option Refusal → TableState → Type 0
SteppedOptimizesAll t r [] [] None u = u ≡ t
SteppedOptimizesAll t r (p ∷ ps) [] (Some refusal) u = CantOptimize t p refusal × (u ≡ t)
SteppedOptimizesAll t r (p ∷ ps) (name ∷ names) refused u = (mid : TableState) × Optimizes t p name mid × SteppedOptimizesAll (synced r mid) r ps names refused u
SteppedOptimizesAll t r ps names refused u = ⊥

abbrev pub SteppedOptimizesTable : (ℕ → Bool) → TableState → ℕ → Option (Option ℕ) → List Name → Option Refusal → TableState → Type 0
SteppedOptimizesTable up t r asked names refused u = LacksPart up t r names refused u ⊎ SteppedOptimizesAll (synced r t) r (partitions_asked asked t.log) names refused u

optimized-among : (w : Bool) (t : TableState) (r : ℕ) (ps : List (Option ℕ)) (names : List Name) (refused : Option Refusal) (u : TableState) → SteppedOptimizesAll t r ps names refused u → OptimizesAll w t r ps names refused u
optimized-among w t r [] [] None u i = i
optimized-among w t r [] [] (Some why) u i = absurd i
optimized-among w t r [] (name ∷ names) refused u i = absurd i
optimized-among w t r (p ∷ ps) [] None u i = absurd i
optimized-among w t r (p ∷ ps) [] (Some why) u i = cant-now w t u p why i
optimized-among w t r (p ∷ ps) (name ∷ names) refused u i = (i.0, optimizes-now w t i.0 p name i.1, optimized-among w (synced r i.0) r ps names refused u i.2)

optimized-alone : (t : TableState) (r : ℕ) (ps : List (Option ℕ)) (names : List Name) (refused : Option Refusal) (u : TableState) → OptimizesAll false t r ps names refused u → SteppedOptimizesAll t r ps names refused u
optimized-alone t r [] [] None u i = i
optimized-alone t r [] [] (Some why) u i = absurd i
optimized-alone t r [] (name ∷ names) refused u i = absurd i
optimized-alone t r (p ∷ ps) [] None u i = absurd i
optimized-alone t r (p ∷ ps) [] (Some why) u i = let e = rests-none t u i.rests in (subst (λ (x : TableState). CantOptimize x p why) e i.cant, e)
optimized-alone t r (p ∷ ps) (name ∷ names) refused u i = (i.0, optimizes-then t i.0 p name i.1, optimized-alone (synced r i.0) r ps names refused u i.2)

pub optimizes-among : (w : Bool) (up : ℕ → Bool) (t : TableState) (r : ℕ) (asked : Option (Option ℕ)) (names : List Name) (refused : Option Refusal) (u : TableState) → SteppedOptimizesTable up t r asked names refused u → OptimizesTable w up t r asked names refused u
optimizes-among w up t r asked names refused u (inl l) = inl l
optimizes-among w up t r asked names refused u (inr i) = inr (optimized-among w (synced r t) r (partitions_asked asked t.log) names refused u i)

pub optimizes-alone : (up : ℕ → Bool) (t : TableState) (r : ℕ) (asked : Option (Option ℕ)) (names : List Name) (refused : Option Refusal) (u : TableState) → OptimizesTable false up t r asked names refused u → SteppedOptimizesTable up t r asked names refused u
optimizes-alone up t r asked names refused u (inl l) = inl l
optimizes-alone up t r asked names refused u (inr i) = inr (optimized-alone (synced r t) r (partitions_asked asked t.log) names refused u i)

-- ---- WAIT MUTATION

pub record SteppedWaitsFor (t : TableState) (r id : ℕ) (u : TableState) : Type 0 where
  pub mutates : MutatesSynced t r id u
  pub carried : NonePending u.log id

pub record SteppedLacksEntries (t : TableState) (r id : ℕ) (refusal : Refusal) (u : TableState) : Type 0 where
  pub mutates : MutatesSynced t r id u
  pub waits : SomePending u.log id
  pub limit : Limit
  pub value : ℕ
  pub reached : worker_limit u.log ≡ Some (limit, value)
  pub reply : refusal ≡ LimitReached limit value

own-alone : (log : List Entry) (place id : ℕ) (es : List Entry) → Each (MutatesOrComes false log place id) es → Each (MutatesUpTo log place id) es
own-alone log place id [] e = tt
own-alone log place id (x ∷ es) e = (one e.0, own-alone log place id es e.1)
  where
    one : MutatesOrComes false log place id x → MutatesUpTo log place id x
    one (inl k) = k
    one (inr k) = no-workers k.0

-- nobody is noted in between
noted-alone : (t u : TableState) (id : ℕ) → (m : MutatesParts false t id u) → u ≡ record t { log = m.gained ++ t.log }
noted-alone t u id m = go m.by_workers
  where
    go : (m.noted ≡ []) ⊎ (false ≡ true) → u ≡ record t { log = m.gained ++ t.log }
    go (inl e) = m.change ∙ ap (λ (ns : List ℕ). record t { log = m.gained ++ t.log; quorum = quorum_after_notes ns t.quorum }) e
    go (inr q) = no-workers q

mutates-alone : (t mid u : TableState) (r id : ℕ) → MutatesParts false t id mid → u ≡ synced r mid → MutatesSynced t r id u
mutates-alone t mid u r id m e = record {
  numbers = m.numbers;
  command = m.command;
  place = m.place;
  at = m.at;
  gained = m.gained;
  mutates = own-alone t.log m.place id m.gained m.mutates;
  room = m.room;
  lawful = m.lawful;
  change = e ∙ ap (synced r) (noted-alone t mid id m);
}

pub waits-among : (w : Bool) (t u : TableState) (r id : ℕ) → SteppedWaitsFor t r id u → WaitsFor w t r id u
waits-among w t u r id k = waits-all w t u r id k.mutates k.carried

pub waits-alone : (t u : TableState) (r id : ℕ) → WaitsFor false t r id u → SteppedWaitsFor t r id u
waits-alone t u r id k =
    let e : u ≡ synced r k.mid = k.change ∙ ap (synced r) (rests-none k.mid k.end k.rests) in
    record { mutates = mutates-alone t k.mid u r id k.mutates e; carried = subst (λ (x : TableState). NonePending x.log id) (sym e) k.carried }

pub lacks-among : (w : Bool) (t u : TableState) (r id : ℕ) (why : Refusal) → SteppedLacksEntries t r id why u → LacksEntries w t r id why u
lacks-among w t u r id why k = subst (λ (x : Refusal). LacksEntries w t r id x u) (sym k.reply) (waits-some w t u r id k.limit k.value k.mutates k.waits k.reached)

pub lacks-alone : (t u : TableState) (r id : ℕ) (why : Refusal) → LacksEntries false t r id why u → SteppedLacksEntries t r id why u
lacks-alone t u r id why k =
    let e : u ≡ synced r k.mid = k.change ∙ ap (synced r) (rests-none k.mid k.end k.rests) in
    record {
      mutates = mutates-alone t k.mid u r id k.mutates e;
      waits = subst (λ (x : TableState). SomePending x.log id) (sym e) k.waits;
      limit = k.limit;
      value = k.value;
      reached = subst (λ (x : TableState). worker_limit x.log ≡ Some (k.limit, k.value)) (sym e) k.reached;
      reply = k.reply;
    }

-- ---- RUN

pub runs-among : (w : Bool) (up : ℕ → Bool) (turns : ℕ) (t u : TableState) → Works up turns t u → Runs w up turns t u
runs-among w up turns t u k = inl k

pub runs-alone : (up : ℕ → Bool) (turns : ℕ) (t u : TableState) → Runs false up turns t u → Works up turns t u
runs-alone up turns t u (inl k) = k
runs-alone up turns t u (inr k) = no-workers k.run
