-- A client's INSERT of a block: the block takes a number under one lock and goes in under a later one, between which workers go on.
use Rattle.std.proofs.Common.{◌≡◌, ℕ, ◌<◌, inl, ◌&&◌, Bool, true, false, cond, List, [], ◌∷◌, ◌++◌, length, refl, sym, ap, arith, ◌∙◌, nat_eq, nat_le, nat_lt}
use Rattle.std.specs.declared.option.Option.{Option}
use Rattle.std.specs.declared.option.Option.TheVariants.{Some, None}
use Rattle.rmt_values.specs.declared.limit.Limit.{Limit}
use Rattle.rmt_values.specs.declared.limit.Limit.TheVariants as limits
use Rattle.rmt_names.specs.Names.{Name}
use Rattle.rmt_entries.specs.declared.entry.Entry.{Entry}
use Rattle.rmt_entries.specs.declared.entry.Entry.TheVariants.{Get, Merge, Mutate, Mutation, DropRange}
use Rattle.rmt_model.specs.Words.{Each}
use Rattle.rmt_model.specs.Window.{Kept}
use Rattle.rmt_model.specs.BlockNumbers.{next_number}
use Rattle.rmt_model.specs.EntryLimits.{commit_limit}
use Rattle.rmt_model.specs.Quorum.{Pending, Quorum, quorum_after_note}
use Rattle.rmt_events.specs.Views.{Block}
use Rattle.rmt_events.specs.TableCalls.{kept_part}
use Rattle.rmt_events.specs.Clusters.{Accepted, values_of, values_in}
use Rattle.rmt_reply.specs.declared.piece.Piece.{Piece}
use Rattle.rmt_reply.specs.declared.piece.Piece.TheVariants as pieces
use Rattle.rmt_reply.specs.declared.refusal.Refusal.{Refusal}
use Rattle.rmt_reply.specs.declared.refusal.Refusal.TheVariants.{LimitReached, TooFewLive}
use Rattle.rmt_statement_model.specs.TableStates.{TableState, kept_with}
use Rattle.rmt_statement_model.specs.BackgroundWork.{IsOfWorker, quorum_after_notes}
use Rattle.rmt_statement_model.specs.QuorumCopies.{count_live}
use Rattle.rmt_statement_model.specs.Inserts.{Asked, part_for, number_limit, with_number, with_block, refused_waiting, quorum_refusal, IsNew, Accepts, Repeats, Inserts, LacksQuorum, LacksNumber, LacksRoom, Refuses, InsertsLater, RefusesLater, InsertsAll}
use Rattle.rmt_statement_model.proofs.InsertRows.{inserts-more, inserts-stop}
use Rattle.rmt_statement_model.proofs.WorkerEntries.{kept-stay, clients-stay}
use Rattle.rmt_clients.specs.Clients.{Client, known_table, KnowsTable, IsAcceptedAs, AreAccepted, AreClear, Fits, seeing, ChangesInto, RestsAnd, SeesHere}
use Rattle.rmt_clients.specs.ClientBlocks.{TakesNumber, MeetsLimit}
use Rattle.rmt_clients.proofs.ClientRests.{fits-all, knows-fits, rests-and, changes-as}

-- ---- what stays between the two locks

-- where no part waits, a note changes nothing
pub notes-idle : (noted : List ℕ) (q : Quorum) → q.pending ≡ None → quorum_after_notes noted q ≡ q
notes-idle [] q e = refl
notes-idle (r ∷ noted) q e = ap (quorum_after_note r) (notes-idle noted q e) ∙ one q e
  where
    one : (x : Quorum) → x.pending ≡ None → quorum_after_note r x ≡ x
    one x f = rw f refl

-- a quorum that keeps no block out keeps none out after notes
quorum-stays : (up : ℕ → Bool) (p : Client) (need : ℕ) (gained : List Entry) (noted : List ℕ) → quorum_refusal up (known_table p) need ≡ None → quorum_refusal up (known_table (seeing gained noted p)) need ≡ None
quorum-stays up p need gained noted e = go (nat_lt (count_live up) need) (nat_le 2 need) (TooFewLive (count_live up) need) e
  where
    idle : (o : Option Pending) → refused_waiting o ≡ None → o ≡ None
    idle None f = refl
    idle (Some w) f = absurd (cc)

    go : (a b : Bool) (x : Refusal) → cond a (Some x) (cond b (refused_waiting p.quorum.pending) None) ≡ None → cond a (Some x) (cond b (refused_waiting (quorum_after_notes noted p.quorum).pending) None) ≡ None
    go true b x f = absurd (cc)
    go false false x f = refl
    go false true x f = ap (λ (q : Quorum). refused_waiting q.pending) (notes-idle noted p.quorum (idle p.quorum.pending f)) ∙ f

-- so it does once the client has seen what workers did since
pub takes-still : (up : ℕ → Bool) (p : Client) (a : Asked) (b : Block) (gained : List Entry) (noted : List ℕ) → Each IsOfWorker gained → TakesNumber up p a b → TakesNumber up (seeing gained noted p) a b
takes-still up p a b gained noted q h = record {
  is_new = record {
    quorum = quorum-stays up p a.need gained noted h.is_new.quorum;
    unkept = ap (λ (ks : List Kept). kept_part ks b.partition b.digest) (kept-stay p.schema.window gained p.log q) ∙ h.is_new.unkept;
  };
  number = ap (λ (c : ℕ). cond (nat_eq (next_number p.next b.partition) 0 && nat_le 1024 (length p.next)) (Some (limits.Partitions, length p.next))
      (cond (nat_le 65536 (next_number p.next b.partition)) (Some (limits.Numbers, next_number p.next b.partition))
      (cond (nat_le 32768 c) (Some (limits.ClientEntries, c)) None)))
      (clients-stay gained p.log q)
      ∙ h.number;
}

-- ---- the values that the table holds

-- where no two offered blocks of one id differ, a log has one list of accepted blocks
pub same-blocks : (O : Block → Type 0) → AreClear O → (log : List Entry) (bs cs : List Accepted) → AreAccepted O log bs → AreAccepted O log cs → bs ≡ cs
same-blocks O clear [] [] [] a c = refl
same-blocks O clear [] (b ∷ bs) cs a c = absurd a
same-blocks O clear [] [] (x ∷ cs) a c = absurd c
same-blocks O clear (Get p n digest source need ∷ log) [] cs a c = absurd a
same-blocks O clear (Get p n digest source need ∷ log) (b ∷ bs) [] a c = absurd c
same-blocks O clear (Get p n digest source need ∷ log) (b ∷ bs) (x ∷ cs) a c =
    ap (λ (y : Accepted). y ∷ bs) (one b x a.0 c.0) ∙ ap (λ (ys : List Accepted). x ∷ ys) (same-blocks O clear log bs cs a.1 c.1)
  where
    one : (b x : Accepted) → IsAcceptedAs O p n digest b → IsAcceptedAs O p n digest x → b ≡ x
    one b x i j =
        i.accepted
        ∙ (ap (λ (y : Block). record { partition = p; number = n; rows = y.rows }) (clear i.block j.block i.offered j.offered (i.partition ∙ sym j.partition) (i.same_id ∙ sym j.same_id))
        ∙ sym j.accepted)
same-blocks O clear (Merge name sources count ∷ log) bs cs a c = same-blocks O clear log bs cs a c
same-blocks O clear (Mutate old name upto count mcount ∷ log) bs cs a c = same-blocks O clear log bs cs a c
same-blocks O clear (Mutation id numbers command ∷ log) bs cs a c = same-blocks O clear log bs cs a c
same-blocks O clear (DropRange p n ∷ log) bs cs a c = same-blocks O clear log bs cs a c

-- which it does where it does so with the values of one list of accepted blocks
pub meets-limit : (O : Block → Type 0) → AreClear O → (p : Client) (b : Block) (limit : Option (Limit × ℕ)) (held : List Accepted) → AreAccepted O p.log held → commit_limit p.log (values_in p.schema held) (values_of p.schema b.rows) ≡ limit → MeetsLimit O p b limit
meets-limit O clear p b limit held h e blocks a = ap (λ (xs : List Accepted). commit_limit p.log (values_in p.schema xs) (values_of p.schema b.rows)) (same-blocks O clear p.log blocks held a h) ∙ e

-- ---- the block goes in

-- the client has seen the whole log, the block is an offered one that asks for no quorum, and there is room for it; the client knows it
-- then, and that it is known at its writer
pub record InsertsHere (O : Block → Type 0) (p : Client) (a : Asked) (b : Block) (q : Client) : Type 0 where
  pub offered : O b
  pub plain : a.need < 2
  pub room : MeetsLimit O p b None
  pub after : KnowsTable q (with_block (known_table p) a b)

-- the newest of the accepted blocks, under the next number of its partition
abbrev pub block_taken : Client → Block → Accepted
block_taken p b = record { partition = b.partition; number = next_number p.next b.partition; rows = b.rows }

-- with it they are accepted
pub accepted-one : (O : Block → Type 0) (p : Client) (a : Asked) (b : Block) (blocks : List Accepted) → O b → AreAccepted O p.log blocks → AreAccepted O (with_block (known_table p) a b).log (block_taken p b ∷ blocks)
accepted-one O p a b blocks o h = (record { block = b; offered = o; partition = refl; same_id = refl; accepted = refl }, h)

pub inserted-here : (O : Block → Type 0) (up : ℕ → Bool) (p : Client) (a : Asked) (b : Block) (q : Client) → TakesNumber up p a b → InsertsHere O p a b q → (t : TableState) → Fits O p t → ChangesInto O q (Accepts true up t a b (pieces.Part (part_for (known_table p) b)))
inserted-here O up p a b q n h = fits-all O p (λ (t : TableState). ChangesInto O q (Accepts true up t a b (pieces.Part (part_for (known_table p) b)))) (λ blocks w. record {
  after = with_block (record (known_table p) { blocks = blocks }) a b;
  change = record {
    is_new = record { quorum = n.is_new.quorum; unkept = n.is_new.unkept };
    number = n.number;
    room = h.room blocks w;
    met = λ two. let one = h.plain in absurd (omega (arith, two, one));
    reply = refl;
    gathers = inl (h.plain, refl);
  };
  fits = knows-fits O q (with_block (known_table p) a b) (block_taken p b ∷ blocks) h.after (accepted-one O p a b blocks h.offered w);
})

-- a block that took its number goes in among workers
pub inserted : (O : Block → Type 0) (up : ℕ → Bool) (p : Client) (a : Asked) (b : Block) (gained : List Entry) (noted : List ℕ) (q : Client) → SeesHere p gained → TakesNumber up p a b → InsertsHere O (seeing gained noted p) a b q → (t : TableState) → Fits O p t → RestsAnd O q (λ at u. Accepts true up at a b (pieces.Part (part_for (known_table p) b)) u) t
inserted O up p a b gained noted q s n h = rests-and O p q gained noted (λ at u. Accepts true up at a b (pieces.Part (part_for (known_table p) b)) u) s (inserted-here O up (seeing gained noted p) a b q (takes-still up p a b gained noted s.workers n) h)

-- there is no room for the block; the client knows that its number is used up
pub record LacksRoomHere (O : Block → Type 0) (p : Client) (b : Block) (limit : Limit) (value : ℕ) (q : Client) : Type 0 where
  pub reached : MeetsLimit O p b (Some (limit, value))
  pub after : KnowsTable q (with_number (known_table p) b)

pub no-room-here : (O : Block → Type 0) (up : ℕ → Bool) (p : Client) (a : Asked) (b : Block) (limit : Limit) (value : ℕ) (q : Client) → TakesNumber up p a b → LacksRoomHere O p b limit value q → (t : TableState) → Fits O p t → ChangesInto O q (LacksRoom up t a b (LimitReached limit value))
no-room-here O up p a b limit value q n h = fits-all O p (λ (t : TableState). ChangesInto O q (LacksRoom up t a b (LimitReached limit value))) (λ blocks w. record {
  after = with_number (record (known_table p) { blocks = blocks }) b;
  change = record {
    is_new = record { quorum = n.is_new.quorum; unkept = n.is_new.unkept };
    number = n.number;
    limit = limit;
    value = value;
    reached = h.reached blocks w;
    reply = refl;
    change = refl;
  };
  fits = knows-fits O q (with_number (known_table p) b) blocks h.after w;
})

-- a block that took its number is refused among workers
pub no-room : (O : Block → Type 0) (up : ℕ → Bool) (p : Client) (a : Asked) (b : Block) (limit : Limit) (value : ℕ) (gained : List Entry) (noted : List ℕ) (q : Client) → SeesHere p gained → TakesNumber up p a b → LacksRoomHere O (seeing gained noted p) b limit value q → (t : TableState) → Fits O p t → RestsAnd O q (λ at u. LacksRoom up at a b (LimitReached limit value) u) t
no-room O up p a b limit value gained noted q s n h = rests-and O p q gained noted (λ at u. LacksRoom up at a b (LimitReached limit value) u) s (no-room-here O up (seeing gained noted p) a b limit value q (takes-still up p a b gained noted s.workers n) h)

-- ---- the block changes nothing

-- the client has seen the whole log, no quorum keeps the block out, and its id is kept with this part
pub record RepeatsHere (up : ℕ → Bool) (p : Client) (a : Asked) (b : Block) (part : Name) (q : Client) : Type 0 where
  pub quorum : quorum_refusal up (known_table p) a.need ≡ None
  pub kept : kept_with (known_table p) b ≡ Some part
  pub after : KnowsTable q (known_table p)

pub repeated-here : (O : Block → Type 0) (up : ℕ → Bool) (p : Client) (a : Asked) (b : Block) (part : Name) (q : Client) → RepeatsHere up p a b part q → (t : TableState) → Fits O p t → ChangesInto O q (Repeats up t a b (pieces.Duplicate part))
repeated-here O up p a b part q h = fits-all O p (λ (t : TableState). ChangesInto O q (Repeats up t a b (pieces.Duplicate part))) (λ blocks w. record {
  after = record (known_table p) { blocks = blocks };
  change = record { quorum = h.quorum; part = part; kept = h.kept; reply = refl; unchanged = refl };
  fits = knows-fits O q (known_table p) blocks h.after w;
})

-- a block whose id is kept answers its part among workers
pub repeated : (O : Block → Type 0) (up : ℕ → Bool) (p : Client) (a : Asked) (b : Block) (part : Name) (gained : List Entry) (noted : List ℕ) (q : Client) → SeesHere p gained → RepeatsHere up (seeing gained noted p) a b part q → (t : TableState) → Fits O p t → RestsAnd O q (λ at u. Repeats up at a b (pieces.Duplicate part) u) t
repeated O up p a b part gained noted q s h = rests-and O p q gained noted (λ at u. Repeats up at a b (pieces.Duplicate part) u) s (repeated-here O up (seeing gained noted p) a b part q h)

-- the client has seen the whole log, the block is new, and one more number would pass a limit
pub record LacksNumberHere (up : ℕ → Bool) (p : Client) (a : Asked) (b : Block) (limit : Limit) (value : ℕ) (q : Client) : Type 0 where
  pub is_new : IsNew up (known_table p) a b
  pub reached : number_limit (known_table p) b ≡ Some (limit, value)
  pub after : KnowsTable q (known_table p)

pub no-number-here : (O : Block → Type 0) (up : ℕ → Bool) (p : Client) (a : Asked) (b : Block) (limit : Limit) (value : ℕ) (q : Client) → LacksNumberHere up p a b limit value q → (t : TableState) → Fits O p t → ChangesInto O q (LacksNumber up t a b (LimitReached limit value))
no-number-here O up p a b limit value q h = fits-all O p (λ (t : TableState). ChangesInto O q (LacksNumber up t a b (LimitReached limit value))) (λ blocks w. record {
  after = record (known_table p) { blocks = blocks };
  change = record { is_new = record { quorum = h.is_new.quorum; unkept = h.is_new.unkept }; limit = limit; value = value; reached = h.reached; reply = refl; unchanged = refl };
  fits = knows-fits O q (known_table p) blocks h.after w;
})

-- a block that gets no number is refused among workers
pub no-number : (O : Block → Type 0) (up : ℕ → Bool) (p : Client) (a : Asked) (b : Block) (limit : Limit) (value : ℕ) (gained : List Entry) (noted : List ℕ) (q : Client) → SeesHere p gained → LacksNumberHere up (seeing gained noted p) a b limit value q → (t : TableState) → Fits O p t → RestsAnd O q (λ at u. LacksNumber up at a b (LimitReached limit value) u) t
no-number O up p a b limit value gained noted q s h = rests-and O p q gained noted (λ at u. LacksNumber up at a b (LimitReached limit value) u) s (no-number-here O up (seeing gained noted p) a b limit value q h)

-- the client has seen the quorum, and it keeps the block out
pub record LacksQuorumHere (up : ℕ → Bool) (p : Client) (a : Asked) (refusal : Refusal) (q : Client) : Type 0 where
  pub reply : quorum_refusal up (known_table p) a.need ≡ Some refusal
  pub after : KnowsTable q (known_table p)

pub no-quorum-here : (O : Block → Type 0) (up : ℕ → Bool) (p : Client) (a : Asked) (refusal : Refusal) (q : Client) → LacksQuorumHere up p a refusal q → (t : TableState) → Fits O p t → ChangesInto O q (LacksQuorum up t a refusal)
no-quorum-here O up p a refusal q h = fits-all O p (λ (t : TableState). ChangesInto O q (LacksQuorum up t a refusal)) (λ blocks w. record {
  after = record (known_table p) { blocks = blocks };
  change = record { reply = h.reply; unchanged = refl };
  fits = knows-fits O q (known_table p) blocks h.after w;
})

-- a block that the quorum keeps out is refused among workers
pub no-quorum : (O : Block → Type 0) (up : ℕ → Bool) (p : Client) (a : Asked) (refusal : Refusal) (gained : List Entry) (noted : List ℕ) (q : Client) → SeesHere p gained → LacksQuorumHere up (seeing gained noted p) a refusal q → (t : TableState) → Fits O p t → RestsAnd O q (λ at u. LacksQuorum up at a refusal u) t
no-quorum O up p a refusal gained noted q s h = rests-and O p q gained noted (λ at u. LacksQuorum up at a refusal u) s (no-quorum-here O up (seeing gained noted p) a refusal q h)

-- ---- blocks one after the other

-- a rest, and then a block that is inserted
pub inserts-later : (O : Block → Type 0) (up : ℕ → Bool) (a : Asked) (b : Block) (piece : Piece) (q : Client) (t : TableState) → RestsAnd O q (λ at u. Inserts true up at a b piece u) t → ChangesInto O q (InsertsLater true up t a b piece)
inserts-later O up a b piece q t r = record { after = r.comes.after; change = record { at = r.at; rests = r.rests; inserts = r.comes.change }; fits = r.comes.fits }

-- a rest, and then a block that is refused
pub refuses-later : (O : Block → Type 0) (up : ℕ → Bool) (a : Asked) (b : Block) (refusal : Refusal) (q : Client) (t : TableState) → RestsAnd O q (λ at u. Refuses true up at a b refusal u) t → ChangesInto O q (RefusesLater true up t a b refusal)
refuses-later O up a b refusal q t r = record { after = r.comes.after; change = record { at = r.at; rests = r.rests; refuses = r.comes.change }; fits = r.comes.fits }

-- before the first block
pub inserts-begin : (O : Block → Type 0) (up : ℕ → Bool) (a : Asked) (p : Client) (t : TableState) → Fits O p t → ChangesInto O p (InsertsAll true up t a [] [] None)
inserts-begin O up a p t f = record { after = t; change = refl; fits = f }

-- one more block that is inserted
pub inserts-next : (O : Block → Type 0) (up : ℕ → Bool) (a : Asked) (bs : List Block) (b : Block) (all : List Piece) (piece : Piece) (p q : Client) (t : TableState) → ChangesInto O p (InsertsAll true up t a bs all None) → ((mid : TableState) → Fits O p mid → ChangesInto O q (InsertsLater true up mid a b piece)) → ChangesInto O q (InsertsAll true up t a (bs ++ b ∷ []) (all ++ piece ∷ []) None)
inserts-next O up a bs b all piece p q t m next =
    changes-as O q (InsertsLater true up m.after a b piece) (InsertsAll true up t a (bs ++ b ∷ []) (all ++ piece ∷ []) None)
    (λ u h. inserts-more true up t m.after u a bs b all piece m.change h) (next m.after m.fits)

-- the block that is refused, after which no other is tried
pub inserts-end : (O : Block → Type 0) (up : ℕ → Bool) (a : Asked) (bs rest : List Block) (b : Block) (all : List Piece) (refusal : Refusal) (p q : Client) (t : TableState) → ChangesInto O p (InsertsAll true up t a bs all None) → ((mid : TableState) → Fits O p mid → ChangesInto O q (RefusesLater true up mid a b refusal)) → ChangesInto O q (InsertsAll true up t a (bs ++ b ∷ rest) all (Some refusal))
inserts-end O up a bs rest b all refusal p q t m next =
    changes-as O q (RefusesLater true up m.after a b refusal) (InsertsAll true up t a (bs ++ b ∷ rest) all (Some refusal))
    (λ u h. inserts-stop true up t m.after u a bs rest b all refusal m.change h) (next m.after m.fits)
