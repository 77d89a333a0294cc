-- A client's INSERT of a block with a quorum: the block goes in, its writer is noted, and the other replicas are asked one after the
-- other, among workers.
use Rattle.std.proofs.Common.{◌≡◌, ℕ, zero, suc, ◌+◌, ◌<◌, ◌≤◌, inl, inr, Bool, true, false, List, ◌∷◌, ◌++◌, length, refl, sym, subst, arith}
use Rattle.std.specs.declared.option.Option.{Option}
use Rattle.std.specs.declared.option.Option.TheVariants.{Some, None}
use Rattle.rmt_entries.specs.declared.entry.Entry.{Entry}
use Rattle.rmt_model.specs.Quorum.{Pending, quorum_after_note}
use Rattle.rmt_events.specs.Views.{Block}
use Rattle.rmt_events.specs.Clusters.{Accepted}
use Rattle.rmt_reply.specs.declared.piece.Piece.TheVariants as pieces
use Rattle.rmt_reply.specs.declared.refusal.Refusal.TheVariants.{QuorumUnmet}
use Rattle.rmt_statement_model.specs.TableStates.{TableState}
use Rattle.rmt_statement_model.specs.QuorumCopies.{is_asked, copied, copied_where, NotesWriter, CopiesLater, CopiesTo, CopiesAll}
use Rattle.rmt_statement_model.specs.Inserts.{Asked, part_for, with_block, Accepts, LacksCopies}
use Rattle.rmt_clients.specs.Clients.{Client, known_table, KnowsTable, AreAccepted, Fits, seeing, after_work, ChangesInto, RestsAnd, SeesHere}
use Rattle.rmt_clients.proofs.ClientRests.{fits-all, knows-fits, knows-itself, fits-as, fits-rested, rests-so, rests-and}
use Rattle.rmt_clients.specs.ClientBlocks.{TakesNumber, MeetsLimit}
use Rattle.rmt_clients.proofs.ClientInserts.{takes-still, block_taken, accepted-one}

-- ---- the writer is noted

-- the table, the writer noted for the part that waits
abbrev pub with_note : ℕ → TableState → TableState
with_note writer t = record t { quorum = quorum_after_note writer t.quorum }

-- the client has noted the writer
pub record NotesHere (p : Client) (writer : ℕ) (q : Client) : Type 0 where
  pub after : KnowsTable q (with_note writer (known_table p))

pub noted-here : (O : Block → Type 0) (p : Client) (writer : ℕ) (q : Client) → NotesHere p writer q → (t : TableState) → Fits O p t → ChangesInto O q (λ u. u ≡ with_note writer t)
noted-here O p writer q h = fits-all O p (λ (t : TableState). ChangesInto O q (λ u. u ≡ with_note writer t)) (λ blocks a. record {
  after = with_note writer (record (known_table p) { blocks = blocks });
  change = refl;
  fits = knows-fits O q (with_note writer (known_table p)) blocks h.after a;
})

-- the writer is noted among workers
pub writer-noted : (O : Block → Type 0) (p : Client) (writer : ℕ) (gained : List Entry) (noted : List ℕ) (q : Client) → SeesHere p gained → NotesHere (seeing gained noted p) writer q → (t : TableState) → Fits O p t → ChangesInto O q (NotesWriter true writer t)
writer-noted O p writer gained noted q s h t f =
    let r = rests-and O p q gained noted (λ at u. u ≡ with_note writer at) s (noted-here O (seeing gained noted p) writer q h) t f in
    record { after = r.comes.after; change = record { at = r.at; rests = r.rests; change = r.comes.change }; fits = r.comes.fits }

-- ---- a replica is asked

-- whether the replica is asked, as the client has seen the quorum and the switches
abbrev pub asks : (ℕ → Bool) → ℕ → ℕ → Client → Bool
asks up writer k p = is_asked p.quorum.pending up p.fetching writer k

-- the client has the replica's copy made where it is asked
pub record CopiesHere (up : ℕ → Bool) (p : Client) (writer place k : ℕ) (q : Client) : Type 0 where
  pub after : KnowsTable q (copied_where (asks up writer k p) place k (known_table p))

-- whether it is asked or not, the blocks stay
copied-fits : (O : Block → Type 0) (p q : Client) (place k : ℕ) (blocks : List Accepted) → AreAccepted O p.log blocks → (b : Bool) → KnowsTable q (copied_where b place k (known_table p)) → Fits O q (copied_where b place k (record (known_table p) { blocks = blocks }))
copied-fits O p q place k blocks a true h = knows-fits O q (copied_where true place k (known_table p)) blocks h a
copied-fits O p q place k blocks a false h = knows-fits O q (copied_where false place k (known_table p)) blocks h a

pub copied-here : (O : Block → Type 0) (up : ℕ → Bool) (p : Client) (writer place k : ℕ) (q : Client) → CopiesHere up p writer place k q → (t : TableState) → Fits O p t → ChangesInto O q (λ u. u ≡ copied_where (is_asked t.quorum.pending up t.fetching writer k) place k t)
copied-here O up p writer place k q h = fits-all O p (λ (t : TableState). ChangesInto O q (λ u. u ≡ copied_where (is_asked t.quorum.pending up t.fetching writer k) place k t)) (λ blocks a. record {
  after = copied_where (asks up writer k p) place k (record (known_table p) { blocks = blocks });
  change = refl;
  fits = copied-fits O p q place k blocks a (asks up writer k p) h.after;
})

-- a replica is asked among workers
pub copied-later : (O : Block → Type 0) (up : ℕ → Bool) (p : Client) (writer place k : ℕ) (gained : List Entry) (noted : List ℕ) (q : Client) → SeesHere p gained → CopiesHere up (seeing gained noted p) writer place k q → (t : TableState) → Fits O p t → ChangesInto O q (CopiesLater true up writer place k t)
copied-later O up p writer place k gained noted q s h t f =
    let r = rests-and O p q gained noted (λ at u. u ≡ copied_where (is_asked at.quorum.pending up at.fetching writer k) place k at) s (copied-here O up (seeing gained noted p) writer place k q h) t f in
    record { after = r.comes.after; change = record { at = r.at; rests = r.rests; change = r.comes.change }; fits = r.comes.fits }

-- a replica that is asked
pub is-asked : (up : ℕ → Bool) (p : Client) (writer place k : ℕ) (q : Client) → asks up writer k p ≡ true → KnowsTable q (copied place k (known_table p)) → CopiesHere up p writer place k q
is-asked up p writer place k q e h = record { after = subst (λ (b : Bool). KnowsTable q (copied_where b place k (known_table p))) (sym e) h }

-- one that isn't
pub not-asked : (up : ℕ → Bool) (p : Client) (writer place k : ℕ) (q : Client) → asks up writer k p ≡ false → KnowsTable q (known_table p) → CopiesHere up p writer place k q
not-asked up p writer place k q e h = record { after = subst (λ (b : Bool). KnowsTable q (copied_where b place k (known_table p))) (sym e) h }

-- ---- one after the other

-- one replica more
pub copies-next : (O : Block → Type 0) (up : ℕ → Bool) (p : Client) (writer place n : ℕ) (q : Client) (t : TableState) → ChangesInto O p (CopiesTo true up writer place n t) → ((mid : TableState) → Fits O p mid → ChangesInto O q (CopiesLater true up writer place (suc n) mid)) → ChangesInto O q (CopiesTo true up writer place (suc n) t)
copies-next O up p writer place n q t m next =
    let c = next m.after m.fits in
    record { after = c.after; change = (m.after, m.change, c.change); fits = c.fits }

-- so many that aren't asked
pub copies-skip : (O : Block → Type 0) (up : ℕ → Bool) (p : Client) (writer place n d m : ℕ) (t : TableState) → m ≡ d + n → ((k : ℕ) → n < k → k ≤ m → asks up writer k p ≡ false) → ChangesInto O p (CopiesTo true up writer place n t) → ChangesInto O p (CopiesTo true up writer place m t)
copies-skip O up p writer place n zero m t e none c =
    let same : n ≡ m = omega (arith, e) in
    subst (λ k. ChangesInto O p (CopiesTo true up writer place k t)) same c
copies-skip O up p writer place n (suc d) m t e none c =
    let same : suc (d + n) ≡ m = omega (arith, e) in
    let last : asks up writer (suc (d + n)) p ≡ false = none (suc (d + n)) (omega arith) (omega (arith, e)) in
    subst (λ k. ChangesInto O p (CopiesTo true up writer place k t)) same
    (copies-next O up p writer place (d + n) p t
    (copies-skip O up p writer place n d (d + n) t refl (λ k l h. none k l (omega (arith, h, e))) c)
    (λ mid f.
    let u = copied-here O up p writer place (suc (d + n)) p (not-asked up p writer place (suc (d + n)) p last (knows-itself p)) mid f in
    record { after = u.after; change = record { at = mid; rests = inl refl; change = u.change }; fits = u.fits }))

-- all of them, and a rest
pub copies-end : (O : Block → Type 0) (up : ℕ → Bool) (p : Client) (writer place : ℕ) (gained : List Entry) (noted : List ℕ) (q : Client) (t : TableState) → ChangesInto O p (CopiesTo true up writer place 8 t) → SeesHere p gained → KnowsTable q (known_table (seeing gained noted p)) → ChangesInto O q (CopiesAll true up writer place t)
copies-end O up p writer place gained noted q t m s k = record {
  after = after_work gained noted m.after;
  change = record { mid = m.after; copies = m.change; rests = rests-so O p gained noted s m.after m.fits };
  fits = fits-as O (seeing gained noted p) q k (after_work gained noted m.after) (fits-rested O p gained noted s.workers m.after m.fits);
}

-- ---- the block

-- the client has seen the whole log, the block is an offered one that asks for a quorum, and there is room for it; it goes in, and the
-- client knows that as `mid`
pub record GathersHere (O : Block → Type 0) (p : Client) (a : Asked) (b : Block) (mid : Client) : Type 0 where
  pub offered : O b
  pub asked : 2 ≤ a.need
  pub room : MeetsLimit O p b None
  pub goes_in : KnowsTable mid (with_block (known_table p) a b)

-- whatever state fits then, the replicas are asked
abbrev pub Gathered : (Block → Type 0) → (ℕ → Bool) → Asked → ℕ → Client → Client → Type 0
Gathered O up a place mid q = (t : TableState) → Fits O mid t → ChangesInto O q (CopiesAll true up a.writer place t)

-- the state into which a block goes fits what the client knows then
block-fits : (O : Block → Type 0) (p : Client) (a : Asked) (b : Block) (mid : Client) → GathersHere O p a b mid → (blocks : List Accepted) → AreAccepted O p.log blocks → Fits O mid (with_block (record (known_table p) { blocks = blocks }) a b)
block-fits O p a b mid h blocks w = knows-fits O mid (with_block (known_table p) a b) (block_taken p b ∷ blocks) h.goes_in (accepted-one O p a b blocks h.offered w)

-- what is known of the quorum holds of each state that fits
fits-pending : (O : Block → Type 0) (q : Client) (pending : Option Pending) → q.quorum.pending ≡ pending → (t : TableState) → Fits O q t → t.quorum.pending ≡ pending
fits-pending O q pending e = fits-all O q (λ (t : TableState). t.quorum.pending ≡ pending) (λ blocks a. e)

pub accepted-here : (O : Block → Type 0) (up : ℕ → Bool) (p : Client) (a : Asked) (b : Block) (mid q : Client) → TakesNumber up p a b → GathersHere O p a b mid → Gathered O up a (length p.log) mid q → q.quorum.pending ≡ None → (t : TableState) → Fits O p t → ChangesInto O q (Accepts true up t a b (pieces.Part (part_for (known_table p) b)))
accepted-here O up p a b mid q n h g none = fits-all O p (λ (t : TableState). ChangesInto O q (Accepts true up t a b (pieces.Part (part_for (known_table p) b)))) (λ blocks w.
    let c = g (with_block (record (known_table p) { blocks = blocks }) a b) (block-fits O p a b mid h blocks w) in
    record {
      after = c.after;
      change = record {
        is_new = record { quorum = n.is_new.quorum; unkept = n.is_new.unkept };
        number = n.number;
        room = h.room blocks w;
        met = λ two. fits-pending O q None none c.after c.fits;
        reply = refl;
        gathers = inr (h.asked, c.change);
      };
      fits = c.fits;
    })

-- a block goes in among workers, and its quorum is met
pub accepted : (O : Block → Type 0) (up : ℕ → Bool) (p : Client) (a : Asked) (b : Block) (gained : List Entry) (noted : List ℕ) (mid q : Client) → SeesHere p gained → TakesNumber up p a b → GathersHere O (seeing gained noted p) a b mid → Gathered O up a (length (gained ++ p.log)) mid q → q.quorum.pending ≡ None → (t : TableState) → Fits O p t → RestsAnd O q (λ at u. Accepts true up at a b (pieces.Part (part_for (known_table p) b)) u) t
accepted O up p a b gained noted mid q s n h g none = rests-and O p q gained noted (λ at u. Accepts true up at a b (pieces.Part (part_for (known_table p) b)) u) s (accepted-here O up (seeing gained noted p) a b mid q (takes-still up p a b gained noted s.workers n) h g none)

pub lacks-copies-here : (O : Block → Type 0) (up : ℕ → Bool) (p : Client) (a : Asked) (b : Block) (mid q : Client) (waiting : Pending) → TakesNumber up p a b → GathersHere O p a b mid → Gathered O up a (length p.log) mid q → q.quorum.pending ≡ Some waiting → (t : TableState) → Fits O p t → ChangesInto O q (LacksCopies true up t a b (QuorumUnmet (length waiting.noted) a.need))
lacks-copies-here O up p a b mid q waiting n h g waits = fits-all O p (λ (t : TableState). ChangesInto O q (LacksCopies true up t a b (QuorumUnmet (length waiting.noted) a.need))) (λ blocks w.
    let c = g (with_block (record (known_table p) { blocks = blocks }) a b) (block-fits O p a b mid h blocks w) in
    record {
      after = c.after;
      change = record {
        is_new = record { quorum = n.is_new.quorum; unkept = n.is_new.unkept };
        number = n.number;
        room = h.room blocks w;
        asked = h.asked;
        waiting = waiting;
        waits = fits-pending O q (Some waiting) waits c.after c.fits;
        reply = refl;
        gathers = inr (h.asked, c.change);
      };
      fits = c.fits;
    })

-- a block goes in among workers, and its quorum isn't met
pub lacks-copies : (O : Block → Type 0) (up : ℕ → Bool) (p : Client) (a : Asked) (b : Block) (gained : List Entry) (noted : List ℕ) (mid q : Client) (waiting : Pending) → SeesHere p gained → TakesNumber up p a b → GathersHere O (seeing gained noted p) a b mid → Gathered O up a (length (gained ++ p.log)) mid q → q.quorum.pending ≡ Some waiting → (t : TableState) → Fits O p t → RestsAnd O q (λ at u. LacksCopies true up at a b (QuorumUnmet (length waiting.noted) a.need) u) t
lacks-copies O up p a b gained noted mid q waiting s n h g waits = rests-and O p q gained noted (λ at u. LacksCopies true up at a b (QuorumUnmet (length waiting.noted) a.need) u) s (lacks-copies-here O up (seeing gained noted p) a b mid q waiting (takes-still up p a b gained noted s.workers n) h g waits)
