-- A client's INSERT of one block among workers: why its steps are that of the statement.
use Rattle.std.proofs.Common.{◌≡◌, inl, inr, ℕ, suc, ◌+◌, ◌<◌, Bool, true, false, List, ◌++◌, length, refl, sym, ap, subst, arith, ◌∙◌}
use Rattle.std.specs.Prelude.{IfOk, OnOk}
use Rattle.std.specs.declared.option.Option.{Option}
use Rattle.std.specs.declared.option.Option.TheVariants.{Some, None}
use Rattle.std.specs.declared.result.Result.{Result}
use Rattle.std.specs.declared.result.Result.TheVariants.{Ok, Err}
use Rattle.rmt_values.specs.declared.limit.Limit.{Limit}
use Rattle.rmt_names.specs.Names.{Name, block_name}
use Rattle.rmt_block.specs.declared.block_id.BlockId.{BlockId}
use Rattle.rmt_entries.specs.declared.entry.Entry.{Entry}
use Rattle.rmt_model.specs.BlockNumbers.{next_number}
use Rattle.rmt_model.specs.Quorum.{quorum_after_note}
use Rattle.rmt_events.specs.Views.{Block}
use Rattle.rmt_table.specs.declared.lock.Lock.{Lock}
use Rattle.rmt_reply.specs.declared.piece.Piece.{Piece}
use Rattle.rmt_reply.specs.declared.piece.Piece.TheVariants as pieces
use Rattle.rmt_reply.specs.declared.refusal.Refusal.{Refusal}
use Rattle.rmt_reply.specs.declared.refusal.Refusal.TheVariants.{QuorumUnmet, LimitReached}
use Rattle.rmt_statement_model.specs.TableStates.{TableState}
use Rattle.rmt_statement_model.specs.Inserts.{Asked, asked_at, Accepts, Repeats, Refuses, LacksCopies, LacksRoom, part_for, with_block}
use Rattle.rmt_statement_model.specs.QuorumCopies.{CopiesAll, CopiesTo, CopiesLater, NotesWriter, copied_where, is_asked}
use Rattle.rmt_clients.specs.Clients.{Client, Fits, ChangesInto, StepsTo, SeesHere, seeing, known_table, after_work, KnowsTable}
use Rattle.rmt_clients.proofs.ClientMeets.{seeing-both, sees-both}
use Rattle.rmt_statement_model.proofs.RestLaws.{rests-then}
use Rattle.rmt_clients.proofs.ClientRests.{fits-rested, rests-so, changes-as, rests-as, steps-now, knows-itself}
use Rattle.rmt_clients.proofs.ClientInserts.{inserted-here, takes-still}
use Rattle.rmt_clients.proofs.ClientCopies.{copies-next, copies-end, accepted-here, lacks-copies-here}
use Rattle.rmt_pass.specs.Passes.{PassView, KeepsPass, TakesStep, client_at, up_in}
use Rattle.rmt_pass.specs.InsertSteps.{CommitsTo, HoldsNumber, IsIdOf, numbered}
use Rattle.rmt_pass.specs.declared.committed.Committed.{Committed}
use Rattle.rmt_pass.proofs.OwnLemmas.{keeps-itself}
use Rattle.rmt_pass.specs.declared.committed.Committed.TheVariants.{Full}
use Rattle.rmt_workers.specs.Crews.{Saw}
use Rattle.rmt_workers.specs.CrewInserts.{Later, GoesInLater, CommitsLater, InsertsFrom, InsertsOr, TakesInto, CopiesBlock, IsGathered}
use Rattle.rmt_workers.proofs.StepLemmas.{keeps-both, keeps-there, keeps-up, saw-then-takes, sees-then-steps, takes-as}

-- ---- later

-- later than what came later
pub later-both : (before mid now : Client) → Later before mid → Later mid now → Later before now
later-both before mid now (inl e) l = subst (λ (p : Client). Later p now) e l
later-both before mid now (inr s) (inl e) = inr (s.0, s.1, s.2, e ∙ s.3)
later-both before mid now (inr s) (inr m) =
    inr (
      m.0 ++ s.0,
      m.1 ++ s.1,
      sees-both before m.0 s.0 s.1 s.2 (subst (λ (p : Client). SeesHere p m.0) s.3 m.2),
      m.3 ∙ (ap (λ (p : Client). seeing m.0 m.1 p) s.3 ∙ seeing-both m.0 s.0 m.1 s.1 before),
    )

-- a step at what is known later is one at what was known before
pub later-steps : (O : Block → Type 0) (before now q : Client) (Change : TableState → TableState → Type 0) → Later before now → StepsTo O now Change q → StepsTo O before Change q
later-steps O before now q Change (inl e) s = subst (λ (p : Client). StepsTo O p Change q) e s
later-steps O before now q Change (inr l) s = sees-then-steps O before now q l.0 l.1 Change l.2 l.3 s

-- the next numbers stay
later-next : (before now : Client) → Later before now → now.next ≡ before.next
later-next before now (inl e) = ap (λ (p : Client). p.next) e
later-next before now (inr l) = ap (λ (p : Client). p.next) l.3

-- ---- the number that a block holds

-- what the client saw since a block took its number it would have seen before
pub holds-still : (up : ℕ → Bool) (a : Asked) (b : Block) (lock : Lock) (before now new : Client) (gained : List Entry) (noted : List ℕ) → HoldsNumber up a b lock before now → SeesHere now gained → new ≡ seeing gained noted now → Later before (seeing gained noted before) × HoldsNumber up a b lock (seeing gained noted before) new
holds-still up a b lock before now new gained noted h s is =
    let x : SeesHere (numbered before b) gained = subst (λ (p : Client). SeesHere p gained) h.is s in (
      inr (gained, noted, record { workers = x.workers; few = x.few; lawful = x.lawful }, refl),
      record {
        takes = takes-still up before a b gained noted s.workers h.takes;
        number = h.number;
        writer = h.writer;
        id = h.id;
        is = is ∙ ap (λ (p : Client). seeing gained noted p) h.is;
      },
    )

-- a client that tries to commit the block of a lock knows the table still as when it took the number, that number apart, and what workers
-- did since
pub record CommitsOn (up : ℕ → Bool) (a : Asked) (b : Block) (lock : Lock) (first : PassView) (k : ℕ) (now : PassView) : Type 0 where
  pub keeps : KeepsPass first k now
  pub held : (before : Client) → HoldsNumber up a b lock before (client_at first k) → (at : Client) × Later before at × HoldsNumber up a b lock at (client_at now k)

pub commits-first : (up : ℕ → Bool) (a : Asked) (b : Block) (lock : Lock) (first : PassView) (k : ℕ) → CommitsOn up a b lock first k first
commits-first up a b lock first k = record { keeps = keeps-itself first k; held = λ before h. (before, inl refl, h) }

pub commits-saw : (up : ℕ → Bool) (a : Asked) (b : Block) (lock : Lock) (first mid now : PassView) (k : ℕ) → CommitsOn up a b lock first k mid → Saw mid k now → CommitsOn up a b lock first k now
commits-saw up a b lock first mid now k c s = record {
  keeps = keeps-both first mid now k c.keeps s.keeps;
  held = λ before h.
      let x = c.held before h in
      let y = holds-still up a b lock x.0 (client_at mid k) (client_at now k) s.gained s.noted x.2 s.sees s.seen in
      (seeing s.gained s.noted x.0, later-both before x.0 (seeing s.gained s.noted x.0) x.1 y.0, y.1);
}

-- where the lock was gone the client knows what it knew
pub commits-again : (up : ℕ → Bool) (a : Asked) (b : Block) (lock : Lock) (first mid now : PassView) (k : ℕ) → CommitsOn up a b lock first k mid → KeepsPass mid k now → client_at now k ≡ client_at mid k → CommitsOn up a b lock first k now
commits-again up a b lock first mid now k c keeps e = record {
  keeps = keeps-both first mid now k c.keeps keeps;
  held = λ before h. let x = c.held before h in (x.0, x.1, subst (λ (p : Client). HoldsNumber up a b lock x.0 p) (sym e) x.2);
}

-- what became of a commit, for whatever the table was when the block took its number
pub commit-ends : (O : Block → Type 0) (a : Asked) (b : Block) (lock : Lock) (first mid : PassView) (k : ℕ) (new : Client) (c d : Committed) → CommitsOn (up_in first.up) a b lock first k mid → ((at : Client) → HoldsNumber (up_in mid.up) a b lock at (client_at mid k) → CommitsTo O (up_in mid.up) a b at (client_at mid k) c new) → c ≡ d → (before : Client) → HoldsNumber (up_in first.up) a b lock before (client_at first k) → (at : Client) × Later before at × HoldsNumber (up_in first.up) a b lock at (client_at mid k) × CommitsTo O (up_in first.up) a b at (client_at mid k) d new
commit-ends O a b lock first mid k new c d on done e before h =
    let y = on.held before h in
    let ups : up_in mid.up ≡ up_in first.up = ap (λ (us : List Bool). up_in us) (keeps-up first k mid on.keeps) in (
      y.0,
      y.1,
      y.2,
      subst (λ (x : Committed). CommitsTo O (up_in first.up) a b y.0 (client_at mid k) x new) e
          (subst (λ (w : ℕ → Bool). CommitsTo O w a b y.0 (client_at mid k) c new) ups
          (done y.0 (subst (λ (w : ℕ → Bool). HoldsNumber w a b lock y.0 (client_at mid k)) (sym ups) y.2))),
    )

-- ---- copies

-- the writer is noted
pub notes-into : (O : ℕ → Block → Type 0) (old mid new : PassView) (k writer : ℕ) → Saw old k mid → TakesStep O mid k (λ t u. u ≡ record t { quorum = quorum_after_note writer t.quorum }) new → TakesInto O old k (λ t u. NotesWriter true writer t u) new
notes-into O old mid new k writer s n = record {
  steps = λ clear t fits.
      let r = sees-then-steps (O k) (client_at old k) (client_at mid k) (client_at new k) s.gained s.noted (λ at u. u ≡ record at { quorum = quorum_after_note writer at.quorum }) s.sees s.seen n.steps clear t fits in
      record { after = r.comes.after; change = record { at = r.at; rests = r.rests; change = r.comes.change }; fits = r.comes.fits };
  keeps = keeps-both old mid new k s.keeps n.keeps;
  goes = n.goes;
}

-- a replica makes its copy where it is asked
pub copy-into : (O : ℕ → Block → Type 0) (old mid new : PassView) (k writer place r : ℕ) → Saw old k mid → TakesStep O mid k (λ t u. u ≡ copied_where (is_asked t.quorum.pending (up_in mid.up) t.fetching writer r) place r t) new → TakesInto O old k (λ t u. CopiesLater true (up_in old.up) writer place r t u) new
copy-into O old mid new k writer place r s n = record {
  steps = λ clear t fits.
      let x = sees-then-steps (O k) (client_at old k) (client_at mid k) (client_at new k) s.gained s.noted (λ at u. u ≡ copied_where (is_asked at.quorum.pending (up_in mid.up) at.fetching writer r) place r at) s.sees s.seen n.steps clear t fits in
      record {
        after = x.comes.after;
        change = record {
          at = x.at;
          rests = x.rests;
          change = x.comes.change ∙ ap (λ (ups : List Bool). copied_where (is_asked x.at.quorum.pending (up_in ups) x.at.fetching writer r) place r x.at) (keeps-up old k mid s.keeps);
        };
        fits = x.comes.fits;
      };
  keeps = keeps-both old mid new k s.keeps n.keeps;
  goes = n.goes;
}

-- the client looked before
pub later-copies : (O : ℕ → Block → Type 0) (old mid new : PassView) (k writer place r : ℕ) → Saw old k mid → TakesInto O mid k (λ t u. CopiesLater true (up_in mid.up) writer place r t u) new → TakesInto O old k (λ t u. CopiesLater true (up_in old.up) writer place r t u) new
later-copies O old mid new k writer place r s b = record {
  steps = λ clear t fits.
      let x : TableState = after_work s.gained s.noted t in
      let y = b.steps clear x (subst (λ (p : Client). Fits (O k) p x) (sym s.seen) (fits-rested (O k) (client_at old k) s.gained s.noted s.sees.workers t fits)) in
      record {
        after = y.after;
        change = record {
          at = y.change.at;
          rests = rests-then true t x y.change.at (rests-so (O k) (client_at old k) s.gained s.noted s.sees t fits) y.change.rests;
          change = y.change.change ∙ ap (λ (ups : List Bool). copied_where (is_asked y.change.at.quorum.pending (up_in ups) y.change.at.fetching writer r) place r y.change.at) (keeps-up old k mid s.keeps);
        };
        fits = y.fits;
      };
  keeps = keeps-both old mid new k s.keeps b.keeps;
  goes = b.goes;
}

-- one replica more
pub copies-more : (O : ℕ → Block → Type 0) (old mid new : PassView) (k writer place n : ℕ) → TakesInto O old k (λ t u. CopiesTo true (up_in old.up) writer place n t u) mid → TakesInto O mid k (λ t u. CopiesLater true (up_in mid.up) writer place (suc n) t u) new → TakesInto O old k (λ t u. CopiesTo true (up_in old.up) writer place (suc n) t u) new
copies-more O old mid new k writer place n a b = record {
  steps = λ clear t fits. copies-next (O k) (up_in old.up) (client_at mid k) writer place n (client_at new k) t (a.steps clear t fits)
      (λ x f. changes-as (O k) (client_at new k) (λ u. CopiesLater true (up_in mid.up) writer place (suc n) x u) (λ u. CopiesLater true (up_in old.up) writer place (suc n) x u)
      (λ u h. subst (λ (ups : List Bool). CopiesLater true (up_in ups) writer place (suc n) x u) (keeps-up old k mid a.keeps) h) (b.steps clear x f));
  keeps = keeps-both old mid new k a.keeps b.keeps;
  goes = b.goes;
}

-- the same, counted as a loop does
pub copies-one-more : (O : ℕ → Block → Type 0) (old mid new : PassView) (k writer place n : ℕ) → TakesInto O old k (λ t u. CopiesTo true (up_in old.up) writer place n t u) mid → TakesInto O mid k (λ t u. CopiesLater true (up_in mid.up) writer place (n + 1) t u) new → TakesInto O old k (λ t u. CopiesTo true (up_in old.up) writer place (n + 1) t u) new
copies-one-more O old mid new k writer place n a =
    let e : suc n ≡ n + 1 = omega arith in
    subst (λ (m : ℕ). TakesInto O mid k (λ t u. CopiesLater true (up_in mid.up) writer place m t u) new → TakesInto O old k (λ t u. CopiesTo true (up_in old.up) writer place m t u) new) e (copies-more O old mid new k writer place n a)

-- all of them, and a look
pub copies-all : (O : ℕ → Block → Type 0) (old mid new : PassView) (k writer place : ℕ) → TakesInto O old k (λ t u. CopiesTo true (up_in old.up) writer place 8 t u) mid → Saw mid k new → CopiesBlock O old k writer place new
copies-all O old mid new k writer place a s = record {
  steps = λ clear t fits. copies-end (O k) (up_in old.up) (client_at mid k) writer place s.gained s.noted (client_at new k) t (a.steps clear t fits) s.sees
      (subst (λ (p : Client). KnowsTable (client_at new k) (known_table p)) s.seen (knows-itself (client_at new k)));
  keeps = keeps-both old mid new k a.keeps s.keeps;
  goes = s.goes;
}

-- ---- the block

-- the part of a block that goes in later is that of its lock
part-of-lock : (up : ℕ → Bool) (a : Asked) (b : Block) (lock : Lock) (before first now : Client) → HoldsNumber up a b lock before first → Later before now → pieces.Part (part_for (known_table now) b) ≡ pieces.Part (block_name lock.id.partition lock.number)
part-of-lock up a b lock before first now h l =
    ap (λ (next : List (Option ℕ × ℕ)). pieces.Part (block_name b.partition (next_number next b.partition))) (later-next before now l)
    ∙ (ap (λ (n : ℕ). pieces.Part (block_name b.partition n)) (sym h.number)
    ∙ ap (λ (p : Option ℕ). pieces.Part (block_name p lock.number)) (sym h.id.partition))

module _ (O : ℕ → Block → Type 0) (up : ℕ → Bool) (r need : ℕ) (b : Block) (lock : Lock) (before first : Client) (mid new : PassView) (k place : ℕ) (h : HoldsNumber up (record { writer = r; need = need }) b lock before first) (ups : up ≡ up_in mid.up) (c : GoesInLater (O k) up (record { writer = r; need = need }) b place before (client_at mid k)) where
  abbrev asked : Asked
  asked = record { writer = r; need = need }

  -- the block is in, and its quorum is met
  pub goes-in-met : IsGathered O mid k r place need None new → InsertsFrom (O k) up asked b before (Ok (pieces.Part (block_name lock.id.partition lock.number))) (client_at new k)
  goes-in-met (inl g) = later-steps (O k) before c.now (client_at new k) (InsertsOr up asked b (Ok (pieces.Part (block_name lock.id.partition lock.number)))) c.later (λ clear t fits.
      steps-now (O k) c.now (client_at new k) (InsertsOr up asked b (Ok (pieces.Part (block_name lock.id.partition lock.number)))) (λ at f.
      changes-as (O k) (client_at new k) _ _ (λ u x. inl (subst (λ (piece : Piece). Accepts true up at asked b piece u) (part-of-lock up asked b lock before first c.now h c.later) x))
      (inserted-here (O k) up c.now asked b (client_at new k) c.takes (record {
        offered = c.goes_in.offered;
        plain = g.0;
        room = c.goes_in.room clear;
        after = subst (λ (p : PassView). KnowsTable (client_at p k) (with_block (known_table c.now) asked b)) (sym g.1) c.goes_in.after;
      }) at f)) t fits)
  goes-in-met (inr g) = later-steps (O k) before c.now (client_at new k) (InsertsOr up asked b (Ok (pieces.Part (block_name lock.id.partition lock.number)))) c.later (λ clear t fits.
      steps-now (O k) c.now (client_at new k) (InsertsOr up asked b (Ok (pieces.Part (block_name lock.id.partition lock.number)))) (λ at f.
      changes-as (O k) (client_at new k) _ _ (λ u x. inl (subst (λ (piece : Piece). Accepts true up at asked b piece u) (part-of-lock up asked b lock before first c.now h c.later) x))
      (accepted-here (O k) up c.now asked b (client_at mid k) (client_at new k) c.takes (record { offered = c.goes_in.offered; asked = g.0; room = c.goes_in.room clear; goes_in = c.goes_in.after })
      (λ x fx. subst (λ (n : ℕ). ChangesInto (O k) (client_at new k) (CopiesAll true up r n x)) c.goes_in.at (subst (λ (w : ℕ → Bool). ChangesInto (O k) (client_at new k) (CopiesAll true w r place x)) (sym ups) (g.1.steps clear x fx)))
      g.2 at f)) t fits)

  -- or it isn't
  pub goes-in-unmet : (have : ℕ) → IsGathered O mid k r place need (Some have) new → InsertsFrom (O k) up asked b before (Err (QuorumUnmet have need)) (client_at new k)
  goes-in-unmet have g = later-steps (O k) before c.now (client_at new k) (InsertsOr up asked b (Err (QuorumUnmet have need))) c.later (λ clear t fits.
      steps-now (O k) c.now (client_at new k) (InsertsOr up asked b (Err (QuorumUnmet have need))) (λ at f.
      changes-as (O k) (client_at new k) _ _ (λ u x. inr (inr (inr (subst (λ (n : ℕ). LacksCopies true up at asked b (QuorumUnmet n need) u) (sym g.2.count) x))))
      (lacks-copies-here (O k) up c.now asked b (client_at mid k) (client_at new k) g.2.waiting c.takes (record { offered = c.goes_in.offered; asked = g.0; room = c.goes_in.room clear; goes_in = c.goes_in.after })
      (λ x fx. subst (λ (n : ℕ). ChangesInto (O k) (client_at new k) (CopiesAll true up r n x)) c.goes_in.at (subst (λ (w : ℕ → Bool). ChangesInto (O k) (client_at new k) (CopiesAll true w r place x)) (sym ups) (g.1.steps clear x fx)))
      g.2.waits at f)) t fits)

-- there is no room for it
pub no-room-from : (O : Block → Type 0) (up : ℕ → Bool) (a : Asked) (b : Block) (before new : Client) (limit : Limit) (value : ℕ) → CommitsLater O up a b before (Full limit value) new → InsertsFrom O up a b before (Err (LimitReached limit value)) new
no-room-from O up a b before new limit value c = λ clear t fits. rests-as O new (λ t u. LacksRoom up t a b (LimitReached limit value) u) (InsertsOr up a b (Err (LimitReached limit value))) (λ at u x. inr (inr (inl x))) t (c clear t fits)

-- ---- what is kept once the copies were made

pub gathered-keeps : (O : ℕ → Block → Type 0) (old new : PassView) (k writer place need : ℕ) (unmet : Option ℕ) → IsGathered O old k writer place need unmet new → KeepsPass old k new
gathered-keeps O old new k writer place need None (inl g) = subst (λ (p : PassView). KeepsPass old k p) (sym g.1) (keeps-itself old k)
gathered-keeps O old new k writer place need None (inr g) = g.1.keeps
gathered-keeps O old new k writer place need (Some have) g = g.1.keeps

pub gathered-goes : (O : ℕ → Block → Type 0) (old new : PassView) (k writer place need : ℕ) (unmet : Option ℕ) → old.gave_up ≡ false → IsGathered O old k writer place need unmet new → new.gave_up ≡ false
gathered-goes O old new k writer place need None e (inl g) = ap (λ (p : PassView). p.gave_up) g.1 ∙ e
gathered-goes O old new k writer place need None e (inr g) = g.1.goes
gathered-goes O old new k writer place need (Some have) e g = g.1.goes

-- the id of a lock that is the block's
pub id-of-lock : (b : Block) (id : BlockId) → IsIdOf b id → id ≡ record { partition = b.partition; digest = b.digest }
id-of-lock b id i = ap (λ (p : Option ℕ). record { partition = p; digest = id.digest }) i.partition ∙ ap (λ (d : List ℕ). record { partition = b.partition; digest = d }) i.digest

-- ---- the whole of it

module _ (O : ℕ → Block → Type 0) (first mid then_on : PassView) (k r need : ℕ) (b : Block) (lock : Lock) (s : Saw first k mid) (h : HoldsNumber (up_in mid.up) (asked_at r need) b lock (client_at mid k) (client_at then_on k)) (keeps : KeepsPass mid k then_on) where
  ups : up_in mid.up ≡ up_in then_on.up
  ups = sym (ap (λ (us : List Bool). up_in us) (keeps-up mid k then_on keeps))

  -- the number is held as whoever commits the block asks
  pub held-then : HoldsNumber (up_in then_on.up) (asked_at lock.replica need) b lock (client_at mid k) (client_at then_on k)
  held-then =
      subst (λ (w : ℕ → Bool). HoldsNumber w (asked_at lock.replica need) b lock (client_at mid k) (client_at then_on k)) ups
      (subst (λ (n : ℕ). HoldsNumber (up_in mid.up) (asked_at n need) b lock (client_at mid k) (client_at then_on k)) (sym h.writer) h)

  pub there-then : k < length first.tables → k < length then_on.tables
  there-then = keeps-there first k then_on (keeps-both first mid then_on k s.keeps keeps)

  -- what came of the block is the statement's
  pub inserts-so : (new : PassView) → KeepsPass then_on k new → new.gave_up ≡ false → (done : Result Piece Refusal) → ((before : Client) → HoldsNumber (up_in then_on.up) (asked_at lock.replica need) b lock before (client_at then_on k) → InsertsFrom (O k) (up_in then_on.up) (asked_at lock.replica need) b before done (client_at new k)) → TakesStep O first k (InsertsOr (up_in first.up) (asked_at r need) b done) new
  inserts-so new on goes done f =
      let same : up_in then_on.up ≡ up_in first.up = ap (λ (us : List Bool). up_in us) (keeps-up first k then_on (keeps-both first mid then_on k s.keeps keeps)) in
      record {
        steps = sees-then-steps (O k) (client_at first k) (client_at mid k) (client_at new k) s.gained s.noted (InsertsOr (up_in first.up) (asked_at r need) b done) s.sees s.seen
            (subst (λ (w : ℕ → Bool). StepsTo (O k) (client_at mid k) (InsertsOr w (asked_at r need) b done) (client_at new k)) same
            (subst (λ (n : ℕ). StepsTo (O k) (client_at mid k) (InsertsOr (up_in then_on.up) (asked_at n need) b done) (client_at new k)) h.writer
            (f (client_at mid k) held-then)));
        keeps = keeps-both first then_on new k (keeps-both first mid then_on k s.keeps keeps) on;
        goes = goes;
      }

  pub keeps-so : (new : PassView) → KeepsPass then_on k new → KeepsPass first k new
  keeps-so new on = keeps-both first then_on new k (keeps-both first mid then_on k s.keeps keeps) on

-- a block that was accepted before, and one that is refused
pub repeats-so : (O : ℕ → Block → Type 0) (first mid new : PassView) (k : ℕ) (a : Asked) (b : Block) (part : Name) → Saw first k mid → TakesStep O mid k (λ t u. Repeats (up_in mid.up) t a b (pieces.Duplicate part) u) new → TakesStep O first k (InsertsOr (up_in first.up) a b (Ok (pieces.Duplicate part))) new
repeats-so O first mid new k a b part s t =
    subst (λ (us : List Bool). TakesStep O first k (InsertsOr (up_in us) a b (Ok (pieces.Duplicate part))) new) (keeps-up first k mid s.keeps)
    (saw-then-takes O first mid new k (InsertsOr (up_in mid.up) a b (Ok (pieces.Duplicate part))) s
    (takes-as O mid new k (λ at u. Repeats (up_in mid.up) at a b (pieces.Duplicate part) u) (InsertsOr (up_in mid.up) a b (Ok (pieces.Duplicate part))) (λ at u x. inr x) t))

pub refuses-so : (O : ℕ → Block → Type 0) (first mid new : PassView) (k : ℕ) (a : Asked) (b : Block) (why : Refusal) → Saw first k mid → TakesStep O mid k (λ t u. Refuses true (up_in mid.up) t a b why u) new → TakesStep O first k (InsertsOr (up_in first.up) a b (Err why)) new
refuses-so O first mid new k a b why s t =
    subst (λ (us : List Bool). TakesStep O first k (InsertsOr (up_in us) a b (Err why)) new) (keeps-up first k mid s.keeps)
    (saw-then-takes O first mid new k (InsertsOr (up_in mid.up) a b (Err why)) s t)

-- what is known of an answer, with what is known where it is one
pub if-ok-with : {T E : Type 0} (r : Result T E) (P Q : T → Type 0) (G : Type 0) → ((x : T) → P x → G → Q x) → IfOk r P → OnOk r G → IfOk r Q
if-ok-with (Ok x) P Q G f p g = f x p g
if-ok-with (Err e) P Q G f p g = tt
