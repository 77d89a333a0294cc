-- INSERT, block by block: one more block, the block at which it ends, and what the events of one block come to.
use Rattle.std.proofs.Common.{◌≡◌, ℕ, ◌≤◌, inl, inr, Bool, true, false, cond, List, [], ◌∷◌, ◌++◌, length, refl, sym, ap, subst, ◌∙◌, arith, nat_le, nat_lt}
use Rattle.std.proofs.lemmas.Bool.Decides.{nat_tests}
use Rattle.std.specs.declared.option.Option.TheVariants.{Some, None}
use Rattle.rmt_values.specs.declared.limit.Limit.{Limit}
use Rattle.rmt_names.specs.Names.{Name, block_name}
use Rattle.rmt_entries.specs.declared.entry.Entry.TheVariants.{Get}
use Rattle.rmt_model.specs.Quorum.{Pending, Quorum, quorum_after_block}
use Rattle.rmt_events.specs.Views.{Block}
use Rattle.rmt_events.specs.Clusters.{Cluster}
use Rattle.rmt_events.specs.TableRefusals.{AreTooFew, HasQuorum, MeetsPending}
use Rattle.rmt_reply.specs.declared.piece.Piece.{Piece}
use Rattle.rmt_reply.specs.declared.piece.Piece.TheVariants as pieces
use Rattle.rmt_reply.specs.declared.refusal.Refusal.{Refusal}
use Rattle.rmt_reply.specs.declared.refusal.Refusal.TheVariants.{TooFewLive, QuorumPending, QuorumUnmet, LimitReached}
use Rattle.rmt_statement_model.specs.TableStates.{TableState, learned, kept_with}
use Rattle.rmt_statement_model.specs.QuorumCopies.{count_live}
use Rattle.rmt_statement_model.specs.Gathered.{gathered_for}
use Rattle.rmt_statement_model.specs.Inserts.{Asked, number_for, with_number, number_limit, block_limit, refused_waiting, quorum_refusal, with_block, GathersBlock, IsNew, Inserts, Refuses, InsertsLater, RefusesLater, InsertsAll}
use Rattle.rmt_statement_model.specs.Shows.{Shows, Leads, ups}
use Rattle.rmt_statement_model.proofs.GatheredLaws.{gathers-made}

-- ---- several blocks

-- one more block that is inserted
pub inserts-more : (w : Bool) (up : ℕ → Bool) (t u v : TableState) (a : Asked) (bs : List Block) (b : Block) (all : List Piece) (piece : Piece) → InsertsAll w up t a bs all None u → InsertsLater w up u a b piece v → InsertsAll w up t a (bs ++ b ∷ []) (all ++ piece ∷ []) None v
inserts-more w up t u v a [] b [] piece k m = (v, subst (λ (x : TableState). InsertsLater w up x a b piece v) k m, refl)
inserts-more w up t u v a [] b (p ∷ all) piece k m = absurd k
inserts-more w up t u v a (c ∷ bs) b [] piece k m = absurd k
inserts-more w up t u v a (c ∷ bs) b (p ∷ all) piece k m = (k.0, k.1, inserts-more w up k.0 u v a bs b all piece k.2 m)

-- the block at which it ends; what is behind it isn't tried
pub inserts-stop : (w : Bool) (up : ℕ → Bool) (t u v : TableState) (a : Asked) (bs rest : List Block) (b : Block) (all : List Piece) (why : Refusal) → InsertsAll w up t a bs all None u → RefusesLater w up u a b why v → InsertsAll w up t a (bs ++ b ∷ rest) all (Some why) v
inserts-stop w up t u v a [] rest b [] why k m = subst (λ (x : TableState). RefusesLater w up x a b why v) k m
inserts-stop w up t u v a [] rest b (p ∷ all) why k m = absurd k
inserts-stop w up t u v a (c ∷ bs) rest b [] why k m = absurd k
inserts-stop w up t u v a (c ∷ bs) rest b (p ∷ all) why k m = (k.0, k.1, inserts-stop w up k.0 u v a bs rest b all why k.2 m)

-- the table needn't rest before a block
pub inserts-now : (w : Bool) (up : ℕ → Bool) (t u : TableState) (a : Asked) (b : Block) (piece : Piece) → Inserts w up t a b piece u → InsertsLater w up t a b piece u
inserts-now w up t u a b piece m = record { at = t; rests = inl refl; inserts = m }

pub refuses-now : (w : Bool) (up : ℕ → Bool) (t u : TableState) (a : Asked) (b : Block) (why : Refusal) → Refuses w up t a b why u → RefusesLater w up t a b why u
refuses-now w up t u a b why m = record { at = t; rests = inl refl; refuses = m }

-- ---- a quorum

-- the replicas that are up are those that have a session
abbrev pub AreCounted : Cluster → Type 0
AreCounted s = length s.table.sessions ≡ count_live (ups s)

-- none keeps the block out
pub quorum-none : (s : Cluster) (t : TableState) (need : ℕ) → AreCounted s → Shows s t → HasQuorum s.table need → quorum_refusal (ups s) t need ≡ None
quorum-none s t need c h q = rw enough (go (nat_le 2 need) refl)
  where
    enough : nat_lt (count_live (ups s)) need ≡ false
    enough = let e = q.enough in grind (arith, nat_tests)

    go : (b : Bool) → nat_le 2 need ≡ b → cond b (refused_waiting t.quorum.pending) None ≡ None
    go true e = ap refused_waiting (ap (λ (x : Quorum). x.pending) h.table.quorum ∙ q.quiet (let l : 2 ≤ need = grind (arith, nat_tests) in l))
    go false e = refl

-- too few replicas are up for it
pub quorum-few : (s : Cluster) (t : TableState) (need live needed : ℕ) → AreCounted s → AreTooFew s.table need live needed → quorum_refusal (ups s) t need ≡ Some (TooFewLive live needed)
quorum-few s t need live needed c f =
    let l = f.0 in
    let m = f.1 in
    let k = f.2 in
    let few : nat_lt (count_live (ups s)) need ≡ true = grind (arith, nat_tests) in
    let same : count_live (ups s) ≡ live = sym c ∙ sym l in
    rw few (ap (λ i. Some (TooFewLive i need)) same ∙ ap (λ i. Some (TooFewLive live i)) (sym m))

-- a part waits for its own
pub quorum-waits : (s : Cluster) (t : TableState) (need : ℕ) (part : Name) → AreCounted s → Shows s t → MeetsPending s.table need part → quorum_refusal (ups s) t need ≡ Some (QuorumPending part)
quorum-waits s t need part c h m =
    let e = m.0 in
    let f = m.1 in
    let enough : nat_lt (count_live (ups s)) need ≡ false = grind (arith, nat_tests) in
    let asked : nat_le 2 need ≡ true = grind (arith, nat_tests) in
    rw (enough, asked) (ap refused_waiting (ap (λ (x : Quorum). x.pending) h.table.quorum ∙ m.3) ∙ ap (λ (z : Name). Some (QuorumPending z)) m.4)

-- ---- one block

-- the table with the block under a number, at a place
abbrev pub with_get : TableState → Asked → Block → ℕ → TableState
with_get t a b n = record t { log = Get b.partition n b.digest a.writer a.need ∷ t.log; blocks = record { partition = b.partition; number = n; rows = b.rows } ∷ t.blocks; quorum = quorum_after_block (block_name b.partition n) a.need t.quorum }

-- the same, known at its writer, with the copies that it asks for
abbrev pub after_copies : (ℕ → Bool) → TableState → Asked → Block → ℕ → ℕ → TableState
after_copies up t a b n place = gathered_for a.need up a.writer place (record (with_get (with_number t b) a b n) { known = learned t.known a.writer place })

-- they are made of the block that got the next number, and its entry the next place
copies-gathered : (w : Bool) (up : ℕ → Bool) (t : TableState) (a : Asked) (n place : ℕ) (b : Block) → n ≡ number_for t b → place ≡ length t.log → GathersBlock w up t a b (after_copies up t a b n place)
copies-gathered w up t a n place b given placed =
    subst (GathersBlock w up t a b) (sym (ap (λ i. after_copies up t a b i place) given ∙ ap (after_copies up t a b (number_for t b)) placed))
    (gathers-made w a.need up a.writer (length t.log) (with_block t a b))

-- the block is accepted: it got the next number, and its entry the next place; its quorum is met
pub part-row : (up : ℕ → Bool) (t : TableState) (a : Asked) (n place : ℕ) (b : Block) (u : Cluster) → IsNew up t a b → number_limit t b ≡ None → n ≡ number_for t b → block_limit (with_number t b) b ≡ None → place ≡ length t.log
    → (2 ≤ a.need → (after_copies up t a b n place).quorum.pending ≡ None) → Shows u (after_copies up t a b n place)
    → Leads u (λ v. Inserts false up t a b (pieces.Part (block_name b.partition n)) v)
part-row up t a n place b u new number given room placed met shows =
    record {
      state = after_copies up t a b n place;
      holds = inl (record {
        is_new = new;
        number = number;
        room = room;
        met = met;
        reply = ap (λ i. pieces.Part (block_name b.partition i)) given;
        gathers = copies-gathered false up t a n place b given placed;
      });
      shows = shows;
    }

-- the block is accepted, and its part waits still
pub unmet-row : (up : ℕ → Bool) (t : TableState) (a : Asked) (n place : ℕ) (b : Block) (q : Pending) (have : ℕ) (u : Cluster) → IsNew up t a b → number_limit t b ≡ None → n ≡ number_for t b → block_limit (with_number t b) b ≡ None → place ≡ length t.log
    → 2 ≤ a.need → (after_copies up t a b n place).quorum.pending ≡ Some q → have ≡ length q.noted → Shows u (after_copies up t a b n place)
    → Leads u (λ v. Refuses false up t a b (QuorumUnmet have a.need) v)
unmet-row up t a n place b q have u new number given room placed asked waits noted shows =
    record {
      state = after_copies up t a b n place;
      holds = inr (inr (inr (record {
        is_new = new;
        number = number;
        room = room;
        asked = asked;
        waiting = q;
        waits = waits;
        reply = ap (λ i. QuorumUnmet i a.need) noted;
        gathers = copies-gathered false up t a n place b given placed;
      })));
      shows = shows;
    }

-- the block's id is kept
pub duplicate-row : (up : ℕ → Bool) (t : TableState) (a : Asked) (b : Block) (part : Name) (u : Cluster) → quorum_refusal up t a.need ≡ None → kept_with t b ≡ Some part → Shows u t → Leads u (λ v. Inserts false up t a b (pieces.Duplicate part) v)
duplicate-row up t a b part u quorum same shows =
    record { state = t; holds = inr (record { quorum = quorum; part = part; kept = same; reply = refl; unchanged = refl }); shows = shows }

-- no quorum can be had for the block
pub no-quorum-row : (up : ℕ → Bool) (t : TableState) (a : Asked) (b : Block) (why : Refusal) (u : Cluster) → quorum_refusal up t a.need ≡ Some why → Shows u t → Leads u (λ v. Refuses false up t a b why v)
no-quorum-row up t a b why u quorum shows = record { state = t; holds = inl (record { reply = quorum; unchanged = refl }); shows = shows }

-- the block gets no number
pub no-number-row : (up : ℕ → Bool) (t : TableState) (a : Asked) (b : Block) (limit : Limit) (value : ℕ) (u : Cluster) → IsNew up t a b → number_limit t b ≡ Some (limit, value) → Shows u t → Leads u (λ v. Refuses false up t a b (LimitReached limit value) v)
no-number-row up t a b limit value u new reached shows =
    record {
      state = t;
      holds = inr (inl (record { is_new = new; limit = limit; value = value; reached = reached; reply = refl; unchanged = refl }));
      shows = shows;
    }

-- there is no room for the block, and its number is used up
pub no-room-row : (up : ℕ → Bool) (t : TableState) (a : Asked) (b : Block) (limit : Limit) (value : ℕ) (u : Cluster) → IsNew up t a b → number_limit t b ≡ None → block_limit (with_number t b) b ≡ Some (limit, value) → Shows u (with_number t b) → Leads u (λ v. Refuses false up t a b (LimitReached limit value) v)
no-room-row up t a b limit value u new number reached shows =
    record {
      state = with_number t b;
      holds = inr (inr (inl (record { is_new = new; number = number; limit = limit; value = value; reached = reached; reply = refl; change = refl })));
      shows = shows;
    }
