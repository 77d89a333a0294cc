-- What LANES replies and changes, statement by statement and lane by lane.
use Rattle.std.proofs.Common.{◌≡◌, ◌∙◌, ℕ, zero, suc, ◌+◌, ◌<◌, ◌≤◌, inl, inr, Bool, cond, List, [], ◌∷◌, ◌++◌, length, refl, ap, sym, subst, arith, append_assoc, append-nil}
use Rattle.std.proofs.lemmas.List.{length_push}
use Rattle.std.proofs.lemmas.List.Sums.{sum_by-append}
use Rattle.std.specs.Prelude.{count_by, slice_index_or}
use Rattle.std.specs.List.{All}
use Rattle.rmt_values.specs.Rows.{Shape}
use Rattle.rmt_model.specs.Words.{Has}
use Rattle.rmt_events.specs.Views.{Block}
use Rattle.rmt_statements.specs.declared.sent.Sent.{Sent}
use Rattle.rmt_statements.specs.declared.statement.Statement.{Statement}
use Rattle.rmt_statements.specs.declared.statement.Statement.TheVariants as statements
use Rattle.rmt_sql.specs.Script.{statements_in}
use Rattle.rmt_reply.specs.declared.line.Line.{Line}
use Rattle.rmt_reply.specs.declared.line.Line.TheVariants as lines
use Rattle.rmt_reply.specs.Summaries.{is_refused}
use Rattle.rmt_play.specs.World.{World}
use Rattle.rmt_play.specs.WorldRests.{RestsAll}
use Rattle.rmt_play.specs.Plays.{ExecutesSent, PlaysLane, PlaysEach, PlaysLanes}
use Rattle.rmt_play.specs.Offered.{OffersLane, OffersStatement}
use Rattle.rmt_play.specs.PlayerSteps.{Sights, PlayerView, RestsFirst, Reaches, Moves, ExecutesPlayed, AddsLane}
use Rattle.rmt_play.proofs.TableLemmas.{rests-all-none}
use Rattle.rmt_play.proofs.ScriptLemmas.{one-refused}

-- the statements of lanes were played, the first of which has number 1, with these lines, and no more of them tell of a refusal than
-- there are statements
pub record AddsLanes {e : Sights} (old : PlayerView e) (lanes : List (List Sent)) (reply : List Line) (new : PlayerView e) : Type 0 where
  pub plays : Reaches old (λ w v. PlaysEach e.workers w 1 lanes reply v) new
  pub few : count_by is_refused reply ≤ statements_in lanes

count-append : (first more : List Line) → count_by is_refused (first ++ more) ≡ count_by is_refused first + count_by is_refused more
count-append first more = sum_by-append (λ l. cond (is_refused l) 1 0) first more

-- ---- a lane

-- one more of its statements
lane-more : (w : Bool) (old : World) (lane : List Sent) (reply : List Line) (mid : World) (sent : Sent) (line : Line) (new : World) → PlaysLane w old lane reply mid → RestsFirst w (ExecutesSent w sent line) mid new → PlaysLane w old (lane ++ sent ∷ []) (reply ++ line ∷ []) new
lane-more w old [] [] mid sent line new k m = (m.at, new, subst (λ (x : World). RestsAll w x m.at) k m.rests, m.change, refl)
lane-more w old [] (other ∷ reply) mid sent line new k m = absurd k
lane-more w old (other ∷ lane) [] mid sent line new k m = absurd k
lane-more w old (other ∷ lane) (first ∷ reply) mid sent line new k m = (k.0, k.1, k.2, k.3, lane-more w k.1 lane reply mid sent line new k.4 m)

pub lane-none : {e : Sights} (p : PlayerView e) (reply : List Line) → AddsLane p [] reply reply p
lane-none p reply = record { reply = []; plays = λ w i. record { world = w; holds = refl; is_in = i }; added = sym (append-nil reply); few = omega arith }

pub lane-on : {e : Sights} (p q r : PlayerView e) (lane : List Sent) (before now after : List Line) (sent : Sent) (line : Line) → AddsLane p lane before now q → Moves q (ExecutesSent e.workers sent line) r → after ≡ now ++ line ∷ [] → AddsLane p (lane ++ sent ∷ []) before after r
lane-on {e} p q r lane before now after sent line k m added =
    let few = k.few in
    let one = one-refused line in
    let all = count-append k.reply (line ∷ []) in
    let long = length_push lane sent in
    record {
      reply = k.reply ++ line ∷ [];
      plays = λ w i.
          let x = k.plays w i in
          let y = m x.world x.is_in in
          record { world = y.world; holds = lane-more e.workers w lane k.reply x.world sent line y.world x.holds y.holds; is_in = y.is_in };
      added = added ∙ (ap (λ (l : List Line). l ++ line ∷ []) k.added ∙ append_assoc before k.reply (line ∷ []));
      few = omega (arith, few, one, all, long);
    }

-- ---- lanes

-- one more lane
each-more : (w : Bool) (old : World) (number : ℕ) (lanes : List (List Sent)) (reply : List Line) (mid : World) (lane : List Sent) (first : List Line) (new : World) → PlaysEach w old number lanes reply mid → PlaysLane w mid lane first new
    → PlaysEach w old number (lanes ++ lane ∷ []) (reply ++ lines.Lane (number + length lanes) ∷ first) new
each-more w old number [] reply mid lane first new k m = (
  first,
  [],
  new,
  ap (λ (l : List Line). l ++ lines.Lane (number + 0) ∷ first) k.0 ∙ (ap (λ (n : ℕ). lines.Lane n ∷ first) (let same : number + 0 ≡ number = omega arith in same) ∙ ap (λ (l : List Line). lines.Lane number ∷ l) (sym (append-nil first))),
  subst (λ (x : World). PlaysLane w x lane first new) k.1 m,
  (refl, refl),
)
each-more w old number (other ∷ lanes) reply mid lane first new k m =
    let more = k.1 ++ lines.Lane (suc number + length lanes) ∷ first in (
      k.0,
      more,
      k.2,
      ap (λ (l : List Line). l ++ lines.Lane (number + suc (length lanes)) ∷ first) k.3
          ∙ (ap (λ (n : ℕ). (lines.Lane number ∷ k.0 ++ k.1) ++ lines.Lane n ∷ first) (let same : number + suc (length lanes) ≡ suc number + length lanes = omega arith in same)
          ∙ ap (λ (l : List Line). lines.Lane number ∷ l) (append_assoc k.0 k.1 (lines.Lane (suc number + length lanes) ∷ first))),
      k.4,
      each-more w k.2 (suc number) lanes k.1 mid lane first new k.5 m,
    )

statements-more : (lanes : List (List Sent)) (lane : List Sent) → statements_in (lanes ++ lane ∷ []) ≡ statements_in lanes + length lane
statements-more [] lane = omega arith
statements-more (other ∷ lanes) lane = let rest = statements-more lanes lane in omega (arith, rest)

pub lanes-none : {e : Sights} (p : PlayerView e) → AddsLanes p [] [] p
lanes-none p = record { plays = λ w i. record { world = w; holds = (refl, refl); is_in = i }; few = omega arith }

pub lanes-on : {e : Sights} (p q r : PlayerView e) (lanes : List (List Sent)) (now numbered after : List Line) (lane : List Sent) (number : ℕ) → AddsLanes p lanes now q → numbered ≡ now ++ lines.Lane number ∷ [] → number ≡ 1 + length lanes → AddsLane q lane numbered after r → AddsLanes p (lanes ++ lane ∷ []) after r
lanes-on {e} p q r lanes now numbered after lane number k here same m =
    let whole : after ≡ now ++ lines.Lane (1 + length lanes) ∷ m.reply =
    m.added ∙ (ap (λ (l : List Line). l ++ m.reply) here ∙ (append_assoc now (lines.Lane number ∷ []) m.reply ∙ ap (λ (n : ℕ). now ++ lines.Lane n ∷ m.reply) same)) in
    let few = k.few in
    let fewer = m.few in
    let counted = count-append now (lines.Lane (1 + length lanes) ∷ m.reply) in
    let later = count-append (lines.Lane (1 + length lanes) ∷ []) m.reply in
    let long = statements-more lanes lane in
    record {
      plays = λ w i.
          let x = k.plays w i in
          let y = m.plays x.world x.is_in in
          record { world = y.world; holds = subst (λ (l : List Line). PlaysEach e.workers w 1 (lanes ++ lane ∷ []) l y.world) (sym whole) (each-more e.workers w 1 lanes now x.world lane m.reply y.world x.holds y.holds); is_in = y.is_in };
      few = subst (λ (l : List Line). count_by is_refused l ≤ statements_in (lanes ++ lane ∷ [])) (sym whole) (omega (arith, few, fewer, counted, later, long));
    }

-- the last line
pub lanes-ended : {e : Sights} (p q : PlayerView e) (lanes : List (List Sent)) (each reply : List Line) → AddsLanes p lanes each q → reply ≡ each ++ lines.End ∷ [] → Moves p (PlaysLanes e.workers lanes reply) q
lanes-ended {e} p q lanes each reply k ended w i =
    let x = k.plays w i in
    record { world = x.world; holds = record { at = w; rests = rests-all-none e.workers w; change = record { each = each; plays = x.holds; ended = ended } }; is_in = x.is_in }

pub lanes-few : {e : Sights} (p q : PlayerView e) (lanes : List (List Sent)) (each reply : List Line) → AddsLanes p lanes each q → reply ≡ each ++ lines.End ∷ [] → count_by is_refused reply ≤ statements_in lanes
lanes-few p q lanes each reply k ended =
    let few = k.few in
    let counted = count-append each (lines.End ∷ []) in
    subst (λ (l : List Line). count_by is_refused l ≤ statements_in lanes) (sym ended) (omega (arith, few, counted))

-- so a statement that is these lanes is played
pub lanes-played : {e : Sights} (p q : PlayerView e) (statement : Statement) (lanes given : List (List Sent)) (reply : List Line) → statement ≡ statements.Lanes lanes → given ≡ lanes → Moves p (PlaysLanes e.workers given reply) q → Moves p (ExecutesPlayed e.workers statement reply) q
lanes-played {e} p q statement lanes given reply is same m =
    subst (λ (s : Statement). Moves p (ExecutesPlayed e.workers s reply) q) (sym is) (subst (λ (l : List (List Sent)). Moves p (PlaysLanes e.workers l reply) q) same m)

-- ---- what they bring

has-at : {A : Type 0} (xs : List A) (i : ℕ) (d : A) → i < length xs → Has xs (slice_index_or xs i d)
has-at [] i d l = absurd (omega (arith, l))
has-at (x ∷ xs) zero d l = inl refl
has-at (x ∷ xs) (suc i) d l = inr (has-at xs i d (omega (arith, l)))

pub lanes-offered : (Offers : Shape → Block → Type 0) (lanes : List (List Sent)) → OffersStatement Offers (statements.Lanes lanes) → All (OffersLane Offers) lanes
lanes-offered Offers lanes h k d l j s m schema b brings =
    h schema b (record { lane = slice_index_or lanes k d; among = has-at lanes k d l; sent = slice_index_or (slice_index_or lanes k d) j s; in_lane = has-at (slice_index_or lanes k d) j s m; brings = brings })
