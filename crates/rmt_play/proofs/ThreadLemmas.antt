-- A script among workers, from round to round.
use Rattle.std.proofs.Common.{◌≡◌, ◌≢◌, ◌∙◌, ℕ, ◌+◌, ◌<◌, ◌≤◌, true, List, [], ◌∷◌, length, refl, sym, subst, arith}
use Rattle.std.specs.declared.option.Option.{Option}
use Rattle.rmt_values.specs.Rows.{Shape}
use Rattle.rmt_events.specs.Views.{Block}
use Rattle.rmt_clients.specs.Clients.{AreClear}
use Rattle.rmt_reply.specs.declared.line.Line.TheVariants as lines
use Rattle.rmt_play.specs.Plays.{Creates}
use Rattle.rmt_play.specs.Offered.{IsOfferedBy}
use Rattle.rmt_play.specs.Outlets.{Outlet, AddsInPart, KeepsMarks, Tells, Told, ToldInPart, told_of}
use Rattle.rmt_play.specs.Runs.{PlayedSome}
use Rattle.rmt_play.specs.Threads.{AreClearIn, PlayedAmong}
use Rattle.rmt_play.specs.declared.round.Round.{Round}
use Rattle.rmt_play.specs.declared.round.Round.TheVariants as rounds
use Rattle.rmt_play.specs.declared.threaded.ground.Ground.{Ground}
use Rattle.rmt_play.specs.declared.threaded.span.Span.TheVariants as spans
use Rattle.rmt_play.specs.PlayerSteps.{PlayerView, IsIn, Moves}
use Rattle.rmt_play.specs.ScriptEnds.{IsRound}
use Rattle.rmt_play.specs.Seats.{IsGround, ground_view, seats_seen}
use Rattle.rmt_play.specs.ThreadedRounds.{AddsTo, IsSpan, LeavesGround}
use Rattle.rmt_play.proofs.OutletLemmas.{adds-kept}
use Rattle.rmt_play.proofs.GroundLemmas.{hands-back}
use Rattle.rmt_play.proofs.MakingLemmas.{adds-ground, adds-moves}
use Rattle.rmt_play.proofs.ScriptLemmas.{SoFar, made-in-part, made-short, plays-start, round-short, so_far_in_part, so_far_made, so_far_plays}

-- ---- how far a round comes

pub record ComesFurther (script : List ℕ) (from end refused : ℕ) : Type 0 where
  pub few : refused < end
  pub further : from < end
  pub within : end ≤ length script

pub creates-further : {o : Outlet} {O : Shape → Block → Type 0} (script : List ℕ) (from count : ℕ) (p q : PlayerView (seats_seen O)) (before after : Option (List o.Mark)) (table : List ℕ) (schema : Shape) (end refused : ℕ) → IsRound o script from count p q before after (rounds.Creates table schema end refused) → ComesFurther script from end refused
creates-further {o} script from count p q before after table schema end refused k =
    let a = k.ends.0 in
    let b = k.ends.1.further in
    let c = k.plays.few in
    let d = k.plays.further in
    record { few = omega (arith, a, b, c); further = omega (arith, b, d); within = k.ends.1.within }

-- some statements were played, however the round ended, unless a reply couldn't be written
pub round-played : {o : Outlet} {O : Shape → Block → Type 0} (script : List ℕ) (from count : ℕ) (p q : PlayerView (seats_seen O)) (before now after : Option (List o.Mark)) (round : Round) → SoFar o script from p before now count → IsRound o script from count p q now after round → round ≢ rounds.WriteFault → PlayedSome true script (Told o before after)
round-played {o} script from count p q before now after (rounds.AtEnd refused) so k n =
    so_far_in_part script k.at k.player before k.now after k.refused (so_far_plays script from k.at p k.player before now k.now count k.refused so k.plays) k.ends.2
round-played {o} script from count p q before now after (rounds.Creates table schema end refused) so k n =
    let s = so_far_plays script from k.at p k.player before now k.now count k.refused so k.plays in
    record { replies = s.replies; at = k.at; world = s.world; played = s.played; told = subst (λ (b : Option (List o.Mark)). Told o before b s.replies) (sym k.ends.1.untold) s.told }
round-played {o} script from count p q before now after rounds.WriteFault so k n = absurd (n refl)
round-played {o} script from count p q before now after rounds.Memory so k n =
    so_far_in_part script k.at k.player before k.now after k.refused (so_far_plays script from k.at p k.player before now k.now count k.refused so k.plays) k.ends

-- a round that doesn't begin
pub no-round : {o : Outlet} (O : Shape → Block → Type 0) (script : List ℕ) (from count : ℕ) (p : PlayerView (seats_seen O)) (before after : Option (List o.Mark)) → count ≤ from → from ≤ length script → KeepsMarks before after → IsSpan o O script from count p before after spans.Memory
no-round {o} O script from count p before after few within k = record {
  paused = p;
  round = rounds.Memory;
  plays = record { at = from; refused = count; player = p; now = before; plays = plays-start script from count p before few within; ends = k };
  tells = λ e. absurd (cc);
}

-- ---- a table is made

-- its CREATE is played
made-among : (O : Shape → Block → Type 0) (q : PlayerView (seats_seen O)) (left next : Ground) (table : List ℕ) (schema : Shape) → AreClear (O schema) → LeavesGround O q left → AddsTo table schema left next → Moves q (λ w v. Creates w table schema lines.Okay v) (ground_view O next)
made-among O q left next table schema clear l a w z = adds-moves O left next table schema l.ground a clear w (l.stays w z)

-- the statements up to it were played, and it
pub so_far_among : {o : Outlet} (O : Shape → Block → Type 0) (script : List ℕ) (from count : ℕ) (p q : PlayerView (seats_seen O)) (before now mid after : Option (List o.Mark)) (left next : Ground) (table : List ℕ) (schema : Shape) (end refused : ℕ) → AreClear (O schema) → SoFar o script from p before now count
    → IsRound o script from count p q now mid (rounds.Creates table schema end refused) → LeavesGround O q left → AddsTo table schema left next → Tells o (lines.Okay ∷ []) mid after → SoFar o script end (ground_view O next) before after refused
so_far_among {o} O script from count p q before now mid after left next table schema end refused clear so k l a w =
    subst (λ (n : ℕ). SoFar o script end (ground_view O next) before after n) (let e : refused + 0 ≡ refused = omega arith in e)
    (so_far_made script from count p q (ground_view O next) before now mid after table schema end refused end 0 so k
    (record { line = lines.Okay; made = made-among O q left next table schema clear l a; told = (refl, w, refl) })).0

pub short-among : {o : Outlet} (O : Shape → Block → Type 0) (script : List ℕ) (from count : ℕ) (p q : PlayerView (seats_seen O)) (before now mid after : Option (List o.Mark)) (left next : Ground) (table : List ℕ) (schema : Shape) (end refused : ℕ) → AreClear (O schema) → SoFar o script from p before now count
    → IsRound o script from count p q now mid (rounds.Creates table schema end refused) → LeavesGround O q left → AddsTo table schema left next → AddsInPart mid after (o.marks (lines.Okay ∷ [])) → PlayedSome true script (ToldInPart o before after)
short-among {o} O script from count p q before now mid after left next table schema end refused clear so k l a w =
    made-short script from count p q (ground_view O next) before now mid after table schema end refused so k (record { line = lines.Okay; made = made-among O q left next table schema clear l a; told = w })

-- ---- the end

pub whole-among : {o : Outlet} (O : Shape → Block → Type 0) (script : List ℕ) (from count : ℕ) (p q : PlayerView (seats_seen O)) (before now after : Option (List o.Mark)) (left : Ground) (refused : ℕ) → SoFar o script from p before now count
    → IsRound o script from count p q now after (rounds.AtEnd refused) → LeavesGround O q left → PlayedAmong script (Told o before after) refused left.carried.states.items
whole-among {o} O script from count p q before now after left refused so k l =
    let (counted, ended, keeps, same) = k.ends in
    let s = so_far_plays script from k.at p k.player before now k.now count k.refused so k.plays in
    let z : IsIn q s.world = subst (λ (v : PlayerView (seats_seen O)). IsIn v s.world) (sym same) s.is_in in
    let h = hands-back O left s.world l.ground (l.stays s.world z) in
    record {
      replies = s.replies;
      at = k.at;
      last = s.world;
      played = s.played;
      ended = ended;
      told = adds-kept before k.now after (told_of o s.replies) s.told keeps;
      counted = counted ∙ s.counted;
      world = h.world;
      rests = h.rests;
      shown = h.shown;
      replicas = h.replicas;
    }

-- ---- from a round to the next

module _ (o : Outlet) (script : List ℕ) (from count : ℕ) (g : Ground) (before now mid : Option (List o.Mark)) (sofar : AreClearIn script → SoFar o script from (ground_view (IsOfferedBy script) g) before now count) where
  abbrev offers : Shape → Block → Type 0
  offers = IsOfferedBy script

  abbrev view : PlayerView (seats_seen offers)
  view = ground_view offers g

  module _ (table : List ℕ) (schema : Shape) (end refused : ℕ) (left : Ground) (k : IsSpan o offers script from count view now mid (spans.Creates table schema end refused left)) where
    -- the round up to the CREATE
    up-to : IsRound o script from count view k.paused now mid (rounds.Creates table schema end refused)
    up-to = subst (λ (r : Round). IsRound o script from count view k.paused now mid r) k.tells.0 k.plays

    pub span-further : ComesFurther script from end refused
    span-further = creates-further script from count view k.paused now mid table schema end refused up-to

    pub span-ground : IsGround offers left
    span-ground = k.tells.1.ground

    pub span-next : (next : Ground) → AddsTo table schema left next → IsGround offers next
    span-next next a = adds-ground offers left next table schema k.tells.1.ground a

    pub span-made : (next : Ground) (after : Option (List o.Mark)) → AddsTo table schema left next → Tells o (lines.Okay ∷ []) mid after → AreClearIn script → SoFar o script end (ground_view offers next) before after refused
    span-made next after a w clear = so_far_among offers script from count view k.paused before now mid after left next table schema end refused (clear schema) (sofar clear) up-to k.tells.1 a w

    pub span-made-short : (after : Option (List o.Mark)) → ((next : Ground) × AddsTo table schema left next × AddsInPart mid after (o.marks (lines.Okay ∷ []))) → AreClearIn script → PlayedSome true script (ToldInPart o before after)
    span-made-short after m clear = short-among offers script from count view k.paused before now mid after left m.0 table schema end refused (clear schema) (sofar clear) up-to k.tells.1 m.1 m.2

    pub span-made-none : (after : Option (List o.Mark)) → KeepsMarks mid after → AreClearIn script → PlayedSome true script (Told o before after)
    span-made-none after w clear = made-in-part script from count view k.paused before now mid after table schema end refused (sofar clear) up-to w

  pub span-whole : (refused : ℕ) (left : Ground) → IsSpan o offers script from count view now mid (spans.AtEnd refused left) → AreClearIn script → PlayedAmong script (Told o before mid) refused left.carried.states.items
  span-whole refused left k clear =
      whole-among offers script from count view k.paused before now mid left refused (sofar clear) (subst (λ (r : Round). IsRound o script from count view k.paused now mid r) k.tells.0 k.plays) k.tells.1

  pub span-short : IsSpan o offers script from count view now mid spans.WriteFault → AreClearIn script → PlayedSome true script (ToldInPart o before mid)
  span-short k clear = round-short script from count view k.paused before now mid (sofar clear) (subst (λ (r : Round). IsRound o script from count view k.paused now mid r) k.tells k.plays)

  pub span-in-part : IsSpan o offers script from count view now mid spans.Memory → AreClearIn script → PlayedSome true script (Told o before mid)
  span-in-part k clear = round-played script from count view k.paused before now mid k.round (sofar clear) k.plays k.tells
