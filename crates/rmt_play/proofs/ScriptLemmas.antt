-- What the playing of a script keeps from statement to statement.
use Rattle.std.proofs.Common.{◌≡◌, ◌∙◌, ℕ, ◌+◌, ◌<◌, ◌≤◌, List, [], ◌∷◌, ◌++◌, length, refl, ap, sym, subst, Bool, cond, Option, arith, append_assoc, zero, suc, ◌&&◌, true, false, nat_lt, append-nil}
use Rattle.std.proofs.Math.Path.{fun_ext}
use Rattle.std.proofs.lemmas.Bool.Decides.{nat_tests}
use Rattle.std.specs.Prelude.{count_by, nat_le, replicate, slice_index_or}
use Rattle.rmt_sql.specs.declared.parsed.Parsed.TheVariants as parsed
use Rattle.rmt_sql.specs.Script.{ReadsAt}
use Rattle.rmt_reply.specs.declared.line.Line.{Line}
use Rattle.rmt_reply.specs.Summaries.{is_refused}
use Rattle.rmt_play.specs.World.{World, all_up, start}
use Rattle.rmt_play.specs.Plays.{Creates, Step, Played, PlayedFrom}
use Rattle.rmt_play.specs.Outlets.{Outlet, AddsMarks, KeepsMarks, Told, ToldInPart, told_of}
use Rattle.rmt_play.specs.Runs.{refusals_in, PlayedSome, PlayedWhole}
use Rattle.rmt_play.specs.declared.script_end.ScriptEnd.{ScriptEnd}
use Rattle.rmt_play.specs.declared.script_end.ScriptEnd.TheVariants as ends
use Rattle.rmt_model.specs.Words.{Each}
use Rattle.rmt_events.specs.Clusters.{Cluster}
use Rattle.rmt_play.specs.Shown.{AreShown, HasReplicas}
use Rattle.rmt_values.specs.Rows.{Shape}
use Rattle.rmt_play.specs.declared.round.Round.TheVariants as rounds
use Rattle.rmt_play.specs.declared.progress.Progress.{Progress}
use Rattle.rmt_play.specs.declared.progress.Progress.TheVariants as progress
use Rattle.rmt_play.specs.PlayerSteps.{Sights, clusters_seen, PlayerView, is_up, IsIn, IsEmptyPlayer, RestsFirst, Moves, StepsTo}
use Rattle.rmt_play.specs.ScriptEnds.{AdvancesScript, CutsReply, IsReply, IsProgress, IsToCreate, PlaysOn, IsRound, IsMade, MakesTable, AreOfPlayer, IsScriptEnd, IsEndOf}
use Rattle.rmt_play.proofs.OutletLemmas.{adds-none, adds-then, adds-kept}
use Rattle.rmt_play.proofs.TableLemmas.{shown-clusters, rests-all-none}

-- the statements up to a place were played, their replies written and the refused ones counted
pub record SoFar (o : Outlet) {e : Sights} (script : List ℕ) (at : ℕ) (player : PlayerView e) (before now : Option (List o.Mark)) (refused : ℕ) : Type 0 where
  pub replies : List (List Line)
  pub world : World
  pub played : Played e.workers script replies at world
  pub is_in : IsIn player world
  pub told : Told o before now replies
  pub counted : refused ≡ refusals_in replies

-- a statement is played once the world rested
steps-played : (workers : Bool) (script : List ℕ) (from end : ℕ) (reply : List Line) (old new : World) → RestsFirst workers (StepsTo workers script from end reply) old new → Step workers script from old reply end new
steps-played workers script from end reply old new k = record { rested = k.at; rests = k.rests; found = k.change.found; reads = k.change.reads; ends = k.change.ends; executes = k.change.executes }

no-both : (x : Bool) → (x && false) ≡ false
no-both true = refl
no-both false = refl

-- the first two replicas are up
both-up : all_up 2 ≡ is_up 2 (replicate 8 true)
both-up = fun_ext up
  where
    up : (k : ℕ) → all_up 2 k ≡ is_up 2 (replicate 8 true) k
    up zero = refl
    up (suc zero) = refl
    up (suc (suc zero)) = refl
    up (suc (suc (suc k))) =
        let a : nat_le (suc (suc (suc k))) 2 ≡ false = grind (arith, nat_tests) in
        let b : nat_lt (suc (suc k)) 2 ≡ false = grind (arith, nat_tests) in
        ap (λ (x : Bool). nat_le 1 (suc (suc (suc k))) && x) a ∙ (no-both (nat_le 1 (suc (suc (suc k)))) ∙ sym (ap (λ (x : Bool). x && slice_index_or (replicate 8 true) (suc (suc k)) false) b))

pub so_far_start : {o : Outlet} {e : Sights} (script : List ℕ) (player : PlayerView e) (before : Option (List o.Mark)) → IsEmptyPlayer player → SoFar o script 0 player before before 0
so_far_start {o} {e} script player before q = record {
  replies = [];
  world = start;
  played = (refl, refl);
  is_in = subst (λ (p : PlayerView e). IsIn p start) (sym q) (record { replicas = refl; up = both-up; tables = tt });
  told = adds-none before;
  counted = refl;
}

pub so_far_on : {o : Outlet} {e : Sights} (script : List ℕ) (at : ℕ) (old new : PlayerView e) (before now after : Option (List o.Mark)) (refused end more : ℕ) → SoFar o script at old before now refused → AdvancesScript o script at old new now after end more
    → SoFar o script end new before after (refused + more)
so_far_on {o} {e} script at old new before now after refused end more so on =
    let counted = so.counted in
    let here = on.counted in
    let next = on.step so.world so.is_in in
    record {
      replies = on.reply ∷ so.replies;
      world = next.world;
      played = (at, so.world, so.played, steps-played e.workers script at end on.reply so.world next.world next.holds);
      is_in = next.is_in;
      told = adds-then before now after (told_of o so.replies) (o.marks on.reply) so.told on.told;
      counted = omega (arith, counted, here);
    }

pub so_far_whole : {o : Outlet} (script : List ℕ) (at : ℕ) (player : PlayerView clusters_seen) (before now after : Option (List o.Mark)) (refused : ℕ) (clusters : List Cluster) → SoFar o script at player before now refused → ReadsAt script at parsed.End → KeepsMarks now after
    → AreOfPlayer player clusters → PlayedWhole false script (Told o before after) refused clusters
so_far_whole {o} script at player before now after refused clusters so ended keeps h = record {
  replies = so.replies;
  at = at;
  last = so.world;
  played = so.played;
  ended = ended;
  told = adds-kept before now after (told_of o so.replies) so.told keeps;
  counted = so.counted;
  world = so.world;
  rests = rests-all-none false so.world;
  shown = subst (λ (cs : List Cluster). AreShown cs so.world.tables) (sym h.all) (shown-clusters player.tables so.world.tables so.is_in.tables);
  replicas = subst (λ (n : ℕ). Each (HasReplicas n so.world.up) clusters) (sym so.is_in.replicas)
      (subst (λ (up : ℕ → Bool). Each (HasReplicas player.replicas up) clusters) (sym so.is_in.up) h.replicas);
  agree = h.agree;
}

pub so_far_in_part : {o : Outlet} {e : Sights} (script : List ℕ) (at : ℕ) (player : PlayerView e) (before now after : Option (List o.Mark)) (refused : ℕ) → SoFar o script at player before now refused → KeepsMarks now after → PlayedSome e.workers script (Told o before after)
so_far_in_part {o} script at player before now after refused so keeps =
    record { replies = so.replies; at = at; world = so.world; played = so.played; told = adds-kept before now after (told_of o so.replies) so.told keeps }

pub so_far_short : {o : Outlet} {e : Sights} (script : List ℕ) (at : ℕ) (player : PlayerView e) (before now after : Option (List o.Mark)) (refused : ℕ) → SoFar o script at player before now refused → CutsReply o script at player now after → PlayedSome e.workers script (ToldInPart o before after)
so_far_short {o} {e} script at player before now after refused so short =
    let (prefix, rest, parts, written) = short.told in
    let next = short.step so.world so.is_in in
    record {
      replies = short.reply ∷ so.replies;
      at = short.end;
      world = next.world;
      played = (at, so.world, so.played, steps-played e.workers script at short.end short.reply so.world next.world next.holds);
      told = (told_of o so.replies ++ prefix, rest, append_assoc (told_of o so.replies) prefix rest ∙ ap (λ l. told_of o so.replies ++ l) parts, adds-then before now after (told_of o so.replies) prefix so.told written);
    }

-- how a script ends that was played to its end
pub ends-whole : {o : Outlet} (script : List ℕ) (at : ℕ) (player : PlayerView clusters_seen) (before now after : Option (List o.Mark)) (refused : ℕ) (end : ScriptEnd) → SoFar o script at player before now refused → ReadsAt script at parsed.End → KeepsMarks now after
    → IsEndOf player refused end → IsScriptEnd o script before after end
ends-whole {o} script at player before now after refused (ends.Whole count clusters) so ended keeps e =
    subst (λ n. PlayedWhole false script (Told o before after) n clusters) (sym e.0) (so_far_whole script at player before now after refused clusters so ended keeps e.1)
ends-whole script at player before now after refused ends.WriteFault so ended keeps e = absurd e
ends-whole script at player before now after refused ends.Memory so ended keeps e = so_far_in_part script at player before now after refused so keeps

-- the reply of a statement that was played makes the progress
pub reply-progress : (o : Outlet) {e : Sights} (script : List ℕ) (at end : ℕ) (reply : List Line) (old new : PlayerView e) (before after : Option (List o.Mark)) (p : Progress)
    → IsReply o reply end before after p → Moves old (StepsTo e.workers script at end reply) new → at < end → end ≤ length script → at + count_by is_refused reply ≤ end
    → IsProgress o script at old new before after p
reply-progress o script at end reply old new before after progress.AtEnd written step further within few = elim written [ ]
reply-progress o script at end reply old new before after (progress.On place refused) (same, written, counted) step further within few =
    subst (λ (e : ℕ). AdvancesScript o script at old new before after e refused) (sym same)
    (record { reply = reply; step = step; told = written; counted = counted; few = subst (λ (n : ℕ). at + n ≤ end) (sym counted) few; further = further; within = within })
reply-progress o script at end reply old new before after (progress.Creates table schema place) written step further within few = elim written [ ]
reply-progress o script at end reply old new before after progress.WriteFault written step further within few =
    record { reply = reply; end = end; new = new; step = step; told = written }
reply-progress o script at end reply old new before after progress.Memory kept step further within few = kept

-- one line tells of one refusal at most
pub one-refused : (line : Line) → count_by is_refused (line ∷ []) ≤ 1
one-refused line = go (is_refused line)
  where
    go : (b : Bool) → 0 + cond b 1 0 ≤ 1
    go true = omega arith
    go false = omega arith

-- ---- rounds

-- some statements, and then some more
pub played-then : (w : Bool) (script : List ℕ) (from : ℕ) (old : World) (first : List (List Line)) (mid : ℕ) (between : World) (later : List (List Line)) (at : ℕ) (new : World) → PlayedFrom w script from old first mid between → PlayedFrom w script mid between later at new
    → PlayedFrom w script from old (later ++ first) at new
played-then w script from old first mid between [] at new f g =
    subst (λ (v : World). PlayedFrom w script from old first at v) (sym g.1) (subst (λ (i : ℕ). PlayedFrom w script from old first i between) (sym g.0) f)
played-then w script from old first mid between (reply ∷ later) at new f g = (g.0, g.1, played-then w script from old first mid between later g.0 g.1 f g.2, g.3)

-- what is told of them
told-append : (o : Outlet) (later first : List (List Line)) → told_of o (later ++ first) ≡ told_of o first ++ told_of o later
told-append o [] first = sym (append-nil (told_of o first))
told-append o (reply ∷ later) first = ap (λ (ms : List o.Mark). ms ++ o.marks reply) (told-append o later first) ∙ append_assoc (told_of o first) (told_of o later) (o.marks reply)

-- how many of them are refused
refusals-append : (later first : List (List Line)) → refusals_in (later ++ first) ≡ refusals_in later + refusals_in first
refusals-append [] first = omega arith
refusals-append (reply ∷ later) first = let rest = refusals-append later first in omega (arith, rest)

-- a round begins
pub plays-start : {o : Outlet} {e : Sights} (script : List ℕ) (from count : ℕ) (p : PlayerView e) (before : Option (List o.Mark)) → count ≤ from → from ≤ length script → PlaysOn o script from count p before from count p before
plays-start script from count p before few within = record {
  replies = [];
  played = λ w i. record { world = w; holds = (refl, refl); is_in = i };
  told = adds-none before;
  counted = omega arith;
  further = omega arith;
  few = few;
  within = within;
}

-- and goes on by a statement
pub plays-more : {o : Outlet} {e : Sights} (script : List ℕ) (from count : ℕ) (old p q : PlayerView e) (before now after : Option (List o.Mark)) (at refused end more : ℕ) → PlaysOn o script from count old before at refused p now
    → AdvancesScript o script at p q now after end more → PlaysOn o script from count old before end (refused + more) q after
plays-more {o} {e} script from count old p q before now after at refused end more k on =
    let counted = k.counted in
    let here = on.counted in
    let so = k.further in
    let on_from = on.further in
    let few_before = k.few in
    let few_here = on.few in
    record {
      replies = on.reply ∷ k.replies;
      played = λ w i.
          let x = k.played w i in
          let y = on.step x.world x.is_in in
          record { world = y.world; holds = (at, x.world, x.holds, steps-played e.workers script at end on.reply x.world y.world y.holds); is_in = y.is_in };
      told = adds-then before now after (told_of o k.replies) (o.marks on.reply) k.told on.told;
      counted = omega (arith, counted, here);
      further = omega (arith, so, on_from);
      few = omega (arith, few_before, few_here);
      within = on.within;
    }

-- the statements of a round behind those before it
pub so_far_plays : {o : Outlet} {e : Sights} (script : List ℕ) (from at : ℕ) (p q : PlayerView e) (before now after : Option (List o.Mark)) (count refused : ℕ) → SoFar o script from p before now count → PlaysOn o script from count p now at refused q after → SoFar o script at q before after refused
so_far_plays {o} {e} script from at p q before now after count refused so k =
    let x = k.played so.world so.is_in in
    let first = so.counted in
    let later = k.counted in
    let all = refusals-append k.replies so.replies in
    record {
      replies = k.replies ++ so.replies;
      world = x.world;
      played = played-then e.workers script 0 start so.replies from so.world k.replies at x.world so.played x.holds;
      is_in = x.is_in;
      told = subst (AddsMarks before after) (sym (told-append o k.replies so.replies)) (adds-then before now after (told_of o so.replies) (told_of o k.replies) so.told k.told);
      counted = omega (arith, first, later, all);
    }

-- a table that is made is the next statement played
pub made-progress : {o : Outlet} {e : Sights} (script : List ℕ) (at end : ℕ) (p q r : PlayerView e) (before now after : Option (List o.Mark)) (table : List ℕ) (schema : Shape) (progress : Progress) → IsToCreate o script at p q before now table schema end
    → MakesTable o table schema end q r now after progress → IsProgress o script at p r before after progress
made-progress {o} {e} script at end p q r before now after table schema progress c m =
    let made = subst (λ (x : PlayerView e). Moves x (λ w v. Creates w table schema m.line v) r) c.unchanged m.made in
    let further = c.further in
    let one = one-refused m.line in
    reply-progress o script at end (m.line ∷ []) p r before after progress (subst (λ (b : Option (List o.Mark)). IsReply o (m.line ∷ []) end b after progress) c.untold m.told)
    (λ w i. let x = made w i in record { world = x.world; holds = record { at = x.holds.at; rests = x.holds.rests; change = c.creates m.line w x.holds.at x.world i x.holds.rests x.holds.change }; is_in = x.is_in }) c.further c.within (omega (arith, further, one))

-- its reply tells how far the making of it comes
pub made-told : (o : Outlet) {e : Sights} (table : List ℕ) (schema : Shape) (end : ℕ) (line : Line) (p q : PlayerView e) (before after : Option (List o.Mark)) (progress : Progress) → Moves p (λ w v. Creates w table schema line v) q → IsReply o (line ∷ []) end before after progress
    → IsMade o table schema end p q before after progress
made-told o table schema end line p q before after progress.AtEnd m w = elim w [ ]
made-told o table schema end line p q before after (progress.On place refused) m w = record { line = line; made = m; told = w }
made-told o table schema end line p q before after (progress.Creates name made place) m w = elim w [ ]
made-told o table schema end line p q before after progress.WriteFault m w = record { line = line; made = m; told = w }
made-told o table schema end line p q before after progress.Memory m w = w

-- ---- a script, from round to round

-- it goes on behind a table that was made
pub so_far_made : {o : Outlet} {e : Sights} (script : List ℕ) (from count : ℕ) (p q r : PlayerView e) (before now mid after : Option (List o.Mark)) (table : List ℕ) (schema : Shape) (end refused place more : ℕ) → SoFar o script from p before now count
    → IsRound o script from count p q now mid (rounds.Creates table schema end refused) → MakesTable o table schema end q r mid after (progress.On place more)
    → SoFar o script place r before after (refused + more) × (refused + more ≤ place) × (from < place) × (place ≤ length script)
so_far_made {o} script from count p q r before now mid after table schema end refused place more so k m =
    let so1 = so_far_plays script from k.at p k.player before now k.now count k.refused so k.plays in
    let on = made-progress script k.at end k.player q r k.now mid after table schema (progress.On place more) k.ends.1 m in
    let same = k.ends.0 in
    let few = k.plays.few in
    let here = on.few in
    let so_far = k.plays.further in
    let further = on.further in
    let all = so_far_on script k.at k.player r before k.now after k.refused place more so1 on in
    (subst (λ (n : ℕ). SoFar o script place r before after (n + more)) (sym same) all, omega (arith, same, few, here), omega (arith, so_far, further), on.within)

-- it ends with a round
pub round-ends : {o : Outlet} (script : List ℕ) (from count : ℕ) (p q : PlayerView clusters_seen) (before now after : Option (List o.Mark)) (refused : ℕ) (end : ScriptEnd) → SoFar o script from p before now count → IsRound o script from count p q now after (rounds.AtEnd refused)
    → IsEndOf q refused end → IsScriptEnd o script before after end
round-ends script from count p q before now after refused end so k e =
    let so1 = so_far_plays script from k.at p k.player before now k.now count k.refused so k.plays in
    let (counted, ended, keeps, same) = k.ends in
    ends-whole script k.at k.player before k.now after k.refused end so1 ended keeps (subst (λ (x : PlayerView clusters_seen). IsEndOf x k.refused end) same (subst (λ (n : ℕ). IsEndOf q n end) counted e))

pub round-short : {o : Outlet} {e : Sights} (script : List ℕ) (from count : ℕ) (p q : PlayerView e) (before now after : Option (List o.Mark)) → SoFar o script from p before now count → IsRound o script from count p q now after rounds.WriteFault → PlayedSome e.workers script (ToldInPart o before after)
round-short {o} script from count p q before now after so k =
    so_far_short script k.at k.player before k.now after k.refused (so_far_plays script from k.at p k.player before now k.now count k.refused so k.plays) k.ends

pub round-in-part : {o : Outlet} {e : Sights} (script : List ℕ) (from count : ℕ) (p q : PlayerView e) (before now after : Option (List o.Mark)) → SoFar o script from p before now count → IsRound o script from count p q now after rounds.Memory → PlayedSome e.workers script (Told o before after)
round-in-part script from count p q before now after so k =
    so_far_in_part script k.at k.player before k.now after k.refused (so_far_plays script from k.at p k.player before now k.now count k.refused so k.plays) k.ends

-- or with a table that is made
pub made-short : {o : Outlet} {e : Sights} (script : List ℕ) (from count : ℕ) (p q r : PlayerView e) (before now mid after : Option (List o.Mark)) (table : List ℕ) (schema : Shape) (end refused : ℕ) → SoFar o script from p before now count
    → IsRound o script from count p q now mid (rounds.Creates table schema end refused) → MakesTable o table schema end q r mid after progress.WriteFault → PlayedSome e.workers script (ToldInPart o before after)
made-short {o} script from count p q r before now mid after table schema end refused so k m =
    so_far_short script k.at k.player before k.now after k.refused (so_far_plays script from k.at p k.player before now k.now count k.refused so k.plays)
    (made-progress script k.at end k.player q r k.now mid after table schema progress.WriteFault k.ends.1 m)

pub made-in-part : {o : Outlet} {e : Sights} (script : List ℕ) (from count : ℕ) (p q : PlayerView e) (before now mid after : Option (List o.Mark)) (table : List ℕ) (schema : Shape) (end refused : ℕ) → SoFar o script from p before now count
    → IsRound o script from count p q now mid (rounds.Creates table schema end refused) → KeepsMarks mid after → PlayedSome e.workers script (Told o before after)
made-in-part {o} script from count p q before now mid after table schema end refused so k keeps =
    so_far_in_part script k.at k.player before k.now after k.refused (so_far_plays script from k.at p k.player before now k.now count k.refused so k.plays)
    (subst (λ (b : Option (List o.Mark)). KeepsMarks b after) (IsToCreate.untold k.ends.1) keeps)
