use Rattle.std.proofs.Common.{◌∙◌, ℕ, List, ap, refl, subst, sym}
use Rattle.std.proofs.lemmas.Option.{MatchOption-at_none}
use Rattle.std.specs.declared.option.Option.TheVariants.{Some}
use Rattle.rmt_reply.specs.declared.line.Line.TheVariants as lines
use Rattle.rmt_reply.specs.declared.refusal.Refusal.TheVariants.{WrongType}
use Rattle.rmt_play.specs.PlayerSteps.{view_of, IsPlaceAmong, IsThere, RunsAt}
use Rattle.rmt_play.proofs.FoundTables.{IsPlaceOf, HasNone}
use Rattle.rmt_play.proofs.NamedLemmas.{found-named, place-named}
use Rattle.rmt_play.proofs.TableLemmas.{get-below}
use Rattle.rmt_play.proofs.SendLemmas.{runs, no-run-table, no-turns, turns-word}
use Rattle.rmt_play.proofs.player.Player.run.Goals as goal
use Rattle.rmt_play.proofs.player.Player.run.Goals.{In-Some}

-- the table is at its place
place : (g : _) (c : In-Some g) → IsPlaceOf (view_of g.E.Engine.sights g.E.Engine.tables c.args.self.now).tables c.args.table c.in-Some.place
place g c =
    let e = g.E.Engine.sights in
    place-named e c.args.self.now.names.items (g.E.Engine.tables c.args.self.now.engine) c.args.table c.in-Some.place c.requires.sound.lengths (subst (λ (ns : List (List ℕ)). IsThere ns c.args.table c.in-Some.place) c.deref.ensures.value c.in-Some.ensures)

pub returns-in_default-clause-moves : goal.returns-in_default-clause-moves
returns-in_default-clause-moves g c =
    let e = g.E.Engine.sights in
    let among = subst (λ (ns : List (List ℕ)). IsPlaceAmong ns c.args.table c.place_of.result) c.deref.ensures.value c.place_of.ensures in
    let found = found-named e c.args.self.now.names.items (g.E.Engine.tables c.args.self.now.engine) c.args.table c.place_of.result c.requires.sound.lengths among in
    no-run-table (view_of g.E.Engine.sights g.E.Engine.tables c.args.self.now) c.args.table c.args.turns c.args.seed (MatchOption-at_none (HasNone (view_of g.E.Engine.sights g.E.Engine.tables c.args.self.now).tables c.args.table) (IsPlaceOf (view_of g.E.Engine.sights g.E.Engine.tables c.args.self.now).tables c.args.table) c.in_default.is found)

pub work-requires-clause-place : goal.work-requires-clause-place
work-requires-clause-place g c =
    let there = place g (goal.at.work-requires-clause-place g c).In-Some in
    get-below (view_of g.E.Engine.sights g.E.Engine.tables c.args.self.now).tables c.in-Some.place there.table there.there

pub returns-in-Some-in_range-clause-moves : goal.returns-in-Some-in_range-clause-moves
returns-in-Some-in_range-clause-moves g c =
    let e = g.E.Engine.sights in
    let told = c.in-Some-in_range.ensures.range in
    runs (view_of g.E.Engine.sights g.E.Engine.tables c.args.self.now) (view_of g.E.Engine.sights g.E.Engine.tables c.work.new.self) c.args.table c.args.turns c.args.seed c.in-Some.place c.in_ok-line-in-Some-in_range.line c.requires.sound.player.all (place g (goal.at.returns-in-Some-in_range-clause-moves g c).In-Some) told.0
    (subst (λ (x : ℕ). RunsAt (view_of g.E.Engine.sights g.E.Engine.tables c.args.self.now) c.in-Some.place c.args.turns x c.in_ok-line-in-Some-in_range.line (view_of g.E.Engine.sights g.E.Engine.tables c.work.new.self)) told.2
    (subst (λ (n : ℕ). RunsAt (view_of g.E.Engine.sights g.E.Engine.tables c.args.self.now) c.in-Some.place n c.in-Some-in_range.seed c.in_ok-line-in-Some-in_range.line (view_of g.E.Engine.sights g.E.Engine.tables c.work.new.self)) told.1 c.in_ok-line-in-Some-in_range.ensures.runs))

pub returns-clause-moves : goal.returns-clause-moves
returns-clause-moves g c =
    no-turns (view_of g.E.Engine.sights g.E.Engine.tables c.args.self.now) c.args.table c.args.turns c.args.seed c.in-Some.place (WrongType c.in_ok-word-in-None.word) (lines.Refused (WrongType c.in_ok-word-in-None.word)) (place g (goal.at.returns-clause-moves g c).In-Some)
    (turns-word c.args.turns c.args.seed c.in-None.ensures.range ∙ ap (λ n. Some (WrongType n)) (sym c.in_ok-word-in-None.ensures)) refl
