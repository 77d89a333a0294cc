use Rattle.std.proofs.Common.{◌≡◌, ◌∙◌, ℕ, List, IfOk, IfErr, ap, refl, subst}
use Rattle.std.proofs.lemmas.Option.{MatchOption-at_none}
use Rattle.std.specs.declared.option.Option.TheVariants.{Some}
use Rattle.std.specs.declared.result.Result.{Result}
use Rattle.rmt_reply.specs.declared.line.Line.TheVariants as lines
use Rattle.rmt_reply.specs.declared.refusal.Refusal.{Refusal}
use Rattle.rmt_reply.specs.declared.refusal.Refusal.TheVariants.{UnknownTable}
use Rattle.rmt_play.specs.Checks.{replica_at, unknown_replica}
use Rattle.rmt_play.specs.PlayerSteps.{view_of, IsPlaceAmong, IsThere}
use Rattle.rmt_play.proofs.FoundTables.{IsPlaceOf, HasNone}
use Rattle.rmt_play.proofs.NamedLemmas.{found-named, place-named}
use Rattle.rmt_play.proofs.TableLemmas.{get-below}
use Rattle.rmt_play.proofs.SendLemmas.{sends, no-table, no-replica}
use Rattle.rmt_play.proofs.player.Player.send.Goals as goal

pub returns-in_default-clause-moves : goal.returns-in_default-clause-moves
returns-in_default-clause-moves g c =
    let e = g.E.Engine.sights in
    let among = subst (λ (ns : List (List ℕ)). IsPlaceAmong ns c.table_of-table.result.now c.place_of.result) c.deref.ensures.value c.place_of.ensures in
    let found = found-named e c.args.self.now.names.items (g.E.Engine.tables c.args.self.now.engine) c.table_of-table.result.now c.place_of.result c.requires.sound.lengths among in
    let none = MatchOption-at_none (HasNone (view_of g.E.Engine.sights g.E.Engine.tables c.args.self.now).tables c.table_of-table.result.now) (IsPlaceOf (view_of g.E.Engine.sights g.E.Engine.tables c.args.self.now).tables c.table_of-table.result.now) c.in_default.is found in
    no-table (view_of g.E.Engine.sights g.E.Engine.tables c.args.self.now) c.args.sent.now (lines.Refused (UnknownTable c.in_ok-copy.field-0))
    (subst (HasNone (view_of g.E.Engine.sights g.E.Engine.tables c.args.self.now).tables) c.table_of-table.ensures none)
    (ap (λ (n : List ℕ). lines.Refused (UnknownTable n)) (c.in_ok-copy.ensures ∙ c.table_of-table.ensures))

pub act-requires-clause-place : goal.act-requires-clause-place
act-requires-clause-place g c =
    let e = g.E.Engine.sights in
    let there = place-named e c.args.self.now.names.items (g.E.Engine.tables c.args.self.now.engine) c.table_of-table.result.now c.in-Some.place c.requires.sound.lengths (subst (λ (ns : List (List ℕ)). IsThere ns c.table_of-table.result.now c.in-Some.place) c.deref.ensures.value c.in-Some.ensures) in
    get-below (view_of g.E.Engine.sights g.E.Engine.tables c.args.self.now).tables c.in-Some.place there.table there.there

pub returns-in_ok-line-in-Ok-clause-moves : goal.returns-in_ok-line-in-Ok-clause-moves
returns-in_ok-line-in-Ok-clause-moves g c =
    let e = g.E.Engine.sights in
    let there = place-named e c.args.self.now.names.items (g.E.Engine.tables c.args.self.now.engine) c.table_of-table.result.now c.in-Some.place c.requires.sound.lengths (subst (λ (ns : List (List ℕ)). IsThere ns c.table_of-table.result.now c.in-Some.place) c.deref.ensures.value c.in-Some.ensures) in
    let place = subst (λ (n : List ℕ). IsPlaceOf (view_of g.E.Engine.sights g.E.Engine.tables c.args.self.now).tables n c.in-Some.place) c.table_of-table.ensures there in
    let at = subst (λ (f : Result ℕ Refusal). IfOk f (λ r. replica_at c.args.self.now.replicas c.args.sent.now.replica ≡ Some r)) c.in-Ok.is c.in_ok-replica.ensures.at in
    sends (view_of g.E.Engine.sights g.E.Engine.tables c.args.self.now) (view_of g.E.Engine.sights g.E.Engine.tables c.act.new.self) c.args.sent.now c.in-Some.place c.in-Ok.replica c.in_ok-line-in-Ok.line c.requires.sound.player.all place at c.in_ok-line-in-Ok.ensures.acts

pub returns-in-Err-clause-moves : goal.returns-in-Err-clause-moves
returns-in-Err-clause-moves g c =
    let e = g.E.Engine.sights in
    let there = place-named e c.args.self.now.names.items (g.E.Engine.tables c.args.self.now.engine) c.table_of-table.result.now c.in-Some.place c.requires.sound.lengths (subst (λ (ns : List (List ℕ)). IsThere ns c.table_of-table.result.now c.in-Some.place) c.deref.ensures.value c.in-Some.ensures) in
    let place = subst (λ (n : List ℕ). IsPlaceOf (view_of g.E.Engine.sights g.E.Engine.tables c.args.self.now).tables n c.in-Some.place) c.table_of-table.ensures there in
    let unknown = subst (λ (f : Result ℕ Refusal). IfErr f (λ e. unknown_replica c.args.self.now.replicas c.args.sent.now.replica ≡ Some e)) c.in-Err.is c.in_ok-replica.ensures.refused in
    no-replica (view_of g.E.Engine.sights g.E.Engine.tables c.args.self.now) c.args.sent.now c.in-Some.place c.in-Err.refusal (lines.Refused c.in-Err.refusal) place unknown refl
