use Rattle.std.proofs.Common.{◌∙◌, ℕ, List, refl, sym, subst}
use Rattle.rmt_reply.specs.declared.line.Line.TheVariants as lines
use Rattle.rmt_reply.specs.declared.refusal.Refusal.TheVariants.{TableExists}
use Rattle.rmt_play.specs.PlayerSteps.{view_of, IsPlaceAmong}
use Rattle.rmt_play.proofs.NamedLemmas.{found-named}
use Rattle.rmt_play.proofs.CreateLemmas.{exists-already, made-refused, made-full, made-created, place-there, nothing-there}
use Rattle.rmt_play.proofs.player.Player.create.Goals as goal

pub returns-then-is_some-clause-answers : goal.returns-then-is_some-clause-answers
returns-then-is_some-clause-answers g c =
    let e = g.E.Engine.sights in
    let among = subst (λ (ns : List (List ℕ)). IsPlaceAmong ns c.args.table c.place_of.result) c.deref.ensures.value c.place_of.ensures in
    let found = found-named e c.args.self.now.names.items (g.E.Engine.tables c.args.self.now.engine) c.args.table c.place_of.result c.requires.sound.lengths among in
    let place = place-there (view_of g.E.Engine.sights g.E.Engine.tables c.args.self.now).tables c.args.table c.place_of.result (sym c.is_some.ensures ∙ c.if-is_some.true) found in
    exists-already (view_of g.E.Engine.sights g.E.Engine.tables c.args.self.now) c.args.table c.args.made (lines.Refused (TableExists c.args.table)) place.0 place.1 refl

pub returns-in-Err-clause-answers : goal.returns-in-Err-clause-answers
returns-in-Err-clause-answers g c =
    let e = g.E.Engine.sights in
    let among = subst (λ (ns : List (List ℕ)). IsPlaceAmong ns c.args.table c.place_of.result) c.deref.ensures.value c.place_of.ensures in
    let found = found-named e c.args.self.now.names.items (g.E.Engine.tables c.args.self.now.engine) c.args.table c.place_of.result c.requires.sound.lengths among in
    let none = nothing-there (view_of g.E.Engine.sights g.E.Engine.tables c.args.self.now).tables c.args.table c.place_of.result (sym c.is_some.ensures ∙ c.if-is_some.false) found in
    made-refused (view_of g.E.Engine.sights g.E.Engine.tables c.args.self.now) c.args.table c.args.made c.in-Err.error (lines.Refused c.refusal_of.result) c.refusal_of.result c.in-Err.is none c.refusal_of.ensures refl

pub returns-in-Some-clause-answers : goal.returns-in-Some-clause-answers
returns-in-Some-clause-answers g c =
    let e = g.E.Engine.sights in
    let among = subst (λ (ns : List (List ℕ)). IsPlaceAmong ns c.args.table c.place_of.result) c.deref.ensures.value c.place_of.ensures in
    let found = found-named e c.args.self.now.names.items (g.E.Engine.tables c.args.self.now.engine) c.args.table c.place_of.result c.requires.sound.lengths among in
    let none = nothing-there (view_of g.E.Engine.sights g.E.Engine.tables c.args.self.now).tables c.args.table c.place_of.result (sym c.is_some.ensures ∙ c.if-is_some.false) found in
    made-full (view_of g.E.Engine.sights g.E.Engine.tables c.args.self.now) c.args.table c.args.made c.in-Ok.schema (lines.Refused c.in-Some.refusal) c.in-Some.refusal c.in-Ok.is none (sym c.full.ensures ∙ c.in-Some.is) refl

pub returns-in-None-clause-answers : goal.returns-in-None-clause-answers
returns-in-None-clause-answers g c =
    let e = g.E.Engine.sights in
    let among = subst (λ (ns : List (List ℕ)). IsPlaceAmong ns c.args.table c.place_of.result) c.deref.ensures.value c.place_of.ensures in
    let found = found-named e c.args.self.now.names.items (g.E.Engine.tables c.args.self.now.engine) c.args.table c.place_of.result c.requires.sound.lengths among in
    let none = nothing-there (view_of g.E.Engine.sights g.E.Engine.tables c.args.self.now).tables c.args.table c.place_of.result (sym c.is_some.ensures ∙ c.if-is_some.false) found in
    made-created (view_of g.E.Engine.sights g.E.Engine.tables c.args.self.now) c.args.table c.args.made c.in-Ok.schema c.in-Ok.is none (sym c.full.ensures ∙ c.in-None.is)
