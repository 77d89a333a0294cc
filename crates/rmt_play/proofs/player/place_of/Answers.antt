use Rattle.std.proofs.Common.{◌≡◌, ◌∙◌, ◌<◌, ℕ, Bool, true, false, List, refl, ap, sym, arith, nat_eq}
use Rattle.std.proofs.lemmas.Bool.Decides.{nat_tests}
use Rattle.std.proofs.lemmas.Grind.{common_steps}
use Rattle.std.proofs.lemmas.Option.{gets}
use Rattle.std.specs.Prelude.{slice_get}
use Rattle.std.specs.Str.{bytes_eq}
use Rattle.std.specs.declared.option.Option.TheVariants.{Some}
use Rattle.rmt_model.proofs.Drops.{some-same}
use Rattle.rmt_play.proofs.TableLemmas.{get-below}
use Rattle.rmt_play.proofs.player.place_of.Goals as goal

pub returns-then-is : goal.returns-then-is
returns-then-is c =
    let there : slice_get c.args.names.now c.names.i ≡ Some c.index-names-i.result = grind (arith, common_steps, gets) in
    let named : c.is.result ≡ bytes_eq c.index-names-i.result c.args.name.now = c.is.ensures ∙ ap (λ (n : List ℕ). bytes_eq c.index-names-i.result n) c.as_bytes.ensures in
    record { found = c.index-names-i.result; there = there; named = sym named ∙ c.if-is.true; first = λ j t l e q. c.names.invariant j t l e q }

pub names-init : goal.names-init
names-init c = λ j t l e q. omega (arith, l)

pub names-preserved : goal.names-preserved
names-preserved c j t l e = go (nat_eq j c.names.i) refl
  where
    there : slice_get c.args.names.now c.names.i ≡ Some c.index-names-i.result
    there = grind (arith, common_steps, gets)

    named : c.is.result ≡ bytes_eq c.index-names-i.result c.args.name.now
    named = c.is.ensures ∙ ap (λ (n : List ℕ). bytes_eq c.index-names-i.result n) c.as_bytes.ensures

    go : (b : Bool) → nat_eq j c.names.i ≡ b → bytes_eq t c.args.name.now ≡ true → ⊥
    go true q h =
        let here : j ≡ c.names.i = grind (arith, nat_tests) in
        let same = some-same t c.index-names-i.result (sym e ∙ (ap (slice_get c.args.names.now) here ∙ there)) in
        let now = ap (λ (u : List ℕ). bytes_eq u c.args.name.now) same ∙ (sym named ∙ c.if-is.false) in
        cc (now, h)
    go false q h =
        let other : j < c.names.i = grind (arith, nat_tests) in
        c.names.invariant j t other e h

pub returns : goal.returns
returns c = λ j t e q. let below = get-below c.args.names.now j t e in let end = c.names-test.false in c.names.invariant j t (omega (arith, below, end)) e q
