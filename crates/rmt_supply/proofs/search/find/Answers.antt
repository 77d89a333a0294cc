use Rattle.std.proofs.Common.{◌∙◌, ◌≡◌, ◌<◌, length, arith, sym, ap, subst}
use Rattle.std.specs.Prelude.{slice_get}
use Rattle.std.specs.Arc.{arc_value}
use Rattle.std.specs.declared.option.Option.TheVariants.{Some}
use Rattle.std.proofs.lemmas.Grind.{common_steps}
use Rattle.std.proofs.lemmas.Option.{gets}
use Rattle.rmt_entries.specs.declared.entry.Entry.{Entry}
use Rattle.rmt_entries.specs.declared.entry.Entry.TheVariants.{Get}
use Rattle.rmt_model.specs.Lawful.{entry_at}
use Rattle.rmt_supply.specs.declared.found.Found.TheVariants as found
use Rattle.rmt_supply.specs.PartSources.{IsFoundFor, WaitsForBlock}
use Rattle.rmt_supply.specs.TakenParts.{IsTaken}
use Rattle.rmt_supply.proofs.SearchLemmas.{token-there, at-one, entry-there, missing-source, waits-for-block}
use Rattle.rmt_supply.proofs.TakenLemmas.{taken-accepted, taken-suits}
use Rattle.rmt_supply.proofs.search.find.Goals as goal

pub unwrap-requires : goal.unwrap-requires
unwrap-requires c =
    let w = c.index-replicas-at.result in
    let there : slice_get c.args.replicas.now c.args.at ≡ Some w = grind (arith, common_steps, gets) in
    let l = c.copy-copy.ensures.log in
    let p = (c.requires.place w there).0 in
    entry-there c.entry.result (λ t. t.now) c.copy-copy.result.now.log c.args.i c.entry.ensures.entry (subst (λ es. c.args.i < length es) (sym l) p)

pub build-requires : goal.build-requires
build-requires c =
    let w = c.index-replicas-at.result in
    let there : slice_get c.args.replicas.now c.args.at ≡ Some w = grind (arith, common_steps, gets) in
    let taken = c.in_ok-taken in
    record {
      can_build = taken.ensures.can_build;
      accepted = taken-accepted c.args.replicas.now c.args.i c.args.at w (arc_value c.args.schema.now) taken.taken c.requires.table there c.copy-copy.ensures.standing (c.requires.place w there).1 taken.ensures.ok;
    }

pub returns-in_default : goal.returns-in_default
returns-in_default c =
    let w = c.index-replicas-at.result in
    let there : slice_get c.args.replicas.now c.args.at ≡ Some w = grind (arith, common_steps, gets) in
    let taken = c.in_ok-taken in
    let q = (c.requires.place w there).1 in
    let s = c.copy-copy.ensures.standing in
    let part = c.in_ok-part-in_default in
    let accepted = taken-accepted c.args.replicas.now c.args.i c.args.at w (arc_value c.args.schema.now) taken.taken c.requires.table there s q taken.ensures.ok in
    at-one c.args.replicas.now c.args.at w (λ x. IsFoundFor c.args.replicas.now x c.args.i (found.Ready c.supply.result)) there
    (taken-suits c.args.replicas.now w c.args.i (arc_value c.args.schema.now) taken.taken _ c.supply.result s q taken.ensures.ok accepted c.in_default.not-Missing part.ensures.ok part.ensures.part c.supply.ensures)

pub returns-in_default-value : goal.returns-in_default-value
returns-in_default-value c =
    let w = c.index-replicas-at.result in
    let there : slice_get c.args.replicas.now c.args.at ≡ Some w = grind (arith, common_steps, gets) in
    let t = token-there c.entry.result (λ t. t.now) c.copy-copy.result.now.log w.log c.args.i c.unwrap.result c.entry.ensures.entry c.entry.ensures.place c.unwrap.ensures c.copy-copy.ensures.log in
    let q : entry_at w.log c.args.i ≡ Some c.value.result.now = t.entry ∙ ap (λ (e : Entry). Some e) (sym c.value.ensures) in
    let why = subst (IsTaken w c.args.i) c.in-Missing.is c.in_ok-taken.ensures.ok in
    at-one c.args.replicas.now c.args.at w (λ x. IsFoundFor c.args.replicas.now x c.args.i (found.Missing c.in-Missing.part)) there
    (missing-source c.args.replicas.now w c.args.i c.value.result.now c.in-Missing.part why q c.in_default-value.not-Get)

pub fetched_part-requires-clause-waits : goal.fetched_part-requires-clause-waits
fetched_part-requires-clause-waits c =
    let w = c.index-replicas-at.result in
    let there : slice_get c.args.replicas.now c.args.at ≡ Some w = grind (arith, common_steps, gets) in
    let t = token-there c.entry.result (λ t. t.now) c.copy-copy.result.now.log w.log c.args.i c.unwrap.result c.entry.ensures.entry c.entry.ensures.place c.unwrap.ensures c.copy-copy.ensures.log in
    let g = c.in-Get in
    let q : entry_at w.log c.args.i ≡ Some (Get g.partition g.number g.digest g.source g.need) = t.entry ∙ ap (λ (e : Entry). Some e) (sym c.value.ensures ∙ g.is) in
    let why = subst (IsTaken w c.args.i) c.in-Missing.is c.in_ok-taken.ensures.ok in
    at-one c.args.replicas.now c.args.at w (λ x. (x.schema ≡ arc_value c.args.schema.now) × WaitsForBlock x c.args.i) there
    ((c.requires.place w there).1, waits-for-block w c.args.i c.in-Missing.part g.partition g.number g.digest g.source g.need why q)
