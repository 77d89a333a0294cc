use Rattle.std.proofs.Common.{◌≡◌, ◌≤◌, length, arith, refl, ap, sym, subst, ◌∙◌}
use Rattle.std.proofs.lemmas.Option.{MatchOption-at_some}
use Rattle.std.specs.declared.option.Option.TheVariants.{Some}
use Rattle.rmt_names.specs.Names.{Name}
use Rattle.rmt_entries.specs.declared.entry.Entry.TheVariants.{Get}
use Rattle.rmt_model.specs.Lawful.{entry_at}
use Rattle.rmt_model.specs.Live.{DroppedAfter}
use Rattle.rmt_pass.proofs.KnownLemmas.{not-both}
use Rattle.rmt_pass.proofs.DrainLemmas.{no-get, dropped-get, standing-get}
use Rattle.rmt_pass.proofs.pass.drain.get_at.Goals as goal

pub returns-then-place-len : goal.returns-then-place-len
returns-then-place-len c =
    let t = c.if-place-len.true in
    let n = c.len.ensures.len in
    no-get c.args.copy.now.log c.args.place (omega (arith, t, n))

pub returns-then-dropped_after : goal.returns-then-dropped_after
returns-then-dropped_after c =
    let there : entry_at c.args.copy.now.log c.args.place ≡ Some (Get c.in-Get.partition c.in-Get.number c.in-Get.digest c.in-Get.source c.in-Get.need) = MatchOption-at_some (length c.args.copy.now.log ≤ c.args.place) (λ t. entry_at c.args.copy.now.log c.args.place ≡ Some t.now.value) c.unwrap-token.result c.unwrap-token.ensures c.entry.ensures.entry ∙ ap Some (sym c.value.ensures ∙ c.in-Get.is) in
    dropped-get c.args.copy.now.log c.args.place c.in-Get.partition c.in-Get.number c.in-Get.digest c.in-Get.source c.in-Get.need there
    (subst (λ (a : Name). DroppedAfter c.args.copy.now.log c.args.place a) c.block_name-part.ensures (c.if-dropped_after.ensures.0 refl))

pub returns : goal.returns
returns c =
    let there : entry_at c.args.copy.now.log c.args.place ≡ Some (Get c.in-Get.partition c.in-Get.number c.in-Get.digest c.in-Get.source c.in-Get.need) = MatchOption-at_some (length c.args.copy.now.log ≤ c.args.place) (λ t. entry_at c.args.copy.now.log c.args.place ≡ Some t.now.value) c.unwrap-token.result c.unwrap-token.ensures c.entry.ensures.entry ∙ ap Some (sym c.value.ensures ∙ c.in-Get.is) in
    standing-get c.args.copy.now.schema c.args.copy.now.log c.args.place c.in-Get.partition c.in-Get.number c.in-Get.digest c.in-Get.source c.in-Get.need c.len.ensures.lawful there
    (λ d. not-both c.dropped_after.result (c.dropped_after.ensures.1 (subst (λ (a : Name). DroppedAfter c.args.copy.now.log c.args.place a) (sym c.block_name-part.ensures) d)) c.if-dropped_after.false)
    (record { part = c.block_name-part.result; source = c.in-Get.source })
    (ap (λ (a : Name). record { part = a; source = c.in-Get.source }) c.block_name-part.ensures)
