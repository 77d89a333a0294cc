use Rattle.std.proofs.Common.{◌≡◌, arith, slice_get, sym, ap, ◌∙◌, length}
use Rattle.std.proofs.lemmas.Grind.{common_steps}
use Rattle.std.proofs.lemmas.Option.{gets}
use Rattle.std.specs.Arc.{arc_value}
use Rattle.std.specs.declared.option.Option.TheVariants.{Some}
use Rattle.rmt_supply.specs.declared.found.Found.TheVariants as found
use Rattle.rmt_supply.specs.PartSources.{IsFoundFor}
use Rattle.rmt_supply.proofs.BlockHolders.{has-entry, reads-get, worker, accepted, one-more, held-some, holds-part, nowhere, missing-block, fetches, stops}
use Rattle.rmt_supply.proofs.SearchLemmas.{has-place, at-one}
use Rattle.rmt_supply.proofs.holders.fetched_part.Goals as goal
use Rattle.rmt_supply.proofs.holders.fetched_part.Goals.{then-j-at-via-then-j-at, then-j-at-via-else-j-at+then-not-is_up}

pub unwrap-get-requires : goal.unwrap-get-requires
unwrap-get-requires c =
    let there : slice_get c.args.replicas.now c.args.at ≡ Some c.index-replicas-at.result = grind (arith, common_steps, gets) in
    has-entry c.index-replicas-at.result c.args.i c.copy-copy.result.now.log c.entry.result _ (c.requires.waits c.index-replicas-at.result there).1 c.copy-copy.ensures.log c.entry.ensures.entry

pub unreachable-requires : goal.unreachable-requires
unreachable-requires c =
    let there : slice_get c.args.replicas.now c.args.at ≡ Some c.index-replicas-at.result = grind (arith, common_steps, gets) in
    reads-get c.index-replicas-at.result c.args.i c.copy-copy.result.now.log c.entry.result c.unwrap-get.result c.value.result.now (c.requires.waits c.index-replicas-at.result there).1
    c.copy-copy.ensures.log c.entry.ensures.entry c.unwrap-get.ensures c.value.ensures c.in_default.not-Get

pub held-requires : goal.held-requires
held-requires c =
    let x = c.index-replicas-at.result in
    let there : slice_get c.args.replicas.now c.args.at ≡ Some c.index-replicas-at.result = grind (arith, common_steps, gets) in
    let here : slice_get c.args.replicas.now c.holders.j ≡ Some c.index-replicas-j.result = grind (arith, common_steps, gets) in
    let q = c.requires.waits x there in
    let g = c.in-Get in
    let w = worker c.args.replicas.now c.args.at c.args.i x c.copy-copy.result.now.log c.entry.result c.unwrap-get.result c.value.result.now g.partition g.number g.digest g.source g.need c.block_name-name.result
    c.requires.table there c.copy-copy.ensures.standing q.1 c.copy-copy.ensures.log c.entry.ensures.entry c.entry.ensures.place c.unwrap-get.ensures c.value.ensures g.is c.block_name-name.ensures in
    record {
      get = w.get;
      accepted = accepted c.args.replicas.now c.args.at c.holders.j c.args.i x c.index-replicas-j.result c.unwrap-get.result.now c.block_name-name.result (arc_value c.args.schema.now) w here c.copy-standing.ensures.standing q.0;
      small = c.requires.small c.index-replicas-j.result (has-place c.args.replicas.now c.holders.j c.index-replicas-j.result here);
    }

pub holders-preserved-then-j-at : goal.holders-preserved-then-j-at
holders-preserved-then-j-at c =
    let here : slice_get c.args.replicas.now c.holders.j ≡ Some c.index-replicas-j.result = grind (arith, common_steps, gets) in
    one-more c.args.replicas.now c.args.at c.holders.j c.unwrap-get.result.now c.block_name-name.result c.len-len.result c.index-replicas-j.result c.holders.invariant here
    (λ o u. elim c.then-j-at.branch [
      | then-j-at-via-then-j-at w ↦ absurd (o w.if-j-at.true)
      | then-j-at-via-else-j-at+then-not-is_up w ↦ let f = w.if-not-is_up.true in let e = w.is_up.ensures in absurd (cc)
    ])

pub holds-requires : goal.holds-requires
holds-requires c =
    let x = c.index-replicas-at.result in
    let there : slice_get c.args.replicas.now c.args.at ≡ Some c.index-replicas-at.result = grind (arith, common_steps, gets) in
    let q = c.requires.waits x there in
    let g = c.in-Get in
    let w = worker c.args.replicas.now c.args.at c.args.i x c.copy-copy.result.now.log c.entry.result c.unwrap-get.result c.value.result.now g.partition g.number g.digest g.source g.need c.block_name-name.result
    c.requires.table there c.copy-copy.ensures.standing q.1 c.copy-copy.ensures.log c.entry.ensures.entry c.entry.ensures.place c.unwrap-get.ensures c.value.ensures g.is c.block_name-name.ensures in
    record { get = w.get }

pub holders-preserved : goal.holders-preserved
holders-preserved c =
    let here : slice_get c.args.replicas.now c.holders.j ≡ Some c.index-replicas-j.result = grind (arith, common_steps, gets) in
    one-more c.args.replicas.now c.args.at c.holders.j c.unwrap-get.result.now c.block_name-name.result c.len-len.result c.index-replicas-j.result c.holders.invariant here
    (λ o u. (c.copy-standing.ensures.standing, c.holds.ensures.nothing (let f = c.if-not-holds.true in cc)))

pub returns-then-not-fetches : goal.returns-then-not-fetches
returns-then-not-fetches c =
    let x = c.index-replicas-at.result in
    let there : slice_get c.args.replicas.now c.args.at ≡ Some c.index-replicas-at.result = grind (arith, common_steps, gets) in
    let here : slice_get c.args.replicas.now c.holders.j ≡ Some c.index-replicas-j.result = grind (arith, common_steps, gets) in
    let q = c.requires.waits x there in
    let g = c.in-Get in
    let w = worker c.args.replicas.now c.args.at c.args.i x c.copy-copy.result.now.log c.entry.result c.unwrap-get.result c.value.result.now g.partition g.number g.digest g.source g.need c.block_name-name.result
    c.requires.table there c.copy-copy.ensures.standing q.1 c.copy-copy.ensures.log c.entry.ensures.entry c.entry.ensures.place c.unwrap-get.ensures c.value.ensures g.is c.block_name-name.ensures in
    let y = c.index-replicas-j.result in
    at-one c.args.replicas.now c.args.at x (λ v. IsFoundFor c.args.replicas.now v c.args.i found.Stopped) there
    (stops c.args.replicas.now c.args.at c.holders.j c.args.i x y c.unwrap-get.result.now c.block_name-name.result c.len-len.result w (sym c.fetches.ensures ∙ c.if-not-fetches.true)
    (record { stands = here; other = c.if-j-at.false; up = let f = c.if-not-is_up.false in let e = c.is_up.ensures in cc; standing = c.copy-standing.ensures.standing })
    (c.len-len.ensures.len ∙ ap length c.copy-copy.ensures.log) (c.holds.ensures.some (let f = c.if-not-holds.false in cc)))

pub unwrap-part-requires : goal.unwrap-part-requires
unwrap-part-requires c =
    held-some c.in_ok-held.field-0 arc_value (arc_value c.args.schema.now) c.index-replicas-j.result c.unwrap-get.result.now c.block_name-name.result c.len-len.result c.in_ok-held.ensures (c.holds.ensures.some (let f = c.if-not-holds.false in cc))

pub returns-in-holders : goal.returns-in-holders
returns-in-holders c =
    let x = c.index-replicas-at.result in
    let there : slice_get c.args.replicas.now c.args.at ≡ Some c.index-replicas-at.result = grind (arith, common_steps, gets) in
    let here : slice_get c.args.replicas.now c.holders.j ≡ Some c.index-replicas-j.result = grind (arith, common_steps, gets) in
    let q = c.requires.waits x there in
    let g = c.in-Get in
    let w = worker c.args.replicas.now c.args.at c.args.i x c.copy-copy.result.now.log c.entry.result c.unwrap-get.result c.value.result.now g.partition g.number g.digest g.source g.need c.block_name-name.result
    c.requires.table there c.copy-copy.ensures.standing q.1 c.copy-copy.ensures.log c.entry.ensures.entry c.entry.ensures.place c.unwrap-get.ensures c.value.ensures g.is c.block_name-name.ensures in
    let y = c.index-replicas-j.result in
    fetches c.args.replicas.now c.args.at c.holders.j c.args.i x y c.unwrap-get.result.now c.block_name-name.result c.len-len.result (arc_value c.args.schema.now) (arc_value c.unwrap-part.result) w
    (sym c.fetches.ensures ∙ c.if-not-fetches.false)
    (record { stands = here; other = c.if-j-at.false; up = let f = c.if-not-is_up.false in let e = c.is_up.ensures in cc; standing = c.copy-standing.ensures.standing })
    (c.len-len.ensures.len ∙ ap length c.copy-copy.ensures.log) q.0 c.holders.invariant
    (holds-part c.in_ok-held.field-0 c.unwrap-part.result arc_value (arc_value c.args.schema.now) y c.unwrap-get.result.now c.block_name-name.result c.len-len.result c.unwrap-part.ensures c.in_ok-held.ensures)

pub returns : goal.returns
returns c =
    let x = c.index-replicas-at.result in
    let there : slice_get c.args.replicas.now c.args.at ≡ Some c.index-replicas-at.result = grind (arith, common_steps, gets) in
    let q = c.requires.waits x there in
    let g = c.in-Get in
    let w = worker c.args.replicas.now c.args.at c.args.i x c.copy-copy.result.now.log c.entry.result c.unwrap-get.result c.value.result.now g.partition g.number g.digest g.source g.need c.block_name-name.result
    c.requires.table there c.copy-copy.ensures.standing q.1 c.copy-copy.ensures.log c.entry.ensures.entry c.entry.ensures.place c.unwrap-get.ensures c.value.ensures g.is c.block_name-name.ensures in
    let n = nowhere c.args.replicas.now c.args.at c.holders.j c.args.i x c.unwrap-get.result.now c.block_name-name.result c.len-len.result w (c.len-len.ensures.len ∙ ap length c.copy-copy.ensures.log) c.holders-test.false c.holders.invariant in
    at-one c.args.replicas.now c.args.at x (λ v. IsFoundFor c.args.replicas.now v c.args.i (found.Missing c.block_name-name.result)) there
    (missing-block c.args.replicas.now c.args.at c.args.i x c.unwrap-get.result.now c.block_name-name.result w (n x there))
