use Rattle.std.proofs.Common.{rules, ◌≡◌, ◌+◌, ◌*◌, length, sym, subst, arith}
use Rattle.std.proofs.Common.{Some}
use Rattle.rmt_granules.specs.Granules.{PartView, granule_of}
use Rattle.rmt_granules.proofs.Marks.{starts-within, granule-is}
use Rattle.rmt_granules.proofs.part_data.PartData.granule.Goals as goal

pub overflow_mul-first : goal.overflow_mul-first
overflow_mul-first c =
    let marks : length c.self.inside.marks.items ≡ c.len.result = search rules in
    let rows = sym c.len-count.ensures.count in
    let first = starts-within _ c.self.invariant c.args.g _ _ rows marks c.if-g-len.false in
    omega (arith, first)

pub overflow_sub-count : goal.overflow_sub-count
overflow_sub-count c =
    let marks : length c.self.inside.marks.items ≡ c.len.result = search rules in
    let rows = sym c.len-count.ensures.count in
    let first = starts-within _ c.self.invariant c.args.g _ _ rows marks c.if-g-len.false in
    omega (arith, first)

pub overflow_add-past : goal.overflow_add-past
overflow_add-past c =
    let marks : length c.self.inside.marks.items ≡ c.len.result = search rules in
    let rows = sym c.len-count.ensures.count in
    let first = starts-within _ c.self.invariant c.args.g _ _ rows marks c.if-g-len.false in
    omega (arith, first, c.min.ensures)

pub returns : goal.returns
returns c =
    let marks : length c.self.inside.marks.items ≡ c.len.result = search rules in
    let rows = sym c.len-count.ensures.count in
    subst (λ (v : PartView). Some (c.args.g * c.self.inside.granularity, c.args.g * c.self.inside.granularity + c.min.result) ≡ granule_of v c.args.g) c.self.view_is
    (granule-is _ c.self.invariant c.args.g c.len-count.result c.min.result rows (omega (arith, marks, c.if-g-len.false)) c.min.ensures)
