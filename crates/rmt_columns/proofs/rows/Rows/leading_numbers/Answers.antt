use Rattle.std.proofs.Common.{rules, ◌≡◌, ◌<◌, length, arith}
use Rattle.rmt_columns.proofs.LeadLemmas.{if-lead}
use Rattle.rmt_columns.proofs.rows.Rows.leading_numbers.Goals as goal

pub returns-clause-some : goal.returns-clause-some
returns-clause-some c =
    let n : c.len.result ≡ length c.self.inside.columns.items = search rules in
    let some : 0 < length c.args.key.now = search rules in
    if-lead c.unsigned.result c.args.key.now c.self.inside.count c.self.inside.columns.items c.index.result.now c.args.self.now c.self.view_is c.self.invariant.0 some (omega (arith, n, c.if-first-len.false)) c.index.ensures c.unsigned.ensures.some
