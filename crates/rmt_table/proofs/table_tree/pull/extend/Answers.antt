use Rattle.std.proofs.Common.{List, length, ap, sym, subst, arith}
use Rattle.rmt_row.specs.Token.{Token}
use Rattle.rmt_entries.specs.declared.entry.Entry.{Entry}
use Rattle.rmt_history.specs.TableLogs.{HaveRowOf, Follows}
use Rattle.rmt_values.specs.Rows.{Shape}
use Rattle.rmt_model.specs.Lawful.{Lawful}
use Rattle.rmt_history.specs.Copies.{entries}
use Rattle.rmt_table.proofs.Pulls.{pulled-whole, between-row, follow-between, follow-longer}
use Rattle.rmt_table.proofs.table_tree.pull.extend.Goals as goal

pub follow-requires-clause-lawful : goal.follow-requires-clause-lawful
follow-requires-clause-lawful c = subst (λ (ts : List (Token Entry)). Lawful c.entries.copy.schema (entries ts)) (sym c.tokens.ensures) (subst (λ (s : Shape). Lawful s (entries c.args.log.now.tokens)) (sym c.entries.invariant.schema) c.requires.lawful)

pub follow-requires-clause-longer : goal.follow-requires-clause-longer
follow-requires-clause-longer c = let l = c.entries-test.true in let n = c.len.ensures.len in let m = c.len-in-entries.ensures in let k = ap (λ (ts : List (Token Entry)). length ts) c.tokens.ensures in omega (arith, l, n, m, k)

pub follow-requires-clause-row : goal.follow-requires-clause-row
follow-requires-clause-row c = subst (λ (ts : List (Token Entry)). HaveRowOf c.entries.copy ts) (sym c.tokens.ensures) (between-row c.args.log.now.row c.args.copy.now c.entries.copy c.args.log.now.tokens c.requires.places c.entries.invariant)

pub entries-preserved : goal.entries-preserved
entries-preserved c = follow-between c.args.log.now.row c.args.copy.now c.entries.copy c.follow.new.self c.args.log.now.tokens c.requires.places c.entries.invariant (subst (λ (ts : List (Token Entry)). Follows c.entries.copy ts c.follow.new.self) c.tokens.ensures c.in_ok-follow.ensures.ok)

pub entries-smaller : goal.entries-smaller
entries-smaller c =
    let l = c.entries-test.true in
    let n = c.len.ensures.len in
    let m = c.len-in-entries.ensures in
    let k = follow-longer c.entries.copy c.follow.new.self c.args.log.now.tokens (subst (λ (ts : List (Token Entry)). Follows c.entries.copy ts c.follow.new.self) c.tokens.ensures c.in_ok-follow.ensures.ok) in
    omega (arith, l, n, m, k)

pub returns : goal.returns
returns c = record {
  ok = pulled-whole c.args.log.now.row c.args.copy.now c.entries.copy c.args.log.now.tokens c.len.result c.entries.invariant c.len.ensures.len (let l = c.entries-test.false in let m = c.len-in-entries.ensures in omega (arith, l, m));
  schema = c.entries.invariant.schema;
  longer = c.entries.invariant.longer;
  prefix = c.entries.invariant.prefix;
  cells = c.entries.invariant.cells;
}
