use Rattle.std.proofs.Common.{◌<◌, [], length, ap, arith, sym, ◌∙◌}
use Rattle.rmt_model.specs.EntryLimits.{client_count}
use Rattle.rmt_table_model.specs.Held.{Held}
use Rattle.rmt_shared.specs.SharedTables.{logs_of}
use Rattle.rmt_shared.proofs.NamedLemmas.{map-length, map-get, clients-to}
use Rattle.rmt_shared.proofs.shared_tables.count_clients.Goals as goal

pub tables-preserved : goal.tables-preserved
tables-preserved c =
    let t = c.tables-test.true in
    let m = map-length (λ (h : Held). h.log) c.args.tables.now in
    let h : c.tables.i < length (logs_of c.args.tables.now) = omega (arith, t, m) in
    let e = clients-to (logs_of c.args.tables.now) c.tables.i [] h in
    let g = ap client_count (map-get (λ (x : Held). x.log) c.args.tables.now c.tables.i c.index-tables-i.result [] t ∙ ap (λ (x : Held). x.log) (sym c.index-tables-i.is)) in
    let n = c.from-count.ensures in
    let r = c.client_entries.ensures in
    let a = c.tables.invariant.0 in
    let b = c.tables.invariant.1 in
    (omega (arith, e, g, n, r, a), omega (arith, n, b))
