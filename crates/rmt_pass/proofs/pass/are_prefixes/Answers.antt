use Rattle.std.proofs.Common.{◌≡◌, ◌<◌, ◌≤◌, List, length, get_or, sym, ap, subst, arith, ◌∙◌}
use Rattle.rmt_entries.specs.declared.entry.Entry.{Entry}
use Rattle.rmt_history.specs.Copies.{History}
use Rattle.rmt_table_model.specs.Held.{Held}
use Rattle.rmt_known.specs.KnownTables.{Known}
use Rattle.rmt_shared.specs.SharedTables.{logs_of}
use Rattle.rmt_shared.proofs.NamedLemmas.{map-length, map-get, prefixes-more}
use Rattle.rmt_pass.specs.Passes.{logs_in}
use Rattle.rmt_pass.proofs.KnownLemmas.{copy-named, not-both, shorter-there, tables-for}
use Rattle.rmt_pass.proofs.pass.are_prefixes.Goals as goal

pub tables-init : goal.tables-init
tables-init g c = (tables-for g.N.Naming.replicas c.args.tables.now g.N.Naming.tables c.args.known.now c.has_named_tables.ensures c.requires, tt)

pub meet-requires-clause-schema : goal.meet-requires-clause-schema
meet-requires-clause-schema g c = (copy-named g.N.Naming.replicas g.N.Naming.tables c.args.known.now c.tables.i c.index-known-i.result c.copy.result.now c.table.result.now c.requires c.tables-test.true c.index-known-i.is c.copy.ensures c.table.ensures.named).schema

pub meet-requires-clause-row : goal.meet-requires-clause-row
meet-requires-clause-row g c = (copy-named g.N.Naming.replicas g.N.Naming.tables c.args.known.now c.tables.i c.index-known-i.result c.copy.result.now c.table.result.now c.requires c.tables-test.true c.index-known-i.is c.copy.ensures c.table.ensures.named).row

pub returns-then-not-meet-clause-shorter : goal.returns-then-not-meet-clause-shorter
returns-then-not-meet-clause-shorter g c = λ e.
    let t = c.tables-test.true in
    let n = c.tables.invariant.0 in
    shorter-there c.args.known.now c.args.tables.now c.tables.i c.index-known-i.result c.table.result.now t (omega (arith, t, n)) c.index-known-i.is (c.table.ensures.same c.table.result.now)
    (λ l. not-both c.meet.result (c.meet.ensures.short.1 (subst (λ (x : List Entry). length x ≤ length c.table.result.now.log) (sym (ap (λ (x : History). x.log) c.copy.ensures)) l)) c.if-not-meet.true)

pub tables-preserved : goal.tables-preserved
tables-preserved g c =
    let i = c.tables.i in
    let t = c.tables-test.true in
    let n = c.tables.invariant.0 in
    let there : i < length c.args.tables.now = omega (arith, t, n) in
    let m = map-length (λ (x : Known). x.log) c.args.known.now in
    let hc : i < length (logs_in c.args.known.now) = omega (arith, m, t) in
    let o = map-length (λ (x : Held). x.log) c.args.tables.now in
    let hl : i < length (logs_of c.args.tables.now) = omega (arith, o, there) in
    let copy : c.copy.result.now.log ≡ c.index-known-i.result.log = ap (λ (x : History). x.log) c.copy.ensures in
    let cs : get_or (logs_in c.args.known.now) i c.copy.result.now.log ≡ c.copy.result.now.log =
    map-get (λ (x : Known). x.log) c.args.known.now i c.index-known-i.result c.copy.result.now.log t ∙ (ap (λ (x : Known). x.log) (sym c.index-known-i.is) ∙ sym copy) in
    let ls : get_or (logs_of c.args.tables.now) i c.table.result.now.log ≡ c.table.result.now.log =
    map-get (λ (x : Held). x.log) c.args.tables.now i c.table.result.now c.table.result.now.log there ∙ ap (λ (x : Held). x.log) (sym (c.table.ensures.same c.table.result.now)) in
    (n, prefixes-more (logs_in c.args.known.now) (logs_of c.args.tables.now) i c.copy.result.now.log c.table.result.now.log c.tables.invariant.1 hc hl cs ls (c.meet.ensures.of c.if-not-meet.false).prefix)
