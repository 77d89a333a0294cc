use Rattle.std.proofs.Common.{◌≡◌, ◌<◌, length, ap, subst, arith}
use Rattle.rmt_model.specs.Lawful.{IsPrefix}
use Rattle.rmt_table_model.specs.Held.{Held}
use Rattle.rmt_known.specs.KnownTables.{Known}
use Rattle.rmt_pass.specs.Passes.{known_in}
use Rattle.rmt_pass.proofs.KnownLemmas.{on-err, tables-for}
use Rattle.rmt_pass.proofs.TakingLemmas.{one-there, copy-there, known-now, takes-over, takes-some}
use Rattle.rmt_pass.proofs.pass.take_over.Goals as goal

pub table-tree-requires : goal.table-tree-requires
table-tree-requires g c =
    let n = tables-for g.N.Naming.replicas c.args.tables.now g.N.Naming.tables c.args.known.now.items c.has_named_tables.ensures c.requires.known in
    let t = c.requires.table in
    record { place = omega (arith, n, t) }

pub see-requires : goal.see-requires
see-requires g c =
    let n = tables-for g.N.Naming.replicas c.args.tables.now g.N.Naming.tables c.args.known.now.items c.has_named_tables.ensures c.requires.known in
    let t = c.requires.table in
    let there : c.args.table < length c.args.tables.now = omega (arith, n, t) in
    let tree = c.table-tree.result.now in
    let same : c.requires.prefix.table ≡ tree = one-there c.args.tables.now c.args.table c.requires.prefix.table tree there c.requires.prefix.is (c.table-tree.ensures.same tree) in
    copy-there g.N.Naming.replicas g.N.Naming.tables c.args.known.now.items c.args.table c.index_mut.result.now tree c.requires.known t c.index_mut.ensures.value c.table-tree.ensures.named
    (subst (λ (h : Held). IsPrefix (known_in c.args.known.now.items c.args.table).log h.log) same c.requires.prefix.fact)

pub returns-in_err-see-clause-known : goal.returns-in_err-see-clause-known
returns-in_err-see-clause-known g c =
    known-now g.N.Naming.replicas g.N.Naming.tables c.args.known.now.items c.args.table c.index_mut.result.now c.table-tree.result.now c.requires.known c.requires.table c.index_mut.ensures.value c.table-tree.ensures.named c.see.new.self c.no_limit_is_passed.ensures.entries c.see.ensures.of
    (ap (λ (k : Known). length k.fetching) c.in_err-see.ensures.err) (ap (λ (k : Known). length k.marks) c.in_err-see.ensures.err)

pub returns-in_err-see-clause-err : goal.returns-in_err-see-clause-err
returns-in_err-see-clause-err g c = on-err c.from_residual.result _
    (takes-some g.N.Naming.replicas g.N.Naming.tables c.args.known.now.items c.args.table c.index_mut.result.now c.table-tree.result.now c.requires.known c.requires.table c.index_mut.ensures.value c.table-tree.ensures.named c.args.tables.now c.see.new.self
    (c.table-tree.ensures.same c.table-tree.result.now) c.in_err-see.ensures.err c.see.ensures.longer c.see.ensures.of)

pub returns-clause-known : goal.returns-clause-known
returns-clause-known g c =
    known-now g.N.Naming.replicas g.N.Naming.tables c.args.known.now.items c.args.table c.index_mut.result.now c.table-tree.result.now c.requires.known c.requires.table c.index_mut.ensures.value c.table-tree.ensures.named c.see.new.self c.no_limit_is_passed.ensures.entries c.see.ensures.of
    (ap (λ (k : Known). length k.fetching) c.in_ok-see.ensures.ok) (ap (λ (k : Known). length k.marks) c.in_ok-see.ensures.ok)

pub returns-clause-ok : goal.returns-clause-ok
returns-clause-ok g c =
    takes-over g.N.Naming.replicas g.N.Naming.tables c.args.known.now.items c.args.table c.index_mut.result.now c.table-tree.result.now c.requires.known c.requires.table c.index_mut.ensures.value c.table-tree.ensures.named c.args.tables.now c.see.new.self
    (c.table-tree.ensures.same c.table-tree.result.now) c.in_ok-see.ensures.ok
