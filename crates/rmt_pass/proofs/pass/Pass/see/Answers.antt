use Rattle.std.proofs.Common.{◌≡◌, ◌<◌, ◌≤◌, List, length, get_or, refl, sym, ap, subst, arith, ◌∙◌}
use Rattle.rmt_model.specs.Lawful.{Lawful}
use Rattle.rmt_model.specs.EntryLimits.{worker_count}
use Rattle.rmt_table_model.specs.Held.{Held}
use Rattle.rmt_statement_model.specs.Books.{GainsWork}
use Rattle.rmt_known.specs.KnownTables.{Known, GoesOnFromKnown, seen_of, with_copy}
use Rattle.rmt_shared.specs.SharedTables.{name_at, NamedTable}
use Rattle.rmt_pass.specs.Passes.{PassView, KeepsPass, Meets, Sees, known_at}
use Rattle.rmt_pass.proofs.KnownLemmas.{gained-length, known-at, on-err}
use Rattle.rmt_pass.proofs.TakingLemmas.{one-there}
use Rattle.rmt_pass.proofs.SeenLemmas.{gains-there, is-pass, some-count, work-count, sees-all}
use Rattle.rmt_pass.proofs.OwnLemmas.{keeps-known, knowing}
use Rattle.rmt_pass.proofs.pass.Pass.see.Goals as goal

pub table-tree-requires : goal.table-tree-requires
table-tree-requires g c =
    let m : Meets c.args.self.now c.args.table c.args.tables.now = c.meets.ensures.met c.if-not-meets.false in
    let n = gained-length c.args.self.now.tables c.args.tables.now m.gained in
    let t = c.requires.table in
    let there : c.args.table < length c.args.tables.now = omega (arith, n, t) in
    record { place = subst (λ (ts : List Held). c.args.table < length ts) (sym c.meets.ensures.tables) there }

pub take_over-requires-clause-prefix : goal.take_over-requires-clause-prefix
take_over-requires-clause-prefix g c =
    let P : PassView = record { tables = c.self-2.inside.tables.items; up = c.self-2.inside.up.items; gave_up = c.self-2.inside.gave_up } in
    let v : P ≡ c.args.self.now = c.self-2.view_is ∙ c.meets.ensures.same in
    let m : Meets P c.args.table c.args.tables.now = subst (λ (p : PassView). Meets p c.args.table c.args.tables.now) (sym v) (c.meets.ensures.met c.if-not-meets.false) in
    record {
      table = m.table;
      is = m.is ∙ ap (λ (ts : List Held). get_or ts c.args.table m.table) (sym c.meets.ensures.tables);
      fact = m.goes_on.prefix;
    }

pub invariant_of-self : goal.invariant_of-self
invariant_of-self g c =
    let P : PassView = record { tables = c.self-2.inside.tables.items; up = c.self-2.inside.up.items; gave_up = c.self-2.inside.gave_up } in
    let v : P ≡ c.args.self.now = c.self-2.view_is ∙ c.meets.ensures.same in
    let m : Meets P c.args.table c.args.tables.now = subst (λ (p : PassView). Meets p c.args.table c.args.tables.now) (sym v) (c.meets.ensures.met c.if-not-meets.false) in
    let t : c.args.table < length P.tables = subst (λ (p : PassView). c.args.table < length p.tables) (sym v) c.requires.table in
    let n = gained-length P.tables c.args.tables.now m.gained in
    let there : c.args.table < length c.args.tables.now = omega (arith, n, t) in
    let o = c.in_err-take_over.ensures.err in
    let found : m.table ≡ o.table = one-there c.args.tables.now c.args.table m.table o.table there m.is (o.is ∙ ap (λ (ts : List Held). get_or ts c.args.table o.table) c.meets.ensures.tables) in
    let gains : GainsWork (known_at P c.args.table).log o.table.log = subst (λ (h : Held). GainsWork (known_at P c.args.table).log h.log) found (gains-there P c.args.table c.args.tables.now m.table t there m.is m.gained) in
    is-pass g.N.Naming.tables g.N.Naming.replicas g.N.Naming.parts P c.args.table t c.self-2.inside.entries.parts c.self-2.inside.entries.amount c.self-2.invariant c.take_over.new.known.items c.take_over.ensures.known (with_copy o.fact.log o.fact.cells (known_at P c.args.table)) o.fact.change
    (some-count (known_at P c.args.table).log o.table.log o.fact.log gains o.fact.longer o.fact.within)

pub returns-in_err-take_over-clause-err : goal.returns-in_err-take_over-clause-err
returns-in_err-take_over-clause-err g c =
    let P : PassView = record { tables = c.self-2.inside.tables.items; up = c.self-2.inside.up.items; gave_up = c.self-2.inside.gave_up } in
    let v : P ≡ c.args.self.now = c.self-2.view_is ∙ c.meets.ensures.same in
    let t : c.args.table < length P.tables = subst (λ (p : PassView). c.args.table < length p.tables) (sym v) c.requires.table in
    let o = c.in_err-take_over.ensures.err in
    on-err c.from_residual.result _
    (subst (λ (p : PassView). KeepsPass p c.args.table (knowing P c.take_over.new.known.items P.gave_up)) v
    (keeps-known P c.args.table t c.take_over.new.known.items (with_copy o.fact.log o.fact.cells (known_at P c.args.table)) o.fact.change P.gave_up refl refl refl))

pub invariant_of-self-2 : goal.invariant_of-self-2
invariant_of-self-2 g c =
    let P : PassView = record { tables = c.self-2.inside.tables.items; up = c.self-2.inside.up.items; gave_up = c.self-2.inside.gave_up } in
    let v : P ≡ c.args.self.now = c.self-2.view_is ∙ c.meets.ensures.same in
    let m : Meets P c.args.table c.args.tables.now = subst (λ (p : PassView). Meets p c.args.table c.args.tables.now) (sym v) (c.meets.ensures.met c.if-not-meets.false) in
    let t : c.args.table < length P.tables = subst (λ (p : PassView). c.args.table < length p.tables) (sym v) c.requires.table in
    let n = gained-length P.tables c.args.tables.now m.gained in
    let there : c.args.table < length c.args.tables.now = omega (arith, n, t) in
    let o = c.in_ok-take_over.ensures.ok in
    let found : m.table ≡ o.table = one-there c.args.tables.now c.args.table m.table o.table there m.is (o.is ∙ ap (λ (ts : List Held). get_or ts c.args.table o.table) c.meets.ensures.tables) in
    let gains : GainsWork (known_at P c.args.table).log o.table.log = subst (λ (h : Held). GainsWork (known_at P c.args.table).log h.log) found (gains-there P c.args.table c.args.tables.now m.table t there m.is m.gained) in
    is-pass g.N.Naming.tables g.N.Naming.replicas g.N.Naming.parts P c.args.table t c.self-2.inside.entries.parts c.self-2.inside.entries.amount c.self-2.invariant c.take_over.new.known.items c.take_over.ensures.known (seen_of o.table o.fact.cells (known_at P c.args.table)) o.fact.change
    (work-count (known_at P c.args.table).log o.table.log gains)

pub returns-clause-ok : goal.returns-clause-ok
returns-clause-ok g c =
    let P : PassView = record { tables = c.self-2.inside.tables.items; up = c.self-2.inside.up.items; gave_up = c.self-2.inside.gave_up } in
    let v : P ≡ c.args.self.now = c.self-2.view_is ∙ c.meets.ensures.same in
    let m : Meets P c.args.table c.args.tables.now = subst (λ (p : PassView). Meets p c.args.table c.args.tables.now) (sym v) (c.meets.ensures.met c.if-not-meets.false) in
    let t : c.args.table < length P.tables = subst (λ (p : PassView). c.args.table < length p.tables) (sym v) c.requires.table in
    let n = gained-length P.tables c.args.tables.now m.gained in
    let there : c.args.table < length c.args.tables.now = omega (arith, n, t) in
    let o = c.in_ok-take_over.ensures.ok in
    let at : o.table ≡ get_or c.args.tables.now c.args.table o.table = o.is ∙ ap (λ (ts : List Held). get_or ts c.args.table o.table) c.meets.ensures.tables in
    let found : m.table ≡ o.table = one-there c.args.tables.now c.args.table m.table o.table there m.is at in
    let tree : c.table-tree.result.now ≡ o.table = one-there c.args.tables.now c.args.table c.table-tree.result.now o.table there (c.table-tree.ensures.same c.table-tree.result.now ∙ ap (λ (ts : List Held). get_or ts c.args.table c.table-tree.result.now) c.meets.ensures.tables) at in
    let gains : GainsWork (known_at P c.args.table).log o.table.log = subst (λ (h : Held). GainsWork (known_at P c.args.table).log h.log) found (gains-there P c.args.table c.args.tables.now m.table t there m.is m.gained) in
    let named_so : o.table.schema ≡ (name_at g.N.Naming.tables c.args.table).schema = ap (λ (h : Held). h.schema) (sym tree) ∙ ap (λ (x : NamedTable). x.schema) c.table-tree.ensures.named in
    let schema : o.table.schema ≡ (known_at P c.args.table).schema = named_so ∙ sym (known-at g.N.Naming.replicas g.N.Naming.tables P.tables c.args.table _ c.self-2.invariant.known t).copy.schema in
    let all = sees-all P c.args.table t o.table
    (subst (λ (h : Held). worker_count h.log ≤ 32768) tree c.no_limit_is_passed.ensures.workers)
    (subst (λ (h : Held). Lawful h.schema h.log) tree c.is_sound.ensures.lawful)
    schema gains (subst (λ (h : Held). GoesOnFromKnown (known_at P c.args.table) h) found m.goes_on) o.fact.cells in
    record {
      there = there;
      table = o.table;
      is = at;
      all = subst (λ (p : PassView). Sees p c.args.table o.table (knowing P c.take_over.new.known.items P.gave_up)) v
          (subst (λ (ks : List Known). Sees P c.args.table o.table (knowing P ks P.gave_up)) (sym o.fact.change) all);
      goes = ap (λ (p : PassView). p.gave_up) v ∙ (ap (λ (p : PassView). p.gave_up) (sym c.self.view_is) ∙ c.if-self.false);
    }
