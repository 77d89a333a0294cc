use Rattle.std.proofs.Common.{◌≡◌, ◌<◌, false, List, length, get_or, refl, sym, ap, subst, arith, ◌∙◌}
use Rattle.rmt_table_model.specs.Held.{Held}
use Rattle.rmt_statement_model.specs.Books.{ArePrefixesOf, GainWork}
use Rattle.rmt_statement_model.proofs.WorkerEntries.{books-tell}
use Rattle.rmt_known.specs.KnownTables.{Known, copy_in, new_known, GoesOnFromKnown}
use Rattle.rmt_shared.specs.SharedTables.{logs_of}
use Rattle.rmt_pass.specs.Passes.{PassView, no_schema, logs_in}
use Rattle.rmt_pass.proofs.KnownLemmas.{copy-named, prefixes-length}
use Rattle.rmt_pass.proofs.TakingLemmas.{get-same}
use Rattle.rmt_pass.proofs.pass.Pass.meets.Goals as goal

pub table-requires : goal.table-requires
table-requires g c =
    let t : c.args.table < length c.self.inside.tables.items = subst (λ (p : PassView). c.args.table < length p.tables) (sym c.self.view_is) c.requires.table in
    let n = prefixes-length c.self.inside.tables.items c.audit.new.self (subst (λ (ks : List Known). ArePrefixesOf (logs_in ks) (logs_of c.audit.new.self)) c.deref.ensures.value (c.are_prefixes.ensures.prefixes c.if-not-are_prefixes.false)) in
    record { place = omega (arith, t, n) }

pub meets-requires-clause-schema : goal.meets-requires-clause-schema
meets-requires-clause-schema g c =
    let t : c.args.table < length c.self.inside.tables.items = subst (λ (p : PassView). c.args.table < length p.tables) (sym c.self.view_is) c.requires.table in
    (copy-named g.N.Naming.replicas g.N.Naming.tables c.self.inside.tables.items c.args.table c.index.result.now (copy_in c.index.result.now) c.table.result.now c.self.invariant.known t c.index.ensures refl c.table.ensures.named).schema

pub meets-requires-clause-row : goal.meets-requires-clause-row
meets-requires-clause-row g c =
    let t : c.args.table < length c.self.inside.tables.items = subst (λ (p : PassView). c.args.table < length p.tables) (sym c.self.view_is) c.requires.table in
    (copy-named g.N.Naming.replicas g.N.Naming.tables c.self.inside.tables.items c.args.table c.index.result.now (copy_in c.index.result.now) c.table.result.now c.self.invariant.known t c.index.ensures refl c.table.ensures.named).row

pub returns-clause-met : goal.returns-clause-met
returns-clause-met g c = λ holds.
    let items = c.self.inside.tables.items in
    let t : c.args.table < length items = subst (λ (p : PassView). c.args.table < length p.tables) (sym c.self.view_is) c.requires.table in
    let goes : c.self.inside.gave_up ≡ false = ap (λ (p : PassView). p.gave_up) c.self.view_is ∙ c.requires.goes in
    let prefixes : ArePrefixesOf (logs_in items) (logs_of c.args.tables.now) =
    subst (λ (ts : List Held). ArePrefixesOf (logs_in items) (logs_of ts)) c.audit.ensures.same
    (subst (λ (ks : List Known). ArePrefixesOf (logs_in ks) (logs_of c.audit.new.self)) c.deref.ensures.value (c.are_prefixes.ensures.prefixes c.if-not-are_prefixes.false)) in
    let known : c.index.result.now ≡ get_or items c.args.table (new_known no_schema 0) = c.index.ensures ∙ get-same items c.args.table c.index.result.now (new_known no_schema 0) t in
    record {
      gained = subst (λ (p : PassView). GainWork (logs_in p.tables) (logs_of c.args.tables.now)) c.self.view_is (books-tell (logs_in items) (logs_of c.args.tables.now) prefixes (c.audit.ensures.counted ∙ c.self.invariant.counted goes));
      table = c.table.result.now;
      is = c.table.ensures.same c.table.result.now ∙ ap (λ (ts : List Held). get_or ts c.args.table c.table.result.now) c.audit.ensures.same;
      goes_on = subst (λ (p : PassView). GoesOnFromKnown (get_or p.tables c.args.table (new_known no_schema 0)) c.table.result.now) c.self.view_is
          (subst (λ (k : Known). GoesOnFromKnown k c.table.result.now) known (c.meets.ensures.yes holds));
    }
