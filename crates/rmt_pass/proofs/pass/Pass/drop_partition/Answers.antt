use Rattle.std.proofs.Common.{◌≡◌, ℕ, ◌+◌, ◌<◌, ◌≤◌, false, length, set, sym, ap, subst, ◌∙◌}
use Rattle.std.specs.declared.option.Option.{Option}
use Rattle.std.specs.declared.result.Result.TheVariants.{Ok}
use Rattle.rmt_events.specs.TableCalls.{DropsPartition}
use Rattle.rmt_table_model.specs.Held.{Held}
use Rattle.rmt_table.specs.TableTrees.{table_at}
use Rattle.rmt_statement_model.specs.ActOutcomes.{DropsOr}
use Rattle.rmt_known.specs.KnownTables.{Known, new_known}
use Rattle.rmt_shared.specs.SharedTables.{ChangesTable}
use Rattle.rmt_shared.specs.ClientCalls.{DropsIn, entries_of}
use Rattle.rmt_pass.specs.Passes.{PassView, IsCurrent, TakesStep, known_in, no_schema}
use Rattle.rmt_pass.proofs.KnownLemmas.{known-at, known-learned, known-there-still}
use Rattle.rmt_pass.proofs.TakingLemmas.{get-same, one-there}
use Rattle.rmt_pass.proofs.OwnLemmas.{knowing, others, others-stay}
use Rattle.rmt_pass.proofs.DropLemmas.{drop-goes-on, drop-done, drop-now, drop-counted}
use Rattle.rmt_pass.proofs.pass.Pass.drop_partition.Goals as goal

pub table-requires : goal.table-requires
table-requires g c = record { place = c.requires.current.there }

pub drop_partition-requires-clause-table : goal.drop_partition-requires-clause-table
drop_partition-requires-clause-table g c = c.requires.current.there

pub take_over-requires-clause-prefix : goal.take_over-requires-clause-prefix
take_over-requires-clause-prefix g c =
    let P : PassView = record { tables = c.self.inside.tables.items; up = c.self.inside.up.items; gave_up = c.self.inside.gave_up } in
    let k = c.args.table in
    let now : IsCurrent P k c.args.tables.now = subst (λ (p : PassView). IsCurrent p k c.args.tables.now) (sym c.self.view_is) c.requires.current in
    let ch : ChangesTable c.args.tables.now c.args.table (λ t u. DropsPartition (table_at t) c.args.partition c.in-Ok-Some.below (table_at u)) c.drop_partition.new.self = subst (λ (d : Option ℕ). DropsIn c.args.tables.now c.args.table c.args.partition d c.drop_partition.new.self) c.in-Ok-Some.field-0-is c.in-Ok-Some.ensures.ok in
    drop-goes-on P k c.args.tables.now c.drop_partition.new.self now.there now c.in-Ok-Some.below c.args.partition ch

pub returns-in_err-take_over-in-Ok-Some-clause-others : goal.returns-in_err-take_over-in-Ok-Some-clause-others
returns-in_err-take_over-in-Ok-Some-clause-others g c =
    let ch : ChangesTable c.args.tables.now c.args.table (λ t u. DropsPartition (table_at t) c.args.partition c.in-Ok-Some.below (table_at u)) c.drop_partition.new.self = subst (λ (d : Option ℕ). DropsIn c.args.tables.now c.args.table c.args.partition d c.drop_partition.new.self) c.in-Ok-Some.field-0-is c.in-Ok-Some.ensures.ok in
    others c.args.tables.now c.args.table (λ t u. DropsPartition (table_at t) c.args.partition c.in-Ok-Some.below (table_at u)) c.drop_partition.new.self ch

pub learn-requires : goal.learn-requires
learn-requires g c =
    let P : PassView = record { tables = c.self.inside.tables.items; up = c.self.inside.up.items; gave_up = c.self.inside.gave_up } in
    let k = c.args.table in
    let now : IsCurrent P k c.args.tables.now = subst (λ (p : PassView). IsCurrent p k c.args.tables.now) (sym c.self.view_is) c.requires.current in
    let here : k < length P.tables = subst (λ (p : PassView). k < length p.tables) (sym c.self.view_is) c.requires.table in
    let there = known-there-still g.N.Naming.replicas g.N.Naming.tables P.tables c.take_over.new.known.items k c.self.invariant.known c.take_over.ensures.known here in
    let marks : length c.index_mut.result.now.fetching ≡ g.N.Naming.replicas = ap (λ (x : Known). length x.fetching) c.index_mut.ensures.value ∙ (known-at g.N.Naming.replicas g.N.Naming.tables c.take_over.new.known.items k c.index_mut.result.now c.take_over.ensures.known there).fetching in
    record { first = c.requires.here.first; last = subst (λ (n : ℕ). c.args.replica ≤ n) (sym marks) c.requires.here.last }

pub returns-in_err-learn-in-Ok-Some-clause-others : goal.returns-in_err-learn-in-Ok-Some-clause-others
returns-in_err-learn-in-Ok-Some-clause-others g c =
    let ch : ChangesTable c.args.tables.now c.args.table (λ t u. DropsPartition (table_at t) c.args.partition c.in-Ok-Some.below (table_at u)) c.drop_partition.new.self = subst (λ (d : Option ℕ). DropsIn c.args.tables.now c.args.table c.args.partition d c.drop_partition.new.self) c.in-Ok-Some.field-0-is c.in-Ok-Some.ensures.ok in
    others c.args.tables.now c.args.table (λ t u. DropsPartition (table_at t) c.args.partition c.in-Ok-Some.below (table_at u)) c.drop_partition.new.self ch

pub invariant_of-self-in-Ok-Some : goal.invariant_of-self-in-Ok-Some
invariant_of-self-in-Ok-Some g c =
    let P : PassView = record { tables = c.self.inside.tables.items; up = c.self.inside.up.items; gave_up = c.self.inside.gave_up } in
    let k = c.args.table in
    let now : IsCurrent P k c.args.tables.now = subst (λ (p : PassView). IsCurrent p k c.args.tables.now) (sym c.self.view_is) c.requires.current in
    let here : k < length P.tables = subst (λ (p : PassView). k < length p.tables) (sym c.self.view_is) c.requires.table in
    let ch : ChangesTable c.args.tables.now c.args.table (λ t u. DropsPartition (table_at t) c.args.partition c.in-Ok-Some.below (table_at u)) c.drop_partition.new.self = subst (λ (d : Option ℕ). DropsIn c.args.tables.now c.args.table c.args.partition d c.drop_partition.new.self) c.in-Ok-Some.field-0-is c.in-Ok-Some.ensures.ok in
    let at : c.index_mut.result.now ≡ known_in c.take_over.new.known.items k = c.index_mut.ensures.value ∙ get-same c.take_over.new.known.items k c.index_mut.result.now (new_known no_schema 0) (known-there-still g.N.Naming.replicas g.N.Naming.tables P.tables c.take_over.new.known.items k c.self.invariant.known c.take_over.ensures.known here) in
    let there = known-there-still g.N.Naming.replicas g.N.Naming.tables P.tables c.take_over.new.known.items k c.self.invariant.known c.take_over.ensures.known here in
    record {
      known = known-learned g.N.Naming.replicas g.N.Naming.tables c.take_over.new.known.items k c.index_mut.result.now c.learn.new.self c.take_over.ensures.known there c.index_mut.ensures.value c.learn.ensures.keeps;
      ups = c.self.invariant.ups;
      whole = c.drop_partition.ensures.parts ∙ c.self.invariant.whole;
      some = c.self.invariant.some;
      counted = λ e. c.in-Ok-Some.ensures.counted ∙ (ap (λ (d : Option ℕ). c.self.inside.entries.amount + entries_of d) c.in-Ok-Some.field-0-is ∙ (ap (λ (n : ℕ). n + 1) (c.self.invariant.counted now.goes)
          ∙ sym (drop-counted P k c.args.tables.now c.drop_partition.new.self now.there now c.in-Ok-Some.below c.args.partition ch here c.take_over.new.known.items c.in_ok-take_over-in-Ok-Some.ensures.ok c.args.replica c.log_len-place.result c.index_mut.result.now c.learn.new.self at c.in_ok-learn-in-Ok-Some.ensures.ok c.learn.ensures.keeps)));
    }

pub returns-in-Ok-None-clause-others : goal.returns-in-Ok-None-clause-others
returns-in-Ok-None-clause-others g c = others-stay c.args.tables.now c.drop_partition.new.self c.args.table c.table.result.now (subst (λ (d : Option ℕ). DropsIn c.args.tables.now c.args.table c.args.partition d c.drop_partition.new.self) c.in-Ok-None.field-0-is c.in-Ok-None.ensures.ok).1

pub returns-in_ok-learn-in-Ok-Some-clause-done : goal.returns-in_ok-learn-in-Ok-Some-clause-done
returns-in_ok-learn-in-Ok-Some-clause-done g c =
    let P : PassView = record { tables = c.self.inside.tables.items; up = c.self.inside.up.items; gave_up = c.self.inside.gave_up } in
    let k = c.args.table in
    let now : IsCurrent P k c.args.tables.now = subst (λ (p : PassView). IsCurrent p k c.args.tables.now) (sym c.self.view_is) c.requires.current in
    let here : k < length P.tables = subst (λ (p : PassView). k < length p.tables) (sym c.self.view_is) c.requires.table in
    let ch : ChangesTable c.args.tables.now c.args.table (λ t u. DropsPartition (table_at t) c.args.partition c.in-Ok-Some.below (table_at u)) c.drop_partition.new.self = subst (λ (d : Option ℕ). DropsIn c.args.tables.now c.args.table c.args.partition d c.drop_partition.new.self) c.in-Ok-Some.field-0-is c.in-Ok-Some.ensures.ok in
    let at : c.index_mut.result.now ≡ known_in c.take_over.new.known.items k = c.index_mut.ensures.value ∙ get-same c.take_over.new.known.items k c.index_mut.result.now (new_known no_schema 0) (known-there-still g.N.Naming.replicas g.N.Naming.tables P.tables c.take_over.new.known.items k c.self.invariant.known c.take_over.ensures.known here) in
    let tree : c.table.result.now ≡ now.table = one-there c.args.tables.now k c.table.result.now now.table now.there (c.table.ensures.same c.table.result.now) now.is in
    subst (λ (p : PassView). TakesStep g.N.Naming.offered p k (DropsOr c.args.replica c.args.partition (Ok c.in-Ok-Some.below)) (knowing P (set c.take_over.new.known.items k c.learn.new.self) false)) c.self.view_is
    (drop-done P k c.args.tables.now c.drop_partition.new.self now.there now c.in-Ok-Some.below c.args.partition ch here c.take_over.new.known.items c.in_ok-take_over-in-Ok-Some.ensures.ok c.args.replica c.log_len-place.result c.index_mut.result.now c.learn.new.self at c.in_ok-learn-in-Ok-Some.ensures.ok c.learn.ensures.keeps g.N.Naming.offered
    (c.log_len-place.ensures ∙ ap (λ (h : Held). length h.log) tree))

pub returns-in_ok-learn-in-Ok-Some-clause-current : goal.returns-in_ok-learn-in-Ok-Some-clause-current
returns-in_ok-learn-in-Ok-Some-clause-current g c =
    let P : PassView = record { tables = c.self.inside.tables.items; up = c.self.inside.up.items; gave_up = c.self.inside.gave_up } in
    let k = c.args.table in
    let now : IsCurrent P k c.args.tables.now = subst (λ (p : PassView). IsCurrent p k c.args.tables.now) (sym c.self.view_is) c.requires.current in
    let here : k < length P.tables = subst (λ (p : PassView). k < length p.tables) (sym c.self.view_is) c.requires.table in
    let ch : ChangesTable c.args.tables.now c.args.table (λ t u. DropsPartition (table_at t) c.args.partition c.in-Ok-Some.below (table_at u)) c.drop_partition.new.self = subst (λ (d : Option ℕ). DropsIn c.args.tables.now c.args.table c.args.partition d c.drop_partition.new.self) c.in-Ok-Some.field-0-is c.in-Ok-Some.ensures.ok in
    let at : c.index_mut.result.now ≡ known_in c.take_over.new.known.items k = c.index_mut.ensures.value ∙ get-same c.take_over.new.known.items k c.index_mut.result.now (new_known no_schema 0) (known-there-still g.N.Naming.replicas g.N.Naming.tables P.tables c.take_over.new.known.items k c.self.invariant.known c.take_over.ensures.known here) in
    drop-now P k c.args.tables.now c.drop_partition.new.self now.there now c.in-Ok-Some.below c.args.partition ch here c.take_over.new.known.items c.in_ok-take_over-in-Ok-Some.ensures.ok c.args.replica c.log_len-place.result c.index_mut.result.now c.learn.new.self at c.in_ok-learn-in-Ok-Some.ensures.ok c.learn.ensures.keeps

pub returns-in_ok-learn-in-Ok-Some-clause-others : goal.returns-in_ok-learn-in-Ok-Some-clause-others
returns-in_ok-learn-in-Ok-Some-clause-others g c =
    let ch : ChangesTable c.args.tables.now c.args.table (λ t u. DropsPartition (table_at t) c.args.partition c.in-Ok-Some.below (table_at u)) c.drop_partition.new.self = subst (λ (d : Option ℕ). DropsIn c.args.tables.now c.args.table c.args.partition d c.drop_partition.new.self) c.in-Ok-Some.field-0-is c.in-Ok-Some.ensures.ok in
    others c.args.tables.now c.args.table (λ t u. DropsPartition (table_at t) c.args.partition c.in-Ok-Some.below (table_at u)) c.drop_partition.new.self ch

pub returns-in-Err-LimitReached-clause-others : goal.returns-in-Err-LimitReached-clause-others
returns-in-Err-LimitReached-clause-others g c = others-stay c.args.tables.now c.drop_partition.new.self c.args.table c.table.result.now c.in-Err-LimitReached.ensures.err

pub returns-in-Err-Memory-clause-others : goal.returns-in-Err-Memory-clause-others
returns-in-Err-Memory-clause-others g c = others-stay c.args.tables.now c.drop_partition.new.self c.args.table c.table.result.now c.in-Err-Memory.ensures.err
