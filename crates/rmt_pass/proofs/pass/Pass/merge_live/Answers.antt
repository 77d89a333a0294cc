use Rattle.std.proofs.Common.{◌≡◌, ◌<◌, List, length, refl, sym, ap, subst, ◌∙◌}
use Rattle.std.specs.declared.option.Option.{Option}
use Rattle.std.specs.declared.option.Option.TheVariants.{None}
use Rattle.rmt_names.specs.Names.{Name}
use Rattle.rmt_entries.specs.declared.entry.Entry.{Entry}
use Rattle.rmt_model.specs.Lawful.{Lawful}
use Rattle.rmt_history.specs.Copies.{History}
use Rattle.rmt_events.specs.TableRefusals.{NotMerged}
use Rattle.rmt_table_model.specs.Held.{Held}
use Rattle.rmt_table.specs.Causes.{merge_cause}
use Rattle.rmt_table.specs.TableTrees.{table_at}
use Rattle.rmt_statement_model.specs.Optimizes.{live_of}
use Rattle.rmt_live_names.specs.declared.optimized.Optimized.TheVariants as optimized
use Rattle.rmt_known.specs.KnownTables.{Known, new_known}
use Rattle.rmt_shared.specs.SharedTables.{GainsMerge}
use Rattle.rmt_pass.specs.Passes.{PassView, IsCurrent, TakesStep, no_schema, known_in, known_at, client_at}
use Rattle.rmt_pass.specs.MergeSteps.{MergesAll, OptimizesTo, IsHeldUp}
use Rattle.rmt_pass.proofs.KnownLemmas.{if-some, known-there-still}
use Rattle.rmt_pass.proofs.TakingLemmas.{get-same, one-there}
use Rattle.rmt_pass.proofs.OwnLemmas.{knowing, of-current, others, others-stay}
use Rattle.rmt_pass.proofs.WorkSteps.{copy-of, copy-log}
use Rattle.rmt_pass.proofs.MergeLemmas.{apart-steps, apart-takes, held-up}
use Rattle.rmt_pass.proofs.MergeSeen.{merge-goes-on, merge-now, merge-pass, merge-newest, merge-done, merge-some-pass}
use Rattle.rmt_pass.proofs.pass.Pass.merge_live.Goals as goal

pub append_all-requires-clause-of : goal.append_all-requires-clause-of
append_all-requires-clause-of g c =
    let P : PassView = record { tables = c.self.inside.tables.items; up = c.self.inside.up.items; gave_up = c.self.inside.gave_up } in
    let k = c.args.table in
    let now : IsCurrent P k c.args.tables.now = subst (λ (p : PassView). IsCurrent p k c.args.tables.now) (sym c.self.view_is) c.requires.current in
    let here : k < length P.tables = subst (λ (p : PassView). k < length p.tables) (sym c.self.view_is) c.requires.table in
    copy-of g.N.Naming.replicas g.N.Naming.tables P k c.args.tables.now c.index.result.now c.table.result.now c.copy.result.now c.self.invariant.known here c.index.ensures c.copy.ensures c.table.ensures.named (c.table.ensures.same c.table.result.now) now

pub take_over-requires-clause-prefix : goal.take_over-requires-clause-prefix
take_over-requires-clause-prefix g c =
    let P : PassView = record { tables = c.self.inside.tables.items; up = c.self.inside.up.items; gave_up = c.self.inside.gave_up } in
    let k = c.args.table in
    let now : IsCurrent P k c.args.tables.now = subst (λ (p : PassView). IsCurrent p k c.args.tables.now) (sym c.self.view_is) c.requires.current in
    let here : k < length P.tables = subst (λ (p : PassView). k < length p.tables) (sym c.self.view_is) c.requires.table in
    let same = copy-log P k c.index.result.now c.copy.result.now here c.index.ensures c.copy.ensures in
    let all : MergesAll c.args.tables.now k (known_at P k).log c.args.partition None c.append_all.new.tables = subst (λ (l : List Entry). MergesAll c.args.tables.now k l c.args.partition None c.append_all.new.tables) same
    (subst (λ (d : Option Name). MergesAll c.args.tables.now k c.copy.result.now.log c.args.partition d c.append_all.new.tables) c.in-Ok-None.field-0-is c.in-Ok-None.ensures.ok) in
    merge-goes-on P k here c.args.tables.now c.append_all.new.tables now c.args.partition all.1

pub invariant_of-self : goal.invariant_of-self
invariant_of-self g c =
    let P : PassView = record { tables = c.self.inside.tables.items; up = c.self.inside.up.items; gave_up = c.self.inside.gave_up } in
    let k = c.args.table in
    let now : IsCurrent P k c.args.tables.now = subst (λ (p : PassView). IsCurrent p k c.args.tables.now) (sym c.self.view_is) c.requires.current in
    let here : k < length P.tables = subst (λ (p : PassView). k < length p.tables) (sym c.self.view_is) c.requires.table in
    let same = copy-log P k c.index.result.now c.copy.result.now here c.index.ensures c.copy.ensures in
    let all : MergesAll c.args.tables.now k (known_at P k).log c.args.partition None c.append_all.new.tables = subst (λ (l : List Entry). MergesAll c.args.tables.now k l c.args.partition None c.append_all.new.tables) same
    (subst (λ (d : Option Name). MergesAll c.args.tables.now k c.copy.result.now.log c.args.partition d c.append_all.new.tables) c.in-Ok-None.field-0-is c.in-Ok-None.ensures.ok) in
    merge-some-pass P k here c.args.tables.now c.append_all.new.tables now c.args.partition all.1 c.take_over.new.known.items c.in_err-take_over-in-Ok-None.ensures.err g.N.Naming.tables g.N.Naming.replicas g.N.Naming.parts c.self.inside.entries.parts c.self.inside.entries.amount c.self.invariant c.take_over.ensures.known

pub returns-in_err-take_over-in-Ok-None-clause-others : goal.returns-in_err-take_over-in-Ok-None-clause-others
returns-in_err-take_over-in-Ok-None-clause-others g c =
    let P : PassView = record { tables = c.self.inside.tables.items; up = c.self.inside.up.items; gave_up = c.self.inside.gave_up } in
    let k = c.args.table in
    let now : IsCurrent P k c.args.tables.now = subst (λ (p : PassView). IsCurrent p k c.args.tables.now) (sym c.self.view_is) c.requires.current in
    let here : k < length P.tables = subst (λ (p : PassView). k < length p.tables) (sym c.self.view_is) c.requires.table in
    let same = copy-log P k c.index.result.now c.copy.result.now here c.index.ensures c.copy.ensures in
    let all : MergesAll c.args.tables.now k (known_at P k).log c.args.partition None c.append_all.new.tables = subst (λ (l : List Entry). MergesAll c.args.tables.now k l c.args.partition None c.append_all.new.tables) same
    (subst (λ (d : Option Name). MergesAll c.args.tables.now k c.copy.result.now.log c.args.partition d c.append_all.new.tables) c.in-Ok-None.field-0-is c.in-Ok-None.ensures.ok) in
    others c.args.tables.now k (λ t u. GainsMerge t (live_of (known_at P k).log c.args.partition) u) c.append_all.new.tables all.1

pub invariant_of-self-in-Ok-None : goal.invariant_of-self-in-Ok-None
invariant_of-self-in-Ok-None g c =
    let P : PassView = record { tables = c.self.inside.tables.items; up = c.self.inside.up.items; gave_up = c.self.inside.gave_up } in
    let k = c.args.table in
    let now : IsCurrent P k c.args.tables.now = subst (λ (p : PassView). IsCurrent p k c.args.tables.now) (sym c.self.view_is) c.requires.current in
    let here : k < length P.tables = subst (λ (p : PassView). k < length p.tables) (sym c.self.view_is) c.requires.table in
    let same = copy-log P k c.index.result.now c.copy.result.now here c.index.ensures c.copy.ensures in
    let all : MergesAll c.args.tables.now k (known_at P k).log c.args.partition None c.append_all.new.tables = subst (λ (l : List Entry). MergesAll c.args.tables.now k l c.args.partition None c.append_all.new.tables) same
    (subst (λ (d : Option Name). MergesAll c.args.tables.now k c.copy.result.now.log c.args.partition d c.append_all.new.tables) c.in-Ok-None.field-0-is c.in-Ok-None.ensures.ok) in
    merge-pass P k here c.args.tables.now c.append_all.new.tables now c.args.partition all.1 c.take_over.new.known.items c.in_ok-take_over-in-Ok-None.ensures.ok g.N.Naming.tables g.N.Naming.replicas g.N.Naming.parts c.self.inside.entries.parts c.self.inside.entries.amount c.self.invariant c.take_over.ensures.known

pub returns-in-Ok-Some-clause-others : goal.returns-in-Ok-Some-clause-others
returns-in-Ok-Some-clause-others g c =
    others-stay c.args.tables.now c.append_all.new.tables c.args.table c.table.result.now
    (subst (λ (d : Option Name). MergesAll c.args.tables.now c.args.table c.copy.result.now.log c.args.partition d c.append_all.new.tables) c.in-Ok-Some.field-0-is c.in-Ok-Some.ensures.ok).1

pub returns-in-Some-clause-ok : goal.returns-in-Some-clause-ok
returns-in-Some-clause-ok g c =
    let P : PassView = record { tables = c.self.inside.tables.items; up = c.self.inside.up.items; gave_up = c.self.inside.gave_up } in
    let k = c.args.table in
    let now : IsCurrent P k c.args.tables.now = subst (λ (p : PassView). IsCurrent p k c.args.tables.now) (sym c.self.view_is) c.requires.current in
    let here : k < length P.tables = subst (λ (p : PassView). k < length p.tables) (sym c.self.view_is) c.requires.table in
    let same = copy-log P k c.index.result.now c.copy.result.now here c.index.ensures c.copy.ensures in
    let all : MergesAll c.args.tables.now k (known_at P k).log c.args.partition None c.append_all.new.tables = subst (λ (l : List Entry). MergesAll c.args.tables.now k l c.args.partition None c.append_all.new.tables) same
    (subst (λ (d : Option Name). MergesAll c.args.tables.now k c.copy.result.now.log c.args.partition d c.append_all.new.tables) c.in-Ok-None.field-0-is c.in-Ok-None.ensures.ok) in
    let known = c.take_over.new.known.items in
    let tree : c.table.result.now ≡ now.table = one-there c.args.tables.now k c.table.result.now now.table now.there (c.table.ensures.same c.table.result.now) now.is in
    let there = known-there-still g.N.Naming.replicas g.N.Naming.tables P.tables known k c.self.invariant.known c.take_over.ensures.known here in
    let log : c.copy-in-Ok-None.result.now.log ≡ (known_in known k).log = ap (λ (h : History). h.log) c.copy-in-Ok-None.ensures
    ∙ ap (λ (x : Known). x.log) (c.index-in-Ok-None.ensures ∙ get-same known k c.index-in-Ok-None.result.now (new_known no_schema 0) there) in
    subst (λ (p : PassView). TakesStep g.N.Naming.offered p k (OptimizesTo c.args.partition (optimized.Name c.in-Some.name)) (knowing P known P.gave_up)) c.self.view_is
    (merge-done P k here c.args.tables.now c.append_all.new.tables now c.args.partition all.1 known c.in_ok-take_over-in-Ok-None.ensures.ok g.N.Naming.offered
    (subst (λ (h : Held). Lawful h.schema h.log) tree c.is_sound.ensures.lawful) all.0 c.in-Some.name
    (c.in-Some.ensures ∙ merge-newest P k here c.args.tables.now c.append_all.new.tables now c.args.partition all.1 known c.in_ok-take_over-in-Ok-None.ensures.ok c.copy-in-Ok-None.result.now.log log) P.gave_up now.goes)

pub returns-in-Some-clause-current : goal.returns-in-Some-clause-current
returns-in-Some-clause-current g c =
    let P : PassView = record { tables = c.self.inside.tables.items; up = c.self.inside.up.items; gave_up = c.self.inside.gave_up } in
    let k = c.args.table in
    let now : IsCurrent P k c.args.tables.now = subst (λ (p : PassView). IsCurrent p k c.args.tables.now) (sym c.self.view_is) c.requires.current in
    let here : k < length P.tables = subst (λ (p : PassView). k < length p.tables) (sym c.self.view_is) c.requires.table in
    let same = copy-log P k c.index.result.now c.copy.result.now here c.index.ensures c.copy.ensures in
    let all : MergesAll c.args.tables.now k (known_at P k).log c.args.partition None c.append_all.new.tables = subst (λ (l : List Entry). MergesAll c.args.tables.now k l c.args.partition None c.append_all.new.tables) same
    (subst (λ (d : Option Name). MergesAll c.args.tables.now k c.copy.result.now.log c.args.partition d c.append_all.new.tables) c.in-Ok-None.field-0-is c.in-Ok-None.ensures.ok) in
    merge-now P k here c.args.tables.now c.append_all.new.tables now c.args.partition all.1 c.take_over.new.known.items c.in_ok-take_over-in-Ok-None.ensures.ok P.gave_up now.goes

pub returns-in-Some-clause-others : goal.returns-in-Some-clause-others
returns-in-Some-clause-others g c =
    let P : PassView = record { tables = c.self.inside.tables.items; up = c.self.inside.up.items; gave_up = c.self.inside.gave_up } in
    let k = c.args.table in
    let now : IsCurrent P k c.args.tables.now = subst (λ (p : PassView). IsCurrent p k c.args.tables.now) (sym c.self.view_is) c.requires.current in
    let here : k < length P.tables = subst (λ (p : PassView). k < length p.tables) (sym c.self.view_is) c.requires.table in
    let same = copy-log P k c.index.result.now c.copy.result.now here c.index.ensures c.copy.ensures in
    let all : MergesAll c.args.tables.now k (known_at P k).log c.args.partition None c.append_all.new.tables = subst (λ (l : List Entry). MergesAll c.args.tables.now k l c.args.partition None c.append_all.new.tables) same
    (subst (λ (d : Option Name). MergesAll c.args.tables.now k c.copy.result.now.log c.args.partition d c.append_all.new.tables) c.in-Ok-None.field-0-is c.in-Ok-None.ensures.ok) in
    others c.args.tables.now k (λ t u. GainsMerge t (live_of (known_at P k).log c.args.partition) u) c.append_all.new.tables all.1

pub returns-in-Err-clause-ok : goal.returns-in-Err-clause-ok
returns-in-Err-clause-ok g c =
    let p = c.args.self.now in
    let k = c.args.table in
    let now = c.requires.current in
    let here : k < length c.self.inside.tables.items = subst (λ (p : PassView). k < length p.tables) (sym c.self.view_is) c.requires.table in
    let P : PassView = record { tables = c.self.inside.tables.items; up = c.self.inside.up.items; gave_up = c.self.inside.gave_up } in
    let same : c.copy.result.now.log ≡ (client_at p k).log = copy-log P k c.index.result.now c.copy.result.now here c.index.ensures c.copy.ensures ∙ ap (λ (q : PassView). (known_at q k).log) c.self.view_is in
    let cause = if-some (merge_cause c.in-Err.error) _ (NotMerged (table_at now.table) (length c.copy.result.now.log) (live_of c.copy.result.now.log c.args.partition))
    (λ why h. of-current p k c.args.tables.now (λ t. NotMerged (table_at t) (length c.copy.result.now.log) (live_of c.copy.result.now.log c.args.partition) why) now.there now h) c.in-Err.ensures.refused in
    apart-takes g.N.Naming.offered p k c.args.partition c.left_apart.result now.goes
    (apart-steps (g.N.Naming.offered k) (client_at p k) now.table c.args.partition now.now (live_of c.copy.result.now.log c.args.partition) (ap (λ (l : List Entry). live_of l c.args.partition) same)
    c.in-Err.error (length c.copy.result.now.log) c.left_apart.result (p ≡ p) refl c.in-Err.ensures.several cause c.left_apart.ensures)

pub returns-in-Err-clause-none : goal.returns-in-Err-clause-none
returns-in-Err-clause-none g c =
    let p = c.args.self.now in
    let k = c.args.table in
    let now = c.requires.current in
    let here : k < length c.self.inside.tables.items = subst (λ (p : PassView). k < length p.tables) (sym c.self.view_is) c.requires.table in
    let P : PassView = record { tables = c.self.inside.tables.items; up = c.self.inside.up.items; gave_up = c.self.inside.gave_up } in
    let same : c.copy.result.now.log ≡ (client_at p k).log = copy-log P k c.index.result.now c.copy.result.now here c.index.ensures c.copy.ensures ∙ ap (λ (q : PassView). (known_at q k).log) c.self.view_is in
    let cause = if-some (merge_cause c.in-Err.error) _ (NotMerged (table_at now.table) (length c.copy.result.now.log) (live_of c.copy.result.now.log c.args.partition))
    (λ why h. of-current p k c.args.tables.now (λ t. NotMerged (table_at t) (length c.copy.result.now.log) (live_of c.copy.result.now.log c.args.partition) why) now.there now h) c.in-Err.ensures.refused in
    held-up (g.N.Naming.offered k) (client_at p k) now.table c.args.partition now.now (live_of c.copy.result.now.log c.args.partition) (ap (λ (l : List Entry). live_of l c.args.partition) same)
    c.in-Err.error (length c.copy.result.now.log) c.left_apart.result (IsHeldUp c.args.tables.now k c.args.partition) (λ n h. record { table = now.table; is = now.is; fact = (n, h) }) cause c.left_apart.ensures

pub returns-in-Err-clause-others : goal.returns-in-Err-clause-others
returns-in-Err-clause-others g c =
    others-stay c.args.tables.now c.append_all.new.tables c.args.table c.table.result.now c.in-Err.ensures.err
