use Rattle.std.proofs.Common.{◌≡◌, ◌<◌, Bool, List, length, sym, subst}
use Rattle.rmt_entries.specs.declared.entry.Entry.{Entry}
use Rattle.rmt_model.specs.Lawful.{Lawful}
use Rattle.rmt_table_model.specs.Held.{Held}
use Rattle.rmt_known.specs.KnownTables.{client_of}
use Rattle.rmt_shared.specs.SharedTables.{GainsMutate}
use Rattle.rmt_pass.specs.Passes.{PassView, IsCurrent, known_in, known_at, client_at}
use Rattle.rmt_pass.specs.MutateSteps.{AppendsNext, AppendsPending, MutatesOneMore}
use Rattle.rmt_pass.proofs.TakingLemmas.{one-there}
use Rattle.rmt_pass.proofs.OwnLemmas.{others, others-stay}
use Rattle.rmt_pass.proofs.WorkSteps.{copy-of, copy-log}
use Rattle.rmt_pass.proofs.MutateSeen.{mutate-goes-on, mutate-now, mutate-pass, mutate-done, mutate-some-pass}
use Rattle.rmt_pass.proofs.pass.Pass.mutate_next.Goals as goal

pub append_next-requires-clause-of : goal.append_next-requires-clause-of
append_next-requires-clause-of g c =
    let P : PassView = record { tables = c.self.inside.tables.items; up = c.self.inside.up.items; gave_up = c.self.inside.gave_up } in
    let k = c.args.table in
    let now : IsCurrent P k c.args.tables.now = subst (λ (p : PassView). IsCurrent p k c.args.tables.now) (sym c.self.view_is) c.requires.current in
    let here : k < length P.tables = subst (λ (p : PassView). k < length p.tables) (sym c.self.view_is) c.requires.table in
    copy-of g.N.Naming.replicas g.N.Naming.tables P k c.args.tables.now c.index.result.now c.table.result.now c.copy.result.now c.self.invariant.known here c.index.ensures c.copy.ensures c.table.ensures.named (c.table.ensures.same c.table.result.now) now

pub take_over-requires-clause-prefix : goal.take_over-requires-clause-prefix
take_over-requires-clause-prefix g c =
    let P : PassView = record { tables = c.self.inside.tables.items; up = c.self.inside.up.items; gave_up = c.self.inside.gave_up } in
    let k = c.args.table in
    let now : IsCurrent P k c.args.tables.now = subst (λ (p : PassView). IsCurrent p k c.args.tables.now) (sym c.self.view_is) c.requires.current in
    let here : k < length P.tables = subst (λ (p : PassView). k < length p.tables) (sym c.self.view_is) c.requires.table in
    let same = copy-log P k c.index.result.now c.copy.result.now here c.index.ensures c.copy.ensures in
    let a : AppendsPending c.args.tables.now k (known_at P k).log c.args.id c.append_next.new.tables = subst (λ (l : List Entry). AppendsPending c.args.tables.now k l c.args.id c.append_next.new.tables) same
    (subst (λ (d : Bool). AppendsNext c.args.tables.now k c.copy.result.now.log c.args.id d c.append_next.new.tables) c.in-Ok-true.field-0-test c.in-Ok-true.ensures.ok) in
    mutate-goes-on P k here c.args.tables.now c.append_next.new.tables now c.args.id a

pub invariant_of-self : goal.invariant_of-self
invariant_of-self g c =
    let P : PassView = record { tables = c.self.inside.tables.items; up = c.self.inside.up.items; gave_up = c.self.inside.gave_up } in
    let k = c.args.table in
    let now : IsCurrent P k c.args.tables.now = subst (λ (p : PassView). IsCurrent p k c.args.tables.now) (sym c.self.view_is) c.requires.current in
    let here : k < length P.tables = subst (λ (p : PassView). k < length p.tables) (sym c.self.view_is) c.requires.table in
    let same = copy-log P k c.index.result.now c.copy.result.now here c.index.ensures c.copy.ensures in
    let a : AppendsPending c.args.tables.now k (known_at P k).log c.args.id c.append_next.new.tables = subst (λ (l : List Entry). AppendsPending c.args.tables.now k l c.args.id c.append_next.new.tables) same
    (subst (λ (d : Bool). AppendsNext c.args.tables.now k c.copy.result.now.log c.args.id d c.append_next.new.tables) c.in-Ok-true.field-0-test c.in-Ok-true.ensures.ok) in
    mutate-some-pass P k here c.args.tables.now c.append_next.new.tables now c.args.id a c.take_over.new.known.items c.in_err-take_over-in-Ok-true.ensures.err g.N.Naming.tables g.N.Naming.replicas g.N.Naming.parts c.self.inside.entries.parts c.self.inside.entries.amount c.self.invariant c.take_over.ensures.known

pub returns-in_err-take_over-in-Ok-true-clause-others : goal.returns-in_err-take_over-in-Ok-true-clause-others
returns-in_err-take_over-in-Ok-true-clause-others g c =
    let P : PassView = record { tables = c.self.inside.tables.items; up = c.self.inside.up.items; gave_up = c.self.inside.gave_up } in
    let k = c.args.table in
    let now : IsCurrent P k c.args.tables.now = subst (λ (p : PassView). IsCurrent p k c.args.tables.now) (sym c.self.view_is) c.requires.current in
    let here : k < length P.tables = subst (λ (p : PassView). k < length p.tables) (sym c.self.view_is) c.requires.table in
    let same = copy-log P k c.index.result.now c.copy.result.now here c.index.ensures c.copy.ensures in
    let a : AppendsPending c.args.tables.now k (known_at P k).log c.args.id c.append_next.new.tables = subst (λ (l : List Entry). AppendsPending c.args.tables.now k l c.args.id c.append_next.new.tables) same
    (subst (λ (d : Bool). AppendsNext c.args.tables.now k c.copy.result.now.log c.args.id d c.append_next.new.tables) c.in-Ok-true.field-0-test c.in-Ok-true.ensures.ok) in
    others c.args.tables.now k (λ t u. GainsMutate t a.part a.last u) c.append_next.new.tables a.appends

pub invariant_of-self-in-Ok-true : goal.invariant_of-self-in-Ok-true
invariant_of-self-in-Ok-true g c =
    let P : PassView = record { tables = c.self.inside.tables.items; up = c.self.inside.up.items; gave_up = c.self.inside.gave_up } in
    let k = c.args.table in
    let now : IsCurrent P k c.args.tables.now = subst (λ (p : PassView). IsCurrent p k c.args.tables.now) (sym c.self.view_is) c.requires.current in
    let here : k < length P.tables = subst (λ (p : PassView). k < length p.tables) (sym c.self.view_is) c.requires.table in
    let same = copy-log P k c.index.result.now c.copy.result.now here c.index.ensures c.copy.ensures in
    let a : AppendsPending c.args.tables.now k (known_at P k).log c.args.id c.append_next.new.tables = subst (λ (l : List Entry). AppendsPending c.args.tables.now k l c.args.id c.append_next.new.tables) same
    (subst (λ (d : Bool). AppendsNext c.args.tables.now k c.copy.result.now.log c.args.id d c.append_next.new.tables) c.in-Ok-true.field-0-test c.in-Ok-true.ensures.ok) in
    mutate-pass P k here c.args.tables.now c.append_next.new.tables now c.args.id a c.take_over.new.known.items c.in_ok-take_over-in-Ok-true.ensures.ok g.N.Naming.tables g.N.Naming.replicas g.N.Naming.parts c.self.inside.entries.parts c.self.inside.entries.amount c.self.invariant c.take_over.ensures.known

pub returns-in_ok-take_over-in-Ok-true-clause-ok : goal.returns-in_ok-take_over-in-Ok-true-clause-ok
returns-in_ok-take_over-in-Ok-true-clause-ok g c =
    let P : PassView = record { tables = c.self.inside.tables.items; up = c.self.inside.up.items; gave_up = c.self.inside.gave_up } in
    let k = c.args.table in
    let now : IsCurrent P k c.args.tables.now = subst (λ (p : PassView). IsCurrent p k c.args.tables.now) (sym c.self.view_is) c.requires.current in
    let here : k < length P.tables = subst (λ (p : PassView). k < length p.tables) (sym c.self.view_is) c.requires.table in
    let same = copy-log P k c.index.result.now c.copy.result.now here c.index.ensures c.copy.ensures in
    let a : AppendsPending c.args.tables.now k (known_at P k).log c.args.id c.append_next.new.tables = subst (λ (l : List Entry). AppendsPending c.args.tables.now k l c.args.id c.append_next.new.tables) same
    (subst (λ (d : Bool). AppendsNext c.args.tables.now k c.copy.result.now.log c.args.id d c.append_next.new.tables) c.in-Ok-true.field-0-test c.in-Ok-true.ensures.ok) in
    let tree : c.table.result.now ≡ now.table = one-there c.args.tables.now k c.table.result.now now.table now.there (c.table.ensures.same c.table.result.now) now.is in
    subst (λ (p : PassView). MutatesOneMore c.args.id (client_at p k) (client_of (known_in c.take_over.new.known.items k))) c.self.view_is
    (mutate-done P k here c.args.tables.now c.append_next.new.tables now c.args.id a c.take_over.new.known.items c.in_ok-take_over-in-Ok-true.ensures.ok
    (subst (λ (h : Held). Lawful h.schema h.log) tree c.is_sound.ensures.lawful))

pub returns-in_ok-take_over-in-Ok-true-clause-current : goal.returns-in_ok-take_over-in-Ok-true-clause-current
returns-in_ok-take_over-in-Ok-true-clause-current g c =
    let P : PassView = record { tables = c.self.inside.tables.items; up = c.self.inside.up.items; gave_up = c.self.inside.gave_up } in
    let k = c.args.table in
    let now : IsCurrent P k c.args.tables.now = subst (λ (p : PassView). IsCurrent p k c.args.tables.now) (sym c.self.view_is) c.requires.current in
    let here : k < length P.tables = subst (λ (p : PassView). k < length p.tables) (sym c.self.view_is) c.requires.table in
    let same = copy-log P k c.index.result.now c.copy.result.now here c.index.ensures c.copy.ensures in
    let a : AppendsPending c.args.tables.now k (known_at P k).log c.args.id c.append_next.new.tables = subst (λ (l : List Entry). AppendsPending c.args.tables.now k l c.args.id c.append_next.new.tables) same
    (subst (λ (d : Bool). AppendsNext c.args.tables.now k c.copy.result.now.log c.args.id d c.append_next.new.tables) c.in-Ok-true.field-0-test c.in-Ok-true.ensures.ok) in
    mutate-now P k here c.args.tables.now c.append_next.new.tables now c.args.id a c.take_over.new.known.items c.in_ok-take_over-in-Ok-true.ensures.ok P.gave_up now.goes

pub returns-in_ok-take_over-in-Ok-true-clause-others : goal.returns-in_ok-take_over-in-Ok-true-clause-others
returns-in_ok-take_over-in-Ok-true-clause-others g c =
    let P : PassView = record { tables = c.self.inside.tables.items; up = c.self.inside.up.items; gave_up = c.self.inside.gave_up } in
    let k = c.args.table in
    let now : IsCurrent P k c.args.tables.now = subst (λ (p : PassView). IsCurrent p k c.args.tables.now) (sym c.self.view_is) c.requires.current in
    let here : k < length P.tables = subst (λ (p : PassView). k < length p.tables) (sym c.self.view_is) c.requires.table in
    let same = copy-log P k c.index.result.now c.copy.result.now here c.index.ensures c.copy.ensures in
    let a : AppendsPending c.args.tables.now k (known_at P k).log c.args.id c.append_next.new.tables = subst (λ (l : List Entry). AppendsPending c.args.tables.now k l c.args.id c.append_next.new.tables) same
    (subst (λ (d : Bool). AppendsNext c.args.tables.now k c.copy.result.now.log c.args.id d c.append_next.new.tables) c.in-Ok-true.field-0-test c.in-Ok-true.ensures.ok) in
    others c.args.tables.now k (λ t u. GainsMutate t a.part a.last u) c.append_next.new.tables a.appends

pub returns-in-Ok-false-clause-others : goal.returns-in-Ok-false-clause-others
returns-in-Ok-false-clause-others g c =
    others-stay c.args.tables.now c.append_next.new.tables c.args.table c.table.result.now
    (subst (λ (d : Bool). AppendsNext c.args.tables.now c.args.table c.copy.result.now.log c.args.id d c.append_next.new.tables) c.in-Ok-false.field-0-test c.in-Ok-false.ensures.ok).1

pub returns-in-Err-clause-others : goal.returns-in-Err-clause-others
returns-in-Err-clause-others g c = others-stay c.args.tables.now c.append_next.new.tables c.args.table c.table.result.now c.in-Err.ensures.err
