use Rattle.std.proofs.Common.{◌≡◌, ℕ, refl, false, sym, ap, subst, ◌∙◌}
use Rattle.std.specs.Arc.{arc_value}
use Rattle.rmt_block.specs.Blocks.{BlockView, id_of}
use Rattle.rmt_block.specs.declared.block_id.BlockId.{BlockId}
use Rattle.rmt_events.specs.Clusters.{without_kinds}
use Rattle.rmt_clients.specs.Clients.{Client}
use Rattle.rmt_statement_model.specs.Inserts.{asked_at}
use Rattle.rmt_shared.specs.SharedReplicas.{IsNumber}
use Rattle.rmt_pass.specs.Passes.{KeepsPass, TakesStep, client_at, up_in}
use Rattle.rmt_pass.specs.InsertSteps.{HoldsNumber, IsIdOf}
use Rattle.rmt_pass.specs.declared.numbered.Numbered.{Numbered}
use Rattle.rmt_pass.specs.declared.numbered.Numbered.TheVariants.{Taken, Duplicate, Refused}
use Rattle.rmt_pass.proofs.KnownLemmas.{on-err}
use Rattle.rmt_workers.specs.CrewInserts.{InsertsFrom, InsertsOr, NumbersLater}
use Rattle.rmt_workers.proofs.InsertLemmas.{held-then, id-of-lock, if-ok-with, inserts-so, keeps-so, refuses-so, repeats-so, there-then}
use Rattle.rmt_workers.proofs.crew.Crew.insert.Goals as goal

pub insert_numbered-requires-clause-table : goal.insert_numbered-requires-clause-table
insert_numbered-requires-clause-table g c =
    let n : NumbersLater g.N.Naming.offered c.args.pass.now c.args.table (asked_at c.args.replica c.args.need) (without_kinds (arc_value c.args.block)) (Taken c.in-Taken.lock) c.number.new.pass = subst (λ (x : Numbered). NumbersLater g.N.Naming.offered c.args.pass.now c.args.table (asked_at c.args.replica c.args.need) (without_kinds (arc_value c.args.block)) x c.number.new.pass) c.in-Taken.is (c.in_ok-lock.ensures.done (without_kinds (arc_value c.args.block)) (subst (λ (i : BlockId). IsIdOf (without_kinds (arc_value c.args.block)) i) (sym (c.id-id.ensures ∙ ap (λ (x : BlockView). id_of x) c.deref.ensures)) (record { partition = refl; digest = refl }))) in
    there-then g.N.Naming.offered c.args.pass.now n.mid c.number.new.pass c.args.table c.args.replica c.args.need (without_kinds (arc_value c.args.block)) c.in-Taken.lock n.saw n.numbers.0 n.numbers.1 c.requires.table

pub insert_numbered-requires-clause-here : goal.insert_numbered-requires-clause-here
insert_numbered-requires-clause-here g c =
    let n : NumbersLater g.N.Naming.offered c.args.pass.now c.args.table (asked_at c.args.replica c.args.need) (without_kinds (arc_value c.args.block)) (Taken c.in-Taken.lock) c.number.new.pass = subst (λ (x : Numbered). NumbersLater g.N.Naming.offered c.args.pass.now c.args.table (asked_at c.args.replica c.args.need) (without_kinds (arc_value c.args.block)) x c.number.new.pass) c.in-Taken.is (c.in_ok-lock.ensures.done (without_kinds (arc_value c.args.block)) (subst (λ (i : BlockId). IsIdOf (without_kinds (arc_value c.args.block)) i) (sym (c.id-id.ensures ∙ ap (λ (x : BlockView). id_of x) c.deref.ensures)) (record { partition = refl; digest = refl }))) in
    subst (λ (r : ℕ). IsNumber r g.N.Naming.replicas) (sym n.numbers.0.writer) c.requires.here

pub insert_numbered-requires-clause-id : goal.insert_numbered-requires-clause-id
insert_numbered-requires-clause-id g c =
    let n : NumbersLater g.N.Naming.offered c.args.pass.now c.args.table (asked_at c.args.replica c.args.need) (without_kinds (arc_value c.args.block)) (Taken c.in-Taken.lock) c.number.new.pass = subst (λ (x : Numbered). NumbersLater g.N.Naming.offered c.args.pass.now c.args.table (asked_at c.args.replica c.args.need) (without_kinds (arc_value c.args.block)) x c.number.new.pass) c.in-Taken.is (c.in_ok-lock.ensures.done (without_kinds (arc_value c.args.block)) (subst (λ (i : BlockId). IsIdOf (without_kinds (arc_value c.args.block)) i) (sym (c.id-id.ensures ∙ ap (λ (x : BlockView). id_of x) c.deref.ensures)) (record { partition = refl; digest = refl }))) in
    id-of-lock (without_kinds (arc_value c.args.block)) c.in-Taken.lock.id n.numbers.0.id

pub insert_numbered-requires-clause-held : goal.insert_numbered-requires-clause-held
insert_numbered-requires-clause-held g c =
    let n : NumbersLater g.N.Naming.offered c.args.pass.now c.args.table (asked_at c.args.replica c.args.need) (without_kinds (arc_value c.args.block)) (Taken c.in-Taken.lock) c.number.new.pass = subst (λ (x : Numbered). NumbersLater g.N.Naming.offered c.args.pass.now c.args.table (asked_at c.args.replica c.args.need) (without_kinds (arc_value c.args.block)) x c.number.new.pass) c.in-Taken.is (c.in_ok-lock.ensures.done (without_kinds (arc_value c.args.block)) (subst (λ (i : BlockId). IsIdOf (without_kinds (arc_value c.args.block)) i) (sym (c.id-id.ensures ∙ ap (λ (x : BlockView). id_of x) c.deref.ensures)) (record { partition = refl; digest = refl }))) in
    (client_at n.mid c.args.table, held-then g.N.Naming.offered c.args.pass.now n.mid c.number.new.pass c.args.table c.args.replica c.args.need (without_kinds (arc_value c.args.block)) c.in-Taken.lock n.saw n.numbers.0 n.numbers.1)

pub returns-in-Taken-clause-done : goal.returns-in-Taken-clause-done
returns-in-Taken-clause-done g c =
    let n : NumbersLater g.N.Naming.offered c.args.pass.now c.args.table (asked_at c.args.replica c.args.need) (without_kinds (arc_value c.args.block)) (Taken c.in-Taken.lock) c.number.new.pass = subst (λ (x : Numbered). NumbersLater g.N.Naming.offered c.args.pass.now c.args.table (asked_at c.args.replica c.args.need) (without_kinds (arc_value c.args.block)) x c.number.new.pass) c.in-Taken.is (c.in_ok-lock.ensures.done (without_kinds (arc_value c.args.block)) (subst (λ (i : BlockId). IsIdOf (without_kinds (arc_value c.args.block)) i) (sym (c.id-id.ensures ∙ ap (λ (x : BlockView). id_of x) c.deref.ensures)) (record { partition = refl; digest = refl }))) in
    if-ok-with c.insert_numbered.result
    (λ done. (before : Client) → HoldsNumber (up_in c.number.new.pass.up) (asked_at c.in-Taken.lock.replica c.args.need) (without_kinds (arc_value c.args.block)) c.in-Taken.lock before (client_at c.number.new.pass c.args.table) → InsertsFrom (g.N.Naming.offered c.args.table) (up_in c.number.new.pass.up) (asked_at c.in-Taken.lock.replica c.args.need) (without_kinds (arc_value c.args.block)) before done (client_at c.insert_numbered.new.pass c.args.table))
    (λ done. TakesStep g.N.Naming.offered c.args.pass.now c.args.table (InsertsOr (up_in c.args.pass.now.up) (asked_at c.args.replica c.args.need) (without_kinds (arc_value c.args.block)) done) c.insert_numbered.new.pass)
    (c.insert_numbered.new.pass.gave_up ≡ false)
    (λ done f goes. inserts-so g.N.Naming.offered c.args.pass.now n.mid c.number.new.pass c.args.table c.args.replica c.args.need (without_kinds (arc_value c.args.block)) c.in-Taken.lock n.saw n.numbers.0 n.numbers.1 c.insert_numbered.new.pass c.insert_numbered.ensures.keeps goes done f)
    c.insert_numbered.ensures.done c.insert_numbered.ensures.goes

pub returns-in-Taken-clause-err : goal.returns-in-Taken-clause-err
returns-in-Taken-clause-err g c =
    let n : NumbersLater g.N.Naming.offered c.args.pass.now c.args.table (asked_at c.args.replica c.args.need) (without_kinds (arc_value c.args.block)) (Taken c.in-Taken.lock) c.number.new.pass = subst (λ (x : Numbered). NumbersLater g.N.Naming.offered c.args.pass.now c.args.table (asked_at c.args.replica c.args.need) (without_kinds (arc_value c.args.block)) x c.number.new.pass) c.in-Taken.is (c.in_ok-lock.ensures.done (without_kinds (arc_value c.args.block)) (subst (λ (i : BlockId). IsIdOf (without_kinds (arc_value c.args.block)) i) (sym (c.id-id.ensures ∙ ap (λ (x : BlockView). id_of x) c.deref.ensures)) (record { partition = refl; digest = refl }))) in
    on-err c.insert_numbered.result (KeepsPass c.args.pass.now c.args.table c.insert_numbered.new.pass) (keeps-so g.N.Naming.offered c.args.pass.now n.mid c.number.new.pass c.args.table c.args.replica c.args.need (without_kinds (arc_value c.args.block)) c.in-Taken.lock n.saw n.numbers.0 n.numbers.1 c.insert_numbered.new.pass c.insert_numbered.ensures.keeps)

pub returns-in-Duplicate-clause-done : goal.returns-in-Duplicate-clause-done
returns-in-Duplicate-clause-done g c =
    let n : NumbersLater g.N.Naming.offered c.args.pass.now c.args.table (asked_at c.args.replica c.args.need) (without_kinds (arc_value c.args.block)) (Duplicate c.in-Duplicate.part) c.number.new.pass = subst (λ (x : Numbered). NumbersLater g.N.Naming.offered c.args.pass.now c.args.table (asked_at c.args.replica c.args.need) (without_kinds (arc_value c.args.block)) x c.number.new.pass) c.in-Duplicate.is (c.in_ok-lock.ensures.done (without_kinds (arc_value c.args.block)) (subst (λ (i : BlockId). IsIdOf (without_kinds (arc_value c.args.block)) i) (sym (c.id-id.ensures ∙ ap (λ (x : BlockView). id_of x) c.deref.ensures)) (record { partition = refl; digest = refl }))) in
    repeats-so g.N.Naming.offered c.args.pass.now n.mid c.number.new.pass c.args.table (asked_at c.args.replica c.args.need) (without_kinds (arc_value c.args.block)) c.in-Duplicate.part n.saw n.numbers

pub returns-in-Refused-clause-done : goal.returns-in-Refused-clause-done
returns-in-Refused-clause-done g c =
    let n : NumbersLater g.N.Naming.offered c.args.pass.now c.args.table (asked_at c.args.replica c.args.need) (without_kinds (arc_value c.args.block)) (Refused c.in-Refused.why) c.number.new.pass = subst (λ (x : Numbered). NumbersLater g.N.Naming.offered c.args.pass.now c.args.table (asked_at c.args.replica c.args.need) (without_kinds (arc_value c.args.block)) x c.number.new.pass) c.in-Refused.is (c.in_ok-lock.ensures.done (without_kinds (arc_value c.args.block)) (subst (λ (i : BlockId). IsIdOf (without_kinds (arc_value c.args.block)) i) (sym (c.id-id.ensures ∙ ap (λ (x : BlockView). id_of x) c.deref.ensures)) (record { partition = refl; digest = refl }))) in
    refuses-so g.N.Naming.offered c.args.pass.now n.mid c.number.new.pass c.args.table (asked_at c.args.replica c.args.need) (without_kinds (arc_value c.args.block)) c.in-Refused.why n.saw n.numbers
