use Rattle.std.proofs.Common.{◌≡◌, List, sym, ap, subst, ◌∙◌}
use Rattle.std.specs.List.{All}
use Rattle.rmt_partset.specs.Snapshots.{NamedData}
use Rattle.rmt_table_model.specs.Held.{Held}
use Rattle.rmt_readings.specs.Readable.{IsUnread}
use Rattle.rmt_shared.specs.SharedTables.{log_in, name_at}
use Rattle.rmt_shared.specs.SharedReplicas.{SharedReplicaView}
use Rattle.rmt_pass.specs.Passes.{IsCurrent, client_at}
use Rattle.rmt_pass.specs.ReadSteps.{IsReadableAt}
use Rattle.rmt_pass.proofs.ReadLemmas.{keys-here}
use Rattle.rmt_workers.specs.Crews.{MayRead}
use Rattle.rmt_workers.proofs.StepLemmas.{saw-of, sees-current, some-as}
use Rattle.rmt_workers.proofs.ReadLemmas.{may-read}
use Rattle.rmt_workers.proofs.crew.Crew.try_whole_snapshot.Goals as goal

pub readable-requires-clause-current : goal.readable-requires-clause-current
readable-requires-clause-current g c =
    subst (λ (ts : List Held). IsCurrent c.see.new.pass c.args.table ts) (sym c.deref-tables.ensures)
    (sees-current c.args.pass.now c.args.table c.in_ok-tables_guard.tables_guard.value c.see.new.pass c.in_ok-tables_guard.ensures.ok)

pub returns-clause-saw : goal.returns-clause-saw
returns-clause-saw g c = saw-of c.args.pass.now c.args.table c.in_ok-tables_guard.tables_guard.value c.see.new.pass c.in_ok-tables_guard.ensures.ok

pub returns-clause-reads : goal.returns-clause-reads
returns-clause-reads g c =
    let O = g.N.Naming.offered in
    let k = c.args.table in
    let v = c.deref-here.result.now.replica in
    let named = name_at g.N.Naming.tables k in
    let mid = c.see.new.pass in
    let number : c.deref-here.result.now.replica.number ≡ c.args.replica = ap (λ (s : SharedReplicaView). s.replica.number) c.deref-here.ensures ∙ c.lock_known-guard.ensures.at.its_number in
    some-as c.in_ok-parts.parts (IsUnread (client_at mid k) (log_in c.deref-tables.result.now k) v) (IsReadableAt O named mid k v) (MayRead (O k) (client_at c.args.pass.now k) c.args.replica)
    (λ x h. may-read O named c.args.pass.now mid k c.args.replica c.in_ok-tables_guard.tables_guard.value v x c.in_ok-tables_guard.ensures.ok number h) c.in_ok-parts.ensures.ok

pub returns-clause-keys : goal.returns-clause-keys
returns-clause-keys g c =
    let O = g.N.Naming.offered in
    let k = c.args.table in
    let v = c.deref-here.result.now.replica in
    let named = name_at g.N.Naming.tables k in
    let mid = c.see.new.pass in
    let ts = c.in_ok-tables_guard.tables_guard.value in
    some-as c.in_ok-parts.parts (IsUnread (client_at mid k) (log_in c.deref-tables.result.now k) v) (IsReadableAt O named mid k v) (All (λ (part : NamedData). part.rows.key ≡ named.schema.key))
    (λ x h. keys-here O named mid k ts (sees-current c.args.pass.now k ts mid c.in_ok-tables_guard.ensures.ok) v x h) c.in_ok-parts.ensures.ok
