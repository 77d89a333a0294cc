use Rattle.std.proofs.Common.{◌≡◌, List, ap, sym, subst, ◌∙◌}
use Rattle.rmt_history.specs.Copies.{IsLogOf}
use Rattle.rmt_known.specs.KnownTables.{Known, client_of}
use Rattle.rmt_replica.specs.Replicas.{ReplicaView, copy_of}
use Rattle.rmt_table_model.specs.Held.{Held}
use Rattle.std.specs.Prelude.{MatchOption}
use Rattle.rmt_readings.specs.Readable.{IsReadable, IsUnread}
use Rattle.rmt_pass.specs.Passes.{client_at}
use Rattle.rmt_workers.proofs.CloseLemmas.{has-all-there, log-there, schema-there}
use Rattle.rmt_workers.proofs.crew.close.has_parts.Goals as goal

pub readable_parts-requires-clause-schema : goal.readable_parts-requires-clause-schema
readable_parts-requires-clause-schema g c =
    ap (λ (r : ReplicaView). r.schema) c.replica.ensures.same
    ∙ schema-there g.N.Naming.tables g.N.Naming.replicas g.N.Naming.offered c.args.pass.now c.args.table c.args.tree.now c.requires.settled c.args.here.now c.replica.ensures.shared c.requires.of

pub readable_parts-requires-clause-row : goal.readable_parts-requires-clause-row
readable_parts-requires-clause-row g c =
    subst (λ (r : ReplicaView). IsLogOf c.args.tree.now.row (copy_of r)) (sym c.replica.ensures.same)
    (log-there g.N.Naming.tables g.N.Naming.replicas g.N.Naming.offered c.args.pass.now c.args.table c.args.tree.now c.requires.settled c.args.here.now c.replica.ensures.shared c.requires.of)

pub readable_parts-requires-clause-log : goal.readable_parts-requires-clause-log
readable_parts-requires-clause-log g c = ap (λ (k : Known). k.log) c.known.ensures.known ∙ c.requires.settled.sees.log

pub returns : goal.returns
returns g c = λ t.
    let parts = c.in_ok-parts.parts in
    let log = c.args.tree.now.log in
    has-all-there (client_at c.args.pass.now c.args.table) log c.args.here.now.replica parts c.is_some.result
    (subst (λ (k : Known). MatchOption parts (IsUnread (client_of k) log c.args.here.now.replica) (IsReadable (client_of k) c.args.here.now.replica)) c.known.ensures.known
    (subst (λ (r : ReplicaView). MatchOption parts (IsUnread (client_of c.known.result.now) log r) (IsReadable (client_of c.known.result.now) r)) c.replica.ensures.same c.in_ok-parts.ensures))
    c.is_some.ensures t
