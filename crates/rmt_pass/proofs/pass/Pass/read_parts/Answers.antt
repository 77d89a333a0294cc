use Rattle.std.proofs.Common.{◌≡◌, ℕ, List, ap, subst, ◌∙◌}
use Rattle.std.specs.Prelude.{MatchOption}
use Rattle.std.specs.declared.option.Option.{Option}
use Rattle.rmt_partset.specs.Snapshots.{NamedData, names_in}
use Rattle.rmt_replica.specs.Replicas.{ReplicaView}
use Rattle.rmt_readings.specs.Readable.{IsUnread}
use Rattle.rmt_shared.specs.SharedTables.{log_in, name_at}
use Rattle.rmt_pass.specs.Passes.{client_at}
use Rattle.rmt_pass.specs.ReadSteps.{IsReadableAt, ShowsAt}
use Rattle.rmt_pass.proofs.ReadLemmas.{reads-here, keys-here, bytes-here, shown-current}
use Rattle.rmt_pass.proofs.pass.Pass.read_parts.Goals as goal

pub returns-clause-ok : goal.returns-clause-ok
returns-clause-ok g c =
    let r = c.args.here.now.replica in
    let number : c.number.result ≡ r.number = c.number.ensures ∙ ap (λ (x : ReplicaView). x.number) c.replica.ensures.same in
    let readable = subst (λ (o : Option (List NamedData)). MatchOption o (IsUnread (client_at c.args.self.now c.args.table) (log_in c.args.tables.now c.args.table) r) (IsReadableAt g.N.Naming.offered (name_at g.N.Naming.tables c.args.table) c.args.self.now c.args.table r)) c.in-Some.is c.in_ok-parts.ensures.ok in
    reads-here g.N.Naming.offered (name_at g.N.Naming.tables c.args.table) c.args.self.now c.args.table c.args.tables.now c.requires.current r c.in-Some.parts readable c.note_shown.new.self
    (subst (λ (n : ℕ). ShowsAt c.args.self.now c.args.table n (names_in c.in-Some.parts) c.note_shown.new.self) number c.in_ok-note_shown.ensures.ok)

pub returns-clause-current : goal.returns-clause-current
returns-clause-current g c = shown-current c.args.self.now c.note_shown.new.self c.args.table c.number.result (names_in c.in-Some.parts) c.args.tables.now c.requires.current c.in_ok-note_shown.ensures.ok

pub returns-clause-keys : goal.returns-clause-keys
returns-clause-keys g c =
    let r = c.args.here.now.replica in
    let readable = subst (λ (o : Option (List NamedData)). MatchOption o (IsUnread (client_at c.args.self.now c.args.table) (log_in c.args.tables.now c.args.table) r) (IsReadableAt g.N.Naming.offered (name_at g.N.Naming.tables c.args.table) c.args.self.now c.args.table r)) c.in-Some.is c.in_ok-parts.ensures.ok in
    keys-here g.N.Naming.offered (name_at g.N.Naming.tables c.args.table) c.args.self.now c.args.table c.args.tables.now c.requires.current r c.in-Some.parts readable

pub returns-clause-bytes : goal.returns-clause-bytes
returns-clause-bytes g c =
    let r = c.args.here.now.replica in
    let readable = subst (λ (o : Option (List NamedData)). MatchOption o (IsUnread (client_at c.args.self.now c.args.table) (log_in c.args.tables.now c.args.table) r) (IsReadableAt g.N.Naming.offered (name_at g.N.Naming.tables c.args.table) c.args.self.now c.args.table r)) c.in-Some.is c.in_ok-parts.ensures.ok in
    bytes-here g.N.Naming.offered (name_at g.N.Naming.tables c.args.table) c.args.self.now c.args.table c.args.tables.now c.requires.current r c.in-Some.parts readable
