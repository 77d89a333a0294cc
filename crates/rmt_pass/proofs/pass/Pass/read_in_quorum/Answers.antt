use Rattle.std.proofs.Common.{◌≡◌, ℕ, List, ap, subst, ◌∙◌}
use Rattle.std.specs.Prelude.{IfErr, IfOk, MatchOption}
use Rattle.std.specs.declared.option.Option.{Option}
use Rattle.std.specs.declared.result.Result.{Result}
use Rattle.rmt_partset.specs.Snapshots.{NamedData, names_in}
use Rattle.rmt_replica.specs.Replicas.{ReplicaView}
use Rattle.rmt_reply.specs.declared.refusal.Refusal.{Refusal}
use Rattle.rmt_readings.specs.Readable.{IsUnread}
use Rattle.rmt_readings.specs.QuorumParts.{AreInQuorum, LacksCover}
use Rattle.rmt_shared.specs.SharedTables.{log_in, name_at}
use Rattle.rmt_pass.specs.Passes.{client_at}
use Rattle.rmt_pass.specs.ReadSteps.{IsFoundAt, ShowsAt}
use Rattle.rmt_pass.proofs.ReadLemmas.{reads-quorum-here, lacks-quorum-here, kept-keys, kept-bytes, shown-current}
use Rattle.rmt_pass.proofs.pass.Pass.read_in_quorum.Goals as goal

pub returns-in_ok-note_shown-in-Ok-clause-ok : goal.returns-in_ok-note_shown-in-Ok-clause-ok
returns-in_ok-note_shown-in-Ok-clause-ok g c =
    let p = c.args.self.now in
    let k = c.args.table in
    let r = c.args.here.now.replica in
    let name = name_at g.N.Naming.tables k in
    let number : c.number.result ≡ r.number = c.number.ensures ∙ ap (λ (x : ReplicaView). x.number) c.replica.ensures.same in
    let found = subst (λ (o : Option (Result (List NamedData) Refusal)). MatchOption o (IsUnread (client_at p k) (log_in c.args.tables.now k) r) (IsFoundAt g.N.Naming.offered name p k r)) c.in-Some.is c.in_ok-found.ensures.ok in
    let kept = subst (λ (x : Result (List NamedData) Refusal). IfOk x (AreInQuorum (client_at p k).quorum found.active)) c.in-Ok.is found.kept in
    reads-quorum-here g.N.Naming.offered name p k c.args.tables.now c.requires.current r found.active found.readable c.note_shown.new.self c.in-Ok.parts kept
    (subst (λ (n : ℕ). ShowsAt p k n (names_in c.in-Ok.parts) c.note_shown.new.self) number c.in_ok-note_shown-in-Ok.ensures.ok)

pub returns-in_ok-note_shown-in-Ok-clause-current : goal.returns-in_ok-note_shown-in-Ok-clause-current
returns-in_ok-note_shown-in-Ok-clause-current g c = shown-current c.args.self.now c.note_shown.new.self c.args.table c.number.result (names_in c.in-Ok.parts) c.args.tables.now c.requires.current c.in_ok-note_shown-in-Ok.ensures.ok

pub returns-in_ok-note_shown-in-Ok-clause-keys : goal.returns-in_ok-note_shown-in-Ok-clause-keys
returns-in_ok-note_shown-in-Ok-clause-keys g c =
    let p = c.args.self.now in
    let k = c.args.table in
    let r = c.args.here.now.replica in
    let name = name_at g.N.Naming.tables k in
    let found = subst (λ (o : Option (Result (List NamedData) Refusal)). MatchOption o (IsUnread (client_at p k) (log_in c.args.tables.now k) r) (IsFoundAt g.N.Naming.offered name p k r)) c.in-Some.is c.in_ok-found.ensures.ok in
    kept-keys g.N.Naming.offered name p k c.args.tables.now c.requires.current r found.active found.readable c.in-Ok.parts
    (subst (λ (x : Result (List NamedData) Refusal). IfOk x (AreInQuorum (client_at p k).quorum found.active)) c.in-Ok.is found.kept)

pub returns-in-Err-clause-ok : goal.returns-in-Err-clause-ok
returns-in-Err-clause-ok g c =
    let p = c.args.self.now in
    let k = c.args.table in
    let r = c.args.here.now.replica in
    let name = name_at g.N.Naming.tables k in
    let found = subst (λ (o : Option (Result (List NamedData) Refusal)). MatchOption o (IsUnread (client_at p k) (log_in c.args.tables.now k) r) (IsFoundAt g.N.Naming.offered name p k r)) c.in-Some.is c.in_ok-found.ensures.ok in
    lacks-quorum-here g.N.Naming.offered name p k c.args.tables.now c.requires.current r found.active found.readable c.in-Err.refusal
    (subst (λ (x : Result (List NamedData) Refusal). IfErr x (LacksCover (client_at p k).quorum found.active)) c.in-Err.is found.refused)

pub returns-in_ok-note_shown-in-Ok-clause-bytes : goal.returns-in_ok-note_shown-in-Ok-clause-bytes
returns-in_ok-note_shown-in-Ok-clause-bytes g c =
    let p = c.args.self.now in
    let k = c.args.table in
    let r = c.args.here.now.replica in
    let name = name_at g.N.Naming.tables k in
    let found = subst (λ (o : Option (Result (List NamedData) Refusal)). MatchOption o (IsUnread (client_at p k) (log_in c.args.tables.now k) r) (IsFoundAt g.N.Naming.offered name p k r)) c.in-Some.is c.in_ok-found.ensures.ok in
    kept-bytes g.N.Naming.offered name p k c.args.tables.now c.requires.current r found.active found.readable c.in-Ok.parts
    (subst (λ (x : Result (List NamedData) Refusal). IfOk x (AreInQuorum (client_at p k).quorum found.active)) c.in-Ok.is found.kept)
