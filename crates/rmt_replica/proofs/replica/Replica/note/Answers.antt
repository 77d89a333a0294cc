use Rattle.std.proofs.Common.{◌≡◌, sym, subst, rules}
use Rattle.rmt_names.specs.Names.{Name}
use Rattle.rmt_model.specs.Words.{Has}
use Rattle.rmt_model.specs.Live.{made}
use Rattle.rmt_model.specs.Fair.{CoveredBy}
use Rattle.rmt_partset.specs.ActiveParts.{part_names}
use Rattle.rmt_replica.specs.Replicas.{IsStandingReplica}
use Rattle.rmt_replica.proofs.NoteLemmas.{waiting-part, is-pending, none-waits, pending-made, notes-waiting, notes-nothing}
use Rattle.rmt_replica.proofs.replica.Replica.note.Goals as goal

pub returns-in_default-clause-noted : goal.returns-in_default-clause-noted
returns-in_default-clause-noted c = (λ q w k. none-waits c.args.tree.now.quorum.pending q c.in_default.ensures w, search rules, search rules)

pub returns-then-not-is_covered-clause-noted : goal.returns-then-not-is_covered-clause-noted
returns-then-not-is_covered-clause-noted c = (
  notes-nothing c.args.self.now c.args.tree.now c.in-Some.part c.in-Some.ensures (λ k. let t = c.is_covered.ensures.no k in let f = c.if-not-is_covered.true in absurd (cc)),
  search rules,
  search rules,
)

pub note_covered-requires-clause-waits : goal.note_covered-requires-clause-waits
note_covered-requires-clause-waits c = is-pending c.args.tree.now.quorum.pending c.in-Some.part c.in-Some.ensures

pub note_covered-requires-clause-made : goal.note_covered-requires-clause-made
note_covered-requires-clause-made c =
    let r = c.args.self.now in
    let w = waiting-part c.args.tree.now.quorum.pending c.in-Some.part c.in-Some.ensures in
    let covered = c.is_covered.ensures.yes (let f = c.if-not-is_covered.false in cc) in
    subst (λ (a : Name). Has (made r.log) a) w.2
    (pending-made c.args.tree.now r w.0 (subst IsStandingReplica c.self.view_is c.self.invariant.standing) c.requires.copy c.is_sound.ensures w.1 (subst (CoveredBy (part_names r.parts)) (sym w.2) covered))

pub note_covered-requires-clause-covered : goal.note_covered-requires-clause-covered
note_covered-requires-clause-covered c = c.is_covered.ensures.yes (let f = c.if-not-is_covered.false in cc)

pub returns-clause-noted : goal.returns-clause-noted
returns-clause-noted c =
    let r = c.args.self.now in
    let covered = c.is_covered.ensures.yes (let f = c.if-not-is_covered.false in cc) in
    let e = c.in_ok-note_covered.ensures in
    notes-waiting r c.note_covered.new.self c.args.tree.now c.note_covered.new.tree c.in-Some.part c.in-Some.ensures covered e.call e.lists e.others
