use Rattle.std.proofs.Common.{◌≡◌, ℕ, List, sym, ap, subst, arith}
use Rattle.std.proofs.lemmas.Grind.{common_steps}
use Rattle.rmt_names.specs.Names.{Name}
use Rattle.rmt_model.specs.Words.{Has}
use Rattle.rmt_model.specs.Live.{made}
use Rattle.rmt_model.specs.Fair.{CoveredBy}
use Rattle.rmt_partset.specs.ActiveParts.{part_names}
use Rattle.rmt_table.specs.Quorums.{NotesAt}
use Rattle.rmt_replica.specs.Replicas.{ReplicaView}
use Rattle.rmt_replica.specs.NotedParts.{ListsPart}
use Rattle.rmt_replica.proofs.NoteLemmas.{kept-listed, notes-it}
use Rattle.rmt_replica.proofs.ReplicaLemmas.{replica-noted}
use Rattle.rmt_replica.proofs.replica.Replica.note_covered.Goals as goal

pub invariant_of-self-2 : goal.invariant_of-self-2
invariant_of-self-2 c =
    let i = c.self.inside in
    let same : c.reserve.new.self.items ≡ i.noted.items = grind (arith, common_steps) in
    let lists = subst (λ (xs : List Name). ListsPart xs c.args.part c.list_part.new.noted.items) same c.list_part.ensures in
    let made_here = subst (λ (r : ReplicaView). Has (made r.log) c.args.part) (sym c.self.view_is) c.requires.made in
    let covered = subst (λ (r : ReplicaView). CoveredBy (part_names r.parts) c.args.part) (sym c.self.view_is) c.requires.covered in
    replica-noted i.number i.up i.fetches i.copy i.queue i.parts.parts i.staged i.noted.items c.list_part.new.noted.items c.self.invariant
    (kept-listed i.copy.log (part_names i.parts.parts) i.noted.items c.list_part.new.noted.items c.args.part c.self.invariant.standing.notes made_here covered lists)

pub returns-clause-call : goal.returns-clause-call
returns-clause-call c =
    subst (λ (n : ℕ). NotesAt c.args.tree.now n c.args.part c.note_quorum.new.self) (ap (λ (r : ReplicaView). r.number) c.self.view_is)
    (notes-it c.args.tree.now c.self.inside.number c.args.part c.in_ok-note_quorum.field-0 c.note_quorum.new.self c.requires.waits c.in_ok-note_quorum.ensures.noted)

pub returns-clause-lists : goal.returns-clause-lists
returns-clause-lists c =
    let same : c.reserve.new.self.items ≡ c.self.inside.noted.items = grind (arith, common_steps) in
    subst (λ (r : ReplicaView). ListsPart r.noted c.args.part c.list_part.new.noted.items) c.self.view_is
    (subst (λ (xs : List Name). ListsPart xs c.args.part c.list_part.new.noted.items) same c.list_part.ensures)
