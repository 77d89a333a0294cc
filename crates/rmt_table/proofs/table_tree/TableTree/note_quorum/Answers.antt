use Rattle.std.proofs.Common.{◌≡◌, ◌<◌, ℕ, List, length, Some, ap, arith, ◌∙◌}
use Rattle.std.proofs.lemmas.Grind.{common_steps}
use Rattle.rmt_table_model.specs.Nodes.{noted_ops}
use Rattle.rmt_model.specs.Quorum.{noted_with}
use Rattle.rmt_table.proofs.Noted.{not-noted, noted-still, note-fine, noted-tree, noted-at}
use Rattle.rmt_table.specs.contracts.table_tree.TableTree.{the_view}
use Rattle.rmt_table.proofs.table_tree.TableTree.note_quorum.Goals as goal

pub returns-then-has_noted-clause-noted : goal.returns-then-has_noted-clause-noted
returns-then-has_noted-clause-noted c =
    let w : c.self.inside.quorum.pending ≡ Some c.in-Some.pending.now = c.in-Some.ensures in
    let p : c.in-Some.pending.now.part ≡ c.args.part.now = grind (arith, common_steps) in
    noted-still (the_view c.self.inside) c.self.inside.log.tokens _ c.self.invariant c.args.self.now c.self.view_is c.args.replica c.in-Some.pending.now w c.args.part.now p (c.has_noted.ensures.fact.0 c.if-has_noted.true)

pub multi-requires : goal.multi-requires
multi-requires c =
    let w : c.self.inside.quorum.pending ≡ Some c.in-Some.pending.now = c.in-Some.ensures in
    let p : c.in-Some.pending.now.part ≡ c.args.part.now = grind (arith, common_steps) in
    let l : length c.in-Some.pending.now.noted < 4294967295 = c.has_noted.ensures.few in
    let o : c.deref-2.result.now ≡ noted_ops c.in-Some.pending.now (noted_with c.args.replica c.in-Some.pending.now.noted) c.self.inside.quorum.last = c.deref-2.ensures.value ∙ c.in_ok-ops.ensures.waits c.in-Some.pending.now w ∙ ap (λ (ns : List ℕ). noted_ops c.in-Some.pending.now ns c.self.inside.quorum.last) (c.deref.ensures.value ∙ c.in_ok-noted.ensures.waits c.in-Some.pending.now w) in
    record { fine = note-fine (the_view c.self.inside) c.self.inside.log.tokens _ c.self.invariant c.args.self.now c.self.view_is c.args.replica c.in-Some.pending.now w c.args.part.now p (not-noted c.has_noted.result c.has_noted.ensures.fact c.if-has_noted.false) l c.deref-2.result.now o }

pub invariant_of-self-2 : goal.invariant_of-self-2
invariant_of-self-2 c =
    let w : c.self.inside.quorum.pending ≡ Some c.in-Some.pending.now = c.in-Some.ensures in
    let p : c.in-Some.pending.now.part ≡ c.args.part.now = grind (arith, common_steps) in
    let l : length c.in-Some.pending.now.noted < 4294967295 = c.has_noted.ensures.few in
    let o : c.deref-2.result.now ≡ noted_ops c.in-Some.pending.now (noted_with c.args.replica c.in-Some.pending.now.noted) c.self.inside.quorum.last = c.deref-2.ensures.value ∙ c.in_ok-ops.ensures.waits c.in-Some.pending.now w ∙ ap (λ (ns : List ℕ). noted_ops c.in-Some.pending.now ns c.self.inside.quorum.last) (c.deref.ensures.value ∙ c.in_ok-noted.ensures.waits c.in-Some.pending.now w) in
    noted-tree (the_view c.self.inside) c.self.inside.log.tokens _ c.self.invariant c.args.self.now c.self.view_is c.args.replica c.in-Some.pending.now w c.args.part.now p (not-noted c.has_noted.result c.has_noted.ensures.fact c.if-has_noted.false) l c.deref-2.result.now o c.multi.new.tree c.in_ok-multi.ensures.ok c.note.new.self c.note.ensures

pub returns-clause-noted : goal.returns-clause-noted
returns-clause-noted c =
    let w : c.self.inside.quorum.pending ≡ Some c.in-Some.pending.now = c.in-Some.ensures in
    let p : c.in-Some.pending.now.part ≡ c.args.part.now = grind (arith, common_steps) in
    let l : length c.in-Some.pending.now.noted < 4294967295 = c.has_noted.ensures.few in
    let o : c.deref-2.result.now ≡ noted_ops c.in-Some.pending.now (noted_with c.args.replica c.in-Some.pending.now.noted) c.self.inside.quorum.last = c.deref-2.ensures.value ∙ c.in_ok-ops.ensures.waits c.in-Some.pending.now w ∙ ap (λ (ns : List ℕ). noted_ops c.in-Some.pending.now ns c.self.inside.quorum.last) (c.deref.ensures.value ∙ c.in_ok-noted.ensures.waits c.in-Some.pending.now w) in
    noted-at (the_view c.self.inside) c.self.inside.log.tokens _ c.self.invariant c.args.self.now c.self.view_is c.args.replica c.in-Some.pending.now w c.args.part.now p (not-noted c.has_noted.result c.has_noted.ensures.fact c.if-has_noted.false) l c.deref-2.result.now o c.multi.new.tree c.in_ok-multi.ensures.ok c.note.new.self c.note.ensures
