use Rattle.std.proofs.Common.{◌≡◌, ◌∙◌, ◌++◌, ◌%◌, List, ℕ, ap, subst, sym}
use Rattle.std.specs.Prelude.{codes}
use Rattle.rmt_storm.specs.Storms.{Turn, replica_line}
use Rattle.rmt_storm.specs.Steps.{Makes, seen}
use Rattle.rmt_storm.proofs.StormLemmas.{on-ok, syncs}
use Rattle.rmt_storm.proofs.storm.Storm.add_upkeep.Goals as goal

pub returns : goal.returns
returns c =
    let s = seen c.args.self.now in
    let k = ap (λ (n : ℕ). n % 4) c.next-kind.ensures.is in
    on-ok c.push_sent-2.result (λ (e : c.push_sent-2.new.out.items ≡ c.args.out.now.items ++ replica_line c.args.replica (codes "SYSTEM SYNC REPLICA s")).
    subst (λ (t : Turn). Makes t c.args.out.now.items c.push_sent-2.new.out.items (record c.args.self.now { draws = c.next-kind.new.self }))
    (sym (syncs c.args.replica s (λ d. c.if-kind-eq0.false (k ∙ d)) (λ d. c.if-kind-eq1.false (k ∙ d)) (λ d. c.if-kind-eq2.false (k ∙ d))))
    (record { lines = e; next = ap (λ (n : ℕ). record { state = n; last = s.last; alters = s.alters }) c.next-kind.ensures.state }))
    c.push_sent-2.ensures
