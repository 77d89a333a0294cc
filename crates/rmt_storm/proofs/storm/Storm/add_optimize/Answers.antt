use Rattle.std.proofs.Common.{◌≡◌, ◌∙◌, ◌++◌, ◌-◌, List, ℕ, ap, append_assoc, sym}
use Rattle.std.specs.Prelude.{codes}
use Rattle.std.specs.Fmt.{decimal}
use Rattle.rmt_storm.specs.Storms.{replica_line}
use Rattle.rmt_storm.proofs.StormLemmas.{on-ok, settles-some}
use Rattle.rmt_storm.proofs.storm.Storm.add_optimize.Goals as goal

pub returns-clause-lines : goal.returns-clause-lines
returns-clause-lines c =
    let r = c.args.replica in
    let w = codes "WAIT MUTATION s " ++ decimal (c.args.self.now.alters - 1) in
    let statement = c.deref.ensures.value ∙ (c.in_ok-push_both.ensures ∙ ap (λ (t : List ℕ). t ++ w) c.new-statement.ensures.items) in
    on-ok c.push_sent-3.result (λ (e : c.push_sent-3.new.out.items ≡ c.push_sent-2.new.out.items ++ replica_line r (codes "OPTIMIZE TABLE s FINAL")).
    e ∙ (ap (λ (t : List ℕ). t ++ replica_line r (codes "OPTIMIZE TABLE s FINAL")) (c.in_ok-push_sent.ensures ∙ ap (λ (t : List ℕ). c.args.out.now.items ++ replica_line r t) statement)
    ∙ (append_assoc c.args.out.now.items (replica_line r w) (replica_line r (codes "OPTIMIZE TABLE s FINAL"))
    ∙ ap (λ (t : List ℕ). c.args.out.now.items ++ t) (sym (settles-some r c.args.self.now.alters c.if-self-eq0.false)))))
    c.push_sent-3.ensures
