use Rattle.std.proofs.Common.{◌∙◌, ◌++◌, ◌%◌, ◌+◌, List, ℕ, ap}
use Rattle.std.specs.Prelude.{codes}
use Rattle.std.specs.Fmt.{decimal}
use Rattle.rmt_storm.specs.Storms.{delete_turn, replica_line}
use Rattle.rmt_storm.proofs.storm.Storm.add_delete.Goals as goal

pub returns : goal.returns
unfolding delete_turn
returns c = record {
  lines = c.in_ok-push_sent.ensures ∙ ap (λ (t : List ℕ). c.args.out.now.items ++ replica_line c.args.replica t) (c.deref.ensures.value ∙ (c.in_ok-push_both.ensures ∙ (ap (λ (t : List ℕ). t ++ (codes "ALTER TABLE s DELETE WHERE v < " ++ decimal (c.next-value.result % 1000))) c.new-statement.ensures.items ∙ ap (λ (n : ℕ). codes "ALTER TABLE s DELETE WHERE v < " ++ decimal (n % 1000)) c.next-value.ensures.is)));
  next = ap (λ (n : ℕ). record { state = n; last = c.args.self.now.last.items; alters = c.args.self.now.alters + 1 }) c.next-value.ensures.state;
}
