use Rattle.std.proofs.Common.{◌∙◌, ◌++◌, ◌%◌, ◌+◌, List, ℕ, ap}
use Rattle.std.specs.Prelude.{codes}
use Rattle.std.specs.Fmt.{decimal}
use Rattle.rmt_events.specs.Draws.{drawn, stepped}
use Rattle.rmt_storm.specs.Storms.{update_turn, replica_line}
use Rattle.rmt_storm.proofs.storm.Storm.add_update.Goals as goal

pub returns : goal.returns
unfolding update_turn
returns c = record {
  lines = c.in_ok-push_sent.ensures ∙ ap (λ (t : List ℕ). c.args.out.now.items ++ replica_line c.args.replica t) (c.deref.ensures.value ∙ (c.in_ok-push_both-2.ensures
      ∙ (ap (λ (t : List ℕ). t ++ (codes " WHERE k < " ++ decimal (c.next-key.result % 4000))) (c.in_ok-push_both.ensures ∙ ap (λ (t : List ℕ). t ++ (codes "ALTER TABLE s UPDATE v = v + " ++ decimal (c.next-more.result % 100))) c.new-statement.ensures.items)
      ∙ (ap (λ (n : ℕ). (codes "ALTER TABLE s UPDATE v = v + " ++ decimal (n % 100)) ++ (codes " WHERE k < " ++ decimal (c.next-key.result % 4000))) c.next-more.ensures.is
      ∙ ap (λ (n : ℕ). (codes "ALTER TABLE s UPDATE v = v + " ++ decimal (drawn (stepped c.args.self.now.draws.state) % 100)) ++ (codes " WHERE k < " ++ decimal (n % 4000))) (c.next-key.ensures.is ∙ ap (λ (n : ℕ). drawn (stepped n)) c.next-more.ensures.state)))));
  next = ap (λ (n : ℕ). record { state = n; last = c.args.self.now.last.items; alters = c.args.self.now.alters + 1 }) (c.next-key.ensures.state ∙ ap stepped c.next-more.ensures.state);
}
