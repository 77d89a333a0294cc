use Rattle.std.proofs.Common.{◌≡◌, ◌++◌, ◌%◌, List, ℕ, ap, subst, sym}
use Rattle.std.specs.Prelude.{codes}
use Rattle.rmt_storm.specs.Storms.{Turn, replica_line}
use Rattle.rmt_storm.specs.Steps.{Makes, seen}
use Rattle.rmt_storm.proofs.StormLemmas.{counts, on-ok}
use Rattle.rmt_storm.proofs.storm.Storm.add_alter.Goals as goal

pub returns : goal.returns
returns c =
    let s = seen c.args.self.now in
    on-ok c.push_sent.result (λ (e : c.push_sent.new.out.items ≡ c.args.out.now.items ++ replica_line c.args.replica (codes "SELECT count() FROM s")).
    subst (λ (t : Turn). Makes t c.args.out.now.items c.push_sent.new.out.items (record c.args.self.now { draws = c.next-kind.new.self }))
    (sym (counts c.args.replica (c.next-kind.result % 8) s (ap (λ (n : ℕ). n % 8) c.next-kind.ensures.is) c.else-self-lt-MOST_ALTERS.either c.else-self-lt-MOST_ALTERS-2.either))
    (record { lines = e; next = ap (λ (n : ℕ). record { state = n; last = s.last; alters = s.alters }) c.next-kind.ensures.state }))
    c.push_sent.ensures
