use Rattle.std.proofs.Common.{◌≡◌, ◌∙◌, ◌++◌, ◌+◌, ◌%◌, List, ℕ, ap, refl, subst, sym}
use Rattle.std.specs.Prelude.{codes}
use Rattle.rmt_events.specs.Draws.{drawn, stepped}
use Rattle.rmt_storm.specs.Storms.{Storm, Turn, upkeep_turn, replica_line, optimize_lines}
use Rattle.rmt_storm.specs.Steps.{Makes, seen}
use Rattle.rmt_storm.proofs.StormLemmas.{last, on-ok, settling, sums, turn-by}
use Rattle.rmt_storm.proofs.storm.Storm.turn.Goals as goal

pub returns-then-kind-lt12 : goal.returns-then-kind-lt12
returns-then-kind-lt12 c =
    let s = seen c.args.self.now in
    let kind = c.next-kind.result % 16 in
    let replica = 1 + c.next.result % 3 in
    let now : Storm = record { state = c.next.new.self.state; last = s.last; alters = s.alters } in
    let by = turn-by kind replica c.next.new.self.state s (ap (λ (n : ℕ). n % 16) c.next-kind.ensures.is) (ap (λ (n : ℕ). 1 + n % 3) (c.next.ensures.is ∙ ap (λ (n : ℕ). drawn (stepped n)) c.next-kind.ensures.state)) (c.next.ensures.state ∙ ap stepped c.next-kind.ensures.state) in
    on-ok c.push_sent.result (λ (e : c.push_sent.new.out.items ≡ c.args.out.now.items ++ replica_line replica (codes "SELECT count(), sum(v) FROM s SYNC")).
    subst (λ (t : Turn). Makes t c.args.out.now.items c.push_sent.new.out.items (record c.args.self.now { draws = c.next.new.self }))
    (sym (sums kind replica now c.if-kind-lt10.false c.if-kind-lt12.true) ∙ by)
    (record { lines = e; next = refl }))
    c.push_sent.ensures

pub returns-then-kind-lt15 : goal.returns-then-kind-lt15
returns-then-kind-lt15 c =
    let s = seen c.args.self.now in
    let kind = c.next-kind.result % 16 in
    let replica = 1 + c.next.result % 3 in
    let now : Storm = record { state = c.next.new.self.state; last = s.last; alters = s.alters } in
    let by = turn-by kind replica c.next.new.self.state s (ap (λ (n : ℕ). n % 16) c.next-kind.ensures.is) (ap (λ (n : ℕ). 1 + n % 3) (c.next.ensures.is ∙ ap (λ (n : ℕ). drawn (stepped n)) c.next-kind.ensures.state)) (c.next.ensures.state ∙ ap stepped c.next-kind.ensures.state) in
    on-ok c.add_optimize.result (λ (e : c.add_optimize.new.out.items ≡ c.args.out.now.items ++ optimize_lines replica c.args.self.now.alters).
    subst (λ (t : Turn). Makes t c.args.out.now.items c.add_optimize.new.out.items c.add_optimize.new.self)
    (sym (settling kind replica now c.if-kind-lt14.false c.if-kind-lt15.true) ∙ by)
    (record { lines = e; next = c.add_optimize.ensures.same }))
    c.add_optimize.ensures.lines

pub returns : goal.returns
returns c =
    let s = seen c.args.self.now in
    let kind = c.next-kind.result % 16 in
    let replica = 1 + c.next.result % 3 in
    let now : Storm = record { state = c.next.new.self.state; last = s.last; alters = s.alters } in
    let by = turn-by kind replica c.next.new.self.state s (ap (λ (n : ℕ). n % 16) c.next-kind.ensures.is) (ap (λ (n : ℕ). 1 + n % 3) (c.next.ensures.is ∙ ap (λ (n : ℕ). drawn (stepped n)) c.next-kind.ensures.state)) (c.next.ensures.state ∙ ap stepped c.next-kind.ensures.state) in
    on-ok c.add_upkeep.result (λ (e : Makes (upkeep_turn replica now) c.args.out.now.items c.add_upkeep.new.out.items c.add_upkeep.new.self).
    subst (λ (t : Turn). Makes t c.args.out.now.items c.add_upkeep.new.out.items c.add_upkeep.new.self)
    (sym (last kind replica now c.if-kind-lt15.false) ∙ by) e)
    c.add_upkeep.ensures
