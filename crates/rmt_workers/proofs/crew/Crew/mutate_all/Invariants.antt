use Rattle.std.proofs.Common.{◌<◌}
use Rattle.rmt_model.specs.Lawful.{mutation_count}
use Rattle.rmt_clients.specs.Clients.{Client}
use Rattle.rmt_pass.specs.Passes.{KeepsPass, client_at}
use Rattle.rmt_workers.specs.CrewWaits.{HasMutated}
use Rattle.rmt_workers.proofs.crew.Crew.mutate_all.Given as goal

abbrev pub invariant-parts : goal.invariant-parts
invariant-parts g l =
    (goal.iterator-parts g).can_next l.iterator'
    × (goal.iterator-parts g).is_finite l.iterator'
    × KeepsPass l.initial.pass l.table l.pass
    × (l.id < mutation_count (client_at l.pass l.table).log)
    × ((first : Client) → HasMutated l.id first (client_at l.initial.pass l.table) → HasMutated l.id first (client_at l.pass l.table))
