use Rattle.std.proofs.Common.{ap, ◌∙◌}
use Rattle.rmt_model.specs.Lawful.{mutation_count}
use Rattle.rmt_events.specs.Views.{Table}
use Rattle.rmt_acts.proofs.mutation.mutations_made.Goals as goal

pub returns : goal.returns
returns c = c.mutations.ensures ∙ (ap (λ x. mutation_count x.log) c.tree.ensures ∙ ap (λ (x : Table). mutation_count x.log) c.state.ensures.table)
