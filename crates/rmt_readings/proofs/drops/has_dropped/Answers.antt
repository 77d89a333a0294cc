use Rattle.std.proofs.Common.{◌∙◌, ℕ, ap, nat_lt}
use Rattle.std.specs.List.{prefix_len}
use Rattle.rmt_nameset.proofs.Placing.{is_earlier, up-to-parts}
use Rattle.rmt_partset.specs.Snapshots.{names_in}
use Rattle.rmt_readings.proofs.DropTests.{any-dropped}
use Rattle.rmt_readings.proofs.drops.has_dropped.Goals as goal

pub returns : goal.returns
returns c =
    let names = names_in c.args.parts.now in
    ap (λ (j : ℕ). nat_lt j c.count_up_to.result) c.count_earlier.ensures
    ∙ (ap (λ (k : ℕ). nat_lt (prefix_len (is_earlier c.args.partition) names) k) c.count_up_to.ensures
    ∙ any-dropped c.args.partition c.args.number names (up-to-parts c.args.partition c.args.number names c.requires))
