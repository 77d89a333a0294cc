use Rattle.std.proofs.Common.{ap, ◌∙◌}
use Rattle.rmt_model.proofs.VersionLaws.{live-made}
use Rattle.rmt_table_model.specs.Counts.{recorded}
use Rattle.rmt_table.proofs.Recorded.{made-below, recorded-at}
use Rattle.rmt_table.proofs.counted.block_count.Goals as goal

pub returns : goal.returns
returns c =
    c.recorded.ensures ∙ ap recorded c.value.ensures
    ∙ recorded-at c.args.copy.now.schema c.args.copy.now.log c.in-Some.place c.in-Some-entry.token.now.value c.args.name.now c.requires.lawful c.requires.living c.in-Some.ensures c.in-Some-entry.ensures.entry

pub unreachable-requires : goal.unreachable-requires
unreachable-requires c = c.in_default.ensures (live-made c.args.copy.now.log c.args.name.now c.requires.living)

pub unreachable-requires-in_default-entry : goal.unreachable-requires-in_default-entry
unreachable-requires-in_default-entry c = made-below c.args.copy.now.log c.in-Some.place c.args.name.now c.in-Some.ensures c.in_default-entry.ensures.entry
