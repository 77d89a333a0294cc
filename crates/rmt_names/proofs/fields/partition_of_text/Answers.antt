use Rattle.std.proofs.Common.{◌≡◌, subst}
use Rattle.std.specs.declared.option.Option.TheVariants.{None}
use Rattle.std.specs.Str.{IsUtf8}
use Rattle.rmt_names.specs.Texts.{partition_of_text}
use Rattle.rmt_names.proofs.PartitionTexts.{exact_text, text_is_utf8}
use Rattle.rmt_names.proofs.fields.partition_of_text.Goals as goal

pub returns-in_default-clause-only : goal.returns-in_default-clause-only
returns-in_default-clause-only c p small is = absurd (c.in_default.ensures.cases.0 (subst IsUtf8 is (text_is_utf8 p small)))

pub returns-in_default-clause-exact : goal.returns-in_default-clause-exact
returns-in_default-clause-exact c = exact_text c.args.text.now None tt tt (returns-in_default-clause-only c)

pub returns-clause-exact : goal.returns-clause-exact
returns-clause-exact c =
    subst (λ text. c.read_partition.result ≡ partition_of_text text) c.in-Ok.ensures.cases.0
    (exact_text c.in-Ok.text.now c.read_partition.result c.read_partition.ensures.small c.read_partition.ensures.read c.read_partition.ensures.only)
