use Rattle.rmt_changes.specs.Changes.{entries_of}
use Rattle.std.proofs.Common.{refl}
use Rattle.rmt_query.proofs.MatchLemmas.{after-is}
use Rattle.rmt_query.proofs.matches.due_for.Goals as goal

pub returns : goal.returns
returns c = λ row.
    after-is (entries_of c.args.tokens.now) c.args.name.now c.args.name.now c.partition.result c.data_version.result row row _ (c.in_ok-due.ensures.all row) c.partition.ensures c.data_version.ensures refl refl
