use Rattle.std.proofs.Common.{refl}
use Rattle.rmt_sql_acts.proofs.IntoReads.{items_back}
use Rattle.rmt_sql_acts.proofs.selects.query.Goals as goal

pub returns : goal.returns
returns c = rw (items_back c.args.items, c.group_of-group.ensures) refl
