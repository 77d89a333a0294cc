use Rattle.rmt_changes.proofs.ChangeLaws.{keys-stay, rows-stay-fit}
use Rattle.rmt_changes.proofs.laws.keys_stay.Goals as goal

pub returns-clause-keys : goal.returns-clause-keys
returns-clause-keys c = keys-stay

pub returns-clause-fit : goal.returns-clause-fit
returns-clause-fit c = rows-stay-fit
