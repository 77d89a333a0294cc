use Rattle.rmt_sql.proofs.Readings.{one_reading}
use Rattle.rmt_sql.proofs.laws.places_are_read_in_one_way.Goals as goal

pub returns : goal.returns
returns c = one_reading
