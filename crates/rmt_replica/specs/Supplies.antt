-- The part that a replica is given to do an entry with.
-- ClickHouse documentation, Data Replication: a replica builds a part itself or fetches it from another replica.
use Rattle.std.specs.Prelude.{Bool, true, false}
use Rattle.std.specs.declared.option.Option.{Option}
use Rattle.std.specs.declared.option.Option.TheVariants.{Some, None}
use Rattle.std.specs.Arc.{arc_value}
use Rattle.rmt_replica.specs.declared.supply.Supply.{Supply}
use Rattle.rmt_replica.specs.declared.supply.Supply.TheVariants.{Nothing, Built, Fetched}
use Rattle.rmt_part.specs.Lineages.{PartValue}

-- the part that is supplied
abbrev pub supplied : Supply → Option PartValue
supplied Nothing = None
supplied (Built part) = Some (arc_value part)
supplied (Fetched part) = Some (arc_value part)

-- whether the part is one that another replica has
abbrev pub is_fetched : Supply → Bool
is_fetched Nothing = false
is_fetched (Built part) = false
is_fetched (Fetched part) = true
