use Rattle.std.specs.Arc.{arc_value}
use Rattle.std.specs.Option.{option_map}
use Rattle.rmt_shared.specs.SharedTables.{name_at}
use Rattle.rmt_shared.proofs.NamedSupplies.{supplied-schema, supplied-row, supplied-made}
use Rattle.rmt_shared.proofs.supply.build_supply.Goals as goal

pub returns-clause-schema : goal.returns-clause-schema
returns-clause-schema g c =
    supplied-schema (name_at g.N.Naming.tables c.args.table) (g.N.Naming.offered c.args.table) (arc_value c.args.schema.now) c.args.taken (option_map arc_value c.in_ok-part.part) c.supply_of.result c.requires.schema c.requires.can_build c.requires.of c.in_ok-part.ensures.ok c.supply_of.ensures.part

pub returns-clause-row : goal.returns-clause-row
returns-clause-row g c =
    supplied-row (name_at g.N.Naming.tables c.args.table) (g.N.Naming.offered c.args.table) (arc_value c.args.schema.now) c.args.taken (option_map arc_value c.in_ok-part.part) c.supply_of.result c.requires.schema c.requires.can_build c.requires.of c.in_ok-part.ensures.ok c.supply_of.ensures.part

pub returns-clause-offered : goal.returns-clause-offered
returns-clause-offered g c =
    supplied-made (name_at g.N.Naming.tables c.args.table) (g.N.Naming.offered c.args.table) (arc_value c.args.schema.now) c.args.taken (option_map arc_value c.in_ok-part.part) c.supply_of.result c.requires.schema c.requires.can_build c.requires.of c.in_ok-part.ensures.ok c.supply_of.ensures.part
