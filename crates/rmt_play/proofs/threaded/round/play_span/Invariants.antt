use Rattle.std.specs.Prelude.{map}
use Rattle.rmt_shared.specs.SharedTables.{named}
use Rattle.rmt_tickets.specs.Blank.{name_of}
use Rattle.rmt_play.specs.Offered.{IsOfferedBy}
use Rattle.rmt_play.specs.Seats.{offered_to}
use Rattle.rmt_play.proofs.threaded.round.play_span.Given as goal

abbrev pub ghosts-play_among-N-Naming : goal.ghosts-play_among-N-Naming
ghosts-play_among-N-Naming g a = record {
  tables = map (λ s. named s.tree) a.ground.carried.states.items;
  replicas = a.ground.cast.replicas;
  offered = offered_to (IsOfferedBy a.script.now) a.ground.carried.states.items;
  entries_name = a.entries.name;
  parts = a.entries.parts;
}

abbrev pub ghosts-play_among-O-Offers : goal.ghosts-play_among-O-Offers
ghosts-play_among-O-Offers g a = record { blocks = IsOfferedBy a.script.now }

abbrev pub ghosts-play_among-Q-NamesQueue : goal.ghosts-play_among-Q-NamesQueue
ghosts-play_among-Q-NamesQueue g a = record { queue = name_of a.blank }
