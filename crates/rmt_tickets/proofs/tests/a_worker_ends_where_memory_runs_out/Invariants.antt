use Rattle.rmt_tickets.specs.Blank.{name_of}
use Rattle.rmt_tickets.proofs.tests.a_worker_ends_where_memory_runs_out.Given as goal

abbrev pub ghosts-one_starved : goal.ghosts-one_starved
ghosts-one_starved g a = record { queue = name_of a.blank }
