use Rattle.rmt_tickets.specs.Blank.{name_of}
use Rattle.rmt_tickets.proofs.tests.what_two_workers_put_is_taken_or_left.Given as goal

abbrev pub ghosts-two_workers : goal.ghosts-two_workers
ghosts-two_workers g a = record { queue = name_of a.blank }
