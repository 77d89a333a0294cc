use Rattle.std.proofs.Common.{rules, ◌≡◌, ap, ◌∙◌}
use Rattle.rmt_tickets.specs.Tickets.{dealt_to, all_parts}
use Rattle.rmt_tickets.proofs.Counting.{times-dealt}
use Rattle.rmt_tickets.proofs.Gathering.{parts-dealt}
use Rattle.rmt_tickets.proofs.queue.TicketQueue.deal.Goals as goal

pub returns-in_err-places-clause-once : goal.returns-in_err-places-clause-once
returns-in_err-places-clause-once g c t = times-dealt t _ _

pub returns-in_err-insert-clause-once : goal.returns-in_err-insert-clause-once
returns-in_err-insert-clause-once g c t = times-dealt t _ _

pub returns-clause-once : goal.returns-clause-once
returns-clause-once g c t = times-dealt t _ _

pub returns-clause-whole : goal.returns-clause-whole
returns-clause-whole g c =
    let is : c.insert.new.self.items ≡ dealt_to c.args.tables c.args.replicas c.args.workers = search rules in
    ap all_parts is ∙ parts-dealt c.args.tables c.args.replicas c.args.workers c.requires.sizes.2 c.requires.sizes.3
