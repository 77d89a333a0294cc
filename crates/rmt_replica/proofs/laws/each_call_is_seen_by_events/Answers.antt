use Rattle.rmt_replica.proofs.CallViews.{stages-seen, unstages-seen, settles-seen, drop-seen, part-seen, notes-seen}
use Rattle.rmt_replica.proofs.StateViews.{waits-same}
use Rattle.rmt_replica.proofs.laws.each_call_is_seen_by_events.Goals as goal

pub returns-clause-stage : goal.returns-clause-stage
returns-clause-stage c r n b s = stages-seen r n b s.waiting

pub returns-clause-unstage : goal.returns-clause-unstage
returns-clause-unstage c r p n s = unstages-seen r p n s.waiting

pub returns-clause-settle : goal.returns-clause-settle
returns-clause-settle c r i s cause = settles-seen r i s.waiting cause

pub returns-clause-drop : goal.returns-clause-drop
returns-clause-drop c = drop-seen

pub returns-clause-part : goal.returns-clause-part
returns-clause-part c r i a part new s w m k e = part-seen r i a part new s ((waits-same r i).0 w) m k e

pub returns-clause-note : goal.returns-clause-note
returns-clause-note c = notes-seen
