use Rattle.rmt_play.proofs.OutletLemmas.{keeps-same}
use Rattle.rmt_play.specs.Offered.{IsOfferedBy}
use Rattle.rmt_play.specs.Seats.{ground_view}
use Rattle.rmt_play.proofs.OfferLemmas.{offers-script}
use Rattle.rmt_play.proofs.ThreadLemmas.{no-round}
use Rattle.rmt_play.proofs.threaded.round.play_span.Goals as goal

pub returns-in_default-clause-span : goal.returns-in_default-clause-span
returns-in_default-clause-span g c = no-round (IsOfferedBy c.args.script.now) c.args.script.now c.args.from c.args.count (ground_view (IsOfferedBy c.args.script.now) c.args.ground) _ _ c.requires.few c.requires.within (keeps-same _)

pub play_among-requires-clause-offered : goal.play_among-requires-clause-offered
play_among-requires-clause-offered g c κs within = offers-script c.args.script.now
