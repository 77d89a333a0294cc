use denote.Exit.{no}
use denote.Param.{param}
use denote.Param.Send.{arg_sync, param_sync}
use Rattle.rmt_play.proofs.Crosses.{workshop_sync}
use Rattle.rmt_play.proofs.threaded.round.play_beside.Goals as goal

pub beside-done-requires-sync-S : goal.beside-done-requires-sync-S
beside-done-requires-sync-S g c κs h = param_sync 1 _ (arg_sync _ no _ (workshop_sync _ (param 0 g.row.N) _ _ _ _ _ c.type_bounds.send-Q c.type_bounds.sync-Q c.type_bounds.sync-R c.type_bounds.sync-G))
