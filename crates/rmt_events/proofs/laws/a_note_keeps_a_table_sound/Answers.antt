use Rattle.rmt_events.proofs.TableSteps.{sound-notes}
use Rattle.rmt_events.proofs.laws.a_note_keeps_a_table_sound.Goals as goal

pub returns : goal.returns
returns c = λ old new r s n. sound-notes old new r s n
