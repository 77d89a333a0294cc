use Rattle.std.proofs.Common.{subst}
use Rattle.rmt_table_model.specs.Held.{Held, table_of}
use Rattle.rmt_events.specs.Sound.{IsSoundTable}
use Rattle.rmt_table.specs.TableTrees.{table_at}
use Rattle.rmt_table.proofs.SoundBridge.{sound-shown}
use Rattle.rmt_table.specs.contracts.table_tree.TableTree.{the_view}
use Rattle.rmt_table.proofs.table_tree.TableTree.is_sound.Goals as goal

pub returns : goal.returns
returns c = subst (λ (h : Held). IsSoundTable (table_at h)) c.self.view_is (sound-shown (table_of (the_view c.self.inside)) c.self.invariant.held.sound)
