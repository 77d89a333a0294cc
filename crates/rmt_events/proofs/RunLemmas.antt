-- Turns of a generator keep a whole cluster whole.
use Rattle.std.proofs.Common.{ℕ, zero, suc, subst, sym}
use Rattle.std.specs.declared.option.Option.{Option}
use Rattle.std.specs.declared.option.Option.TheVariants.{Some, None}
use Rattle.rmt_events.specs.Clusters.{Cluster}
use Rattle.rmt_events.specs.Whole.{IsWhole}
use Rattle.rmt_events.specs.Draws.{Runs, TurnsTo, NotesAfter, noting, turn}
use Rattle.rmt_events.proofs.WholeSteps.{whole-step}
use Rattle.rmt_events.specs.declared.event.Event.{Event}
use Rattle.rmt_events.specs.declared.event.Event.TheVariants as ev

noted-after : (o : Option ℕ) (s t : Cluster) → IsWhole s → NotesAfter o s t → IsWhole t
noted-after None s t w n = subst IsWhole (sym n) w
noted-after (Some k) s t w n = whole-step s t (ev.Note k) n.0 w n.1

pub whole-turn : (s : Cluster) (event : Event) (t : Cluster) → IsWhole s → TurnsTo s event t → IsWhole t
whole-turn s event t w r = noted-after (noting s event r.mid) r.mid t (whole-step s r.mid event r.reply w r.step) r.notes

pub whole-runs : (s : Cluster) (seed n : ℕ) (t : Cluster) (x : ℕ) → IsWhole s → Runs s seed n t x → IsWhole t
whole-runs s seed zero t x w r = subst IsWhole (sym r.0) w
whole-runs s seed (suc n) t x w r = whole-turn r.0 (turn r.0 r.1).event t (whole-runs s seed n r.0 r.1 w r.2) r.3
