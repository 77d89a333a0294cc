-- What a turn does to the script so far, and what it leaves. No public clause cites this module.
use Rattle.std.specs.Prelude.{◌≡◌, ℕ, List, ◌++◌}
use Rattle.rmt_storm.specs.Storms.{Storm as StormView, Turn}
use Rattle.rmt_storm.specs.declared.storm.Storm.{Storm}

-- what turns go on from
abbrev pub seen : Storm → StormView
seen s = record { state = s.draws.state; last = s.last.items; alters = s.alters }

-- the turn's lines were added, and the next one goes on from this
pub record Makes (turn : Turn) (old new : List ℕ) (s : Storm) : Type 0 where
  pub lines : new ≡ old ++ turn.lines
  pub next : seen s ≡ turn.next
