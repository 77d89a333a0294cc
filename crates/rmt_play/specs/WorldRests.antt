-- What may happen to a world before a statement: each of its tables may rest.
-- No public source: this program's own.
use Rattle.std.specs.Prelude.{◌≡◌, Bool, List, [], ◌∷◌}
use Rattle.rmt_statement_model.specs.Rests.{Rests}
use Rattle.rmt_play.specs.World.{Table, World}

-- each table rests, and keeps its name and its cluster
abbrev pub AreRested : Bool → List Table → List Table → Type 0
AreRested workers [] [] = Unit {0}
AreRested workers (t ∷ olds) (u ∷ news) = (u ≡ record t { state = u.state }) × Rests workers t.state u.state × AreRested workers olds news
AreRested workers olds news = ⊥

-- the world rests: its tables do, and nothing else changes
pub record RestsAll (workers : Bool) (old new : World) : Type 0 where
  pub tables : AreRested workers old.tables new.tables
  pub rest : new ≡ record old { tables = new.tables }
