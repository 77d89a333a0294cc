-- What a drop does for each lock.
-- No public clause cites this module.
use Rattle.std.specs.Prelude.{◌≡◌, ℕ, cond, nat_lt, List, [], ◌∷◌}
use Rattle.std.specs.declared.option.Option.{Option}
use Rattle.rmt_tree.specs.declared.op.Op.{Op}
use Rattle.rmt_table_model.specs.Numbers.{Holders}
use Rattle.rmt_table_model.specs.Nodes.{AreLocks, unlock_ops}

-- takes the lock on number m of p away where it is below n
abbrev pub unlock_below : Option ℕ → ℕ → ℕ → List Op
unlock_below p n m = cond (nat_lt m n) (unlock_ops p (m ∷ [])) []

-- the ops take the locks of p below n away, each once
pub record AreUnlockOps (holders : Holders) (p : Option ℕ) (n : ℕ) (ops : List Op) : Type 0 where
  pub locks : List ℕ
  pub are_locks : AreLocks holders p n locks
  pub ops_are : ops ≡ unlock_ops p locks
