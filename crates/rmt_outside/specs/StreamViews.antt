-- What contracts see of the sources and sinks of this crate.
use Rattle.std.specs.Prelude.{ℕ, List}
use Rattle.std.specs.declared.option.Option.{Option}

-- a source over a reader: the bytes still to come, where the reader's are, and how many calls failed
pub record Inlet : Type 0 where
  pub left : Option (List ℕ)
  pub faults : ℕ

-- a sink over a writer: the bytes that it got, where the writer's are, and how many calls failed
pub record Outlet : Type 0 where
  pub written : Option (List ℕ)
  pub faults : ℕ

-- a source in memory: the bytes still to come, the calls that fail, how many calls were made, and how many failed
pub record Feed : Type 0 where
  pub left : List ℕ
  pub failing : List ℕ
  pub calls : ℕ
  pub faults : ℕ

-- a sink in memory: the bytes that it got, the calls that fail, how many calls were made, and how many failed
pub record Sheet : Type 0 where
  pub written : List ℕ
  pub failing : List ℕ
  pub calls : ℕ
  pub faults : ℕ
