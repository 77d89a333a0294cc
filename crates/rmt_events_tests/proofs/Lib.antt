pub mod ComputedSteps
pub mod WorkedDrop
pub mod WorkedMerge
pub mod WorkedKills
