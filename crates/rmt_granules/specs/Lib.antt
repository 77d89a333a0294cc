pub mod Granules
pub mod MadePart
pub mod MergedData
pub mod Places
