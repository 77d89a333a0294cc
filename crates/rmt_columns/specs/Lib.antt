pub mod Columns
pub mod Leading
pub mod Lying
pub mod Places
pub mod RowsByColumn
pub mod Stored
pub mod TextEnds
