pub mod Crosses
pub mod Counting
pub mod Moves
pub mod Gathering
pub mod Serving
