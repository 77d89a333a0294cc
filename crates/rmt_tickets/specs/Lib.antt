pub mod Tickets
pub mod Balance
pub mod Counted
pub mod Blank
pub mod Gathers
