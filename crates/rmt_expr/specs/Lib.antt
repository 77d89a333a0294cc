pub mod Checks
pub mod Mutations
pub mod Placed
pub mod Queries
pub mod Sizes
pub mod Updates
