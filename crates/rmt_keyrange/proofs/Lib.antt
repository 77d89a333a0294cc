pub mod Parted
pub mod Kept
pub mod GivenBounds
pub mod Within
