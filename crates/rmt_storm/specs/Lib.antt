pub mod Storms
pub mod Steps
