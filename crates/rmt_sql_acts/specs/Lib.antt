pub mod Phrases
pub mod Acts
pub mod Views
