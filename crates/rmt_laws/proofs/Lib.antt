pub mod ContentLaws
pub mod PlainRows
pub mod TwoChanges
pub mod Headline
