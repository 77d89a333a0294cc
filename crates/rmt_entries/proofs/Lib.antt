pub mod NameCodes
pub mod FilterCodes
pub mod EntryCodes
