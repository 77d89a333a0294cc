pub mod Codes
pub mod CodeLemmas
pub mod NumberCodes
pub mod ValueCodes
pub mod ManyLemmas
pub mod ByteLemmas
