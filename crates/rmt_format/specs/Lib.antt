pub mod PartBytes
pub mod PartDecoding
pub mod StoredBytes
