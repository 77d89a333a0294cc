pub mod Printed
pub mod Summaries
pub mod RecordWriters
