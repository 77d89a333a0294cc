pub mod PlainRows
