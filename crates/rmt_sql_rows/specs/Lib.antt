pub mod InsertedRows
pub mod Inserts
pub mod PutRows
