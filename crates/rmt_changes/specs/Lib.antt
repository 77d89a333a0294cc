pub use Rattle.rmt_entries.specs.Entries
pub use Rattle.rmt_row.specs.Token
pub use Rattle.rmt_model.specs.Words
pub use Rattle.rmt_model.specs.Content
pub use Rattle.rmt_history.specs.Mutations
pub mod Changes
pub mod Laws
