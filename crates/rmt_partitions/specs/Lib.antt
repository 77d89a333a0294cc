pub use Rattle.rmt_model.specs.BlockNumbers
pub mod NumbersInOrder
