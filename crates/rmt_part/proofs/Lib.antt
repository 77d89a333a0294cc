pub mod RowChanges
pub mod LineageLaws
pub mod PartLaws
pub mod SameBlocks
pub mod CopiedLaws
