pub mod ZnodeLemmas
pub mod ZnodeStateLemmas
pub mod PathLemmas
