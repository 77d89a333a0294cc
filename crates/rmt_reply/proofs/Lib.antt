pub mod SumLemmas
pub mod TextLemmas
pub mod WriterLemmas
