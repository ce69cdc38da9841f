-- Values written.

pub mod WriteLemmas
pub mod TagNumberLemmas
pub mod WrittenLemmas
