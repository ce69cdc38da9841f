-- Values read.

pub mod ValueLemmas
pub mod ReadLemmas
pub mod FoundLemmas
pub mod NamedLemmas
pub mod SameLemmas
pub mod KeptLemmas
