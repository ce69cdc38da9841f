-- Bytes that decide.

pub mod DecidedLemmas
pub mod CoverLemmas
pub mod CopyLemmas
pub mod ChosenLemmas
pub mod CoverableLemmas
pub mod AgreeLemmas
pub mod DecideLemmas
