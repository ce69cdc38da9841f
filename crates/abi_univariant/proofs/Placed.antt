-- Fields placed, faults, runs.

pub mod PlacingLemmas
pub mod FaultLemmas
pub mod RunLemmas
pub mod SourceLemmas
