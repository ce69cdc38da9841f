-- Data places, as runs, and the nodes that they rest on.

pub mod MaximalLemmas
pub mod RoomLemmas
pub mod DataPlacesLemmas
pub mod NeededLemmas
pub mod MadeLemmas
pub mod MarkedLemmas
pub mod UnusedLemmas
pub mod PartsLemmas
