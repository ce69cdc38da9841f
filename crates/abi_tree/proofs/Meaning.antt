-- Nodes, what they mean, and handles of them.

pub mod EntriesLemmas
pub mod NodesLemmas
pub mod WidthLemmas
pub mod TypedLemmas
pub mod HandleLemmas
pub mod SeenLemmas
pub mod InhabitedLemmas
