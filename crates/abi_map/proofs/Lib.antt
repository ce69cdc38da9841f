-- runs: their names, and their beginnings
pub mod CoverLemmas
pub mod StartLemmas
pub mod RunLemmas
-- padding
pub mod PaddingLemmas
