-- the features that are on
pub mod EnabledLemmas
-- the version that is chosen
pub mod ChoiceLemmas
