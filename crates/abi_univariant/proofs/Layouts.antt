-- Layouts of lists: one, some, and lists that are to be variants.

pub mod ListLemmas
pub mod PartsLemmas
pub mod OneOrder
pub mod SomeOrder
pub mod ListLayoutsLemmas
pub mod OverallLemmas
