pub mod NodesLemmas
pub mod ReadsLemmas
pub mod FirstLemmas
pub mod VisitsLemmas
pub mod NumberLemmas
pub mod BigNumberLemmas
pub mod PeriodLemmas
