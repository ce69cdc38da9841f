-- indices, sets of them, relations between them
pub mod IndicesLemmas
pub mod BitSetLemmas
pub mod AscendingLemmas
pub mod BitMatrixLemmas
-- runs of bytes: one more, cut, collected, repeated
pub mod RangeSetLemmas
pub mod LastRunLemmas
pub mod UncutLemmas
pub mod RunsLemmas
pub mod RepeatedLemmas
-- where the second of two items lies
pub mod PairMemory
