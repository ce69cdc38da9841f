-- indices
pub mod AtIndex
-- arrays
pub mod Arrays
-- structs and enums
pub mod EnumLemmas
-- what types take over from all of their lists
-- coroutines
pub mod CoroutineLemmas
-- views, orders handed in, and the lists that a layout is made of
pub mod Seen
pub mod Handed
pub mod Made
