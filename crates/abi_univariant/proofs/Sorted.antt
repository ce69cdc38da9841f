-- Orders: sorted, tight, allowed, least, in memory.

pub mod Sorting
pub mod Tight
pub mod Least
pub mod Orders
pub mod Allowed
pub mod NamesEach
pub mod Prefixes
pub mod MemoryOrder
