-- what bytes hold, and the program's trees
pub mod Held
pub mod Trees
pub mod Fields
-- bytes that decide nothing, and those that a value doesn't cover, or its variant leaves unused
pub mod Padded
pub mod Uncovered
pub mod Spared
-- numbers, types that are seen as numbers, and variants that are named
pub mod Numbers
pub mod Seen
pub mod Stored
pub mod Named
-- where C has fields
pub mod Rounded
pub mod Ordered
pub mod United
pub mod Integers
pub mod Enumed
pub mod FaultsOfC
-- the Rust Reference's chapter on type layout
mod ReferenceLemmas
