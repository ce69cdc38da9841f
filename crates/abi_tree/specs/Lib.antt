-- types as trees, and their values
pub mod Tree
pub mod Value
pub mod Bytes
pub mod Mark
-- laid-out trees, and their data places
pub mod Placed
pub mod Tag
pub mod Places
pub mod Values
-- bytes that hold values, read and written
pub mod Holding
pub mod Reading
pub mod Covering
pub mod Writing
-- what a layout keeps
pub mod Faithful
pub mod Unions
pub mod Untagged
-- room, and what the recursion over a tree carries
pub mod Room
pub mod Fits
-- nodes, what they mean, and the laws that they keep
pub mod Entries
pub mod Nodes
pub mod Typed
pub mod Laws
pub mod Widths
pub mod Well
pub mod Laid
-- handles of them
pub mod Handles
pub mod Seen
-- padding, as runs, and the nodes that it rests on
pub mod Runs
pub mod Needed
-- the parts of a type
pub mod Parts
-- what errors say
pub mod ErrorText
-- bytes that decide, and values put over bytes
pub mod Deciding
pub mod Putting
-- which bytes values keep to
pub mod Unused
pub mod OfTree
