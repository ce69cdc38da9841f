-- answers; arrays
pub mod Answer
pub mod Array
-- parts, placed in an order, and their niches
pub mod Apart
pub mod Part
pub mod LawfulPart
pub mod Placement
pub mod ListNiche
-- the order that the rules name, and its faults
pub mod Order
pub mod Fault
pub mod Run
-- layouts of lists: view, marks, the whole, least sizes, orders handed in
pub mod ListView
pub mod Fields
pub mod List
pub mod Least
pub mod InOrder
-- unions and vectors
pub mod Union
pub mod Simd
-- lists that are to be variants
pub mod UnivariantLayouts
pub mod Summary
