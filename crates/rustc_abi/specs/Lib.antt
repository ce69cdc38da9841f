-- where variants end
pub mod Inside
-- faults of a node
pub mod Error
pub mod ScalarFault
-- enums and coroutines in a tree
pub mod Enums
pub mod Coroutines
-- the answer to a tree
pub mod Laying
-- what holds of each type in it: sizes, lists, orders, niches, alignments, marks, locals
pub mod Everywhere
pub mod Least
pub mod Lists
pub mod Orders
pub mod Niches
pub mod Aligns
pub mod Marks
pub mod Clash
-- nodes put one after another, counted, flagged
pub mod Adding
pub mod Inhabited
pub mod Count
-- the first fault
pub mod Fault
