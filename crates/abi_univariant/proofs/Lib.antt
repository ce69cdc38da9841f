-- places: rounding, ends, groups, steps, fields by number
pub mod Offsets
-- orders: sorted, tight, allowed, least, in memory
pub mod Sorted
-- niches and views, and that they are lawful
pub mod Views
-- fields placed, faults, runs
pub mod Placed
-- layouts of lists: one, some, and lists that are to be variants
pub mod Layouts
-- what is promised of a list, and of one in an order that is handed in
pub mod Promised
-- unions and vectors
pub mod UnionsVectors
-- worked facts
pub mod Facts
