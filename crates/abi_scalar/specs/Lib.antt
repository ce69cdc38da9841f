-- what a `repr` asks, lanes, refusals
pub mod Repr
pub mod LaneCount
pub mod LayoutError
-- ranges as sets of numbers, the least of them, their texts
pub mod Range
pub mod Count
pub mod LeastRange
pub mod Wraparound
pub mod RangeText
pub mod ScalarText
-- scalars and niches
pub mod Scalar
pub mod Niche
pub mod Reserve
-- lawful layouts
pub mod Lawful
-- layouts of types without parts, and of two scalars
pub mod Simple
pub mod Pair
pub mod Lending
-- layouts as data: views, fields, variants, memory order
pub mod View
pub mod Layout
pub mod Shape
pub mod Variant
pub mod Order
