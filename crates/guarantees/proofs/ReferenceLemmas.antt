-- what an answer says
pub mod Answers
-- each type in one, fields in source order, and fields of what was laid out
pub mod Everywhere
pub mod Lists
pub mod Over
-- the default representation
pub mod Rows
pub mod Rust
pub mod Variants
-- arrays, unit, scalars and what lies beside others
pub mod Arrays
pub mod Small
pub mod Beside
-- C's representation, and those of integers
pub mod CStructs
pub mod EnumLists
pub mod PrimitiveEnums
pub mod CEnums
pub mod CTags
-- `align` and `packed`
pub mod Align
pub mod AlignEnums
pub mod AlignFree
-- lists of one field, and enums of two variants
pub mod Lone
pub mod Several
-- `transparent`: how types are seen, and their niches
pub mod Views
pub mod PlainViews
pub mod SeenAs
pub mod Niches
pub mod OneField
pub mod Transparents
-- `Option`
pub mod ZeroOut
pub mod InNiche
pub mod OptionLists
pub mod Options
-- worked facts, and departures
pub mod Facts
pub mod PlainFacts
pub mod OptionFacts
pub mod Wide
pub mod Departures
-- the rules, by sections
pub mod Sections
