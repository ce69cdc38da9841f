-- Structs and enums.

-- the lists of an enum's variants
pub mod Lists
-- the layout of an enum with a tag, part by part
pub mod Tagged
-- the tagged size, and when an enum is too large
pub mod Sizes
-- what is promised of a tagged enum, from the lists of its variants
pub mod Promised
-- what is promised of the lists of an enum's variants, from the answers that the rules give them
pub mod GoodLists
-- the untagged variant, the span and the variants beside a niche, met one after another
pub mod Niche
-- what the layout with a niche rests on
pub mod InNiche
-- behind a prefix no list is smaller than without one
pub mod Less
-- the niche and the other variants' fields share no byte, and the numbers name the variants
pub mod Beside
-- the layout with a niche is lawful
pub mod NicheLawful
-- there is a layout with a niche exactly where the lists leave room for it
pub mod Room
-- where the view of a tagged enum says that a number lies beside the tag, each variant has one there
pub mod Filled
-- a tag of its own distinguishes the variants
pub mod Told
-- what is promised of an enum, by its layouts with a niche and with a tag
pub mod Several
-- the same by the integer that is asked for
pub mod DiscrRange
-- what is promised of an enum of several variants, from the answer that the rules give it
pub mod Deep
-- sums of sizes behind a tag, and of parts that share no byte
pub mod Sums
-- where sums of sizes tell it, the layout with a niche is the better one
pub mod Bounds
-- where they tell it, no layout with a niche is better than one with a tag
pub mod TagWins
-- what is known where one of both is made first
pub mod WhichFirst
-- what is promised of each way that a type is laid out
pub mod EnumExtent
-- the tag and the variants' fields share no byte
pub mod Places
-- the view of a tagged enum is true and lawful
pub mod Views
-- worked facts on enums
pub mod Facts
-- the variants that are present, met one after another
pub mod EnumStrategy
-- the least and the greatest of what discriminants stand for
pub mod Discriminants
-- the list of one variant's fields, without niches where they may not be used
pub mod Single
-- the first fields that take room, and a tag that grows up to them
pub mod Growth
pub mod OnlyField
-- what variants have in common
pub mod Payload
-- some values have a least range, and one only
pub mod OneRange
-- the rules give a struct or an enum one answer, memory aside
pub mod OneEnum
-- the rules give a struct or an enum an answer
pub mod SomeEnum
-- the answer to a struct or an enum depends on the fields' layouts alone, not on what lends them
pub mod SameType
-- the marks, the view and the niche of a list, of a union, and of a type that is one list
pub mod Seen
-- what an enum takes over from the lists of its variants: its alignment, its marks, their fields' places; its tag has the least range
pub mod Made
-- the fields of an enum's variants lie at multiples of their alignments, and in memory order never back
pub mod Ordered
