-- Enums.

-- discriminants, and whether two are equal
pub mod DiscriminantLemmas
-- the layouts that the calculator gives keep the laws of nodes: of lists, unions, elements, vectors, pairs and variants; of enums; of the prefix fields and the tag of a coroutine
pub mod EnumPlacesLemmas
-- an enum distinguished by a tag keeps its values
pub mod TaggedLemmas
-- an enum distinguished by a niche of its untagged variant keeps its values
pub mod InNicheLemmas
-- views and niches of tags are true of bytes
pub mod TagViewLemmas
-- the tagged variants of an enum: fields that the calculator lays apart fit together, beside the tag and inside the whole
pub mod TaggedVariantsLemmas
-- the layout of an enum keeps its variants' values: beside a tag, in a niche, and where one variant is left or none
pub mod EnumLemmas
-- the layout of an enum keeps its variants' values: beside a tag, in a niche, and where one variant is left or none
pub mod NicheEnumLemmas
-- the layout of an enum keeps its variants' values: beside a tag, in a niche, and where one variant is left or none
pub mod SingleLemmas
-- the integer that an enum's tag is asked for holds the discriminants apart
pub mod TagIntegerLemmas
-- which variants have no value, where at most one is present
pub mod PresentLemmas
-- what the calculator's answer to an enum keeps, whichever way it is laid out
pub mod CalculatedLemmas
-- nodes for variants beside a tag
pub mod TaggedVariantNodesLemmas
-- how enums are laid out, once the fields of their variants are
pub mod AddedEnumLemmas
-- how the fields of variants are laid out, variant by variant
pub mod VariantsLemmas
