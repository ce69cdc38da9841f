-- Where parts lie, and which bytes they cover.

-- the layouts that the calculator gives keep the laws of nodes: of lists, unions, elements, vectors, pairs and variants; of enums; of the prefix fields and the tag of a coroutine
pub mod LawsLemmas
-- the fields of each variant end inside the variant, and the variant inside the whole: of enums, and of the states of a coroutine
pub mod InsideLemmas
-- a type that is seen as one scalar is covered whole, where a part that is seen so fills it: of lists and unions
pub mod CoveredLemmas
-- what handles call a data place is one of the laid-out tree
pub mod SeenPlacesLemmas
-- each data place is covered by a value of the tree, where each type in it has values
pub mod DecidingLemmas
-- no layout is flagged, where each type in the tree has a value
pub mod HaveLemmas
-- values keep to data places, and those of a variant or state to the places of that one
pub mod OwnPlacesLemmas
