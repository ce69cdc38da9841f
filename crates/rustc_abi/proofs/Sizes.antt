-- Sizes.

-- how large an enum is, and when it is too large
pub mod EnumSizeLemmas
-- how many nodes are put for a tree
pub mod CountLemmas
-- the sizes of types that are no list of fields
pub mod SizeLemmas
-- each struct has its least size, and is too large only where every order is; the sizes of enums and coroutines
pub mod LeastLemmas
-- each list that a type is made of has its least size, and its fields lie in such an order
pub mod EachListLemmas
-- the fields of a struct lie in an allowed order, and in the one that is handed in
pub mod PlacedLemmas
-- worked facts: what the clauses on sizes and lists refuse of small types
pub mod SizeFacts
