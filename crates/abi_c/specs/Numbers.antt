-- numbers, one after another
pub mod Pieces
-- scalars, what a repr asks for, and kinds of types
pub mod FlatScalar
pub mod FlatRepr
pub mod Kinds
-- types as numbers, and the type that numbers begin with
pub mod FlatTree
pub mod FrontTree
-- a layout as numbers
pub mod FlatLayout
-- values as numbers, and the value that numbers begin with
pub mod FlatValue
pub mod FrontValue
-- answers about bytes as numbers
pub mod FlatCells
