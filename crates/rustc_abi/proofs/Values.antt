-- Layouts keep the values of types without variants.

-- a number that can be asked for its numbers is narrow, and so is a tag that is one
pub mod NarrowLemmas
-- a scalar's layout keeps its numbers
pub mod ScalarLemmas
-- the layout of two scalars keeps their numbers
pub mod PairLemmas
-- the layouts of types without bytes
pub mod EmptyLemmas
-- a type without values is flagged, and no other
pub mod FlagLemmas
-- an array's layout keeps its elements' values
pub mod ElementsLemmas
-- parts that share no byte keep their values together
pub mod PartsLemmas
-- what the views of parts say of the whole's bytes
pub mod ViewLemmas
-- a struct's layout keeps its fields' values
pub mod FieldsLemmas
-- a type that has a value has one however it is laid out
pub mod AnywhereLemmas
