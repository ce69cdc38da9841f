-- lists out of numbers
pub mod Many
-- the program's trees
pub mod Trees
-- what was written at the front is what numbers begin with
pub mod Back
-- numbers that begin with something are those of it, and the rest
pub mod Sound
-- numbers that are a type's, whole
pub mod Whole
-- lists as numbers, one item more
pub mod Layouts
-- a value that was written at the front
pub mod ValueBack
-- values as numbers, one more
pub mod ValueSteps
-- types as numbers, one more
pub mod TreeSteps
