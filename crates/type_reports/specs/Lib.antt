-- what fields, variants and parts are called
pub mod Labels
-- a type as lines
pub mod Lines
pub mod ModuleFiles
-- the least size of fields
pub mod LeastOrder
-- the order in which types are listed
pub mod Sorting
-- how many bytes no value covers
pub mod Waste
-- a report as JSON
pub mod Document
-- what an object says of a type
pub mod Facts
-- what came of types
pub mod Outcomes
-- where a byte of a text lies, and what is told of a fault there
pub mod Position
-- the crates of a run
pub mod Packages
-- what is set for `cfg`
pub mod Options
