-- fields and values of lists
pub mod Field
-- bytes that decide nothing, and those that the present variant leaves unused
pub mod Ignored
pub mod Spared
-- what C has
pub mod EnumInC
pub mod FieldOfC
pub mod InC
-- what is loaded
pub mod Loaded
-- the Rust Reference's chapter on type layout
pub mod Reference
