-- what a call leaves in the memory that its caller lent
pub mod Lent
-- what is answered to the numbers of a type
pub mod Flat
-- types that are laid out
pub mod LaidType
-- what is answered to a value, or to bytes, of a type
pub mod FlatValues
-- what is answered of the bytes of types
pub mod FlatBytes
-- types, values, layouts and answers about bytes as numbers
pub mod Numbers
-- what is answered of the types of Rust source
pub mod Source
