-- the chapter's words
pub mod Words
-- primitive types and arrays
pub mod Primitive
pub mod Arrays
-- the default representation
pub mod RustLayout
-- C's representation, and those of integers
pub mod CStruct
pub mod CUnion
pub mod Tags
pub mod FieldEnums
-- `align`, `packed` and `transparent`
pub mod Modifiers
pub mod Transparent
-- `Option`, by its own documentation
pub mod Option
-- the rules, by sections
pub mod Chapter
