-- structs and enums
-- lists of fields
pub mod Univariant
-- structs and enums
pub mod Enums
-- coroutines
pub mod Coroutine
-- what both keep of their lists
pub mod Marks
pub mod Seen
pub mod Made
pub mod Ordered
