-- which cells hold a type
pub mod Holding
pub mod Filling
-- what may be done with a type's bytes
pub mod GoesInto
-- how it is found
pub mod Formulas
pub mod Tags
-- what answers say
pub mod Answers
-- why cells don't hold a type
pub mod NotHeld
pub mod WrongParts
