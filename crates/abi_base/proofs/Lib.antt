-- data layouts, setting by setting
pub mod Entries
pub mod Instructions
pub mod LastSet
pub mod Laws
pub mod LimitFacts
-- texts and numbers
pub mod Numbers
pub mod Parts
-- powers of two
pub mod Powers
-- the rows that specs belong to
pub mod Rows
pub mod Settings
pub mod SpecFaults
pub mod Specs
pub mod TextFacts
