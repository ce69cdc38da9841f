-- Places: rounding, ends, groups, steps, fields by number.

pub mod Rounding
pub mod Ends
pub mod Groups
pub mod Steps
pub mod ByNumber
