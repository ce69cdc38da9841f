-- what is answered of a type
pub mod Replies
-- types, values and layouts as numbers
pub mod NumberLemmas
