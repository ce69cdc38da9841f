-- words, digits, parts
pub mod Text
pub mod Parts
pub mod Fields
pub mod EnumsBegun
-- what writes a type reads back
pub mod Numerals
pub mod ScalarsRead
pub mod Written
pub mod ReprWords
pub mod ReadBack
mod Facts
-- texts, sent piece by piece
pub mod Utf8
pub mod Sending
-- an input has one output, and some
pub mod OneOutput
pub mod SomeOutput
