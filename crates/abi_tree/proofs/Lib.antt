-- bytes, and what they hold: numbers, bytes picked, taken and put
pub mod Bytes
-- nodes, what they mean, and handles of them
pub mod Meaning
-- data places, as runs, and the nodes that they rest on
pub mod Places
-- values read
mod Found
-- values written
mod Written
-- bytes that decide
pub mod Deciding
-- worked facts
mod Facts
