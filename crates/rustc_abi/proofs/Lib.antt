-- values of each kind of type
mod Values
-- faults
mod Faults
-- enums
mod Enums
-- trees, node after node
pub mod Trees
-- data places
mod Places
-- coroutines
mod Coroutines
-- worked facts: small types, and answers of the Rust crate
mod Facts
mod Findings
-- unions
mod Unions
-- sizes and counts
mod Sizes
-- worked facts on lists that are too long to be made
mod LimitFacts
