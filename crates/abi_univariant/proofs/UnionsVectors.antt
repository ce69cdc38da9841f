-- Unions and vectors.

pub mod UnionLemmas
pub mod UnionLawful
pub mod VectorLemmas
pub mod TooLarge
