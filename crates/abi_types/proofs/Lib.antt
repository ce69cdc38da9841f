-- calling conventions
pub mod ConventionLemmas
-- walks: one field, wrappers, complex numbers, vectors, padding
pub mod OneFieldLemmas
pub mod PeelLemmas
pub mod ComplexLemmas
pub mod VectorLemmas
pub mod VariantPaddingLemmas
pub mod PlacesLemmas
-- registers, and types that are uniform with one
pub mod RegisterLemmas
pub mod UniformLemmas
pub mod UniformWalkLemmas
