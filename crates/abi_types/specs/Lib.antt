-- calling conventions
pub mod ExternAbi
pub mod Predicates
pub mod CanonAbi
-- registers
pub mod Reg
-- types as they say of themselves, walks over them, uniform ones
pub mod Ty
pub mod Uniform
pub mod Homogeneous
