-- Unions and vectors.

-- what unions keep of their fields' bytes, wherever they stand in a type
pub mod CommonLemmas
-- a union's layout keeps its values, which are its data bytes
pub mod UnionLemmas
-- a vector's layout keeps its lanes' values, as the array of the lanes does
pub mod VectorLemmas
-- the calculator's answers to unions and vectors, whatever lends the layouts
pub mod CalcLemmas
-- how unions and vectors are laid out, once their parts are
pub mod TogetherLemmas
