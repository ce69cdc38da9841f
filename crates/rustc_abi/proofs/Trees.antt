-- Trees, node after node.

-- the program's trees as the definitions see them
pub mod TreeLemmas
-- the calculator's answer to a list of fields, whatever lends their layouts
pub mod ListLemmas
-- structs whose order is handed in: what their repr asks then, and where their fields lie
pub mod OrderLemmas
-- how types are laid out, one after another
pub mod LayLemmas
-- nodes that are still there
pub mod MovedLemmas
pub mod StillLemmas
-- each type that is laid out is sized, and its layout is lawful
pub mod LaidLemmas
-- a tree has one answer
pub mod OneAnswer
-- a tree has an answer
pub mod SomeAnswer
-- what holds of each type that is laid out holds everywhere in it
pub mod EverywhereLemmas
-- what each type that is laid out takes over from its parts
pub mod TakenLemmas
-- worked facts: what the clauses on these refuse of small types
pub mod TakenFacts
-- what each kind of type has where its parts have it, each type that is laid out has
pub mod KindsLemmas
