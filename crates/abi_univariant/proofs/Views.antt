-- Niches and views, and that they are lawful.

pub mod NicheLemmas
pub mod Lawful
pub mod ViewLemmas
pub mod SomeView
pub mod LawfulList
