-- Coroutines: which locals lie beside the prefix, how the states' lists lie behind it, and how large the whole is.
pub mod Promotion
pub mod Lists
pub mod States
pub mod Layout
pub mod Answer
pub mod Requirements
pub mod Clash
pub mod Sizes
pub mod Made
pub mod Promised
