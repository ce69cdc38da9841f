pub mod Typed
pub mod Lawful
pub mod Walks
pub mod Places
pub mod NoBytes
pub mod Runs
