-- TOML values
pub mod Values
-- the manifest: its keys, what it says, and its dependencies
pub mod Editions
pub mod Schema
pub mod Dependencies
pub mod Manifests
-- features: what each turns on, and which are on
pub mod Switches
pub mod Enabled
pub mod Features
-- which version is chosen
pub mod Choice
