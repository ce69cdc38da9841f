-- text in a page
pub mod Escape
