pub mod Division
pub mod Check
pub mod Layout
pub mod Codes
