pub mod Each
pub mod Cuts
pub mod Spelt
pub mod Texts
