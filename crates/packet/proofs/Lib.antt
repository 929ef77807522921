pub mod Divides
pub mod Steps
pub mod Cleared
pub mod Sounds
pub mod Sealed
pub mod Written
pub mod Fields
pub mod Classes
