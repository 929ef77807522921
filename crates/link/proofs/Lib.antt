pub mod Called
pub mod Delivering
