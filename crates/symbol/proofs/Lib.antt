pub mod Divides
pub mod Register
pub mod Bytes
