pub mod Performing
pub mod Recorded
pub mod Joint
pub mod Model
