pub mod Filled
pub mod Planned
pub mod Spoilt
