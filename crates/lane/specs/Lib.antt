pub mod Meaning
pub mod Slots
pub mod Plans
pub mod Carrying
