pub mod Slots
pub mod Held
pub mod Waiting
pub mod Memory
pub mod Model
pub mod Watched
pub mod Promises
pub mod Inner
