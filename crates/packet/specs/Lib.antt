pub mod Crc
pub mod Header
pub mod Sealing
pub mod Soundness
pub mod Opening
pub mod Frames
pub mod Facts
