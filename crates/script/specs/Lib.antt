pub mod Lines
pub mod Letters
pub mod Said
pub mod Reading
pub mod Parts
pub mod Printed
