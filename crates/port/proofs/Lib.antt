pub mod Ring
pub mod Fronts
pub mod Naming
pub mod Outcomes
pub mod Whole
