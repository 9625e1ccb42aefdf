pub mod Panel
pub mod Samples
