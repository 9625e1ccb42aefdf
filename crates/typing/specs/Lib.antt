pub mod Slots
pub mod Tables
pub mod Stands
pub mod Told
