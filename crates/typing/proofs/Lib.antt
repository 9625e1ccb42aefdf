mod Places
mod Walks
pub mod Alike
pub mod Rows
pub mod Scopes
pub mod Simulation
pub mod TableTold
