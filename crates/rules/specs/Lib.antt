pub mod Faults
pub mod Forms
pub mod ItemForms
pub mod Rules
pub mod Checking
pub mod Needs
pub mod Laws
pub mod Samples
