pub mod Stocks
pub mod Passes
pub mod Items
pub mod Modules
pub mod Sheets
pub mod Kinds
pub mod Runs
pub mod Laws
