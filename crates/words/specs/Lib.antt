pub mod Classes
pub mod Spelling
pub mod Words
pub mod Names
pub mod Shown
pub mod Lexing
pub mod Laws
pub mod Samples
