pub mod Sinks
pub mod SinkLaws
pub mod Types
pub mod Faults
pub mod Lines
pub mod Answers
pub mod Laws
pub mod Samples
