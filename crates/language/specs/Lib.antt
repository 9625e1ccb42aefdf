-- The language, in reading order.
-- Names and their bindings:
pub mod Options
pub mod Names
pub mod Scopes
pub mod Bindings
-- sheets, the tree that a job is given, the pantry:
pub mod Syntax
pub mod Tree
pub mod Pantry
-- types, and which sheet has which type:
pub mod Typing
pub mod Modules
pub mod TypeOf
pub mod Check
-- the machine, and jobs:
pub mod State
pub mod Machine
pub mod Rules
pub mod Step
pub mod Job
-- safety:
pub mod Reading
pub mod Points
pub mod Fits
pub mod Safety
pub mod Samples
