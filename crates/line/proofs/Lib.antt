pub mod Joins
pub mod Pieces
pub mod TypesTold
pub mod Stocked
pub mod StopsTold
pub mod LineTells
pub mod OneLine
