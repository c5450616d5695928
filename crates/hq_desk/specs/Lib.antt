pub mod Desks
pub mod Moves
