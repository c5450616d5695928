pub mod Holds
pub mod Messages
pub mod Moves
pub mod OneMove
