pub mod Fields
pub mod Ends
pub mod Lines
pub mod Progress
pub mod Rounds
pub mod Written
