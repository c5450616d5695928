pub mod Rounds
pub mod Shelf
pub mod Stops
pub mod Migration
pub mod Opened
pub mod Stores
