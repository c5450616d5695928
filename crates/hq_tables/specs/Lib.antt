pub mod Readings
pub mod Shelves
pub mod Sound
pub mod Tables
