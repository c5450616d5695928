pub mod Trials
pub mod Shelves
