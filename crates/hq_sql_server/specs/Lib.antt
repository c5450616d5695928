pub mod Stored
pub mod Listening
pub mod Runs
