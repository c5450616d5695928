pub mod Batches
pub mod InRounds
pub mod Waiting
pub mod Steps
pub mod Printing
pub mod Runs
pub mod Checks
